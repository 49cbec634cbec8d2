use Rattle.std.proofs.Common.{◌∙◌, ◌<◌, length, ap, arith}
use Rattle.std.proofs.lemmas.Result.{IfOk-from_err}
use Rattle.std.proofs.lemmas.List.{get_or_default}
use Rattle.xfs_proto.specs.declared.protofile.ProtoNode.{ProtoNode}
use Rattle.xfs_filled.specs.Objects.{object_kind}
use Rattle.xfs_filled.specs.FileTrees.{no_proto_node}
use Rattle.xfs_filled.proofs.Asking.{no_object, one_object}
use Rattle.xfs_filled.proofs.objects.push_object.Goals as goal

pub runs_at-requires-clause-site : goal.runs_at-requires-clause-site
runs_at-requires-clause-site c = c.requires.site

pub runs_at-requires-clause-inside : goal.runs_at-requires-clause-inside
runs_at-requires-clause-inside c = c.requires.inside

pub ino_at-requires-clause-site : goal.ino_at-requires-clause-site
ino_at-requires-clause-site c = c.requires.site

pub ino_at-requires-clause-inside : goal.ino_at-requires-clause-inside
ino_at-requires-clause-inside c = c.requires.inside

pub returns-in_err-runs : goal.returns-in_err-runs
returns-in_err-runs c = IfOk-from_err c.from_residual.result _ c.from_residual.ensures.0

pub returns-in_err-push : goal.returns-in_err-push
returns-in_err-push c = IfOk-from_err c.from_residual-in_err-push.result _ c.from_residual-in_err-push.ensures.0

pub returns-in_ok-push : goal.returns-in_ok-push
returns-in_ok-push c =
    let runs = c.in_ok-runs.runs in
    let some : 0 < length runs.items = omega (arith, c.if-len-ne0.true, c.len.ensures, runs.ok.0) in
    one_object c.args.objects.now.items c.push.new.self.items _ _ _ _ runs.items _ c.from_vec.result some c.ino_at.ensures.value
    (c.object_kind.ensures ∙ ap (λ (x : ProtoNode). object_kind x.kind) (get_or_default c.args.site.now.nodes.now c.args.k c.index-site-k.result no_proto_node c.requires.inside)) c.from_vec.ensures c.in_ok-runs.ensures c.in_ok-push.ensures.items

pub returns-else-len-ne0 : goal.returns-else-len-ne0
returns-else-len-ne0 c =
    let runs = c.in_ok-runs.runs in
    no_object c.args.objects.now.items _ _ runs.items _ (omega (arith, c.if-len-ne0.false, c.len.ensures, runs.ok.0)) c.in_ok-runs.ensures
