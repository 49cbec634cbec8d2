use Rattle.std.proofs.Common.{◌∙◌, ◌≤◌, List, length, sym, subst, ap}
use Rattle.std.proofs.lemmas.List.{get_or_default}
use Rattle.std.specs.List.{All}
use Rattle.std.proofs.lemmas.Result.{IfOk-from_err}
use Rattle.xfs_word.specs.declared.extents.Extent.{Extent}
use Rattle.xfs_word.specs.Extent.{IsPackable}
use Rattle.xfs_proto.specs.declared.protofile.ProtoNode.{ProtoNode}
use Rattle.xfs_filled.specs.Slots.{made_slot}
use Rattle.xfs_filled.specs.Forks.{fork_of_kind}
use Rattle.xfs_filled.specs.FileTrees.{CanHold, no_proto_node}
use Rattle.xfs_filled.proofs.slots.file_slot.Goals as goal

pub directory_at-requires-clause-site : goal.directory_at-requires-clause-site
directory_at-requires-clause-site c = c.requires.site

pub directory_at-requires-clause-inside : goal.directory_at-requires-clause-inside
directory_at-requires-clause-inside c = c.requires.file

pub content_at-requires-clause-site : goal.content_at-requires-clause-site
content_at-requires-clause-site c = c.requires.site

pub content_at-requires-clause-inside : goal.content_at-requires-clause-inside
content_at-requires-clause-inside c = c.requires.file

pub ino_at-requires-clause-site : goal.ino_at-requires-clause-site
ino_at-requires-clause-site c = c.requires.site

pub ino_at-requires-clause-inside : goal.ino_at-requires-clause-inside
ino_at-requires-clause-inside c = c.requires.file

pub core_at-requires-clause-site : goal.core_at-requires-clause-site
core_at-requires-clause-site c = c.requires.site

pub core_at-requires-clause-inside : goal.core_at-requires-clause-inside
core_at-requires-clause-inside c = c.requires.file

pub list_extents-requires-clause-inside : goal.list_extents-requires-clause-inside
list_extents-requires-clause-inside c = c.requires.inside

pub list_extents-requires-clause-offsets : goal.list_extents-requires-clause-offsets
list_extents-requires-clause-offsets c = c.requires.offsets

pub make_fork-requires-clause-directory : goal.make_fork-requires-clause-directory
make_fork-requires-clause-directory c = c.directory_at.ensures.sound

pub make_fork-requires-clause-extents : goal.make_fork-requires-clause-extents
make_fork-requires-clause-extents c = subst (All IsPackable) (sym c.deref.ensures.value) c.in_ok-extents.ensures.small

pub make_fork-requires-clause-few : goal.make_fork-requires-clause-few
make_fork-requires-clause-few c = subst (λ (es : List Extent). length es ≤ 21) (sym (c.deref.ensures.value ∙ c.in_ok-extents.ensures.value)) c.requires.few

pub returns-in_err-extents : goal.returns-in_err-extents
returns-in_err-extents c = IfOk-from_err c.from_residual.result _ c.from_residual.ensures.0

pub returns-in_err-fork : goal.returns-in_err-fork
returns-in_err-fork c = IfOk-from_err c.from_residual-in_err-fork.result _ c.from_residual-in_err-fork.ensures.0

pub make_fork-requires-clause-can : goal.make_fork-requires-clause-can
make_fork-requires-clause-can c =
    let site = c.args.site.now in
    let k = c.args.k in
    subst CanHold (ap (λ (x : ProtoNode). x.kind) (get_or_default site.nodes.now k no_proto_node c.index-site-k.result c.requires.file)) (c.requires.site.files.contents k c.requires.file)

pub returns : goal.returns
returns c =
    let site = c.args.site.now in
    let node = get_or_default site.nodes.now c.args.k c.index-site-k.result no_proto_node c.requires.file in
    let extents = c.deref.ensures.value ∙ c.in_ok-extents.ensures.value in
    let fork = c.in_ok-fork.ensures ∙ (λ i. fork_of_kind (node i).kind (c.directory_at.ensures.value i) (c.content_at.ensures i) (extents i)) in
    λ i. made_slot (c.ino_at.ensures.value i) (c.core_at.ensures i) (fork i)
