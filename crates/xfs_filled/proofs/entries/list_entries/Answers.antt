use Rattle.std.proofs.Common.{◌≡◌, ◌+◌, ◌++◌, [], ◌∷◌, length, get_or, arith, sym, ap, ◌∙◌, subst, length-set}
use Rattle.std.proofs.lemmas.Result.{IfOk-from_err}
use Rattle.std.proofs.lemmas.List.{get_or_default, with_items_is}
use borrow.Author.Count.{falls}
use Rattle.xfs_geom.specs.Volumes.{volume_of}
use Rattle.xfs_proto.specs.declared.protofile.ProtoNode.{ProtoNode}
use Rattle.xfs_filled.specs.FileTrees.{no_proto_node}
use Rattle.xfs_filled.proofs.Entering.{AreBelow, all_below, next_below, none_below}
use Rattle.xfs_filled.proofs.entries.list_entries.Goals as goal

pub loop-i-init : goal.loop-i-init
loop-i-init c =
    record {
      some = omega arith;
      below = none_below (volume_of c.args.g.now) c.args.starts.now c.args.nodes.now c.in_ok-lists.lists.items c.in_ok-lists.ensures;
    }

pub loop-i-preserved : goal.loop-i-preserved
loop-i-preserved c =
    let v = volume_of c.args.g.now in
    let starts = c.args.starts.now in
    let ns = c.args.nodes.now in
    let i = c.loop-i.i in
    let some = c.loop-i.invariant.some in
    let old = c.deref_mut.result.now in
    let new = c.add_entry.new.lists in
    let p = (get_or ns i c.index-nodes-i.result).parent in
    let at = ap (λ (x : ProtoNode). x.parent) (get_or_default ns i c.index-nodes-i.result no_proto_node c.loop-i-test.true) in
    let behind = (c.requires.files.below i some c.loop-i-test.true).behind in
    let low = c.loop-i-test.true in
    let long = ap length c.in_ok-add_entry.ensures ∙ length-set old p (get_or old p [] ++ c.in_ok-entry.entry ∷ []) ∙ c.deref_mut.ensures.len in
    record {
      some = omega (arith, some);
      below =
          subst (AreBelow v starts ns (i + 1)) (sym (with_items_is c.loop-i.lists new long))
          (next_below v starts ns i p old new c.in_ok-entry.entry [] some at (omega (arith, at, behind, low)) c.in_ok-entry.ensures c.in_ok-add_entry.ensures
          (subst (AreBelow v starts ns i) (sym c.deref_mut.ensures.value) c.loop-i.invariant.below));
    }

pub returns : goal.returns
returns c =
    let v = volume_of c.args.g.now in
    let starts = c.args.starts.now in
    let ns = c.args.nodes.now in
    let end = c.loop-i.auto.i-end in
    let past = c.loop-i-test.false in
    let one = c.requires.files.some in
    let same : c.loop-i.i ≡ length ns = omega (arith, end, past, one) in
    all_below v starts ns c.loop-i.lists.items (subst (λ m. AreBelow v starts ns m c.loop-i.lists.items) same c.loop-i.invariant.below)

pub returns-in_err-lists : goal.returns-in_err-lists
returns-in_err-lists c = IfOk-from_err c.from_residual.result _ c.from_residual.ensures.0

pub returns-in_err-entry : goal.returns-in_err-entry
returns-in_err-entry c = IfOk-from_err c.from_residual-in_err-entry.result _ c.from_residual-in_err-entry.ensures.0

pub returns-in_err-add_entry : goal.returns-in_err-add_entry
returns-in_err-add_entry c = IfOk-from_err c.from_residual-in_err-add_entry.result _ c.from_residual-in_err-add_entry.ensures.0

pub entry_at-requires-clause-placed : goal.entry_at-requires-clause-placed
entry_at-requires-clause-placed c = c.requires.placed

pub entry_at-requires-clause-inside : goal.entry_at-requires-clause-inside
entry_at-requires-clause-inside c = c.loop-i-test.true

pub loop-i-smaller : goal.loop-i-smaller
loop-i-smaller c = falls _ c.loop-i.i c.loop-i-test.true
