use Rattle.std.proofs.lemmas.Result.{IfOk-from_err}
use Rattle.std.proofs.Common.{ℕ, List, true, false, ap}
use Rattle.xfs_links.specs.Entries.{node_number}
use Rattle.xfs_links.specs.Places.{named_orphan_at, orphan_at, taken_at}
use Rattle.xfs_links.proofs.Groups.{mapped_next, mapped_not}
use Rattle.xfs_links.proofs.Lonely.{told_one}
use Rattle.xfs_links.proofs.orphans.named_orphans.Goals as goal

pub loop-place-preserved-then-not-is_orphan : goal.loop-place-preserved-then-not-is_orphan
loop-place-preserved-then-not-is_orphan c = mapped_not (named_orphan_at c.args.files.now c.args.entries.now c.args.kept.now c.args.lost) (orphan_at c.args.files.now c.args.root c.args.parents.now c.args.kept.now) c.loop-place.place c.loop-place.orphans.items
    (told_one c.args.files.now c.args.root c.args.parents.now c.deref.result.now c.in_ok-named.named.items c.args.kept.now c.loop-place.place c.is_orphan.result false c.deref.ensures.value
    (c.in_ok-named.ensures.named c.loop-place.place c.loop-place-test.true) c.is_orphan.ensures c.if-not-is_orphan.true)
    c.loop-place.invariant

pub loop-place-preserved : goal.loop-place-preserved
loop-place-preserved c = mapped_next (named_orphan_at c.args.files.now c.args.entries.now c.args.kept.now c.args.lost) (orphan_at c.args.files.now c.args.root c.args.parents.now c.args.kept.now) c.loop-place.place c.loop-place.orphans.items c.push.new.self.items
    (node_number c.args.files.now c.loop-place.place, c.in_ok-name.name)
    (told_one c.args.files.now c.args.root c.args.parents.now c.deref.result.now c.in_ok-named.named.items c.args.kept.now c.loop-place.place c.is_orphan.result true c.deref.ensures.value
    (c.in_ok-named.ensures.named c.loop-place.place c.loop-place-test.true) c.is_orphan.ensures c.if-not-is_orphan.false)
    c.loop-place.invariant c.in_ok-push.ensures.items
    (ap (λ (r : List ℕ). (node_number c.args.files.now c.loop-place.place, r)) (c.in_ok-name.ensures (taken_at c.args.entries.now c.args.kept.now c.args.lost) c.in_ok-taken.ensures))

pub returns-in_err-named : goal.returns-in_err-named
returns-in_err-named c = IfOk-from_err c.from_residual.result _ c.from_residual.ensures.0

pub returns-in_err-taken : goal.returns-in_err-taken
returns-in_err-taken c = IfOk-from_err c.from_residual-in_err-taken.result _ c.from_residual-in_err-taken.ensures.0

pub returns-in_err-name : goal.returns-in_err-name
returns-in_err-name c = IfOk-from_err c.from_residual-in_err-name.result _ c.from_residual-in_err-name.ensures.0

pub returns-in_err-push : goal.returns-in_err-push
returns-in_err-push c = IfOk-from_err c.from_residual-in_err-push.result _ c.from_residual-in_err-push.ensures.0
