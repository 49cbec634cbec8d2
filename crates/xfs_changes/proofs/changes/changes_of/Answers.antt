use Rattle.std.proofs.Common.{◌≡◌, List, ◌++◌, ap, ◌∙◌}
use Rattle.std.specs.List.{flat_map}
use Rattle.std.proofs.lemmas.List.{append_assoc}
use Rattle.std.proofs.lemmas.Result.{IfOk-from_err}
use Rattle.xfs_geom.specs.Volumes.{volume_of}
use Rattle.xfs_changes.specs.Slots.{change_listed, changes_of}
use Rattle.xfs_changes.specs.declared.changes.SlotChange.{SlotChange}
use Rattle.xfs_changes.proofs.Pushing.{rows_end, rows_more}
use Rattle.xfs_changes.proofs.changes.changes_of.Goals as goal

-- what was added twice
two_added : (old mid new first then : List SlotChange) → mid ≡ old ++ first → new ≡ mid ++ then → new ≡ old ++ (first ++ then)
two_added old mid new first then one two = two ∙ ap (λ (xs : List SlotChange). xs ++ then) one ∙ append_assoc old first then

pub loop-link-init : goal.loop-link-init
loop-link-init c =
    let w = c.args.ways.now in
    ap (λ (xs : List SlotChange). xs ++ flat_map (change_listed (volume_of w.g.now) w.stamp.now w.lost.now w.files.now w.forks.now) c.args.links.now) c.new-changes.ensures.items

pub push_change-requires : goal.push_change-requires
push_change-requires c = record { files = c.requires.files; forks = c.requires.forks }

pub loop-link-preserved : goal.loop-link-preserved
loop-link-preserved c =
    let w = c.args.ways.now in
    rows_more (change_listed (volume_of w.g.now) w.stamp.now w.lost.now w.files.now w.forks.now) c.args.links.now c.loop-link.link-index (0, 0) c.loop-link.changes.items
    c.push_free.new.changes.items _ c.loop-link-test.true
    (two_added c.loop-link.changes.items c.push_change.new.changes.items c.push_free.new.changes.items _ _ c.in_ok-push_change.ensures c.in_ok-push_free.ensures) c.loop-link.invariant

pub returns : goal.returns
unfolding changes_of
returns c =
    let w = c.args.ways.now in
    rows_end (change_listed (volume_of w.g.now) w.stamp.now w.lost.now w.files.now w.forks.now) c.args.links.now c.loop-link.link-index c.loop-link.changes.items _
    c.loop-link-test.false c.loop-link.invariant

pub returns-in_err-push_change : goal.returns-in_err-push_change
returns-in_err-push_change c = IfOk-from_err c.from_residual.result _ c.from_residual.ensures.0

pub returns-in_err-push_free : goal.returns-in_err-push_free
returns-in_err-push_free c = IfOk-from_err c.from_residual-in_err-push_free.result _ c.from_residual-in_err-push_free.ensures.0
