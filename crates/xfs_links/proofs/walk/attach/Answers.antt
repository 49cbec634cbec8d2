use Rattle.std.proofs.Common.{◌≡◌, sym, subst, List}
use Rattle.std.specs.List.{filter}
use Rattle.xfs_collections.specs.Lists.{list_at}
use Rattle.xfs_links.specs.declared.walk.Attached.{Attached}
use Rattle.xfs_links.specs.Places.{IsSteady}
use Rattle.xfs_links.proofs.Attaching.{moved_steady, moved_pending, unattached}
use Rattle.xfs_links.proofs.walk.attach.Goals as goal

pub returns-clause-steady : goal.returns-clause-steady
returns-clause-steady c = subst (λ (r : List Attached). IsSteady c.args.files.now c.move_to.new.self r) (sym c.in_ok-push.ensures.items)
    (moved_steady c.args.files.now c.args.weave.now c.move_to.new.self c.args.turn.now.items c.args.list c.args.directory c.args.parent c.requires.steady c.requires.list.0 c.move_to.ensures.moved)

pub returns-clause-pending : goal.returns-clause-pending
returns-clause-pending c = subst (λ (r : List Attached). list_at c.move_to.new.self 0 ≡ filter (unattached r) (list_at c.args.weave.now 0)) (sym c.in_ok-push.ensures.items)
    (moved_pending c.args.files.now c.args.weave.now c.move_to.new.self c.args.turn.now.items c.args.list c.args.directory c.args.parent c.requires.steady c.requires.list.0 c.move_to.ensures.moved)
