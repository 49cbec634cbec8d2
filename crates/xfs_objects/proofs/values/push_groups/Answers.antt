use Rattle.std.proofs.Common.{ℕ, ◌+◌, ◌*◌}
use Rattle.xfs_objects.specs.Values.{group_text}
use Rattle.xfs_objects.proofs.Listing.{piece_counted}
use Rattle.xfs_objects.proofs.values.push_groups.Goals as goal

pub loop-group-preserved : goal.loop-group-preserved
loop-group-preserved c =
    piece_counted (λ (g : ℕ). group_text c.args.block.now (c.args.at + 4 * g)) c.args.text.now.items c.loop-group.text.items c.push_group.new.text.items c.loop-group.group
    c.loop-group.invariant c.in_ok-push_group.ensures
