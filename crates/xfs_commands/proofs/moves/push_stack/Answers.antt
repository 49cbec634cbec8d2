use Rattle.xfs_commands.specs.Commands.{line_of_stack}
use Rattle.xfs_objects.proofs.Listing.{piece_counted}
use Rattle.xfs_commands.proofs.moves.push_stack.Goals as goal

pub loop-i-preserved : goal.loop-i-preserved
loop-i-preserved c =
    piece_counted (line_of_stack c.args.stack.now) c.args.text.now.items c.loop-i.text.items c.push_place.new.text.items c.loop-i.i c.loop-i.invariant
    c.in_ok-push_place.ensures
