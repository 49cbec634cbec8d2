use Rattle.std.proofs.Common.{◌≡◌, length}
use Rattle.xfs_place.specs.Choice.{Stands}
use Rattle.xfs_place.proofs.lowest.Lowest.first.Given as goal

abbrev pub invariant-loop-block : goal.invariant-loop-block
invariant-loop-block l = record { stands : Stands l.uses l.lowest; all : length l.lowest.blocks.items ≡ l._block }
