use Rattle.std.proofs.Common.{◌≡◌, true, take}
use Rattle.std.specs.List.{list_all}
use Rattle.xfs_dirindex.specs.FreeBlocks.{has_value}
use Rattle.xfs_dirindex.specs.Mapped.{mapped}
use Rattle.xfs_dirindex.proofs.free_blocks.have_values.Given as goal

abbrev pub invariant-loop-best : goal.invariant-loop-best
invariant-loop-best l = list_all (has_value (mapped l.dir.offsets.items l.dir.blocks)) (take l.best-index l.bests) ≡ true
