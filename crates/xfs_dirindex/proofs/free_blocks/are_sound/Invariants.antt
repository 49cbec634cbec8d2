use Rattle.std.proofs.Common.{◌≡◌, drop}
use Rattle.std.specs.List.{list_all}
use Rattle.xfs_dirindex.specs.Mapped.{mapped}
use Rattle.xfs_dirindex.specs.FreeBlocks.{is_free_sound}
use Rattle.xfs_dirindex.proofs.free_blocks.are_sound.Given as goal

abbrev pub invariant-loop-i : goal.invariant-loop-i
invariant-loop-i l =
    list_all (is_free_sound l.bests) (mapped l.dir.offsets.items l.dir.blocks) ≡ list_all (is_free_sound l.bests) (drop l.i (mapped l.dir.offsets.items l.dir.blocks))
