use Rattle.std.proofs.Common.{◌≡◌, ℕ, false, List}
use Rattle.std.specs.List.{list_any, range_with_len}
use Rattle.xfs_geom.specs.Conversions.{inode_of}
use Rattle.xfs_geom.specs.Volumes.{volume_of}
use Rattle.xfs_image.specs.Candidates.{is_used_slot}
use Rattle.xfs_disk.specs.Blocks.{bytes_of_block}
use Rattle.xfs_groups.proofs.looking.is_any_used.Given as goal

abbrev pub invariant-loop-slot : goal.invariant-loop-slot
invariant-loop-slot l = (image : List (List ℕ)) → bytes_of_block image l.place ≡ l.block
    → list_any (λ slot. is_used_slot (volume_of l.g) image (inode_of (volume_of l.g) l.place slot)) (range_with_len 0 l.slot) ≡ false
