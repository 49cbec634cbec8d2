use Rattle.std.proofs.Common.{◌≡◌, ◌+◌, ◌≤◌, ◌++◌, [], ◌∷◌, map}
use Rattle.std.specs.List.{flat_map}
use Rattle.std.specs.Option.{ForSome}
use Rattle.xfs_geom.specs.Conversions.{inode_of}
use Rattle.xfs_geom.specs.Volumes.{volume_of}
use Rattle.xfs_disk.specs.Blocks.{Image, bytes_of_block}
use Rattle.xfs_disk.specs.Reads.{OnlyReads}
use Rattle.xfs_rounds.specs.declared.judging.SlotPart.{SlotPart}
use Rattle.xfs_slots.specs.Facts.{slot_fact}
use Rattle.xfs_slots.specs.Gathered.{gathered, held_in, gathered_both}
use Rattle.xfs_slots.proofs.clusters.take_block.Given as goal

abbrev pub invariant-loop-part : goal.invariant-loop-part
invariant-loop-part g l = record {
  facts : (image : Image) → bytes_of_block image l.block ≡ l.bytes
      → l.facts.items ≡ l.fn.facts.items ++ map (slot_fact (volume_of l.g) image) (flat_map (λ (part : SlotPart). inode_of (volume_of l.g) l.block part.slot ∷ []) l.yielded);
  held : ForSome (g.D.Disk.holds l.fn.disk) (λ image.
      held_in l.inodes
      ≡ gathered_both (held_in l.fn.inodes) (gathered (volume_of l.g) image (flat_map (λ (part : SlotPart). inode_of (volume_of l.g) l.block part.slot ∷ []) l.yielded)));
  later : g.D.Disk.faults l.fn.disk ≤ g.D.Disk.faults l.disk;
  disk : OnlyReads g.D.Disk.size g.D.Disk.holds g.D.Disk.write_faults g.D.Disk.writes g.D.Disk.tells_stops g.D.Disk.moment g.D.Disk.may_leave g.D.Disk.left_since l.fn.disk l.disk;
  reads : g.D.Disk.reads l.disk + l.fn.steps ≤ g.D.Disk.reads l.fn.disk + l.steps;
}
