use Rattle.std.proofs.Common.{◌≡◌, ℕ, ◌<◌, ◌≤◌, length, map, get_or}
use Rattle.std.specs.List.{range_with_len}
use Rattle.xfs_geom.specs.Conversions.{inode_of}
use Rattle.xfs_geom.specs.Volumes.{volume_of}
use Rattle.xfs_rounds.specs.declared.judging.SlotPart.{SlotPart}
use Rattle.xfs_rounds.specs.Named.{AreFoundIn, IsNamedPart}
use Rattle.xfs_rounds.specs.Settled.{IsPartIn}
use Rattle.xfs_rounds.proofs.settling.settle_parts.Given as goal

abbrev pub invariant-loop-i : goal.invariant-loop-i
invariant-loop-i l = record {
  inodes : map (λ (part : SlotPart). inode_of (volume_of l.g) l.place part.slot) l.parts ≡ map (inode_of (volume_of l.g) l.place) (range_with_len 0 8);
  rest : (j : ℕ) (d : SlotPart) → l.i ≤ j → j < length l.parts → IsNamedPart (volume_of l.g) l.named l.place l.bytes (get_or l.parts j d);
  done : (j : ℕ) (d : SlotPart) → j < l.i → IsPartIn (volume_of l.g) (AreFoundIn (volume_of l.g) l.named l.found) l.place l.bytes (get_or l.parts j d);
}
