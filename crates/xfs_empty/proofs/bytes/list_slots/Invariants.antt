use Rattle.std.proofs.Common.{◌≡◌, ℕ, ◌+◌, ◌-◌, ◌<◌, get_or, length}
use Rattle.xfs_geom.specs.Volumes.{volume_of}
use Rattle.xfs_render.specs.declared.wanted_slots.SlotWanted.{SlotWanted}
use Rattle.xfs_empty.specs.Inodes.{IsFirstSlot}
use Rattle.xfs_empty.proofs.bytes.list_slots.Given as goal

abbrev pub invariant-loop-ino : goal.invariant-loop-ino
invariant-loop-ino l =
    record {
      count : length l.slots.items ≡ l.ino - 128;
      each : (i : ℕ) (d : SlotWanted) → i < l.ino - 128 → IsFirstSlot (volume_of l.g) l.stamp (128 + i) (get_or l.slots.items i d);
    }
