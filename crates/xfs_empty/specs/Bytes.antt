-- What the blocks of an empty volume are made of.
use Rattle.std.specs.Prelude.{◌≡◌, ℕ, ◌+◌, ◌*◌, ◌<◌, List, [], ◌++◌, length, map, replicate, slice_index_or, Some}
use Rattle.std.specs.List.{range_with_len}
use Rattle.xfs_disk.specs.declared.stamp.Stamp.{Stamp}
use Rattle.xfs_geom.specs.Volumes.{volume_of}
use Rattle.xfs_geom.specs.declared.geometry.Geometry.{Geometry}
use Rattle.xfs_render.specs.declared.bytes.Bytes.{Bytes}
use Rattle.xfs_render.specs.declared.wanted_slots.SlotWanted.{SlotWanted}
use Rattle.xfs_empty.specs.Inodes.{IsFirstSlot}

-- the first blocks of the groups, and behind them the blocks of the first chunk
abbrev pub header_places : ℕ → ℕ → List ℕ
header_places agblocks agcount = map (λ ag. ag * agblocks) (range_with_len 0 agcount)

abbrev pub empty_places : Geometry → List ℕ
empty_places g = header_places g.agblocks g.agcount ++ range_with_len 16 8

-- the first 64 slots, by number
pub record AreFirstSlots (g : Geometry) (s : Stamp) (slots : List SlotWanted) : Type 0 where
  pub count : length slots ≡ 64
  pub each : (i : ℕ) (d : SlotWanted) → i < 64 → IsFirstSlot (volume_of g) s (128 + i) (slice_index_or slots i d)

-- blocks that were zeros, the first slots, and a blank log of cycle 1
pub record IsEmptyBytes (g : Geometry) (sector : List ℕ) (s : Stamp) (b : Bytes) : Type 0 where
  pub sector' : b.sector ≡ sector
  pub places' : b.places ≡ empty_places g
  pub old : b.old ≡ replicate (length b.places) (replicate 4096 0)
  pub objects' : b.objects ≡ []
  pub slots' : AreFirstSlots g s b.slots
  pub cycle' : b.cycle ≡ Some 1
  pub stamp' : b.stamp ≡ s
