-- What the blocks of a rebuilt volume are made of, by what was read of the disk and what was at hand.
use Rattle.std.specs.Prelude.{◌≡◌, ℕ, Bool, ◌==◌, not, ◌<◌, ◌≤◌, ◌^◌, List, [], length, map, filter, Option, MatchOption}
use Rattle.std.specs.List.{All}
use Rattle.xfs_collections.specs.Bank.{blocks_at}
use Rattle.xfs_disk.specs.Blocks.{Image}
use Rattle.xfs_disk.specs.declared.stamp.Stamp.{Stamp}
use Rattle.xfs_geom.specs.Volumes.{Volume, volume_of}
use Rattle.xfs_geom.specs.declared.geometry.Geometry.{Geometry}
use Rattle.xfs_log.specs.xfs_heads.declared.log_state.LogState.{LogState}
use Rattle.xfs_image.specs.Lsns.{lsns_read}
use Rattle.xfs_volume.specs.declared.catalogs.BlockLsn.{BlockLsn}
use Rattle.xfs_volume.specs.declared.files.FileRec.{FileRec}
use Rattle.xfs_render.specs.declared.bytes.Bytes.{Bytes}
use Rattle.xfs_render.specs.declared.wanted_slots.SlotWanted.{SlotWanted}
use Rattle.xfs_request.specs.Cycles.{due_cycle}
use Rattle.xfs_rebuild.specs.Changes.{CanChangeAll}
use Rattle.xfs_rebuild.specs.Places.{old_places}

-- the log sequence numbers in the blocks of files: all that are read but that of the superblock, which is written anew
abbrev pub is_of_file : BlockLsn → Bool
is_of_file l = not (l.block == 0)

abbrev pub numbers_in : List BlockLsn → List ℕ
numbers_in lsns = map (λ (l : BlockLsn). l.lsn) (filter is_of_file lsns)

unfoldable pub file_lsns : Volume → Image → List FileRec → List ℕ
file_lsns v image files = numbers_in (lsns_read v image [] files)

-- what was at hand, whatever the disk tells: the superblock, the places with so many blocks, and what is wanted of slots, which can be
-- made of these; no objects are built
pub record AreAtHand (g : Geometry) (sector : List ℕ) (s : Stamp) (clusters : List ℕ) (slots : List SlotWanted) (b : Bytes) : Type 0 where
  pub sector' : b.sector ≡ sector
  pub places' : b.places ≡ old_places (volume_of g) clusters slots
  pub objects' : b.objects ≡ []
  pub slots' : b.slots ≡ slots
  pub stamp' : b.stamp ≡ s
  pub many : length b.old ≡ length b.places
  pub inside : All (λ place. place < g.dblocks) b.places
  pub can : CanChangeAll (volume_of g) b.slots b.places b.old
  pub few : MatchOption b.cycle (Unit {0}) (λ cycle. (1 ≤ cycle) × (cycle < 2 ^ 31))

-- what was read: what the image has at the places; and by the numbers that stay the cycle of a blank log
pub record AreReadOf (image : Image) (lsns : List ℕ) (log : LogState) (b : Bytes) : Type 0 where
  pub old' : b.old ≡ blocks_at image b.places
  pub cycle' : b.cycle ≡ due_cycle log lsns

-- the bytes from their parts
abbrev pub joined_bytes : List ℕ → List ℕ → Image → Image → List SlotWanted → Option ℕ → Stamp → Bytes
joined_bytes sector places old objects slots cycle s =
    record { sector = sector; places = places; old = old; objects = objects; slots = slots; cycle = cycle; stamp = s }
