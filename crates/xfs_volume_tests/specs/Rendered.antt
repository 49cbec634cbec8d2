-- A small volume with objects: what is wanted of it, and what its blocks are made of.
use Rattle.std.specs.Prelude.{◌≡◌, ℕ, ◌+◌, ◌<◌, ◌==◌, if◌then◌else◌, List, [], ◌∷◌, length, slice_index_or}
use Rattle.std.specs.List.{All}
use Rattle.xfs_disk.specs.Blocks.{Image}
use Rattle.xfs_disk.specs.declared.stamp.Stamp.{Stamp}
use Rattle.xfs_geom.specs.Volumes.{Volume, volume_of}
use Rattle.xfs_geom.specs.declared.geometry.Geometry.{Geometry}
use Rattle.xfs_geom.specs.declared.records.InoRec.{InoRec}
use Rattle.xfs_place.specs.Objects.{IsAsk, asks_of}
use Rattle.xfs_place.specs.declared.wanted.GroupInodes.{GroupInodes}
use Rattle.xfs_place.specs.declared.wanted.Object.{Object}
use Rattle.xfs_place.specs.declared.wanted.Wanted.{Wanted}
use Rattle.xfs_render.specs.Objects.{written_blocks}
use Rattle.xfs_render.specs.Readiness.{HasAsker}
use Rattle.xfs_render.specs.Slots.{CanMake}
use Rattle.xfs_render.specs.declared.bytes.Bytes.{Bytes}
use Rattle.xfs_render.specs.declared.wanted_slots.SlotWanted.{SlotWanted}
use Rattle.xfs_empty.specs.Bytes.{IsEmptyBytes}
use Rattle.xfs_empty.specs.Placing.{empty_wanted}

-- the runs of objects can be asked for and have owners, and so many of their blocks are written
pub record AreAsked (blocks : ℕ) (objects : List Object) : Type 0 where
  pub asks : All (λ (o : Object). All IsAsk o.runs) objects
  pub askers : All (λ (o : Object). All HasAsker o.runs) objects
  pub count : written_blocks (asks_of objects) ≡ blocks

-- the first chunk, of which five inodes are in use, in the first group
abbrev pub five_used : InoRec
five_used = record { startino = 128; holemask = 0; count = 64; freecount = 59; free = 0xffff_ffff_ffff_ffe0 }

abbrev pub small_chunks : ℕ → List InoRec
small_chunks ag = if ag == 0 then five_used ∷ [] else []

pub record AreSmallInodes (n : ℕ) (groups : List GroupInodes) : Type 0 where
  pub all : length groups ≡ n
  pub each : (ag : ℕ) (d : GroupInodes) → ag < n → (slice_index_or groups ag d).records ≡ small_chunks ag

-- what is wanted of an empty volume, with objects and the records of their inodes
abbrev pub small_wanted : Geometry → List Object → List GroupInodes → Wanted
small_wanted g objects inodes = record (empty_wanted g) { objects = objects; inodes = inodes }

pub record IsSmall (g : Geometry) (objects : List Object) (w : Wanted) : Type 0 where
  pub groups : List GroupInodes
  pub are : AreSmallInodes g.agcount groups
  pub is : w ≡ small_wanted g objects groups

-- the slots of the first chunk, which can be made of whatever stood there
pub record AreSmallSlots (v : Volume) (n : ℕ) (slots : List SlotWanted) : Type 0 where
  pub count : length slots ≡ n
  pub number : (k : ℕ) (d : SlotWanted) → k < n → (slice_index_or slots k d).ino ≡ 128 + k
  pub can : (k : ℕ) (d : SlotWanted) (old : List ℕ) → k < n → CanMake v (slice_index_or slots k d) old

-- what the blocks of an empty volume are made of, with the blocks of objects and other slots
pub record AreSmallBytes (g : Geometry) (sector : List ℕ) (s : Stamp) (built : Image) (b : Bytes) : Type 0 where
  pub empty : Bytes
  pub made : IsEmptyBytes g sector s empty
  pub slots' : List SlotWanted
  pub are : AreSmallSlots (volume_of g) 64 slots'
  pub is : b ≡ record empty { objects = built; slots = slots' }
