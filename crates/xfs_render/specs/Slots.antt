-- What is made of the slot of an inode (chapter "On-disk Inode").
use Rattle.std.specs.Prelude.{◌≡◌, ℕ, ◌+◌, ◌-◌, ◌%◌, ◌^◌, ◌≤◌, ◌<◌, ◌==◌, if◌then◌else◌, IsTrue, List, [], ◌∷◌, length, Option, Some, None, MatchOption}
use Rattle.xfs_word.specs.Crc.{little_field_of}
use Rattle.xfs_word.specs.Field.{field_of, part_of, IsZero}
use Rattle.xfs_word.specs.Seal.{is_lsn, is_sealed}
use Rattle.xfs_geom.specs.Volumes.{Volume}
use Rattle.xfs_inodebuild.specs.xfs_inode.Cores.{stated_core}
use Rattle.xfs_inodebuild.specs.xfs_inode.Slots.{slot_read, slot_seal, fork_bytes}
use Rattle.xfs_inodebuild.specs.Writing.{KeepsOthers, field_place, free_core}
use Rattle.xfs_inodebuild.specs.declared.forks.ForkWanted.{ForkWanted}
use Rattle.xfs_inodebuild.specs.xfs_inode.declared.reading.SlotRead.TheVariants as Read
use Rattle.xfs_volume.specs.declared.cores.Core.{Core}
use Rattle.xfs_render.specs.declared.wanted_slots.SlotBase.{SlotBase}
use Rattle.xfs_render.specs.declared.wanted_slots.SlotBase.TheVariants as Base
use Rattle.xfs_render.specs.declared.wanted_slots.SlotWanted.{SlotWanted}

-- where the attribute fork of the base begins, in 8 bytes from the data fork on; 0 where there is none
abbrev pub forkoff_of : SlotBase → List ℕ → ℕ
forkoff_of Base.Kept old = field_of old 82 1
forkoff_of Base.Free old = 0
forkoff_of (Base.Fresh core) old = 0

-- the core of an inode that is made
pub record IsFreshCore (v : Volume) (ino : ℕ) (core : Core) : Type 0 where
  pub number : core.ino ≡ ino
  pub magic : core.magic ≡ 0x494e
  pub version : core.version ≡ 3
  pub used : 0 < core.mode
  pub uuid : core.uuid ≡ v.uuid
  pub lsn : IsTrue (is_lsn core.lsn)
  pub no_attributes : core.forkoff ≡ 0
  pub plain_data : core.flags % 2 ≡ 0
  pub plain : core.flags2 ≡ 0

abbrev pub CanBase : Volume → ℕ → SlotBase → List ℕ → Type 0
CanBase v ino Base.Kept old = IsTrue (is_sealed (slot_seal v ino) old)
CanBase v ino Base.Free old = Unit {0}
CanBase v ino (Base.Fresh core) old = IsFreshCore v ino core

-- the fork fits the bytes from the data fork up to the attribute fork
pub record CanFork (forkoff : ℕ) (fork : ForkWanted) : Type 0 where
  pub few : fork.nextents < 2 ^ 32
  pub short : length fork.bytes ≤ fork_bytes forkoff

-- a slot that is kept is sealed, the core of one that is made is that of an inode without attributes, and the fork fits
pub record CanMake (v : Volume) (w : SlotWanted) (old : List ℕ) : Type 0 where
  pub base : CanBase v w.ino w.base old
  pub forkoff : forkoff_of w.base old ≤ 41
  pub fork : MatchOption w.fork (Unit {0}) (CanFork (forkoff_of w.base old))

-- the slot of a free inode, with zeros beside the fields of its core
pub record IsFreeSlot (v : Volume) (ino generation : ℕ) (slot : List ℕ) : Type 0 where
  pub read : slot_read v ino slot ≡ Read.Free
  pub stated : stated_core slot ≡ record (free_core v ino generation) { crc = little_field_of slot 100 4 }
  pub zero_behind_format : IsZero slot 6 2
  pub zero_before_times : IsZero slot 24 8
  pub zero_before_flags : IsZero slot 84 6
  pub zero_before_crtime : IsZero slot 132 12
  pub zero_forks : IsZero slot 176 336

-- the slot of an inode of this core with an empty data fork
pub record IsFreshSlot (v : Volume) (core : Core) (slot : List ℕ) : Type 0 where
  pub read : slot_read v core.ino slot ≡ Read.InUse (record core { crc = little_field_of slot 100 4 })
  pub stated : stated_core slot ≡ record core { crc = little_field_of slot 100 4 }
  pub zero_behind_format : IsZero slot 6 2
  pub zero_before_times : IsZero slot 24 8
  pub zero_before_flags : IsZero slot 84 6
  pub zero_before_crtime : IsZero slot 132 12
  pub zero_forks : IsZero slot 176 336

abbrev pub IsBased : Volume → ℕ → ℕ → SlotBase → List ℕ → List ℕ → Type 0
IsBased v generation ino Base.Kept old new = new ≡ old
IsBased v generation ino Base.Free old new = IsFreeSlot v ino generation new
IsBased v generation ino (Base.Fresh core) old new = IsFreshSlot v core new

-- a slot in use goes on reading as in use
abbrev pub KeepsUse : Volume → ℕ → List ℕ → List ℕ → Type 0
KeepsUse v ino old new = (core : Core) → slot_read v ino old ≡ Read.InUse core → slot_read v ino new ≡ Read.InUse (stated_core new)

-- a slot whose attributes were dropped: the file has so many blocks; all else stayed
pub record DropsAttrs (v : Volume) (ino nblocks : ℕ) (old new : List ℕ) : Type 0 where
  pub sealed : IsTrue (is_sealed (slot_seal v ino) new)
  pub read : KeepsUse v ino old new
  pub stated : stated_core new ≡ record (stated_core old) { nblocks = nblocks; anextents = 0; aformat = 2; crc = little_field_of new 100 4 }
  pub zero' : let bytes = fork_bytes (field_of old 82 1) in IsZero new (176 + bytes) (336 - bytes)
  pub others : let bytes = fork_bytes (field_of old 82 1) in
      KeepsOthers old new (field_place 64 8 ∷ field_place 80 2 ∷ field_place 83 1 ∷ field_place (176 + bytes) (336 - bytes) ∷ field_place 100 4 ∷ [])

-- a slot whose data fork was replaced, and the numbers that go with it; all else stayed
pub record SetsFork (v : Volume) (ino : ℕ) (fork : ForkWanted) (old new : List ℕ) : Type 0 where
  pub sealed : IsTrue (is_sealed (slot_seal v ino) new)
  pub read : KeepsUse v ino old new
  pub stated : stated_core new
      ≡ record (stated_core old) { format = fork.format; size = fork.size; nblocks = fork.nblocks; nextents = fork.nextents; crc = little_field_of new 100 4 }
  pub put : part_of new 176 (length fork.bytes) ≡ fork.bytes
  pub zero' : IsZero new (176 + length fork.bytes) (fork_bytes (field_of old 82 1) - length fork.bytes)
  pub others : KeepsOthers old new
      (field_place 5 1 ∷ field_place 56 8 ∷ field_place 64 8 ∷ field_place 76 4 ∷ field_place 176 (fork_bytes (field_of old 82 1)) ∷ field_place 100 4 ∷ [])

-- a slot whose file has so many names, and is not unlinked; all else stayed
pub record SetsLinks (v : Volume) (ino nlink : ℕ) (old new : List ℕ) : Type 0 where
  pub sealed : IsTrue (is_sealed (slot_seal v ino) new)
  pub read : KeepsUse v ino old new
  pub stated : stated_core new ≡ record (stated_core old) { nlink = nlink; next_unlinked = 0xffff_ffff; crc = little_field_of new 100 4 }
  pub others : KeepsOthers old new (field_place 16 4 ∷ field_place 96 4 ∷ field_place 100 4 ∷ [])

-- the slot is what its changes make of it, one after the other: the base, no attributes, the data fork, the number of names
pub record IsMadeSlot (v : Volume) (generation : ℕ) (w : SlotWanted) (old new : List ℕ) : Type 0 where
  pub based : List ℕ
  pub bare : List ℕ
  pub forked : List ℕ
  pub base : IsBased v generation w.ino w.base old based
  pub attrs : MatchOption w.drop_attrs (bare ≡ based) (λ nblocks. DropsAttrs v w.ino nblocks based bare)
  pub fork : MatchOption w.fork (forked ≡ bare) (λ fork. SetsFork v w.ino fork bare forked)
  pub links : MatchOption w.nlink (new ≡ forked) (λ nlink. SetsLinks v w.ino nlink forked new)

-- what is wanted of the slot of an inode, where something is
abbrev pub wanted_of : List SlotWanted → ℕ → Option SlotWanted
wanted_of [] ino = None
wanted_of (w ∷ rest) ino = if w.ino == ino then Some w else wanted_of rest ino

-- a slot is what is wanted of it, and where nothing is, it is as it was
abbrev pub IsSlotDue : Volume → ℕ → List SlotWanted → ℕ → List ℕ → List ℕ → Type 0
IsSlotDue v generation slots ino old new = MatchOption (wanted_of slots ino) (new ≡ old) (λ w. IsMadeSlot v generation w old new)

-- what is wanted of a slot can be made of it
abbrev pub CanSlot : Volume → List SlotWanted → ℕ → List ℕ → Type 0
CanSlot v slots ino old = MatchOption (wanted_of slots ino) (Unit {0}) (λ w. CanMake v w old)
