-- What is kept of a slot in place of its bytes (chapter "On-disk Inode").
use Rattle.std.specs.Prelude.{ℕ, List}
use Rattle.xfs_word.specs.Field.{field_of}
use Rattle.xfs_geom.specs.Volumes.{Volume}
use Rattle.xfs_inode.specs.Slots.{slot_read}
use Rattle.xfs_inode.specs.declared.reading.SlotRead.{SlotRead}
use Rattle.xfs_inode.specs.declared.reading.SlotRead.TheVariants as Read
use Rattle.xfs_rounds.specs.declared.facts.SlotFact.{SlotFact}
use Rattle.xfs_rounds.specs.declared.facts.SlotReading.{SlotReading}
use Rattle.xfs_rounds.specs.declared.facts.SlotReading.TheVariants as Reading

-- a slot is free, in use, with a feature that is not supported or without, or unsound
abbrev pub reading_of : SlotRead → SlotReading
reading_of Read.Unsound = Reading.Unsound
reading_of Read.Free = Reading.Free
reading_of (Read.Unsupported what) = Reading.InUse
reading_of (Read.InUse core) = Reading.InUse

-- what the slot of an inode reads as by itself, and the log sequence number that stands in it
abbrev pub fact_of : Volume → ℕ → List ℕ → SlotFact
fact_of v ino slot = record { reading = reading_of (slot_read v ino slot); lsn = field_of slot 112 8 }
