-- What contracts see of a disk in memory.
use Rattle.std.specs.Prelude.{◌≡◌, ℕ, ◌⊎◌, Option, Some}
use Rattle.xfs_disk.specs.Blocks.{Image}
use Rattle.xfs_disk.specs.Memory.{blocks_of_bytes}
use Rattle.xfs_memory.specs.Schedule.{IsToFail}
use Rattle.xfs_memory.specs.declared.schedule.Schedule.{Schedule}
use Rattle.xfs_memory.specs.declared.memory_disk.MemoryDisk.{MemoryDisk}

-- how many blocks the disk has
abbrev pub size_of : MemoryDisk → ℕ
size_of disk = disk.blocks

-- the blocks that the disk holds
abbrev pub image_of : MemoryDisk → Image
image_of disk = blocks_of_bytes disk.blocks disk.bytes.items

-- how many reads failed
abbrev pub faults_of : MemoryDisk → ℕ
faults_of disk = disk.faults

-- how many writes and syncs failed
abbrev pub write_faults_of : MemoryDisk → ℕ
write_faults_of disk = disk.write_faults

-- how many blocks were read, and how many written
abbrev pub reads_of : MemoryDisk → ℕ
reads_of disk = disk.reads

abbrev pub writes_of : MemoryDisk → ℕ
writes_of disk = disk.writes

-- the reads, writes and syncs that were called and those that are to fail
abbrev pub schedule_of : MemoryDisk → Schedule
schedule_of disk = disk.schedule

-- after how many more writes every call fails, where that was asked for
abbrev pub stop_of : MemoryDisk → Option ℕ
stop_of disk = disk.writes_left

-- every call fails
abbrev pub HasStopped : MemoryDisk → Type 0
HasStopped disk = stop_of disk ≡ Some 0

-- the next read, write or sync fails: the disk is stopped, or this call was named
abbrev pub FailsNext : MemoryDisk → Type 0
FailsNext disk = HasStopped disk ⊎ IsToFail (schedule_of disk)

-- size, contents and all counts are the same
pub record KeepsDisk (old new : MemoryDisk) : Type 0 where
  pub size : size_of new ≡ size_of old
  pub image : image_of new ≡ image_of old
  pub faults : faults_of new ≡ faults_of old
  pub write_faults : write_faults_of new ≡ write_faults_of old
  pub reads : reads_of new ≡ reads_of old
  pub writes : writes_of new ≡ writes_of old
