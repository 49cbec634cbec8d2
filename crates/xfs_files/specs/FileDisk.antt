-- What contracts see of a disk that is a file of the system.
use Rattle.std.specs.Prelude.{ℕ, List, Option, option_and_then}
use Rattle.xfs_files.specs.declared.file_disk.FileDisk.{FileDisk}

-- the opened file, or none
abbrev pub file_of : {F : Type 0} {g : _} → FileDisk F g → Option F
file_of disk = disk.file

-- the bytes of the opened file, where there is one and it tells them
abbrev pub bytes_of : {F : Type 0} {g : _} → (F → Option (List ℕ)) → FileDisk F g → Option (List ℕ)
bytes_of bytes disk = option_and_then bytes disk.file

-- how many blocks the disk has
abbrev pub size_of : {F : Type 0} {g : _} → FileDisk F g → ℕ
size_of disk = disk.blocks

-- how many reads failed
abbrev pub faults_of : {F : Type 0} {g : _} → FileDisk F g → ℕ
faults_of disk = disk.faults

-- how many writes and syncs failed
abbrev pub write_faults_of : {F : Type 0} {g : _} → FileDisk F g → ℕ
write_faults_of disk = disk.write_faults

-- how many blocks were read, and how many written
abbrev pub reads_of : {F : Type 0} {g : _} → FileDisk F g → ℕ
reads_of disk = disk.reads

abbrev pub writes_of : {F : Type 0} {g : _} → FileDisk F g → ℕ
writes_of disk = disk.writes
