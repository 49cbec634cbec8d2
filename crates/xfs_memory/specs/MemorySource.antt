-- What contracts see of a source in memory.
use Rattle.std.specs.Prelude.{ℕ, List, drop}
use Rattle.xfs_memory.specs.declared.schedule.Schedule.{Schedule}
use Rattle.xfs_memory.specs.declared.memory_source.MemorySource.{MemorySource}

-- the bytes that are left
abbrev pub left_to_take : MemorySource → List ℕ
left_to_take source = drop source.given source.bytes.items

-- how many calls failed
abbrev pub faults_of : MemorySource → ℕ
faults_of source = source.faults

-- the calls that were made and those that are to fail
abbrev pub schedule_of : MemorySource → Schedule
schedule_of source = source.schedule
