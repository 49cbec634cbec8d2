-- What contracts see of a sink in memory.
use Rattle.std.specs.Prelude.{ℕ, ◌-◌, List, length}
use Rattle.xfs_memory.specs.declared.schedule.Schedule.{Schedule}
use Rattle.xfs_memory.specs.declared.memory_sink.MemorySink.{MemorySink}

-- the bytes that were put
abbrev pub took_of : MemorySink → List ℕ
took_of sink = sink.bytes.items

-- how many bytes there is room for in all
abbrev pub room_of : MemorySink → ℕ
room_of sink = sink.room

-- how many more bytes there is room for
abbrev pub room_left : MemorySink → ℕ
room_left sink = sink.room - length sink.bytes.items

-- how many calls failed
abbrev pub faults_of : MemorySink → ℕ
faults_of sink = sink.faults

-- the calls that were made and those that are to fail
abbrev pub schedule_of : MemorySink → Schedule
schedule_of sink = sink.schedule
