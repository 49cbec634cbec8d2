-- What a disk holds once the blocks of a plan were written, or some of them, and what a stop leaves meanwhile.
use Rattle.std.specs.Prelude.{◌≡◌, ℕ, ◌≤◌, List, length, Option, Some, Result, Ok, Err}
use Rattle.xfs_disk.specs.Counts.{raised_times}
use Rattle.xfs_disk.specs.Blocks.{Image}
use Rattle.xfs_disk.specs.Faults.{Rose}
use Rattle.xfs_render.specs.Plans.{planned}
use Rattle.xfs_render.specs.declared.plan.Plan.{Plan}
use Rattle.xfs_writing.specs.Stopped.{IsStopped}
use Rattle.xfs_writing.specs.Writing.{IsPartly, written, writes_of_rows}
use Rattle.xfs_writing.specs.declared.rows.Row.{Row}
use Rattle.xfs_mkfs.specs.Order.{AreRowsOfPlan, all_writes, first_part, last_part}
use Rattle.xfs_mkfs.specs.declared.volume.PutFault.{PutFault}
use Rattle.xfs_mkfs.specs.declared.volume.PutFault.TheVariants.{Failed, NoMemory}

-- the plan was written in its order
pub record IsPut (plan : Plan) (image : Image) (now : Option Image) : Type 0 where
  pub rows : List Row
  pub order : AreRowsOfPlan plan rows
  pub held : now ≡ Some (written (all_writes plan rows) image)

-- the first n of its blocks were, and the next one is old or new
pub record IsPutPartly (plan : Plan) (image : Image) (n : ℕ) (now : Option Image) : Type 0 where
  pub rows : List Row
  pub order : AreRowsOfPlan plan rows
  pub partly : IsPartly (all_writes plan rows) image n now

abbrev pub LeavesUnput : Plan → Image → Option Image → PutFault → Type 0
LeavesUnput plan image now NoMemory = now ≡ Some image
LeavesUnput plan image now (Failed n) = IsPutPartly plan image n now

-- a stop leaves blocks of the plan, but the lowest of them is old until all others are written
pub record IsPutStopped (plan : Plan) (image stopped : Image) : Type 0 where
  pub rows : List Row
  pub order : AreRowsOfPlan plan rows
  pub parts : IsStopped (writes_of_rows plan.bank (first_part rows)) (writes_of_rows plan.bank (last_part rows)) image stopped

-- a write fault comes only where the count of failed writes and syncs rose
abbrev pub HasPutCause : ℕ → ℕ → Result (Unit {0}) PutFault → Type 0
HasPutCause before now (Ok _) = before ≤ now
HasPutCause before now (Err NoMemory) = before ≤ now
HasPutCause before now (Err (Failed n)) = Rose before now

-- all blocks of a plan were written, or just as many as are told, or none for want of memory
abbrev pub CountsPut : Plan → ℕ → ℕ → Result (Unit {0}) PutFault → Type 0
CountsPut plan before now (Ok _) = now ≡ raised_times (length (planned plan)) before
CountsPut plan before now (Err NoMemory) = now ≡ before
CountsPut plan before now (Err (Failed n)) = (n ≤ length (planned plan)) × (now ≡ raised_times n before)
