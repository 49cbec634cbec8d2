-- Which calls of an object in memory are to fail, and when a disk in memory stops.
use Rattle.std.specs.Prelude.{◌≡◌, ℕ, ◌+◌, ◌-◌, min, List, [], ◌∷◌, ◌++◌, Option, Some, None, Result, Ok, Err}
use Rattle.std.specs.List.{Contains}
use Rattle.xfs_disk.specs.Counts.{raised}
use Rattle.xfs_memory.specs.declared.schedule.Schedule.{Schedule}

-- how many calls were made
abbrev pub calls_made : Schedule → ℕ
calls_made schedule = schedule.calls

-- the calls that are to fail, each by its number since the first call of all
abbrev pub failing_calls : Schedule → List ℕ
failing_calls schedule = schedule.failing.items

-- the next call is to fail
abbrev pub IsToFail : Schedule → Type 0
IsToFail schedule = Contains (failing_calls schedule) (raised (calls_made schedule))

-- one call was made, and the same calls are to fail
pub record CountsCall (old new : Schedule) : Type 0 where
  pub calls : calls_made new ≡ raised (calls_made old)
  pub failing : failing_calls new ≡ failing_calls old

-- the call of this number, counted from 1 from now on, is to fail too; after an error nothing changed
abbrev pub AddsCall : {E : Type 0} → ℕ → Schedule → Schedule → Result (Unit {0}) E → Type 0
AddsCall call old new (Ok _) = (calls_made new ≡ calls_made old) × (failing_calls new ≡ failing_calls old ++ (calls_made old + call) ∷ [])
AddsCall call old new (Err _) = (calls_made new ≡ calls_made old) × (failing_calls new ≡ failing_calls old)

-- the sooner of a stop that was asked for and one after so many writes
abbrev pub sooner : Option ℕ → ℕ → Option ℕ
sooner None writes = Some writes
sooner (Some left) writes = Some (min left writes)

-- the stop that is left after one more write
abbrev pub after_write : Option ℕ → Option ℕ
after_write None = None
after_write (Some left) = Some (left - 1)
