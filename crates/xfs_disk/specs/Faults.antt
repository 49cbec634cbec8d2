-- Counts of faults, and the failures that they account for.
use Rattle.std.specs.Prelude.{ℕ, ◌+◌, ◌-◌, ◌^◌, ◌≤◌, min, Result, Ok, Err}

-- the count is at least one more, or stands at the end of its type
abbrev pub Rose : ℕ → ℕ → Type 0
Rose before now = (before ≤ now) × (min (before + 1) (2 ^ 64 - 1) ≤ now)

-- the count has not fallen, and a failure is answered only where it rose
abbrev pub HasCause : {T E : Type 0} → ℕ → ℕ → Result T E → Type 0
HasCause before now (Ok _) = before ≤ now
HasCause before now (Err _) = Rose before now
