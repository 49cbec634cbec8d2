-- Counts of faults, exactly.
use Rattle.std.specs.Prelude.{◌≡◌, ℕ, ◌+◌, ◌-◌, ◌^◌, ◌≤◌, min, Result, Ok, Err, zero, suc}
use Rattle.xfs_disk.specs.Faults.{Rose}

-- a count after one more, which stands at the end of its type
abbrev pub raised : ℕ → ℕ
raised count = min (count + 1) (2 ^ 64 - 1)

-- a failure raised the count by one, or it stands at the end of its type; else it stays
abbrev pub CountsFailure : {T E : Type 0} → ℕ → ℕ → Result T E → Type 0
CountsFailure before now (Ok _) = now ≡ before
CountsFailure before now (Err _) = (now ≤ before + 1) × Rose before now

-- a call that went well raised the count by one, or it stands at the end of its type; else it stays
abbrev pub CountsDone : {T E : Type 0} → ℕ → ℕ → Result T E → Type 0
CountsDone before now (Ok _) = now ≡ raised before
CountsDone before now (Err _) = now ≡ before

-- a count that was raised so many times
abbrev pub raised_times : ℕ → ℕ → ℕ
raised_times zero count = count
raised_times (suc n) count = raised (raised_times n count)
