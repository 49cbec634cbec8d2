-- How many blocks were written, by a disk's count of writes.
use Rattle.std.specs.Prelude.{◌≡◌, ℕ, Result, Ok, Err}
use Rattle.xfs_disk.specs.Counts.{raised_times}

-- all blocks were written, or just as many as are told
abbrev pub CountsWrites : {T : Type 0} → ℕ → ℕ → ℕ → Result T ℕ → Type 0
CountsWrites all before now (Ok _) = now ≡ raised_times all before
CountsWrites all before now (Err n) = now ≡ raised_times n before
