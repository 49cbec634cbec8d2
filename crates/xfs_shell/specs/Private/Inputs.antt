-- An input that is read whole.
use Rattle.std.specs.Prelude.{◌≡◌, ℕ, ◌≤◌, ◌<◌, List, length, take, Option, Some, None, Result, Ok, Err}
use Rattle.xfs_disk.specs.Faults.{Rose}
use Rattle.xfs_shell.specs.declared.input.InputFault.{InputFault}
use Rattle.xfs_shell.specs.declared.input.InputFault.TheVariants.{Failed, Long, NoMemory}

-- a failure is answered only where the source's count rose
abbrev pub HasInputCause : {T : Type 0} → ℕ → ℕ → Result T InputFault → Type 0
HasInputCause before now (Ok _) = before ≤ now
HasInputCause before now (Err Long) = before ≤ now
HasInputCause before now (Err NoMemory) = before ≤ now
HasInputCause before now (Err Failed) = Rose before now

-- a buffer that begins with so many bytes, all that were left, or is full of them
abbrev pub IsFilledBuffer : List ℕ → List ℕ → Option ℕ → Type 0
IsFilledBuffer left buffer (Some count) = (count < length buffer) × (left ≡ take count buffer)
IsFilledBuffer left buffer None = length buffer ≤ length left
