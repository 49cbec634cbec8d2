use Rattle.std.proofs.Common.{◌≡◌, ◌≤◌, ◌-◌, length, drop}
use Rattle.xfs_word.specs.Crc.{after_bytes}
use Rattle.xfs_word.proofs.checksum.after.Given as goal

-- the register and what is left lead to what the start and all lead to
abbrev pub invariant-loop-at : goal.invariant-loop-at
invariant-loop-at l = (l.at ≤ length l.bytes) × (after_bytes l.register (drop l.at l.bytes) ≡ after_bytes l.start l.bytes)

abbrev pub decreases-loop-at : goal.decreases-loop-at
decreases-loop-at l = length l.bytes - l.at
