use Rattle.std.proofs.Common.{◌≡◌, drop}
use Rattle.xfs_word.specs.Crc.{after_bytes}
use Rattle.xfs_word.proofs.checksum.after_each.Given as goal

-- the register and what is left lead to what the start and all lead to
abbrev pub invariant-loop-byte : goal.invariant-loop-byte
invariant-loop-byte l = after_bytes l.register (drop l.byte-index l.bytes) ≡ after_bytes l.start l.bytes
