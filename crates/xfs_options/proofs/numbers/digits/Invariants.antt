use Rattle.std.proofs.Common.{◌≡◌, ◌^◌, ◌<◌, drop}
use Rattle.xfs_options.specs.Numbers.{below_limit, digits_from}
use Rattle.xfs_options.proofs.numbers.digits.Given as goal

abbrev pub invariant-loop-byte : goal.invariant-loop-byte
invariant-loop-byte l =
    record { below : l.number < 2 ^ 63; rest : below_limit (digits_from l.number (drop l.byte-index l.word)) ≡ below_limit (digits_from 0 l.word) }
