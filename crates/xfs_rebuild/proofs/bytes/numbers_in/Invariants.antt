use Rattle.std.proofs.Common.{◌≡◌, ◌++◌, drop}
use Rattle.xfs_rebuild.specs.Bytes.{numbers_in}
use Rattle.xfs_rebuild.proofs.bytes.numbers_in.Given as goal

abbrev pub invariant-loop-lsn : goal.invariant-loop-lsn
invariant-loop-lsn l = l.numbers.items ++ numbers_in (drop l.lsn-index l.lsns) ≡ numbers_in l.lsns
