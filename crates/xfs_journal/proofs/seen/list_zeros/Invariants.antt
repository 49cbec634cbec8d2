use Rattle.std.proofs.Common.{◌≡◌, ◌≤◌, ◌++◌, replicate}
use Rattle.xfs_log.specs.Log.{no_sector}
use Rattle.xfs_journal.proofs.seen.list_zeros.Given as goal

abbrev pub invariant-loop : goal.invariant-loop
invariant-loop l = record {
  all : l.end ≡ l.fn.log.zeros;
  within : l.counter ≤ l.end;
  items : l.log.seen.items ≡ l.fn.log.seen.items ++ replicate l.counter no_sector;
}
