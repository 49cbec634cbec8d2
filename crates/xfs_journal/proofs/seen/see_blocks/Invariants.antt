use Rattle.std.proofs.Common.{◌≡◌, ◌-◌, ◌/◌, ◌++◌, length}
use Rattle.xfs_journal.specs.Placed.{IsListed, sectors_of, seen_in_blocks}
use Rattle.xfs_journal.proofs.seen.see_blocks.Given as goal

abbrev pub invariant-loop-k : goal.invariant-loop-k
invariant-loop-k l = record {
  seen : sectors_of l.log ++ seen_in_blocks l.run l.k (length l.run / 4096 - l.k) ≡ sectors_of l.fn.log ++ seen_in_blocks l.run 0 (length l.run / 4096);
  listed : IsListed l.log;
}
