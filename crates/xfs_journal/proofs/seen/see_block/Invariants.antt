use Rattle.std.proofs.Common.{◌≡◌, ◌++◌}
use Rattle.xfs_tree.specs.Blocks.{each_of}
use Rattle.xfs_journal.specs.Placed.{IsListed, sectors_of, seen_in}
use Rattle.xfs_journal.proofs.Listing.{rest_of}
use Rattle.xfs_journal.proofs.seen.see_block.Given as goal

abbrev pub invariant-loop-sector : goal.invariant-loop-sector
invariant-loop-sector l = record {
  seen : sectors_of l.log ++ rest_of l.sector 8 (seen_in l.block) ≡ sectors_of l.fn.log ++ each_of 8 (seen_in l.block);
  listed : IsListed l.log;
}
