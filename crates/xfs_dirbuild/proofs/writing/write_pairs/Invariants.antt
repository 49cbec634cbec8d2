use Rattle.std.proofs.Common.{◌≡◌, ◌*◌, take}
use Rattle.xfs_word.specs.Field.{SameBeside}
use Rattle.xfs_dirindex.specs.Pairs.{pairs_at}
use Rattle.xfs_dirbuild.proofs.writing.write_pairs.Given as goal

abbrev pub invariant-loop-k : goal.invariant-loop-k
invariant-loop-k l = record {
  pairs : pairs_at l.block l.at l.k ≡ take l.k l.pairs;
  others : SameBeside l.initial.block l.block l.at (8 * l.k);
}
