use Rattle.std.proofs.Common.{◌≡◌, ◌+◌, ◌≤◌, true, drop, length}
use Rattle.std.specs.List.{list_all, range_with_len}
use Rattle.xfs_image.specs.Clusters.{is_given_block}
use Rattle.xfs_groups.specs.Named.{RecordsApart, GiveAlike}
use Rattle.xfs_groups.proofs.sweep.are_given.Given as goal

abbrev pub invariant-loop-k : goal.invariant-loop-k
invariant-loop-k l = record {
  high : l.next ≤ length l.records;
  alike : GiveAlike (l.place + l.k) (drop l.from l.records) (drop l.next l.records);
  given : RecordsApart 0 l.records → list_all (is_given_block (drop l.from l.records)) (range_with_len l.place l.k) ≡ true;
}
