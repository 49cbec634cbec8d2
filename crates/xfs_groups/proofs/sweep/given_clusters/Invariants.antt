use Rattle.std.proofs.Common.{◌≡◌, ◌+◌, ◌*◌, ◌^◌, ◌≤◌, ◌<◌, drop, length, map}
use Rattle.std.specs.List.{All, filter, list_all, range_with_len}
use Rattle.xfs_tree.specs.Blocks.{each_of}
use Rattle.xfs_image.specs.Clusters.{is_given_block}
use Rattle.xfs_groups.specs.Named.{RecordsApart, GiveAlike}
use Rattle.xfs_groups.proofs.sweep.given_clusters.Given as goal

abbrev pub invariant-loop-i : goal.invariant-loop-i
invariant-loop-i l = record {
  high : l.next ≤ length l.records;
  alike : GiveAlike (4 * l.i) l.records (drop l.next l.records);
  given : RecordsApart 0 l.records → l.clusters.items
      ≡ map (λ place. l.start + place) (filter (λ place. list_all (is_given_block l.records) (range_with_len place 4)) (each_of l.i (λ i. 4 * i)));
  low : All (λ cluster. cluster < 2 ^ 32) l.clusters.items;
}
