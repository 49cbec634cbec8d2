use Rattle.std.proofs.Common.{rules}
use Rattle.std.proofs.lemmas.List.Sorted.{IsPartitionPoint-from_clause, IsPartitionedBy-ltb}
use Rattle.std.proofs.lemmas.Bool.{ltb-true, ltb-false}
use lib.Dec.{ltb}
use Rattle.xfs_dirindex.specs.declared.data.Best.{Best}
use Rattle.xfs_dirindex.proofs.values.place_of.Goals as goal

pub returns : goal.returns
returns c =
    let parted = IsPartitionedBy-ltb (λ (b : Best). b.offset) c.args.bests.now c.args.block c.requires in
    let point = IsPartitionPoint-from_clause (λ (b : Best). ltb b.offset c.args.block) c.args.bests.now c.partition_point.result c.partition_point.ensures.partitioned parted (λ a r q k. search rules) in
    record {
      within = c.partition_point.ensures.bound;
      before = λ k d low high. ltb-true _ c.args.block (point.0 k d low high);
      after = λ k d low high. ltb-false _ c.args.block (point.1 k d low high);
    }
