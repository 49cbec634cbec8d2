use Rattle.std.proofs.Common.{ℕ, rules}
use Rattle.std.proofs.lemmas.List.Sorted.{IsPartitionPoint-from_clause, IsPartitionedBy-ltb}
use Rattle.std.proofs.lemmas.Bool.{ltb-true, ltb-false}
use lib.Dec.{ltb}
use Rattle.xfs_dirindex.proofs.Found.{ascend-rises}
use Rattle.xfs_dirindex.proofs.lookup.place_in.Goals as goal

pub returns : goal.returns
returns c =
    let parted = IsPartitionedBy-ltb (λ (o : ℕ). o) c.args.offsets.now c.args.block (ascend-rises 0 c.args.offsets.now c.requires) in
    let point = IsPartitionPoint-from_clause (λ (o : ℕ). ltb o c.args.block) c.args.offsets.now c.partition_point.result c.partition_point.ensures.partitioned parted (λ a r q k. search rules) in
    record {
      within = c.partition_point.ensures.bound;
      before = λ k d low high. ltb-true _ c.args.block (point.0 k d low high);
      after = λ k d low high. ltb-false _ c.args.block (point.1 k d low high);
    }
