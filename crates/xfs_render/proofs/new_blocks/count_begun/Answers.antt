use Rattle.std.proofs.Common.{rules, leb}
use Rattle.std.proofs.lemmas.Bool.{leb-true, leb-false}
use Rattle.std.proofs.lemmas.List.Sorted.{IsPartitionPoint-from_clause, IsPartitionedBy-leb}
use Rattle.xfs_render.specs.declared.new_blocks.Reach.{Reach}
use Rattle.xfs_render.proofs.new_blocks.count_begun.Goals as goal

pub returns : goal.returns
returns c = record {
  within = c.partition_point.ensures.bound;
  begun = λ ascend.
      let point = IsPartitionPoint-from_clause (λ (r : Reach). leb r.start c.args.block) c.args.reaches.now c.partition_point.result c.partition_point.ensures.partitioned
      (IsPartitionedBy-leb (λ (r : Reach). r.start) c.args.reaches.now c.args.block ascend) (λ a r q k. search rules) in
      λ k d low high. leb-true _ c.args.block (point.0 k d low high);
  behind = λ ascend.
      let point = IsPartitionPoint-from_clause (λ (r : Reach). leb r.start c.args.block) c.args.reaches.now c.partition_point.result c.partition_point.ensures.partitioned
      (IsPartitionedBy-leb (λ (r : Reach). r.start) c.args.reaches.now c.args.block ascend) (λ a r q k. search rules) in
      λ k d low high. leb-false _ c.args.block (point.1 k d low high);
}
