use Rattle.std.proofs.Common.{leb, ltb, true, false, rules, sym, ◌∙◌, ◌≡◌, ◌≤◌, List, length, subst, ap, take}
use Rattle.std.specs.List.Sorted.{IsPartitionPoint, IsNonDecreasingBy}
use Rattle.std.proofs.lemmas.List.Sorted.{IsPartitionPoint-from_clause, IsPartitionedBy-leb}
use Rattle.xfs_links.specs.declared.candidates.Candidate.{Candidate}
use Rattle.xfs_links.proofs.Groups.{parted_below, found_group, sorted_rest}
use Rattle.xfs_links.proofs.walk.group_of.Goals as goal

pub returns : goal.returns
returns c = record {
  group = c.split_at-2.ensures.front ∙ ap (λ (r : List Candidate). take c.partition_point-count.result r) c.split_at.ensures.back
      ∙ found_group c.args.candidates.now c.partition_point-start.result c.partition_point-count.result c.args.directory c.partition_point-start.ensures.bound
      (subst (λ (r : List Candidate). c.partition_point-count.result ≤ length r) c.split_at.ensures.back c.partition_point-count.ensures.bound)
      (IsPartitionPoint-from_clause (λ (y : Candidate). ltb y.directory c.args.directory) _ _ c.partition_point-start.ensures.partitioned
      (parted_below c.args.candidates.now c.args.directory c.requires) (λ a r q k. search rules))
      (subst (λ (xs : List Candidate). IsPartitionPoint (λ (y : Candidate). leb y.directory c.args.directory ≡ true) (λ (y : Candidate). leb y.directory c.args.directory ≡ false) xs c.partition_point-count.result) c.split_at.ensures.back
      (IsPartitionPoint-from_clause (λ (y : Candidate). leb y.directory c.args.directory) _ _ c.partition_point-count.ensures.partitioned
      (IsPartitionedBy-leb (λ (y : Candidate). y.directory) _ c.args.directory
      (subst (λ (xs : List Candidate). IsNonDecreasingBy (λ (y : Candidate). y.directory) xs) (sym c.split_at.ensures.back) (sorted_rest c.args.candidates.now c.partition_point-start.result c.requires)))
      (λ a r q k. search rules)));
}
