use Rattle.std.specs.List.Sorted.{IsPartitionedBy}
use Rattle.std.proofs.Common.{◌+◌, ◌-◌, sym, List, drop, length, nat_lt, rules, subst, take, ap, ◌∙◌}
use Rattle.std.proofs.lemmas.List.{take_rest}
use Rattle.std.proofs.lemmas.List.Sorted.{IsNonDecreasingBy-drop, IsPartitionPoint-from_clause, IsPartitionedBy-ltb}
use Rattle.xfs_geom.specs.declared.records.Run.{Run}
use Rattle.xfs_place.proofs.Parted.{IsParted, part_is}
use Rattle.xfs_place.proofs.claims.claims_in.Goals as goal

pub returns : goal.returns
returns c =
    let rs = c.args.claims.now in
    let base = c.args.base in
    let end = base + c.args.blocks in
    let s = c.partition_point-from.result in
    let n = c.partition_point-count.result in
    let rest = take_rest rs s in
    let first : IsParted base rs s =
    IsPartitionPoint-from_clause (λ (r : Run). nat_lt r.start base) rs s c.partition_point-from.ensures.partitioned (IsPartitionedBy-ltb (λ (r : Run). r.start) rs base c.requires.order) (λ a r q k. search rules) in
    let behind = subst (λ (xs : List Run). IsPartitionedBy (λ (r : Run). nat_lt r.start end) xs) (sym rest)
    (IsPartitionedBy-ltb (λ (r : Run). r.start) (drop s rs) end (IsNonDecreasingBy-drop (λ (r : Run). r.start) s rs c.requires.order)) in
    let second : IsParted end (take (length rs - s) (drop s rs)) n =
    IsPartitionPoint-from_clause (λ (r : Run). nat_lt r.start end) (take (length rs - s) (drop s rs)) n c.partition_point-count.ensures.partitioned behind (λ a r q k. search rules) in
    ap (take n) rest ∙ part_is base c.args.blocks rs s n first (subst (λ (xs : List Run). IsParted end xs n) rest second)
