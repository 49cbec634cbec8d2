use Rattle.std.proofs.Common.{rules}
use lib.Dec.{ltb}
use Rattle.std.proofs.lemmas.List.Sorted.{IsPartitionPoint-from_clause, IsPartitionedBy-ltb}
use Rattle.xfs_naming.proofs.Placing.{place_of_point}
use Rattle.xfs_naming.proofs.runs.place_of.Goals as goal

pub returns-clause-place : goal.returns-clause-place
returns-clause-place g c =
    let xs = c.args.records.now in
    let s = c.partition_point.result in
    let key = g.T.Numbered.key in
    place_of_point key c.args.number xs s
    (IsPartitionPoint-from_clause (λ y. ltb (key y) c.args.number) xs s c.partition_point.ensures.partitioned (IsPartitionedBy-ltb key xs c.args.number c.requires) (λ a r q k. search rules))
