use Rattle.std.proofs.Common.{ltb, rules, ◌∙◌, sym, ap, if◌then◌else◌}
use Rattle.std.specs.List.{insert}
use Rattle.std.proofs.lemmas.List.Sorted.{IsPartitionPoint-from_clause, IsPartitionedBy-ltb}
use Rattle.xfs_links.specs.declared.records.NodeRec.{NodeRec}
use Rattle.xfs_names.specs.Wanted.{directory_node, with_directory}
use Rattle.xfs_names.proofs.ByNumber.{nodes_rise}
use Rattle.xfs_names.proofs.Adding.{inserted}
use Rattle.xfs_names.proofs.joining.with_lost.Goals as goal

pub returns : goal.returns
returns c =
    let at = IsPartitionPoint-from_clause (λ (y : NodeRec). ltb y.ino c.args.new) c.args.nodes.now c.partition_point-place.result c.partition_point-place.ensures.partitioned (IsPartitionedBy-ltb (λ (y : NodeRec). y.ino) c.args.nodes.now c.args.new (nodes_rise c.args.nodes.now c.requires)) (λ a r q k. search rules) in
    c.in_ok-insert.ensures.items
    ∙ ap (λ xs. insert xs c.partition_point-place.result (directory_node c.args.new)) c.in_ok-all.ensures.items
    ∙ inserted c.args.new c.args.nodes.now c.partition_point-place.result c.partition_point-place.ensures.bound at
    ∙ sym (ap (λ t. if t then with_directory c.args.new c.args.nodes.now else c.args.nodes.now) c.if-not-adds.false)
