use Rattle.std.proofs.Common.{◌∙◌, sym}
use Rattle.xfs_names.specs.Place.{is_free_inode, inodes_from}
use Rattle.xfs_names.proofs.Finding.{part_found, part_passed}
use Rattle.xfs_names.proofs.place.free_inode.Goals as goal

pub loop-first-preserved : goal.loop-first-preserved
loop-first-preserved c = part_passed (is_free_inode c.args.nodes.now c.args.root) inodes_from c.args.clusters.now c.loop-first.first-index c.free_in_cluster-free.result c.loop-first-test.true (sym c.is_some.ensures ∙ c.if-is_some.false) c.free_in_cluster-free.ensures ∙ c.loop-first.invariant

pub returns-then-is_some : goal.returns-then-is_some
returns-then-is_some c = part_found (is_free_inode c.args.nodes.now c.args.root) inodes_from c.args.clusters.now c.loop-first.first-index c.free_in_cluster-free.result c.loop-first-test.true (sym c.is_some.ensures ∙ c.if-is_some.true) c.free_in_cluster-free.ensures ∙ c.loop-first.invariant
