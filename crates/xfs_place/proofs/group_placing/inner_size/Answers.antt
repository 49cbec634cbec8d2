use Rattle.std.proofs.Common.{◌≡◌, ◌+◌, ◌≤◌, length, List, ◌∙◌, ap, ap₂, arith}
use Rattle.std.specs.List.{filter}
use Rattle.std.proofs.lemmas.List.Sums.{count_by-le-length, length-filter}
use Rattle.xfs_geom.specs.Sums.{has_free}
use Rattle.xfs_geom.specs.declared.records.InoRec.{InoRec}
use Rattle.xfs_place.specs.Choice.{blocks_of_size}
use Rattle.xfs_place.proofs.group_placing.inner_size.Goals as goal

few : (inodes free : List InoRec) → free ≡ filter has_free inodes → length free ≤ length inodes
few inodes free is = omega (arith, ap length is, length-filter has_free inodes, count_by-le-length has_free inodes)

pub tree_blocks-requires-2-clause-records : goal.tree_blocks-requires-2-clause-records
tree_blocks-requires-2-clause-records c = omega (arith, few c.args.inodes.now c.args.free.now c.requires.free, c.requires.few)

pub returns-clause-value : goal.returns-clause-value
returns-clause-value c =
    ap₂ ◌+◌ c.tree_blocks.ensures.value (c.tree_blocks-2.ensures.value ∙ ap (blocks_of_size 252 505) (ap length c.requires.free))

pub returns-clause-small : goal.returns-clause-small
returns-clause-small c =
    omega (arith, c.tree_blocks.ensures.small, c.tree_blocks-2.ensures.small, few c.args.inodes.now c.args.free.now c.requires.free, c.requires.few)
