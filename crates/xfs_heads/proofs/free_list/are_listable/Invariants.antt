use Rattle.std.proofs.Common.{◌≡◌, drop}
use Rattle.std.specs.List.{list_all}
use Rattle.xfs_geom.specs.Volumes.{volume_of}
use Rattle.xfs_heads.specs.Heads.{is_listable}
use Rattle.xfs_heads.proofs.free_list.are_listable.Given as goal

abbrev pub invariant-loop-ag_block : goal.invariant-loop-ag_block
invariant-loop-ag_block l =
    list_all (is_listable (volume_of l.g) l.ag) (drop l.ag_block-index l.ag_blocks) ≡ list_all (is_listable (volume_of l.g) l.ag) l.ag_blocks
