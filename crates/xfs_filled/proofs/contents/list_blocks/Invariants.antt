use Rattle.std.proofs.Common.{◌≡◌, take}
use Rattle.std.specs.List.{flat_map}
use Rattle.xfs_geom.specs.Volumes.{volume_of}
use Rattle.xfs_filled.specs.Contents.{blocks_of_place}
use Rattle.xfs_filled.proofs.contents.list_blocks.Given as goal

abbrev pub invariant-loop-k : goal.invariant-loop-k
invariant-loop-k l = record {
  all : l.bank ≡ flat_map (blocks_of_place (volume_of l.site.geometry.now) l.site.starts.now l.site.nodes.now l.site.contents.now) (take l.k-index l.site.order.now);
}
