-- A new volume with the files of a protofile, as its image says it.
use Rattle.std.specs.Prelude.{◌≡◌, ℕ, List, length, Ok}
use Rattle.xfs_disk.specs.Blocks.{Image}
use Rattle.xfs_disk.specs.declared.stamp.Stamp.{Stamp}
use Rattle.xfs_geom.specs.Volumes.{volume_of}
use Rattle.xfs_geom.specs.declared.geometry.Geometry.{Geometry}
use Rattle.xfs_laws.specs.Lawful.{broken_law}
use Rattle.xfs_image.specs.Consistent.{IsConsistent}
use Rattle.xfs_image.specs.View.{view}
use Rattle.xfs_place.specs.declared.placed.Placed.{Placed}
use Rattle.xfs_empty.specs.Planning.{StandsFor}
use Rattle.xfs_made.specs.Volumes.{Checksums}
use Rattle.xfs_proto.specs.declared.protofile.ProtoNode.{ProtoNode}
use Rattle.xfs_filled.specs.Chunks.{chunk_starts}
use Rattle.xfs_filled.specs.Wanting.{filled_wanted}
use Rattle.xfs_populated.specs.Bytes.{HaveTheirBytes}
use Rattle.xfs_populated.specs.Populated.{filled_catalog}

-- an image says just the files of a protofile, it is consistent, and each regular file has its bytes
pub record IsFilledVolume (g : Geometry) (s : Stamp) (ns : List ProtoNode) (contents : List (List ℕ)) (image : Image) : Type 0 where
  pub placed : Placed
  pub crcs : Checksums
  pub stands : StandsFor (filled_wanted g ns contents) placed
  pub says : view g image ≡ Ok (filled_catalog g s ns contents placed crcs)
  pub consistent : IsConsistent broken_law g image
  pub bytes : HaveTheirBytes (volume_of g) s (chunk_starts g (length ns)) ns contents placed.runs crcs.slot image
