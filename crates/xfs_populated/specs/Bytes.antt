-- The bytes of the regular files of a new volume.
use Rattle.std.specs.Prelude.{◌≡◌, ℕ, ◌<◌, Bool, true, false, List, length}
use Rattle.xfs_disk.specs.Blocks.{Image}
use Rattle.xfs_disk.specs.declared.stamp.Stamp.{Stamp}
use Rattle.xfs_geom.specs.Volumes.{Volume}
use Rattle.xfs_geom.specs.declared.records.Run.{Run}
use Rattle.xfs_image.specs.Keeping.{file_bytes}
use Rattle.xfs_proto.specs.declared.protofile.ProtoKind.{ProtoKind}
use Rattle.xfs_proto.specs.declared.protofile.ProtoKind.TheVariants as Kind
use Rattle.xfs_proto.specs.declared.protofile.ProtoNode.{ProtoNode}
use Rattle.xfs_filled.specs.FileTrees.{node_at}
use Rattle.xfs_filled.specs.Objects.{content_at}
use Rattle.xfs_populated.specs.Populated.{filled_file}

abbrev pub is_regular : ProtoKind → Bool
is_regular (Kind.Regular name line) = true
is_regular Kind.Directory = false
is_regular (Kind.Link target) = false
is_regular (Kind.Block major minor) = false
is_regular (Kind.Character major minor) = false
is_regular Kind.Pipe = false

-- each regular file has the bytes that it was given, from the first to the last
pub record HaveTheirBytes (v : Volume) (s : Stamp) (starts : List ℕ) (ns : List ProtoNode) (contents : List (List ℕ)) (runs : List Run) (crc : ℕ → ℕ) (image : Image) : Type 0 where
  pub each : (k : ℕ) → k < length ns → is_regular (node_at ns k).kind ≡ true → file_bytes v image (filled_file v s starts ns contents runs crc k) ≡ content_at contents k
