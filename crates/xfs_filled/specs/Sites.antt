-- The files of a new volume, with the chunks that have their inodes.
use Rattle.std.specs.Prelude.{◌≡◌, ℕ, ◌+◌, ◌*◌, ◌≤◌, ◌<◌, ◌^◌, List, length, map, Option, slice_index_or}
use Rattle.std.specs.List.{All, range_with_len}
use Rattle.xfs_geom.specs.Volumes.{volume_of}
use Rattle.xfs_geom.specs.declared.geometry.Geometry.{Geometry}
use Rattle.xfs_proto.specs.declared.protofile.ProtoNode.{ProtoNode}
use Rattle.xfs_filled.specs.Directories.{HaveDirectoryImages, IsSoundWhere, made_directory_at}
use Rattle.xfs_filled.specs.FileTrees.{AreProtoNodes, object_order}
use Rattle.xfs_filled.specs.declared.directories.MadeDirectory.{MadeDirectory}

-- the chunks lie in the volume, one behind the other, and have an inode for each file and two for the system
pub record AreChunksPlaced (g : Geometry) (starts : List ℕ) (ns : List ProtoNode) : Type 0 where
  pub volume : All (λ start. start + 8 ≤ g.dblocks) starts
  pub ascend : (i j : ℕ) → i < j → j < length starts → slice_index_or starts i 0 + 8 ≤ slice_index_or starts j 0
  pub few : length starts < 2 ^ 32
  pub enough : length ns + 2 ≤ 64 * length starts

-- the files with their bytes, the directories among them as they are built, and the order in which they get blocks
pub record IsSite (g : Geometry) (starts : List ℕ) (ns : List ProtoNode) (contents : List (List ℕ)) (directories : List (Option MadeDirectory)) (order : List ℕ) : Type 0 where
  pub placed : AreChunksPlaced g starts ns
  pub files : AreProtoNodes ns
  pub bytes : length contents ≡ length ns
  pub built : directories ≡ map (made_directory_at (volume_of g) starts ns) (range_with_len 0 (length ns))
  pub sound : All IsSoundWhere directories
  pub images : HaveDirectoryImages (volume_of g) starts ns
  pub order' : order ≡ object_order ns
