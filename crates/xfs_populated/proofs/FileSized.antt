-- The directories of a new volume are sound.
use Rattle.std.proofs.Common.{◌≡◌, ℕ, Bool, true, false, cond, ◌+◌, List, length, Some, None, arith}
use Rattle.xfs_dirdata.specs.declared.records.EntryRec.{EntryRec}
use Rattle.xfs_dirbuild.specs.Blocks.{dir_blocks}
use Rattle.xfs_dirbuild.specs.Forms.{data_blocks_of, form_of, free_blocks_of, index_blocks_of}
use Rattle.xfs_built.proofs.Sized.{length_blocks}
use Rattle.xfs_geom.specs.Volumes.{volume_of}
use Rattle.xfs_geom.specs.declared.geometry.Geometry.{Geometry}
use Rattle.xfs_proto.specs.declared.protofile.ProtoNode.{ProtoNode}
use Rattle.xfs_filled.specs.Directories.{IsSoundWhere, made_directory_at, made_directory}
use Rattle.xfs_filled.specs.Entries.{entries_at, parent_of_place}
use Rattle.xfs_filled.specs.FileTrees.{AreProtoNodes, is_directory_node}
use Rattle.xfs_filled.specs.Numbers.{number_of}
use Rattle.xfs_filled.specs.Sites.{AreChunksPlaced}
use Rattle.xfs_filled.proofs.Entering.{entries_few, entries_writable}
use Rattle.xfs_filled.proofs.Made.{made_sound}

-- the directories of a new volume are sound
pub sound_at : (g : Geometry) (starts : List ℕ) (ns : List ProtoNode) (k : ℕ) → AreChunksPlaced g starts ns → AreProtoNodes ns → IsSoundWhere (made_directory_at (volume_of g) starts ns k)
sound_at g starts ns k placed files = by_case (is_directory_node ns k)
  where
    es : List EntryRec
    es = entries_at (volume_of g) starts ns k

    counted : length (dir_blocks (form_of es 336) (number_of (volume_of g) starts k) (parent_of_place (volume_of g) starts ns k) es)
        ≡ data_blocks_of (form_of es 336) es + (index_blocks_of (form_of es 336) es + free_blocks_of (form_of es 336) es)
    counted = let all = length_blocks (form_of es 336) (number_of (volume_of g) starts k) (parent_of_place (volume_of g) starts ns k) es in omega (arith, all)

    by_case : (t : Bool) → IsSoundWhere (cond t (Some (made_directory (entries_at (volume_of g) starts ns k) (number_of (volume_of g) starts k) (parent_of_place (volume_of g) starts ns k))) None)
    by_case true =
        made_sound (entries_at (volume_of g) starts ns k) (number_of (volume_of g) starts k) (parent_of_place (volume_of g) starts ns k) (entries_writable g starts ns k placed files) (entries_few (volume_of g) starts ns k files) counted
    by_case false = tt
