-- The objects of a new volume: the blocks of directories that are not short, and behind these those of files and of long targets.
use Rattle.std.specs.Prelude.{ℕ, ◌+◌, ◌/◌, ◌==◌, min, nat_le, if◌then◌else◌, List, [], ◌∷◌, ◌++◌, length, slice_index_or, Option, Some, None}
use Rattle.std.specs.List.{flat_map}
use Rattle.xfs_geom.specs.Volumes.{Volume}
use Rattle.xfs_place.specs.declared.wanted.Object.{Object}
use Rattle.xfs_place.specs.declared.wanted.ObjectKind.{ObjectKind}
use Rattle.xfs_place.specs.declared.wanted.ObjectKind.TheVariants as kinds
use Rattle.xfs_place.specs.declared.wanted.RunAsk.{RunAsk}
use Rattle.xfs_proto.specs.declared.protofile.ProtoKind.{ProtoKind}
use Rattle.xfs_proto.specs.declared.protofile.ProtoKind.TheVariants as Kind
use Rattle.xfs_proto.specs.declared.protofile.ProtoNode.{ProtoNode}
use Rattle.xfs_filled.specs.FileTrees.{node_at, object_order}
use Rattle.xfs_filled.specs.Directories.{made_directory_at, fresh_fork_bytes}
use Rattle.xfs_filled.specs.Numbers.{number_of}
use Rattle.xfs_filled.specs.declared.directories.MadeDirectory.{MadeDirectory}

-- the bytes of the file at a place
abbrev pub content_at : List (List ℕ) → ℕ → List ℕ
content_at contents k = slice_index_or contents k []

-- the blocks that so many bytes ask for; no more than a run can have
abbrev pub blocks_of_length : ℕ → ℕ
blocks_of_length bytes = min ((bytes + 4095) / 4096) 0xffff_ffff

-- a run of so many blocks, where there are some
abbrev pub run_of : ℕ → ℕ → ℕ → List RunAsk
run_of blocks owner offset = if blocks == 0 then [] else record { blocks = blocks; owner = owner; offset_word = offset } ∷ []

-- the data, index and free blocks of a directory
abbrev pub directory_runs : ℕ → Option MadeDirectory → List RunAsk
directory_runs ino None = []
directory_runs ino (Some d) = run_of d.data_blocks ino 0 ++ (run_of d.index_blocks ino 0x800000 ++ run_of d.free_blocks ino 0x1000000)

-- a target that is too long for the inode has a block
abbrev pub target_blocks : List ℕ → ℕ
target_blocks target = if nat_le (length target) fresh_fork_bytes then 0 else 1

-- the runs that a file asks for, by its kind
abbrev pub runs_of_kind : ProtoKind → Option MadeDirectory → List ℕ → ℕ → List RunAsk
runs_of_kind (Kind.Regular name line) made content ino = run_of (blocks_of_length (length content)) ino 0
runs_of_kind Kind.Directory made content ino = directory_runs ino made
runs_of_kind (Kind.Link target) made content ino = run_of (target_blocks target) ino 0
runs_of_kind (Kind.Block major minor) made content ino = []
runs_of_kind (Kind.Character major minor) made content ino = []
runs_of_kind Kind.Pipe made content ino = []

abbrev pub object_kind : ProtoKind → ObjectKind
object_kind (Kind.Regular name line) = kinds.Data
object_kind Kind.Directory = kinds.Directory
object_kind (Kind.Link target) = kinds.Symlink
object_kind (Kind.Block major minor) = kinds.Data
object_kind (Kind.Character major minor) = kinds.Data
object_kind Kind.Pipe = kinds.Data

-- an object of runs, where there are some
abbrev pub object_with_runs : ObjectKind → ℕ → List RunAsk → List Object
object_with_runs kind ino [] = []
object_with_runs kind ino (run ∷ runs) = record { ino = ino; kind = kind; runs = run ∷ runs; most = 21 } ∷ []

module _ (v : Volume) (starts : List ℕ) (ns : List ProtoNode) (contents : List (List ℕ)) where
  -- the runs that the file at a place asks for
  abbrev pub runs_at : ℕ → List RunAsk
  runs_at k = runs_of_kind (node_at ns k).kind (made_directory_at v starts ns k) (content_at contents k) (number_of v starts k)

  -- its object, where it has blocks
  abbrev pub objects_of_place : ℕ → List Object
  objects_of_place k = object_with_runs (object_kind (node_at ns k).kind) (number_of v starts k) (runs_at k)

  -- all objects
  unfoldable pub all_objects : List Object
  all_objects = flat_map objects_of_place (object_order ns)
