-- Files that have their bytes by one name.
use Rattle.std.specs.Prelude.{◌≡◌, ℕ, ◌<◌, Bool, false, List, [], length, slice_index_or, Some}
use Rattle.std.specs.Str.{bytes_eq}
use Rattle.xfs_disk.specs.Files.{Files}
use Rattle.xfs_proto.specs.declared.protofile.ProtoKind.{ProtoKind}
use Rattle.xfs_proto.specs.declared.protofile.ProtoKind.TheVariants as Kind
use Rattle.xfs_proto.specs.declared.protofile.ProtoNode.{ProtoNode}
use Rattle.xfs_filled.specs.FileTrees.{node_at}
use Rattle.xfs_mkfs.specs.FilesAsked.{content_in}

-- a file has its bytes by this name
abbrev pub is_so_named : ProtoKind → List ℕ → Bool
is_so_named (Kind.Regular own line) name = bytes_eq own name
is_so_named Kind.Directory name = false
is_so_named (Kind.Link target) name = false
is_so_named (Kind.Block major minor) name = false
is_so_named (Kind.Character major minor) name = false
is_so_named Kind.Pipe name = false

-- two files have their bytes by one name
abbrev pub have_one_name : ProtoKind → ProtoKind → Bool
have_one_name (Kind.Regular name line) other = is_so_named other name
have_one_name Kind.Directory other = false
have_one_name (Kind.Link target) other = false
have_one_name (Kind.Block major minor) other = false
have_one_name (Kind.Character major minor) other = false
have_one_name Kind.Pipe other = false

-- these are the bytes of the first files
abbrev pub AreContents : Files → List ProtoNode → List (List ℕ) → Type 0
AreContents map nodes contents = (j : ℕ) → j < length contents → content_in map (node_at nodes j).kind ≡ Some (slice_index_or contents j [])

-- the bytes are those of a file, and the file at place k has the same, whatever a library has
pub record IsContentBefore (nodes : List ProtoNode) (contents : List (List ℕ)) (k : ℕ) (bytes : List ℕ) : Type 0 where
  pub place : ℕ
  pub before : place < length contents
  pub is : bytes ≡ slice_index_or contents place []
  pub same : (map : Files) → content_in map (node_at nodes place).kind ≡ content_in map (node_at nodes k).kind
