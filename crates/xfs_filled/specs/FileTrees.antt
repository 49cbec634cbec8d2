-- The files of a new volume, by their places: the root first, each behind its directory.
use Rattle.std.specs.Prelude.{◌≡◌, ◌≢◌, ℕ, true, false, Bool, not, if◌then◌else◌, ◌++◌, ◌-◌, ◌/◌, ◌^◌, ◌==◌, ◌≤◌, ◌<◌, List, [], length, slice_index_or}
use Rattle.std.specs.List.{filter, range_with_len}
use Rattle.xfs_volume.specs.Names.{is_name}
use Rattle.xfs_proto.specs.declared.protofile.ProtoKind.{ProtoKind}
use Rattle.xfs_proto.specs.declared.protofile.ProtoKind.TheVariants as Kind
use Rattle.xfs_proto.specs.declared.protofile.ProtoNode.{ProtoNode}

abbrev pub no_proto_node : ProtoNode
no_proto_node = record { parent = 0; name = []; mode = 0; uid = 0; gid = 0; kind = Kind.Pipe }

-- the file at a place
abbrev pub node_at : List ProtoNode → ℕ → ProtoNode
node_at ns k = slice_index_or ns k no_proto_node

abbrev pub is_directory_kind : ProtoKind → Bool
is_directory_kind (Kind.Regular name line) = false
is_directory_kind Kind.Directory = true
is_directory_kind (Kind.Link target) = false
is_directory_kind (Kind.Block major minor) = false
is_directory_kind (Kind.Character major minor) = false
is_directory_kind Kind.Pipe = false

-- whether the file at a place is a directory
abbrev pub is_directory_node : List ProtoNode → ℕ → Bool
is_directory_node ns k = is_directory_kind (node_at ns k).kind

-- the places of the entries of the directory at a place, in order
abbrev pub child_places : List ProtoNode → ℕ → List ℕ
child_places ns k = filter (λ i. (node_at ns i).parent == k) (range_with_len 1 (length ns - 1))

-- a file is a directory, or it is none
abbrev pub is_of : Bool → ProtoKind → Bool
is_of directories kind = if directories then is_directory_kind kind else not (is_directory_kind kind)

-- the places in the order in which files get blocks: all directories, and behind them all other files
abbrev pub places_of_kind : List ProtoNode → Bool → List ℕ
places_of_kind ns directories = filter (λ k. is_of directories (node_at ns k).kind) (range_with_len 0 (length ns))

abbrev pub object_order : List ProtoNode → List ℕ
object_order ns = places_of_kind ns true ++ places_of_kind ns false

-- the type that a mode states is the one of the file (chapter "On-disk Inode")
abbrev pub type_of_kind : ProtoKind → ℕ
type_of_kind (Kind.Regular name line) = 8
type_of_kind Kind.Directory = 4
type_of_kind (Kind.Link target) = 10
type_of_kind (Kind.Block major minor) = 6
type_of_kind (Kind.Character major minor) = 2
type_of_kind Kind.Pipe = 1

-- the content of a file can be written: a target has 1 to 1024 bytes, the numbers of a device 14 and 18 bits
abbrev pub CanHold : ProtoKind → Type 0
CanHold (Kind.Regular name line) = Unit {0}
CanHold Kind.Directory = Unit {0}
CanHold (Kind.Link target) = (1 ≤ length target) × (length target ≤ 1024)
CanHold (Kind.Block major minor) = (major < 2 ^ 14) × (minor < 2 ^ 18)
CanHold (Kind.Character major minor) = (major < 2 ^ 14) × (minor < 2 ^ 18)
CanHold Kind.Pipe = Unit {0}

-- a file behind the root stands behind its directory, under a name that it can have
pub record IsBelow (ns : List ProtoNode) (i : ℕ) : Type 0 where
  pub behind : (node_at ns i).parent < i
  pub directory : is_directory_node ns (node_at ns i).parent ≡ true
  pub name : is_name (node_at ns i).name ≡ true

-- what the files of a new volume keep: the root is a directory, the others stand behind theirs, names of one directory differ, no
-- directory has more than 2^24 entries, modes state the types, and what each holds can be written
pub record AreProtoNodes (ns : List ProtoNode) : Type 0 where
  pub some : 1 ≤ length ns
  pub root : is_directory_node ns 0 ≡ true
  pub itself : (node_at ns 0).parent ≡ 0
  pub below : (i : ℕ) → 1 ≤ i → i < length ns → IsBelow ns i
  pub names : (i j : ℕ) → 1 ≤ i → i < j → j < length ns → (node_at ns i).parent ≡ (node_at ns j).parent → (node_at ns i).name ≢ (node_at ns j).name
  pub few : (k : ℕ) → length (child_places ns k) ≤ 2 ^ 24
  pub types : (k : ℕ) → k < length ns → (node_at ns k).mode / 2 ^ 12 ≡ type_of_kind (node_at ns k).kind
  pub contents : (k : ℕ) → k < length ns → CanHold (node_at ns k).kind
