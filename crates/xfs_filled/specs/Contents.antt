-- The blocks of objects, before they get places and seals (chapters "Directories" and "Symbolic Links").
use Rattle.std.specs.Prelude.{ℕ, ◌+◌, ◌-◌, ◌*◌, min, nat_le, if◌then◌else◌, List, [], ◌∷◌, ◌++◌, length, map, slice_range, Option, Some, None}
use Rattle.std.specs.List.{flat_map, range_with_len}
use Rattle.xfs_dirdata.specs.Bytes.{big_endian}
use Rattle.xfs_geom.specs.Volumes.{Volume}
use Rattle.xfs_word.specs.Field.{zeros}
use Rattle.xfs_proto.specs.declared.protofile.ProtoKind.{ProtoKind}
use Rattle.xfs_proto.specs.declared.protofile.ProtoKind.TheVariants as Kind
use Rattle.xfs_proto.specs.declared.protofile.ProtoNode.{ProtoNode}
use Rattle.xfs_filled.specs.FileTrees.{node_at, object_order}
use Rattle.xfs_filled.specs.Directories.{made_directory_at, fresh_fork_bytes}
use Rattle.xfs_filled.specs.Objects.{blocks_of_length, content_at}
use Rattle.xfs_filled.specs.declared.directories.MadeDirectory.{MadeDirectory}

-- the part of some bytes that stands in block i, and that block: zeros stand behind it
abbrev pub part_at : List ℕ → ℕ → List ℕ
part_at bytes i = slice_range bytes (4096 * i) (min (length bytes) (4096 * i + 4096))

abbrev pub padded : List ℕ → List ℕ
padded part = part ++ zeros (4096 - length part)

abbrev pub content_block : List ℕ → ℕ → List ℕ
content_block bytes i = padded (part_at bytes i)

abbrev pub content_blocks : List ℕ → List (List ℕ)
content_blocks bytes = map (content_block bytes) (range_with_len 0 (blocks_of_length (length bytes)))

-- the block of a target: the magic number, byte 0 of the target on, how many bytes it has, the seal, the target, and zeros
abbrev pub target_head : List ℕ → List ℕ
target_head target = big_endian 4 0x58534c4d ++ (big_endian 4 0 ++ (big_endian 4 (length target) ++ zeros 44))

abbrev pub block_of_target : List ℕ → List ℕ
block_of_target target = padded (target_head target ++ target)

abbrev pub blocks_in : Option MadeDirectory → List (List ℕ)
blocks_in None = []
blocks_in (Some d) = d.blocks

-- the blocks of a file, by its kind
abbrev pub blocks_of_kind : ProtoKind → Option MadeDirectory → List ℕ → List (List ℕ)
blocks_of_kind (Kind.Regular name line) made content = content_blocks content
blocks_of_kind Kind.Directory made content = blocks_in made
blocks_of_kind (Kind.Link target) made content = if nat_le (length target) fresh_fork_bytes then [] else block_of_target target ∷ []
blocks_of_kind (Kind.Block major minor) made content = []
blocks_of_kind (Kind.Character major minor) made content = []
blocks_of_kind Kind.Pipe made content = []

module _ (v : Volume) (starts : List ℕ) (ns : List ProtoNode) (contents : List (List ℕ)) where
  -- the blocks of the file at a place
  abbrev pub blocks_of_place : ℕ → List (List ℕ)
  blocks_of_place k = blocks_of_kind (node_at ns k).kind (made_directory_at v starts ns k) (content_at contents k)

  -- those of all files, in the order of their objects
  unfoldable pub all_blocks : List (List ℕ)
  all_blocks = flat_map blocks_of_place (object_order ns)
