-- The blocks of a group on which nothing new is placed, since a tree that reads, or bytes alone, may still name them as a tree's or
-- as inodes.
use Rattle.std.specs.Prelude.{ℕ, Bool, false, not, ◌/◌, ◌==◌, ◌&&◌, ◌||◌, List, Option, Some, None}
use Rattle.std.specs.List.{filter, list_any, range_with_len}
use Rattle.std.specs.Option.{option_and_then}
use Rattle.xfs_word.specs.Seal.{is_sealed}
use Rattle.xfs_word.specs.declared.kinds.SealKind.TheVariants as Kind
use Rattle.xfs_disk.specs.Blocks.{Image, bytes_of_block}
use Rattle.xfs_geom.specs.Conversions.{group_length}
use Rattle.xfs_geom.specs.Volumes.{Volume}
use Rattle.xfs_inode.specs.xfs_tree.Reading.{Contents}
use Rattle.xfs_image.specs.Candidates.{is_used_slot, whole_seal}
use Rattle.xfs_image.specs.Claims.{is_of_cluster}
use Rattle.xfs_image.specs.Clusters.{is_trusted, named_by_chunks, named_by_owners}
use Rattle.xfs_image.specs.Groups.{agf_at, agi_at, head_block, ino_at, rmap_at}
use Rattle.xfs_image.specs.Slots.{inodes_of_block}

-- the block is one of a tree that reads
abbrev pub is_of_tree : {R : Type 0} → Option (Contents R) → ℕ → Bool
is_of_tree None block = false
is_of_tree (Some tree) block = list_any (λ other. other == block) tree.blocks

-- the block is one of a cluster that a tree that reads names
abbrev pub is_of_named : Option (List ℕ) → ℕ → Bool
is_of_named None block = false
is_of_named (Some clusters) block = list_any (λ cluster. is_of_cluster cluster block) clusters

-- the tree of chunks or that of owners reads, and the block is one of it or of a cluster that it names
unfoldable pub is_held_by_trees : Volume → Image → ℕ → Bool
is_held_by_trees v image block =
    let ag = block / v.agblocks in
    is_of_tree (option_and_then (ino_at v image ag) (agi_at v image ag)) block
    || is_of_tree (option_and_then (rmap_at v image ag) (agf_at v image ag)) block
    || is_of_named (named_by_chunks v image ag) block
    || is_of_named (named_by_owners v image ag) block

-- the block is sealed as one of the tree of chunks or that of owners of its group, or a slot in it is sealed and holds a file
unfoldable pub is_held_by_bytes : Volume → Image → ℕ → Bool
is_held_by_bytes v image block =
    is_sealed (whole_seal v block (Kind.ShortTree 0x4941_4233)) (bytes_of_block image block)
    || is_sealed (whole_seal v block (Kind.ShortTree 0x524d_4233)) (bytes_of_block image block)
    || list_any (is_used_slot v image) (inodes_of_block v block)

-- nothing new is placed on the block: bytes alone count in a group that is not trusted
unfoldable pub is_reserved : Volume → Image → ℕ → Bool
is_reserved v image block =
    is_held_by_trees v image block || (not (is_trusted v image (block / v.agblocks)) && is_held_by_bytes v image block)

-- these blocks of a group, in order
unfoldable pub reserved_in : Volume → Image → ℕ → List ℕ
reserved_in v image ag = filter (is_reserved v image) (range_with_len (head_block v ag) (group_length v ag))
