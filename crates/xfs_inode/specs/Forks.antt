-- The forks of an inode as they stand in its slot: extents, and the root of a tree of extents (chapter "Data Extents").
use Rattle.std.specs.Prelude.{ℕ, Bool, true, false, not, ◌+◌, ◌-◌, ◌*◌, ◌/◌, ◌==◌, ◌&&◌, nat_le, nat_lt, if◌then◌else◌, List, Option, Some, None}
use Rattle.std.specs.List.{list_all, range_with_len}
use Rattle.xfs_word.specs.Field.{field_of, part_of}
use Rattle.xfs_word.specs.declared.extents.Extent.{Extent}
use Rattle.xfs_geom.specs.Conversions.{block_at}
use Rattle.xfs_geom.specs.Volumes.{Volume}
use Rattle.xfs_tree.specs.Blocks.{each_of, number_or_ones}
use Rattle.xfs_kinds.specs.FileTrees.{extent_of}
use Rattle.xfs_volume.specs.declared.cores.Core.{Core}
use Rattle.xfs_inode.specs.Slots.{attribute_start, fork_bytes}

-- the type of a file, in the upper four bits of its mode
abbrev pub core_type : Core → ℕ
core_type core = core.mode / 4096

-- extent i of the data fork
abbrev pub fork_extent : List ℕ → ℕ → Extent
fork_extent slot i = extent_of (part_of slot (176 + 16 * i) 16)

-- the root of a tree in the data fork: its level, how many children it has, their keys, and from where the keys of a
-- full root end their addresses
abbrev pub root_level : List ℕ → ℕ
root_level slot = field_of slot 176 2

abbrev pub root_count : List ℕ → ℕ
root_count slot = field_of slot 178 2

abbrev pub root_capacity : ℕ → ℕ
root_capacity forkoff = (fork_bytes forkoff - 4) / 16

abbrev pub root_key : List ℕ → ℕ → ℕ
root_key slot i = field_of slot (180 + 8 * i) 8

abbrev pub root_pointer : ℕ → List ℕ → ℕ → ℕ
root_pointer capacity slot i = field_of slot (180 + 8 * capacity + 8 * i) 8

-- each key is above the one in front of it
unfoldable pub keys_ascend : List ℕ → Bool
keys_ascend slot = list_all (λ i. nat_lt (root_key slot (i - 1)) (root_key slot i)) (range_with_len 1 (root_count slot - 1))

-- there is a block
abbrev pub names_block : Option ℕ → Bool
names_block None = false
names_block (Some block) = true

-- each address is one of the volume
unfoldable pub are_addresses : Volume → ℕ → List ℕ → Bool
are_addresses v capacity slot = list_all (λ i. names_block (block_at v (root_pointer capacity slot i))) (range_with_len 0 (root_count slot))

-- a root has one to nine levels under it, and one child up to its capacity
abbrev pub has_children : ℕ → List ℕ → Bool
has_children capacity slot =
    nat_le 1 (root_level slot) && nat_le (root_level slot) 9 && nat_le 1 (root_count slot) && nat_le (root_count slot) capacity

-- the root of a data fork that lies inside the slot keeps the rules
abbrev pub is_fork_root : Volume → Core → List ℕ → Bool
is_fork_root v core slot =
    nat_le core.forkoff 41
    && has_children (root_capacity core.forkoff) slot
    && keys_ascend slot
    && are_addresses v (root_capacity core.forkoff) slot

-- the level under a root: its blocks, the keys that the root states, and its number
pub record Top : Type 0 where
  pub places : List ℕ
  pub lows : List ℕ
  pub level : ℕ

abbrev pub place_under : Volume → ℕ → List ℕ → ℕ → ℕ
place_under v capacity slot i = number_or_ones (block_at v (root_pointer capacity slot i))

abbrev pub level_under : Volume → ℕ → List ℕ → Top
level_under v capacity slot = record {
  places = each_of (root_count slot) (place_under v capacity slot);
  lows = each_of (root_count slot) (root_key slot);
  level = root_level slot - 1;
}

-- the level under the root of a data fork in tree format, where the root keeps the rules
abbrev pub top_of : Volume → Core → List ℕ → Option Top
top_of v core slot = if core.format == 3 && is_fork_root v core slot then Some (level_under v (root_capacity core.forkoff) slot) else None

-- the block of an extent of one block, where it lies in the volume
abbrev pub only_block : Volume → Extent → Option ℕ
only_block v e = if e.count == 1 then block_at v e.start else None

-- the attribute fork has one extent, and it lies inside the slot
abbrev pub has_attr_extent : Core → Bool
has_attr_extent core =
    not (core.forkoff == 0) && core.aformat == 2 && core.anextents == 1 && nat_le (attribute_start core.forkoff + 16) 512

abbrev pub attr_extent : Core → List ℕ → Extent
attr_extent core slot = extent_of (part_of slot (attribute_start core.forkoff) 16)

-- the block of a leaf of attributes
abbrev pub attr_place : Volume → Core → List ℕ → Option ℕ
attr_place v core slot = if has_attr_extent core then only_block v (attr_extent core slot) else None

-- the data fork of a symbolic link has one extent, and it lies inside the fork
abbrev pub has_link_extent : Core → Bool
has_link_extent core =
    core_type core == 10 && core.format == 2 && core.nextents == 1 && nat_le core.forkoff 41 && nat_le 16 (fork_bytes core.forkoff)

-- the block of a symbolic link's target
abbrev pub link_place : Volume → Core → List ℕ → Option ℕ
link_place v core slot = if has_link_extent core then only_block v (fork_extent slot 0) else None
