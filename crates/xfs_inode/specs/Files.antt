-- What the slot of an inode reads as with the blocks that it names (chapters "On-disk Inode", "Data Extents", "Extended
-- Attributes" and "Symbolic Links").
use Rattle.std.specs.Prelude.{ℕ, Bool, true, false, not, ◌+◌, ◌-◌, ◌*◌, ◌==◌, ◌^◌, ◌&&◌, ◌||◌, nat_le, nat_lt, if◌then◌else◌, List, [], ◌∷◌, ◌++◌, length, map, Option, Some, None, Result, Ok, Err}
use Rattle.std.specs.List.{list_all, sum_by}
use Rattle.xfs_word.specs.Field.{field_of, part_of}
use Rattle.xfs_word.specs.Seal.{is_sealed}
use Rattle.xfs_word.specs.declared.extents.Extent.{Extent}
use Rattle.xfs_word.specs.declared.kinds.Seal.{Seal}
use Rattle.xfs_word.specs.declared.kinds.SealKind.TheVariants as Kind
use Rattle.xfs_geom.specs.Groups.{block_of_address}
use Rattle.xfs_geom.specs.Volumes.{Volume}
use Rattle.xfs_tree.specs.Blocks.{each_of}
use Rattle.xfs_tree.specs.Reading.{Contents}
use Rattle.xfs_tree.specs.declared.tree.Tree.{Tree}
use Rattle.xfs_kinds.specs.declared.file_trees.Bmbt.{Bmbt}
use Rattle.xfs_kinds.specs.FileTrees.{is_extent, follows_offset}
use Rattle.xfs_attr.specs.Leaf.{leaf_of}
use Rattle.xfs_attr.specs.ShortForm.{short_attributes}
use Rattle.xfs_attr.specs.declared.attributes.Attr.{Attr}
use Rattle.xfs_attr.specs.declared.attributes.AttrFault.{AttrFault}
use Rattle.xfs_attr.specs.declared.attributes.AttrFault.TheVariants as Fault
use Rattle.xfs_volume.specs.declared.cores.Core.{Core}
use Rattle.xfs_volume.specs.declared.files.FileRec.{FileRec}
use Rattle.xfs_inode.specs.Slots.{attribute_start, slot_read, fork_bytes}
use Rattle.xfs_inode.specs.Forks.{core_type, fork_extent, attr_extent, attr_place, link_place}
use Rattle.xfs_inode.specs.declared.claims.BlockRange.{BlockRange}
use Rattle.xfs_inode.specs.declared.reading.SlotRead.{SlotRead}
use Rattle.xfs_inode.specs.declared.reading.SlotRead.TheVariants as Read
use Rattle.xfs_inode.specs.declared.files.FileRead.{FileRead}
use Rattle.xfs_inode.specs.declared.files.FileRead.TheVariants as Reads

-- the types of a file: 1 a pipe, 2 a character device, 4 a directory, 6 a block device, 8 a regular file, 10 a symbolic
-- link, 12 a socket; and the formats that a data fork of each type can have
abbrev pub has_format : ℕ → ℕ → Bool
has_format type format =
    if type == 8 then format == 2 || format == 3
    else if type == 4 then format == 1 || format == 2 || format == 3
    else if type == 10 then format == 1 || format == 2
    else if type == 1 || type == 2 || type == 6 || type == 12 then format == 0
    else false

-- the attribute fork begins inside the slot; a directory leaves 48 bytes in front of it
abbrev pub has_forkoff : ℕ → ℕ → Bool
has_forkoff type forkoff = nat_le forkoff 41 && (not (type == 4) || forkoff == 0 || nat_le 6 forkoff)

-- without an attribute fork none is stated
abbrev pub states_no_fork : Core → Bool
states_no_fork core = core.anextents == 0 && (core.aformat == 0 || core.aformat == 2)

-- what a data fork in the inode itself holds fits it, and the target of a symbolic link has some bytes
abbrev pub is_local_whole : Core → Bool
is_local_whole core =
    not (core.format == 1) || (nat_le core.size (fork_bytes core.forkoff) && (not (core_type core == 10) || nat_le 1 core.size))

-- the core of a file
abbrev pub is_core : Core → Bool
is_core core =
    has_format (core_type core) core.format
    && has_forkoff (core_type core) core.forkoff
    && nat_lt core.size (2 ^ 63)
    && (not (core.forkoff == 0) || states_no_fork core)
    && is_local_whole core

-- what a tree of extents that was read holds
abbrev pub contents_of : Tree Bmbt Extent ℕ → Contents Extent
contents_of tree = record { records = tree.records.items; blocks = tree.blocks.items }

-- the extents of the data fork and the blocks of its tree, where the fork reads; a tree is handed in as it reads
abbrev pub extents_held : Core → List ℕ → Option (Contents Extent)
extents_held core slot =
    if nat_le (16 * core.nextents) (fork_bytes core.forkoff)
    then Some (record { records = each_of core.nextents (fork_extent slot); blocks = [] }) else None

abbrev pub tree_held : Core → Option (Contents Extent) → Option (Contents Extent)
tree_held core None = None
tree_held core (Some tree) = if core.nextents == length tree.records then Some tree else None

abbrev pub none_held : Core → Option (Contents Extent)
none_held core = if core.nextents == 0 then Some (record { records = []; blocks = [] }) else None

abbrev pub data_fork : Core → List ℕ → Option (Contents Extent) → Option (Contents Extent)
data_fork core slot tree =
    if core.format == 2 then extents_held core slot else if core.format == 3 then tree_held core tree else none_held core

-- each extent is one of the volume, behind the one in front of it
abbrev pub are_extents : Volume → Option Extent → List Extent → Bool
are_extents v before [] = true
are_extents v before (e ∷ es) = is_extent v e && follows_offset before e && are_extents v (Some e) es

-- each block is one of the volume
abbrev pub are_blocks : Volume → List ℕ → Bool
are_blocks v blocks = list_all (λ block. nat_lt block v.dblocks) blocks

-- what a data fork holds lies in the volume
abbrev pub is_placed : Volume → Contents Extent → Bool
is_placed v held = are_extents v None held.records && are_blocks v held.blocks

-- the blocks of an extent, and of a block of a tree, as a run of block numbers
abbrev pub range_of : Volume → Extent → BlockRange
range_of v e = record {
  start = block_of_address v.agblocks v.agblklog e.start;
  end = block_of_address v.agblocks v.agblklog e.start + e.count;
}

abbrev pub range_of_block : ℕ → BlockRange
range_of_block block = record { start = block; end = block + 1 }

-- all runs of data and of tree blocks
abbrev pub ranges_of : Volume → Contents Extent → List BlockRange
ranges_of v held = map (range_of v) held.records ++ map range_of_block held.blocks

abbrev pub is_apart : BlockRange → BlockRange → Bool
is_apart a b = nat_le a.end b.start || nat_le b.end a.start

-- no block lies in two of the runs
unfoldable pub ranges_apart : List BlockRange → Bool
ranges_apart [] = true
ranges_apart (run ∷ runs) = list_all (is_apart run) runs && ranges_apart runs

-- the blocks of some extents
abbrev pub extent_blocks : List Extent → ℕ
extent_blocks extents = sum_by (λ e. e.count) extents

-- how a block of an index with this magic number, and one of a symbolic link, is sealed
abbrev pub index_seal : Volume → ℕ → ℕ → ℕ → Seal
index_seal v ino magic block = record { kind = Kind.Index magic; place = 8 * block; owner = Some ino; uuid = v.uuid }

abbrev pub link_seal : Volume → ℕ → ℕ → Seal
link_seal v ino block = record { kind = Kind.Symlink; place = 8 * block; owner = Some ino; uuid = v.uuid }

-- the block of a symbolic link, which the first extent of its fork names, holds the whole target
abbrev pub holds_target : Volume → ℕ → Core → List ℕ → ℕ → List ℕ → Bool
holds_target v ino core slot place block =
    nat_le 1 core.size && nat_le core.size 1024
    && (fork_extent slot 0).offset == 0
    && is_sealed (link_seal v ino place) block
    && field_of block 4 4 == 0
    && field_of block 8 4 == core.size

abbrev pub is_link : Volume → ℕ → Core → List ℕ → Option ℕ → Option (List ℕ) → Bool
is_link v ino core slot None link = false
is_link v ino core slot (Some place) None = false
is_link v ino core slot (Some place) (Some block) = holds_target v ino core slot place block

-- a symbolic link of one block has one that holds its target
abbrev pub has_link_target : Volume → ℕ → Core → List ℕ → Option (List ℕ) → Bool
has_link_target v ino core slot link = not (core_type core == 10 && core.format == 2) || is_link v ino core slot (link_place v core slot) link

abbrev pub target_in : Core → Option (List ℕ) → List ℕ
target_in core None = []
target_in core (Some block) = part_of block 56 core.size

-- the target of a symbolic link
abbrev pub link_target : Core → List ℕ → Option (List ℕ) → List ℕ
link_target core slot link =
    if core_type core == 10 && core.format == 1 then part_of slot 176 core.size
    else if core_type core == 10 && core.format == 2 then target_in core link
    else []

-- the number of a device
abbrev pub device_of : Core → List ℕ → ℕ
device_of core slot = if core_type core == 2 || core_type core == 6 then field_of slot 176 4 else 0

-- what an attribute fork that reads holds
pub record AttrFork : Type 0 where
  pub attrs : List Attr
  pub extents : List Extent
  -- its blocks, by number
  pub blocks : List ℕ

abbrev pub fork_with : List Extent → List ℕ → Result (List Attr) AttrFault → Option AttrFork
fork_with extents blocks (Ok attrs) = Some (record { attrs = attrs; extents = extents; blocks = blocks })
fork_with extents blocks (Err fault) = None

-- the leaf of the attribute fork stands at its begin, and is one of the inode
abbrev pub is_attr_leaf : Volume → ℕ → Core → List ℕ → ℕ → List ℕ → Bool
is_attr_leaf v ino core slot place block = (attr_extent core slot).offset == 0 && is_sealed (index_seal v ino 0x3bee place) block

abbrev pub leaf_held : Volume → ℕ → Core → List ℕ → Option ℕ → Option (List ℕ) → Option AttrFork
leaf_held v ino core slot None attr_leaf = None
leaf_held v ino core slot (Some place) None = None
leaf_held v ino core slot (Some place) (Some block) =
    if is_attr_leaf v ino core slot place block then fork_with (attr_extent core slot ∷ []) (place ∷ []) (leaf_of block) else None

abbrev pub no_attrs : AttrFork
no_attrs = record { attrs = []; extents = []; blocks = [] }

-- the attribute fork, where it reads
abbrev pub attr_fork : Volume → ℕ → Core → List ℕ → Option (List ℕ) → Option AttrFork
attr_fork v ino core slot attr_leaf =
    if core.forkoff == 0 then Some no_attrs
    else if core.aformat == 1 then fork_with [] [] (short_attributes (part_of slot (attribute_start core.forkoff) (512 - attribute_start core.forkoff)))
    else if core.aformat == 2 then (if core.anextents == 0 then Some no_attrs else leaf_held v ino core slot (attr_place v core slot) attr_leaf)
    else None

-- what of attributes is not supported: 2 a tree of leaves, 1 a value outside its leaf
abbrev pub remote : Result (List Attr) AttrFault → Option ℕ
remote (Err (Fault.Unsupported what)) = Some 1
remote (Err Fault.Unsound) = None
remote (Err Fault.NoMemory) = None
remote (Ok attrs) = None

abbrev pub leaf_feature : Volume → ℕ → ℕ → List ℕ → Option ℕ
leaf_feature v ino place block =
    if is_sealed (index_seal v ino 0x3ebe place) block then Some 2
    else if is_sealed (index_seal v ino 0x3bee place) block then remote (leaf_of block)
    else None

abbrev pub feature_of : Volume → ℕ → Option ℕ → Option (List ℕ) → Option ℕ
feature_of v ino None attr_leaf = None
feature_of v ino (Some place) None = None
feature_of v ino (Some place) (Some block) = leaf_feature v ino place block

-- a file whose data fork and attribute fork hold this
abbrev pub file_record : ℕ → Core → List ℕ → Option (List ℕ) → Contents Extent → AttrFork → FileRec
file_record ino core slot link held fork = record {
  ino = ino;
  core = core;
  extents = held.records;
  rest = record {
    attr_extents = fork.extents;
    tree = held.blocks;
    attrs = fork.attrs;
    target = link_target core slot link;
    device = device_of core slot;
  };
}

-- the blocks are those that the core states
abbrev pub is_counted : Core → Contents Extent → AttrFork → Bool
is_counted core held fork = core.nblocks == extent_blocks held.records + length held.blocks + length fork.blocks

-- no block of attributes is one of the data or of their tree
abbrev pub is_off_attributes : Volume → Contents Extent → AttrFork → Bool
is_off_attributes v held fork = list_all (λ block. list_all (is_apart (range_of_block block)) (ranges_of v held)) fork.blocks

abbrev pub has_leaf : AttrFork → Bool
has_leaf fork = not (length fork.blocks == 0)

-- a file by its attribute fork: where a leaf takes part in a fault, the attributes alone are lost
abbrev pub with_attrs : Volume → ℕ → Core → List ℕ → Option (List ℕ) → Contents Extent → Option AttrFork → FileRead
with_attrs v ino core slot link held None = Reads.FileWithoutAttrs (file_record ino core slot link held no_attrs)
with_attrs v ino core slot link held (Some fork) =
    if is_counted core held fork && is_off_attributes v held fork then Reads.File (file_record ino core slot link held fork)
    else if has_leaf fork then Reads.FileWithoutAttrs (file_record ino core slot link held no_attrs)
    else Reads.Unsound

-- all but the attributes is that of a file
abbrev pub is_whole_fork : Volume → ℕ → Core → List ℕ → Option (List ℕ) → Contents Extent → Bool
is_whole_fork v ino core slot link held = has_link_target v ino core slot link && is_placed v held && ranges_apart (ranges_of v held)

abbrev pub with_data : Volume → ℕ → Core → List ℕ → Option (List ℕ) → Option (List ℕ) → Option (Contents Extent) → FileRead
with_data v ino core slot attr_leaf link None = Reads.Unsound
with_data v ino core slot attr_leaf link (Some held) =
    if is_whole_fork v ino core slot link held then with_attrs v ino core slot link held (attr_fork v ino core slot attr_leaf) else Reads.Unsound

abbrev pub with_feature : Option ℕ → FileRead → FileRead
with_feature None read = read
with_feature (Some what) read = Reads.Unsupported what

-- what a slot in use reads as
abbrev pub used_file : Volume → ℕ → Core → List ℕ → Option (Contents Extent) → Option (List ℕ) → Option (List ℕ) → FileRead
used_file v ino core slot tree attr_leaf link =
    with_feature (feature_of v ino (attr_place v core slot) attr_leaf)
    (if is_core core then with_data v ino core slot attr_leaf link (data_fork core slot tree) else Reads.Unsound)

abbrev pub by_slot : Volume → ℕ → SlotRead → List ℕ → Option (Contents Extent) → Option (List ℕ) → Option (List ℕ) → FileRead
by_slot v ino Read.Unsound slot tree attr_leaf link = Reads.Unsound
by_slot v ino Read.Free slot tree attr_leaf link = Reads.Free
by_slot v ino (Read.Unsupported what) slot tree attr_leaf link = Reads.Unsupported what
by_slot v ino (Read.InUse core) slot tree attr_leaf link = used_file v ino core slot tree attr_leaf link

-- what the slot of an inode reads as, with the tree, the leaf of attributes and the block of a symbolic link that it names
unfoldable pub file_read : Volume → ℕ → List ℕ → Option (Contents Extent) → Option (List ℕ) → Option (List ℕ) → FileRead
file_read v ino slot tree attr_leaf link = by_slot v ino (slot_read v ino slot) slot tree attr_leaf link
