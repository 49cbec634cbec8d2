-- When a slot reads as a file, in the words of its core, its forks and its blocks (chapters "On-disk Inode", "Data Extents",
-- "Extended Attributes" and "Symbolic Links").
use Rattle.std.specs.Prelude.{ℕ, ◌≡◌, ◌≢◌, ◌⊎◌, ◌<◌, ◌≤◌, ◌+◌, ◌^◌, true, List, length, Option, Some, None}
use Rattle.std.specs.List.{All, AllPairs}
use Rattle.xfs_word.specs.declared.extents.Extent.{Extent}
use Rattle.xfs_geom.specs.Volumes.{Volume}
use Rattle.xfs_tree.specs.Reading.{Contents}
use Rattle.xfs_kinds.specs.FileTrees.{is_extent}
use Rattle.xfs_volume.specs.declared.cores.Core.{Core}
use Rattle.xfs_volume.specs.declared.files.FileRec.{FileRec}
use Rattle.xfs_inode.specs.Files.{AttrFork, attr_fork, extent_blocks, data_fork, feature_of, file_record, has_format, is_link, range_of_block, ranges_of}
use Rattle.xfs_inode.specs.Forks.{attr_place, link_place, core_type}
use Rattle.xfs_inode.specs.Slots.{slot_read, fork_bytes}
use Rattle.xfs_inode.specs.declared.claims.BlockRange.{BlockRange}
use Rattle.xfs_inode.specs.declared.reading.SlotRead.TheVariants as Read

-- the core of a file
pub record IsFileCore (core : Core) : Type 0 where
  -- it has a type that files have, and a data fork in a format of this type
  pub format : has_format (core_type core) core.format ≡ true
  -- the attribute fork begins inside the slot, and a directory leaves 48 bytes in front of it
  pub inside : core.forkoff ≤ 41
  pub behind : core_type core ≡ 4 → core.forkoff ≢ 0 → 6 ≤ core.forkoff
  pub size : core.size < 2 ^ 63
  -- without an attribute fork none is stated
  pub no_extents : core.forkoff ≡ 0 → core.anextents ≡ 0
  pub no_format : core.forkoff ≡ 0 → (core.aformat ≡ 0) ⊎ (core.aformat ≡ 2)
  -- what stands in the slot fits its fork, and the target of a symbolic link has some bytes
  pub fits : core.format ≡ 1 → core.size ≤ fork_bytes core.forkoff
  pub some : core.format ≡ 1 → core_type core ≡ 10 → 1 ≤ core.size

-- two runs have no block in common
abbrev pub RangesApart : BlockRange → BlockRange → Type 0
RangesApart a b = (a.end ≤ b.start) ⊎ (b.end ≤ a.start)

-- what a data fork holds
pub record IsDataPlaced (v : Volume) (held : Contents Extent) : Type 0 where
  -- each extent has blocks, inside one group of the volume, at offsets that a file can have
  pub extents : All (λ (e : Extent). is_extent v e ≡ true) held.records
  -- each ends at or in front of those behind it
  pub ascend : AllPairs (λ (a b : Extent). a.offset + a.count ≤ b.offset) held.records
  -- the blocks of the tree lie in the volume
  pub tree_blocks : All (λ block. block < v.dblocks) held.blocks
  -- no block has two uses
  pub apart : AllPairs RangesApart (ranges_of v held)

-- a slot, with the tree of extents, the block of attributes and that of a symbolic link that it names, reads as a file
pub record IsReadFile (v : Volume) (ino : ℕ) (slot : List ℕ) (tree : Option (Contents Extent)) (attr_leaf link : Option (List ℕ)) (file : FileRec) : Type 0 where
  pub core : Core
  pub held : Contents Extent
  pub fork : AttrFork
  -- the slot is sealed and in use, and neither it nor the block of attributes has a feature that is not supported
  pub in_use : slot_read v ino slot ≡ Read.InUse core
  pub supported : feature_of v ino (attr_place v core slot) attr_leaf ≡ None
  -- the core keeps its rules
  pub keeps : IsFileCore core
  -- the data fork reads, in its format, and lies in the volume
  pub data_reads : data_fork core slot tree ≡ Some held
  pub placed : IsDataPlaced v held
  -- the block of a symbolic link holds its target
  pub target : core_type core ≡ 10 → core.format ≡ 2 → is_link v ino core slot (link_place v core slot) link ≡ true
  -- the attribute fork reads, and no block of it is one of the data
  pub attrs_read : attr_fork v ino core slot attr_leaf ≡ Some fork
  pub clear : All (λ block. All (RangesApart (range_of_block block)) (ranges_of v held)) fork.blocks
  -- the core states as many blocks as there are
  pub counted : core.nblocks ≡ extent_blocks held.records + length held.blocks + length fork.blocks
  -- the file is what these give
  pub is : file ≡ file_record ino core slot link held fork
