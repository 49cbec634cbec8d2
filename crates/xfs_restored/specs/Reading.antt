-- What the slot of a directory that is built anew reads as.
use Rattle.std.specs.Prelude.{◌≡◌, ℕ, true, not, ◌+◌, ◌^◌, ◌<◌, ◌==◌, ◌||◌, List, [], length, map, Option, Some, None}
use Rattle.std.specs.List.{AllByRecursion}
use Rattle.std.specs.Option.{option_map}
use Rattle.xfs_disk.specs.Blocks.{Image, bytes_of_block}
use Rattle.xfs_word.specs.declared.extents.Extent.{Extent}
use Rattle.xfs_geom.specs.Volumes.{Volume}
use Rattle.xfs_geom.specs.declared.records.Run.{Run}
use Rattle.xfs_tree.specs.Reading.{Contents}
use Rattle.xfs_inode.specs.Files.{AttrFork, are_extents, attr_fork, extent_blocks, feature_of, has_forkoff, is_off_attributes, range_of, ranges_apart, states_no_fork}
use Rattle.xfs_inode.specs.Forks.{attr_place, core_type}
use Rattle.xfs_inode.specs.Named.{named_attr, slot_reads}
use Rattle.xfs_inode.specs.Slots.{slot_read}
use Rattle.xfs_inode.specs.declared.files.FileRead.TheVariants as Reads
use Rattle.xfs_inode.specs.declared.reading.SlotRead.TheVariants as Read
use Rattle.xfs_inodebuild.specs.declared.forks.ForkWanted.{ForkWanted}
use Rattle.xfs_volume.specs.declared.cores.Core.{Core}
use Rattle.xfs_volume.specs.declared.files.FileRec.{FileRec}
use Rattle.xfs_render.specs.declared.wanted_slots.SlotBase.TheVariants.{Fresh, Kept}
use Rattle.xfs_render.specs.declared.wanted_slots.SlotWanted.{SlotWanted}
use Rattle.xfs_rename.specs.xfs_request.Slots.{own_blocks}
use Rattle.xfs_rename.specs.xfs_built.Extents.{extent_of_run}
use Rattle.xfs_restored.specs.DueFiles.{linked_core, plain_core}
use Rattle.xfs_rename.specs.xfs_built.Directories.{BuiltRuns, FitsExtent}

-- extents, with no tree
abbrev pub fork_contents : List Extent → Contents Extent
fork_contents es = record { records = es; blocks = [] }

-- a directory with these extents and attributes
abbrev pub directory_file : ℕ → Core → List Extent → AttrFork → FileRec
directory_file ino core es fork = record {
  ino = ino;
  core = core;
  extents = es;
  rest = record {
    attr_extents = fork.extents;
    tree = [];
    attrs = fork.attrs;
    target = [];
    device = 0;
  };
}

-- the extents of runs lie in the volume in file order, and no two have a block in common
pub record AreExtents (v : Volume) (runs : List Run) : Type 0 where
  pub placed' : are_extents v None (map (extent_of_run v) runs) ≡ true
  pub apart' : ranges_apart (map (range_of v) (map (extent_of_run v) runs)) ≡ true

-- the attribute fork of a directory reads, beside a data fork that holds these extents
pub record HasAttributes (v : Volume) (ino : ℕ) (core : Core) (slot : List ℕ) (leaf : Option (List ℕ)) (es : List Extent) (fork : AttrFork) : Type 0 where
  pub forkoff' : has_forkoff 4 core.forkoff ≡ true
  pub stated' : (not (core.forkoff == 0) || states_no_fork core) ≡ true
  pub feature : feature_of v ino (attr_place v core slot) leaf ≡ None
  pub fork' : attr_fork v ino core slot leaf ≡ Some fork
  pub off : is_off_attributes v (fork_contents es) fork ≡ true

-- the core of a directory, with as many blocks as its forks
pub record IsDirectoryCore (core : Core) (es : List Extent) (fork : AttrFork) : Type 0 where
  pub type' : core_type core ≡ 4
  pub size' : core.size < 2 ^ 63
  pub nblocks' : core.nblocks ≡ extent_blocks es + length fork.blocks

-- a core with the numbers of its data fork and its links, that is not unlinked
abbrev pub made_core : Core → ForkWanted → ℕ → ℕ → Core
made_core core fork nlink crc = record core {
  format = fork.format;
  size = fork.size;
  nblocks = fork.nblocks;
  nextents = fork.nextents;
  nlink = nlink;
  next_unlinked = 0xffff_ffff;
  crc = crc;
}

-- what is wanted of the slot of a directory that is made anew
abbrev pub fresh_directory_slot : Core → ForkWanted → Option ℕ → SlotWanted
fresh_directory_slot core fork nlink = record { ino = core.ino; base = Fresh core; drop_attrs = None; fork = Some fork; nlink = nlink }

-- the core of a directory that is made: it has no attribute fork
pub record IsFreshDirectory (core : Core) : Type 0 where
  pub type' : core_type core ≡ 4
  pub forkoff' : core.forkoff ≡ 0
  pub states : states_no_fork core ≡ true
  pub last : core.next_unlinked ≡ 0xffff_ffff

-- a core with the numbers of another data fork
abbrev pub forked_core : Core → ForkWanted → ℕ → Core
forked_core core fork crc = record core { format = fork.format; size = fork.size; nblocks = fork.nblocks; nextents = fork.nextents; crc = crc }

-- a directory with another data fork, and the attributes that it had
abbrev pub forked_file : FileRec → Core → List Extent → FileRec
forked_file f core es = record {
  ino = f.ino;
  core = core;
  extents = es;
  rest = record {
    attr_extents = f.rest.attr_extents;
    tree = [];
    attrs = f.rest.attrs;
    target = [];
    device = 0;
  };
}

-- a data fork that is wanted stands beside the attribute fork of a slot: its blocks are counted with those of the attributes, and none of
-- these is one of it
abbrev pub StandsBeside : Volume → Image → ℕ → List ℕ → ForkWanted → List Extent → Type 0
StandsBeside v image ino slot fork es =
    (core : Core) (held : AttrFork) → slot_read v ino slot ≡ Read.InUse core → attr_fork v ino core slot (option_map (bytes_of_block image) (named_attr v ino slot)) ≡ Some held
    → (fork.nblocks ≡ extent_blocks es + length held.blocks) × (is_off_attributes v (fork_contents es) held ≡ true)

-- what is wanted of the slot of a directory that is kept and built anew
abbrev pub kept_directory_slot : ℕ → Option ℕ → ForkWanted → Option ℕ → SlotWanted
kept_directory_slot ino drop fork nlink = record { ino = ino; base = Kept; drop_attrs = drop; fork = Some fork; nlink = nlink }

-- its core where its attributes are dropped, and where its number of names is set
abbrev pub bare_core : Option ℕ → Core → Core
bare_core None core = core
bare_core (Some nblocks) core = plain_core core nblocks 0

abbrev pub named_core : Option ℕ → Core → ℕ → Core
named_core None core crc = record core { crc = crc }
named_core (Some nlink) core crc = linked_core core nlink crc

-- the directory as it then reads
abbrev pub rebuilt_file : FileRec → Option ℕ → ForkWanted → List Extent → Option ℕ → ℕ → FileRec
rebuilt_file f drop fork es nlink crc = forked_file f (named_core nlink (forked_core (bare_core drop f.core) fork crc) crc) es

-- what its slot read as: a file, or where attributes are dropped a file without them
abbrev pub ReadsBefore : Volume → Image → ℕ → List ℕ → FileRec → Option ℕ → Type 0
ReadsBefore v image ino old f None = slot_reads v image ino old ≡ Reads.File f
ReadsBefore v image ino old f (Some nblocks) = (slot_reads v image ino old ≡ Reads.FileWithoutAttrs f) × (nblocks ≡ own_blocks f)

-- where its attributes stay, the block that they have is as it was, and the new fork stands beside them; else the new fork has all blocks
abbrev pub KeepsAttributes : Volume → Image → Image → ℕ → List ℕ → ForkWanted → List Extent → Option ℕ → Type 0
KeepsAttributes v image now ino old fork es None =
    (option_map (bytes_of_block now) (named_attr v ino old) ≡ option_map (bytes_of_block image) (named_attr v ino old)) × StandsBeside v image ino old fork es
KeepsAttributes v image now ino old fork es (Some nblocks) = fork.nblocks ≡ extent_blocks es

-- the runs of a directory that was placed are extents of a file, which have its blocks
pub record HasFileExtents (v : Volume) (p : BuiltRuns) : Type 0 where
  pub extents' : AreExtents v p.runs
  pub fit : AllByRecursion (FitsExtent v) p.runs
  pub count : extent_blocks (map (extent_of_run v) p.runs) ≡ p.directory.image.data_blocks + p.directory.image.index_blocks + p.directory.image.free_blocks
