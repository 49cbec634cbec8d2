-- A group whose trees and headers can be written, and what its headers then say (chapters "Allocation Groups", "AG Free Space
-- Management", "AG Inode Management" and "Reverse-Mapping B+tree").
use Rattle.std.specs.Prelude.{◌≡◌, ℕ, ◌+◌, ◌-◌, ◌%◌, ◌^◌, ◌≤◌, ◌<◌, IsTrue, ◌==◌, if◌then◌else◌, None, List, [], ◌++◌, length, slice_index_or}
use Rattle.std.specs.List.{All, list_all, sum}
use Rattle.xfs_geom.specs.Conversions.{group_length}
use Rattle.xfs_geom.specs.Sums.{free_blocks, free_slots, longest, slots}
use Rattle.xfs_geom.specs.Volumes.{Volume}
use Rattle.xfs_geom.specs.declared.records.InoRec.{InoRec}
use Rattle.xfs_heads.specs.FreeList.{unused}
use Rattle.xfs_heads.specs.Heads.{is_listable}
use Rattle.xfs_heads.specs.declared.free_list.Agfl.{Agfl}
use Rattle.xfs_heads.specs.declared.free_space.Agf.{Agf}
use Rattle.xfs_heads.specs.declared.inodes.Agi.{Agi}
use Rattle.xfs_kinds.specs.FreeTrees.{bno_shape, cnt_shape}
use Rattle.xfs_kinds.specs.InodeTrees.{ino_shape, fino_shape}
use Rattle.xfs_kinds.specs.OwnerTrees.{rmap_shape}
use Rattle.xfs_treebuild.specs.Packing.{are_different, root_of}
use Rattle.xfs_tree.specs.Rules.{are_lawful, can_hold}
use Rattle.xfs_tree.specs.Shape.{Shape}
use Rattle.xfs_treebuild.specs.Size.{rows_of}
use Rattle.xfs_volume.specs.declared.groups.TreeBlocks.{TreeBlocks}
use Rattle.xfs_place.specs.declared.placed.GroupPlaced.{GroupPlaced}
use Rattle.xfs_render.specs.Counters.{levels, newest}

-- the blocks of one of the five trees of a group: free runs by start and by length, chunks of inodes, those with a free inode, owners
abbrev pub no_tree : TreeBlocks
no_tree = record { blocks = [] }

abbrev pub tree_places : GroupPlaced → ℕ → List ℕ
tree_places p i = (slice_index_or p.trees i no_tree).blocks

-- a tree can be packed: its records are lawful in their order, and its blocks are as many as it has, differ and can hold it
pub record CanPack {R K : Type 0} (s : Shape R K) (v : Volume) (records : List R) (places : List ℕ) : Type 0 where
  pub lawful : IsTrue (are_lawful s v None records)
  pub few : length records < 2 ^ 28
  pub size : length places ≡ sum (rows_of s.layout.leaf_cap s.layout.node_cap (length records))
  pub held : All (λ place. IsTrue (can_hold v s.layout s.owner place)) places
  pub different : IsTrue (are_different places)

-- the five trees of a group can be packed, and its free list can be written
pub record IsSoundGroup (v : Volume) (ag : ℕ) (inodes : List InoRec) (p : GroupPlaced) : Type 0 where
  pub five : length p.trees ≡ 5
  pub bno : CanPack (bno_shape ag) v p.bno (tree_places p 0)
  pub cnt : CanPack (cnt_shape ag) v p.cnt (tree_places p 1)
  pub ino : CanPack (ino_shape ag) v inodes (tree_places p 2)
  pub fino : CanPack (fino_shape ag) v p.fino (tree_places p 3)
  pub rmap : CanPack (rmap_shape ag) v p.rmap (tree_places p 4)
  pub chunks : length inodes < 2 ^ 24
  pub short : length p.agfl ≤ 118
  pub listable : IsTrue (list_all (is_listable v ag) p.agfl)

-- the root of a tree stands last, and headers name it by its AG block
abbrev pub root_in : Volume → GroupPlaced → ℕ → ℕ
root_in v p i = root_of (tree_places p i) % v.agblocks

-- the blocks of a tree
abbrev pub group_tree_count : GroupPlaced → ℕ → ℕ
group_tree_count p i = length (tree_places p i)

-- the last active entry of a free list of 119 entries that begins at entry 0
abbrev pub last_entry : ℕ → ℕ
last_entry count = if count == 0 then 118 else count - 1

-- the header of free space, apart from its checksum: its trees, the list from entry 0 on, and what it counts; the roots of the trees
-- are not counted among the blocks of the trees
abbrev pub due_agf : Volume → ℕ → GroupPlaced → Agf
due_agf v ag p = record {
  magicnum = 0x5841_4746;
  versionnum = 1;
  seqno = ag;
  length = group_length v ag;
  bnoroot = root_in v p 0;
  cntroot = root_in v p 1;
  rmaproot = root_in v p 4;
  bnolevel = levels 505 336 (length p.bno);
  cntlevel = levels 505 336 (length p.cnt);
  rmaplevel = levels 168 91 (length p.rmap);
  flfirst = 0;
  fllast = last_entry (length p.agfl);
  flcount = length p.agfl;
  freeblks = free_blocks p.bno;
  longest = longest p.bno;
  btreeblks = group_tree_count p 0 + group_tree_count p 1 + group_tree_count p 4 - 3;
  uuid = v.uuid;
  rmapblocks = group_tree_count p 4;
  lsn = 0;
  crc = 0;
}

-- the header of inodes, apart from its checksum; no inode is unlinked
abbrev pub due_agi : Volume → ℕ → List InoRec → GroupPlaced → Agi
due_agi v ag inodes p = record {
  magicnum = 0x5841_4749;
  versionnum = 1;
  seqno = ag;
  length = group_length v ag;
  count = slots inodes;
  root = root_in v p 2;
  level = levels 252 505 (length inodes);
  freecount = free_slots inodes;
  newino = newest inodes;
  dirino = 2 ^ 32 - 1;
  unlinked = unused 64;
  uuid = v.uuid;
  crc = 0;
  lsn = 0;
  free_root = root_in v p 3;
  free_level = levels 252 505 (length p.fino);
}

-- the free list, from entry 0 on
abbrev pub due_agfl : GroupPlaced → Agfl
due_agfl p = record { entries = p.agfl ++ unused (119 - length p.agfl); count = length p.agfl }
