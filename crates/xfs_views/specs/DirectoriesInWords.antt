-- When a directory is whole, in the words of its blocks, its entries and its index (chapter "Directories").
use Rattle.std.specs.Prelude.{ℕ, zero, suc, ◌≡◌, ◌≢◌, ◌⊎◌, ◌<◌, ◌≤◌, ◌+◌, ◌-◌, ◌*◌, ◌/◌, ◌%◌, Bool, true, false, List, [], ◌∷◌, filter, length, count_by, Some, is_some}
use Rattle.std.specs.List.{All, AllPairs, Any}
use Rattle.xfs_word.specs.Field.{field_of}
use Rattle.xfs_word.specs.declared.kinds.SealKind.{SealKind}
use Rattle.xfs_disk.specs.Blocks.{Image}
use Rattle.xfs_geom.specs.Volumes.{Volume}
use Rattle.xfs_dirdata.specs.Data.{data_of}
use Rattle.xfs_dirdata.specs.Short.{ShortForm}
use Rattle.xfs_dirdata.specs.declared.records.EntryRec.{EntryRec}
use Rattle.xfs_dirindex.specs.Block.{tail_count, tail_pairs}
use Rattle.xfs_dirindex.specs.Data.{all_bests, all_pairs, area_in, magic_of, pairs_in}
use Rattle.xfs_dirindex.specs.FreeBlocks.{free_count, used_in}
use Rattle.xfs_dirindex.specs.IndexTree.{all_leaf_pairs, index_tree_all_places, magic_of_level, index_places, last_hash, next_link, pairs_below, index_level, root_links, stated_of}
use Rattle.xfs_dirindex.specs.Leaf.{best_length_of, end_of, leaf_count, leaf_stale, value_count}
use Rattle.xfs_dirindex.specs.Lookup.{bytes_mapped}
use Rattle.xfs_dirindex.specs.Mapped.{Mapped, is_beyond}
use Rattle.xfs_dirindex.specs.Pairs.{is_live, is_stale, pairs_at, times}
use Rattle.xfs_dirindex.specs.declared.data.Best.{Best}
use Rattle.xfs_dirindex.specs.declared.pairs.Pair.{Pair}
use Rattle.xfs_volume.specs.declared.files.FileRec.{FileRec}
use Rattle.xfs_image.specs.Directories.{FileBlock, data_blocks, is_sealed_as, kinds_at, mapped_blocks, short_form}

-- an entry has another name than "." and ".."
pub record IsBesideDots (e : EntryRec) : Type 0 where
  pub not_self : e.name ≢ 46 ∷ []
  pub not_parent : e.name ≢ 46 ∷ 46 ∷ []

-- the entries begin with those of the directory and of its parent
pub record BeginWithDots (dir : ℕ) (entries : List EntryRec) : Type 0 where
  pub self : EntryRec
  pub parent : EntryRec
  pub rest : List EntryRec
  -- these two come first
  pub stand : entries ≡ self ∷ parent ∷ rest
  -- the first is ".", and gives the inode of the directory
  pub self_name : self.name ≡ 46 ∷ []
  pub self_ino : self.ino ≡ dir
  -- the second is ".."
  pub parent_name : parent.name ≡ 46 ∷ 46 ∷ []
  -- no other has one of these names
  pub others : All IsBesideDots rest

-- a block of data begins with its magic number, and its entries and unused spans keep the rules of data blocks
pub record IsDataBlock (dir : ℕ) (whole : Bool) (m : Mapped) : Type 0 where
  pub magic : field_of m.bytes 0 4 ≡ magic_of whole
  pub reads : is_some (data_of dir m.bytes whole) ≡ true

-- the first two entries stand at bytes 64 and 80, right behind the header
pub record StandFirst (places : List ℕ) : Type 0 where
  pub rest : List ℕ
  pub stand : places ≡ 64 ∷ 80 ∷ rest

-- the first block of a directory stands at file block 0 and has the entries "." and "..", at their places
pub record IsFirstBlock (dir : ℕ) (whole : Bool) (m : Mapped) : Type 0 where
  pub at_start : m.offset ≡ 0
  pub sound : IsDataBlock dir whole m
  pub dots : BeginWithDots dir (area_in dir whole m).entries
  pub places : StandFirst (area_in dir whole m).places

-- a later one has no entry of these names
pub record IsLaterBlock (dir : ℕ) (m : Mapped) : Type 0 where
  pub sound : IsDataBlock dir false m
  pub named : All IsBesideDots (area_in dir false m).entries

-- the mapped blocks begin with the first block of data, and those in front of file block 0x800000 are later ones
pub record AreDataBlocks (dir : ℕ) (ms : List Mapped) : Type 0 where
  pub first : Mapped
  pub rest : List Mapped
  pub stand : ms ≡ first ∷ rest
  pub begins : IsFirstBlock dir false first
  pub later : All (λ (m : Mapped). m.offset < 0x800000 → IsLaterBlock dir m) rest

-- no hash is below one in front of it
abbrev pub HashesAscend : List Pair → Type 0
HashesAscend pairs = AllPairs (λ (a b : Pair). a.hash ≤ b.hash) pairs

-- each pair stands in one list as often as in the other
abbrev pub AreSame : List Pair → List Pair → Type 0
AreSame xs ys = (p : Pair) → times p xs ≡ times p ys

-- the pairs of an index, with how many of them it states to be stale, are due for the entries
pub record IsIndex (pairs : List Pair) (stale : ℕ) (due : List Pair) : Type 0 where
  -- hashes do not descend
  pub ascend : HashesAscend pairs
  -- so many pairs are stale
  pub stated : count_by is_stale pairs ≡ stale
  -- each entry has its pair of hash and address, and each other pair its entry
  pub exact : AreSame (filter is_live pairs) due

-- so many values of 2 bytes give the longest unused span of each data block from some block on, 0xffff for a block that is not mapped
abbrev pub HaveLengths : List Best → List ℕ → ℕ → ℕ → ℕ → Type 0
HaveLengths bests bytes at first count = (j : ℕ) → j < count → field_of bytes (at + 2 * j) 2 ≡ best_length_of bests (first + j)

-- a directory of one block
pub record IsSingleForm (dir size : ℕ) (ms : List Mapped) : Type 0 where
  pub block : Mapped
  -- no other block is mapped, and the size is that of one
  pub only : ms ≡ block ∷ []
  pub one_block : size ≡ 4096
  -- the pairs lie between the header and the tail
  pub fits : 64 + 8 * tail_count block.bytes ≤ 4088
  -- the entries keep their rules, "." and ".." first
  pub first : IsFirstBlock dir true block
  -- the pairs are those of the entries
  pub index : IsIndex (tail_pairs block.bytes) (field_of block.bytes 4092 4) (pairs_in dir true block)

-- a directory whose index is one leaf
pub record IsLeafForm (dir size : ℕ) (ms : List Mapped) : Type 0 where
  pub blocks : AreDataBlocks dir ms
  -- the size reaches to the end of the last data block
  pub ends : size ≡ 4096 * end_of (all_bests dir ms)
  pub leaf : Mapped
  -- besides data blocks only the leaf is mapped, at file block 0x800000
  pub only : filter is_beyond ms ≡ leaf ∷ []
  pub place : leaf.offset ≡ 0x800000
  pub magic : field_of leaf.bytes 8 2 ≡ 0x3df1
  -- pairs, values and their count fit the block
  pub fits : 64 + 8 * leaf_count leaf.bytes + 2 * value_count leaf.bytes ≤ 4092
  -- the pairs are those of the entries
  pub index : IsIndex (pairs_at leaf.bytes 64 (leaf_count leaf.bytes)) (leaf_stale leaf.bytes) (all_pairs dir ms)
  -- each file block up to the last data block has a value, and each value is the longest unused span
  pub enough : end_of (all_bests dir ms) ≤ value_count leaf.bytes
  pub values : HaveLengths (all_bests dir ms) leaf.bytes (4092 - 2 * value_count leaf.bytes) 0 (value_count leaf.bytes)

-- a block of the index on a level, given by the pair of its parent, between its neighbours
pub record IsMember (ms : List Mapped) (root : Bool) (level before : ℕ) (link : Pair) (next : ℕ) : Type 0 where
  pub mapped : length (bytes_mapped ms link.address) ≡ 4096
  -- it has the magic number of a leaf or of a node
  pub magic : field_of (bytes_mapped ms link.address) 8 2 ≡ magic_of_level level
  -- it has 1 to 504 pairs
  pub some : 1 ≤ leaf_count (bytes_mapped ms link.address)
  pub most : leaf_count (bytes_mapped ms link.address) ≤ 504
  -- a node states its level, a leaf how many pairs are stale
  pub stated : leaf_stale (bytes_mapped ms link.address) ≡ stated_of level (bytes_mapped ms link.address)
  -- it names its neighbours, and 0 at the ends
  pub back : field_of (bytes_mapped ms link.address) 4 4 ≡ before
  pub forward : field_of (bytes_mapped ms link.address) 0 4 ≡ next
  -- the pair of its parent gives its greatest hash
  pub greatest : root ≡ false → last_hash (bytes_mapped ms link.address) ≡ link.hash

-- the blocks of a level, from the left
abbrev pub AreMembers : List Mapped → Bool → ℕ → ℕ → List Pair → Type 0
AreMembers ms root level before [] = Unit {0}
AreMembers ms root level before (link ∷ links) = IsMember ms root level before link (next_link links) × AreMembers ms root level link.address links

-- the blocks of a level, and those of all levels below
abbrev pub AreIndexLevels : List Mapped → Bool → ℕ → List Pair → Type 0
AreIndexLevels ms root zero links = AreMembers ms root 0 0 links
AreIndexLevels ms root (suc level) links = AreMembers ms root (suc level) 0 links × AreIndexLevels ms false level (pairs_below ms links)

-- the index blocks are a tree
pub record IsIndexTree (ms : List Mapped) (due : List Pair) : Type 0 where
  -- from the root at file block 0x800000 each level keeps its rules
  pub levels : AreIndexLevels ms true (index_level ms) root_links
  -- its blocks are the index blocks that are mapped, none twice
  pub count : length (index_tree_all_places ms) ≡ length (index_places ms)
  pub blocks : AreSame (index_tree_all_places ms) (index_places ms)
  -- the pairs of its leaves are those of the entries
  pub ascend : HashesAscend (all_leaf_pairs ms)
  pub exact : AreSame (filter is_live (all_leaf_pairs ms)) due

-- free block i gives the values of up to 2016 data blocks
pub record IsFreeBlock (bests : List Best) (i : ℕ) (bytes : List ℕ) : Type 0 where
  -- it states the first, how many they are, and how many of them are mapped
  pub first : field_of bytes 48 4 ≡ 2016 * i
  pub most : free_count bytes ≤ 2016
  pub used : field_of bytes 56 4 ≡ used_in bytes (free_count bytes)
  pub values : HaveLengths bests bytes 64 (2016 * i) (free_count bytes)

-- a data block has its value in a free block that is mapped
pub record IsCovered (b : Best) (bytes : List ℕ) : Type 0 where
  pub mapped : length bytes ≡ 4096
  pub reaches : b.offset % 2016 < free_count bytes

pub record AreFreeBlocks (bests : List Best) (ms : List Mapped) : Type 0 where
  -- free block i stands at file block 0x1000000 + i
  pub each : All (λ (m : Mapped). 0x1000000 ≤ m.offset → IsFreeBlock bests (m.offset - 0x1000000) m.bytes) ms
  pub covered : All (λ (b : Best). IsCovered b (bytes_mapped ms (0x1000000 + b.offset / 2016))) bests

-- a directory whose index is a tree
pub record IsNodeForm (dir size : ℕ) (ms : List Mapped) : Type 0 where
  pub blocks : AreDataBlocks dir ms
  -- the size reaches to the end of the last data block
  pub ends : size ≡ 4096 * end_of (all_bests dir ms)
  pub tree : IsIndexTree ms (all_pairs dir ms)
  -- the free blocks give the longest unused span of each data block
  pub free : AreFreeBlocks (all_bests dir ms) ms

-- the mapped blocks have one of the three forms
abbrev pub HasForm : ℕ → ℕ → List Mapped → Type 0
HasForm dir size ms = (IsSingleForm dir size ms ⊎ IsLeafForm dir size ms) ⊎ IsNodeForm dir size ms

-- a block is sealed at its place as one of this directory, of a kind that its number in the file allows
abbrev pub IsOwn : Volume → ℕ → FileBlock → Type 0
IsOwn v dir b = Any (λ (kind : SealKind). is_sealed_as v dir b kind ≡ true) (kinds_at b.mapped)

-- a directory in short form stands in its slot, and its form reads
pub record IsShortDirectory (v : Volume) (image : Image) (f : FileRec) : Type 0 where
  pub format : f.core.format ≡ 1
  pub form : ShortForm
  pub reads : short_form v image f ≡ Some form

-- a directory of blocks
pub record IsBlockDirectory (v : Volume) (image : Image) (f : FileRec) : Type 0 where
  pub format : f.core.format ≢ 1
  -- its blocks have one of the three forms, and each is sealed
  pub form : HasForm f.ino f.core.size (mapped_blocks v image f)
  pub sealed : All (IsOwn v f.ino) (data_blocks v image f)

-- a directory is whole
abbrev pub IsWholeDirectory : Volume → Image → FileRec → Type 0
IsWholeDirectory v image f = IsShortDirectory v image f ⊎ IsBlockDirectory v image f
