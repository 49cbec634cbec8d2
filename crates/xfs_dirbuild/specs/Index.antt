-- The index blocks that are written (chapter "Directories", "Leaf Directories" and "Node Directories").
use Rattle.std.specs.Prelude.{◌≡◌, true, ℕ, ◌+◌, ◌-◌, ◌*◌, ◌<◌, ◌≤◌, ◌^◌, nat_lt, if◌then◌else◌, List, [], length, map, slice_index, slice_index_or}
use Rattle.std.specs.List.{range_with_len}
use Rattle.xfs_word.specs.Field.{field_of, SameBeside}
use Rattle.xfs_word.specs.Seal.{has_magic}
use Rattle.xfs_word.specs.declared.kinds.SealKind.TheVariants.{Index as SealedIndex}
use Rattle.xfs_dirindex.specs.declared.pairs.Pair.{Pair}
use Rattle.xfs_dirindex.specs.Pairs.{pairs_at}
use Rattle.xfs_dirindex.specs.Mapped.{Mapped}
use Rattle.xfs_dirindex.specs.Lookup.{bytes_mapped}
use Rattle.xfs_dirindex.specs.IndexTree.{magic_of_level, pair_of_place, keeps_rules, index_tree_all_places, all_leaf_pairs}

-- the pair is not stale, and its address is a number of 4 bytes
pub record IsPointer (p : Pair) : Type 0 where
  pub some : 1 ≤ p.address
  pub fits : p.address < 2 ^ 32

-- a block of a level of the tree that has these pairs and names its neighbours
pub record IsIndexBlock (level before next : ℕ) (pairs : List Pair) (bytes : List ℕ) : Type 0 where
  pub forw : field_of bytes 0 4 ≡ next
  pub back : field_of bytes 4 4 ≡ before
  pub magic : field_of bytes 8 2 ≡ magic_of_level level
  pub count : field_of bytes 56 2 ≡ length pairs
  pub stated : field_of bytes 58 2 ≡ level
  pub pairs_is : pairs_at bytes 64 (length pairs) ≡ pairs

-- values of 2 bytes stand one behind the other from a byte offset on
pub record AreValues (values : List ℕ) (at : ℕ) (bytes : List ℕ) : Type 0 where
  pub each : (j : ℕ) → j < length values → field_of bytes (at + 2 * j) 2 ≡ slice_index values j

-- an index block has the magic number that it is sealed by, and is not taken for an inode
abbrev pub IsIndexed : List ℕ → Type 0
IsIndexed bytes = has_magic (SealedIndex (field_of bytes 8 2)) bytes ≡ true

-- the index block of the leaf form, with these pairs and values; it has no neighbours
pub record IsLeafBlock (pairs : List Pair) (values : List ℕ) (bytes : List ℕ) : Type 0 where
  pub forw : field_of bytes 0 4 ≡ 0
  pub back : field_of bytes 4 4 ≡ 0
  pub magic : field_of bytes 8 2 ≡ 0x3df1
  pub count : field_of bytes 56 2 ≡ length pairs
  pub stale : field_of bytes 58 2 ≡ 0
  pub pairs_is : pairs_at bytes 64 (length pairs) ≡ pairs
  pub value_count : field_of bytes 4092 4 ≡ length values
  pub values_are : AreValues values (4092 - 2 * length values) bytes

-- the file block of the index block in front of number i of a row of blocks that begins with block `first` of the index, and
-- of the one behind it; 0 at the ends
abbrev pub before_at : ℕ → ℕ → ℕ
before_at first i = if nat_lt 0 i then 0x800000 + first + i - 1 else 0

abbrev pub next_at : ℕ → ℕ → ℕ → ℕ
next_at first m i = if nat_lt i m then 0x800000 + first + i else 0

-- a block has the bytes of another beside the 44 bytes from an offset on, in which its seal stands
pub record IsPlacedBlock (seal : ℕ) (built placed : List ℕ) : Type 0 where
  pub long : length placed ≡ 4096
  pub same : SameBeside built placed seal 44

-- so many blocks of the index, from one on, stand as they are in a bank behind its first ones
pub record HoldsIndex (ms : List Mapped) (bank : List (List ℕ)) (base from count : ℕ) : Type 0 where
  pub each : (k : ℕ) → k < count → IsPlacedBlock 12 (slice_index_or bank (base + from + k) []) (bytes_mapped ms (0x800000 + from + k))

-- the places of so many blocks of the index from one on
unfoldable pub leaf_places : ℕ → ℕ → List Pair
leaf_places from count = map (λ k. pair_of_place (0x800000 + k)) (range_with_len from count)

-- the index is a tree of so many blocks with these pairs
pub record IsTreeOf (ms : List Mapped) (count : ℕ) (pairs : List Pair) : Type 0 where
  pub rules : keeps_rules ms ≡ true
  pub places : index_tree_all_places ms ≡ leaf_places 0 count
  pub pairs_are : all_leaf_pairs ms ≡ pairs
