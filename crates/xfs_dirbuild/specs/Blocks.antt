-- The bytes of a directory's blocks, before they get places and seals: the bytes of their seals are zero, and so is each byte
-- that no field has (chapter "Directories").
use Rattle.std.specs.Prelude.{ℕ, ◌+◌, ◌-◌, ◌*◌, List, [], ◌∷◌, ◌++◌, map, length, take, drop}
use Rattle.std.specs.List.{concat, flat_map, range_with_len}
use Rattle.xfs_word.specs.Field.{zeros}
use Rattle.xfs_disk.specs.Shares.{share_of, first_of_share}
use Rattle.xfs_dirdata.specs.declared.records.EntryRec.{EntryRec}
use Rattle.xfs_dirdata.specs.Bytes.{big_endian, data_bytes}
use Rattle.xfs_dirindex.specs.declared.pairs.Pair.{Pair}
use Rattle.xfs_dirindex.specs.IndexTree.{magic_of_level}
use Rattle.xfs_dirbuild.specs.Ranking.{in_rank}
use Rattle.xfs_dirbuild.specs.declared.forms.DirectoryForm.{DirectoryForm}
use Rattle.xfs_dirbuild.specs.declared.forms.DirectoryForm.TheVariants.{Short, Single, Leaf, Node}
use Rattle.xfs_dirbuild.specs.Filling.{all_entries, filled_shares, pairs_from, rest_in}
use Rattle.xfs_dirbuild.specs.Forms.{leaf_blocks, nodes_above, value_blocks}
use Rattle.xfs_dirbuild.specs.FreeBlocks.{values_in}
use Rattle.xfs_dirbuild.specs.Index.{before_at, next_at}

-- pairs one behind the other, of a hash and an address each
unfoldable pub pairs_bytes : List Pair → List ℕ
pairs_bytes pairs = flat_map (λ p. big_endian 4 p.hash ++ big_endian 4 p.address) pairs

-- values of 2 bytes one behind the other
unfoldable pub values_bytes : List ℕ → List ℕ
values_bytes values = flat_map (big_endian 2) values

-- a data block of the leaf and node form: the magic number, the seal, and the entries with what the header says of them
unfoldable pub data_block : List EntryRec → List ℕ
data_block entries = concat (big_endian 4 0x58444433 ∷ zeros 44 ∷ data_bytes entries 4096 ∷ [])

-- the front of the block of the single-block form, up to its index: the magic number, the seal and the entries
unfoldable pub area_bytes : List EntryRec → ℕ → List ℕ
area_bytes entries end = concat (big_endian 4 0x58444233 ∷ zeros 44 ∷ data_bytes entries end ∷ [])

-- that block: behind its front stand, up to its end, the pairs, how many they are, and that none is stale
unfoldable pub single_block : List EntryRec → List Pair → List ℕ
single_block entries pairs =
    concat (area_bytes entries (4088 - 8 * length pairs) ∷ pairs_bytes pairs ∷ big_endian 4 (length pairs) ∷ zeros 4 ∷ [])

-- the index block of the leaf form: no neighbours, the magic number, the seal, the number of pairs, none of which is stale, the
-- pairs, and at the end the values and their number
unfoldable pub leaf_block : List Pair → List ℕ → List ℕ
leaf_block pairs values =
    concat (zeros 8 ∷ big_endian 2 0x3df1 ∷ zeros 46 ∷ big_endian 2 (length pairs) ∷ zeros 6 ∷ pairs_bytes pairs
    ∷ zeros (4028 - (8 * length pairs + 2 * length values)) ∷ values_bytes values ∷ big_endian 4 (length values) ∷ [])

-- a block of the tree: the next block of its level and the one before, the magic number, the seal, the number of pairs, the
-- level, and the pairs
unfoldable pub index_block : ℕ → ℕ → ℕ → List Pair → List ℕ
index_block level before next pairs =
    concat (big_endian 4 next ∷ big_endian 4 before ∷ big_endian 2 (magic_of_level level) ∷ zeros 46 ∷ big_endian 2 (length pairs)
    ∷ big_endian 2 level ∷ zeros 4 ∷ pairs_bytes pairs ∷ zeros (4032 - 8 * length pairs) ∷ [])

-- a free block: the magic number, the seal, the first data block whose value it has, the number of values, all of mapped
-- blocks, and the values
unfoldable pub free_block : ℕ → List ℕ → List ℕ
free_block first values =
    concat (big_endian 4 0x58444633 ∷ zeros 44 ∷ big_endian 4 first ∷ big_endian 4 (length values) ∷ big_endian 4 (length values)
    ∷ zeros 4 ∷ values_bytes values ∷ zeros (4032 - 2 * length values) ∷ [])

-- the pairs of block i of a row of so many blocks, among which pairs are shared out
abbrev pub share_at : ℕ → List Pair → ℕ → List Pair
share_at count pairs i = take (share_of (length pairs) count i) (drop (first_of_share (length pairs) count i) pairs)

-- block i of a row of the tree, which begins with block `first` of the index, and all blocks of the row
abbrev pub row_block : ℕ → ℕ → ℕ → List Pair → ℕ → List ℕ
row_block level first count pairs i = index_block level (before_at first i) (next_at first count (i + 1)) (share_at count pairs i)

unfoldable pub row_blocks : ℕ → ℕ → ℕ → List Pair → List (List ℕ)
row_blocks level first count pairs = map (row_block level first count pairs) (range_with_len 0 count)

-- the greatest hash of pairs in rank
abbrev pub last_pair_hash : List Pair → ℕ
last_pair_hash [] = 0
last_pair_hash (p ∷ []) = p.hash
last_pair_hash (p ∷ q ∷ ps) = last_pair_hash (q ∷ ps)

-- the pair by which the row above names block i: its greatest hash, and its file block
abbrev pub link_at : ℕ → ℕ → List Pair → ℕ → Pair
link_at first count pairs i = record { hash = last_pair_hash (share_at count pairs i); address = 0x800000 + (first + i) }

-- and those of all blocks of a row
unfoldable pub index_links : ℕ → ℕ → List Pair → List Pair
index_links first count pairs = map (link_at first count pairs) (range_with_len 0 count)

-- the tree over pairs in rank, with so many blocks in its rows: the root, and behind it level by level down to the leaves;
-- two levels of nodes are enough for all that a directory can have
abbrev pub index_rows : ℕ → ℕ → ℕ → List Pair → List (List ℕ)
index_rows tops nodes leaves pairs =
    let below = index_links (tops + nodes) leaves pairs in
    row_blocks 2 0 tops (index_links tops nodes below) ++ (row_blocks 1 tops nodes below ++ row_blocks 0 (tops + nodes) leaves pairs)

-- the tree whose rows have as many blocks as they need
unfoldable pub index_tree_blocks : List Pair → List (List ℕ)
index_tree_blocks pairs =
    let leaves = leaf_blocks (length pairs) in
    index_rows (nodes_above (nodes_above leaves)) (nodes_above leaves) leaves pairs

-- free block i of those with these values, and all of them
abbrev pub free_block_at : List ℕ → ℕ → List ℕ
free_block_at values i = free_block (2016 * i) (values_in values i)

unfoldable pub free_index_blocks : List ℕ → List (List ℕ)
free_index_blocks values = map (free_block_at values) (range_with_len 0 (value_blocks (length values)))

-- so many blocks of a bank from one on
abbrev pub bank_part : List (List ℕ) → ℕ → ℕ → List (List ℕ)
bank_part bank from count = take count (drop from bank)

-- the pairs of the entries of data blocks, in rank
abbrev pub index_of : List (List EntryRec) → List Pair
index_of filled_shares = in_rank (pairs_from 0 filled_shares)

-- the blocks that a directory has in a form
unfoldable pub dir_blocks : DirectoryForm → ℕ → ℕ → List EntryRec → List (List ℕ)
dir_blocks Short dir parent entries = []
dir_blocks Single dir parent entries =
    single_block (all_entries dir parent entries) (index_of (all_entries dir parent entries ∷ [])) ∷ []
dir_blocks Leaf dir parent entries =
    map data_block (filled_shares dir parent entries) ++ leaf_block (index_of (filled_shares dir parent entries)) (map rest_in (filled_shares dir parent entries)) ∷ []
dir_blocks Node dir parent entries =
    map data_block (filled_shares dir parent entries)
    ++ (index_tree_blocks (index_of (filled_shares dir parent entries)) ++ free_index_blocks (map rest_in (filled_shares dir parent entries)))
