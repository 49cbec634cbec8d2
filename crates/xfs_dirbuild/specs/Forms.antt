-- Which form a directory gets, and how many blocks (chapter "Directories").
use Rattle.std.specs.Prelude.{ℕ, Bool, ◌+◌, ◌*◌, ◌/◌, ◌&&◌, nat_le, if◌then◌else◌, List, length}
use Rattle.xfs_dirdata.specs.Short.{index_size}
use Rattle.xfs_dirdata.specs.Written.{data_length, short_length}
use Rattle.xfs_dirdata.specs.declared.records.EntryRec.{EntryRec}
use Rattle.xfs_dirbuild.specs.declared.forms.DirectoryForm.{DirectoryForm}
use Rattle.xfs_dirbuild.specs.declared.forms.DirectoryForm.TheVariants.{Short, Single, Leaf, Node}
use Rattle.xfs_dirbuild.specs.Filling.{filled}

-- a header, the entries with those of the directory and its parent, the pairs and the tail fit one block
unfoldable pub fits_single : List EntryRec → Bool
fits_single entries = nat_le (96 + data_length entries + index_size (length entries)) 4096

-- the short form fits the fork, and its entries one block
abbrev pub fits_short : List EntryRec → ℕ → Bool
fits_short entries fork = nat_le (6 + short_length entries) fork && fits_single entries

-- how many data blocks the entries fill, behind those of the directory and its parent
unfoldable pub data_count : List EntryRec → ℕ
data_count entries = length (filled 96 entries)

-- a header, the pairs, a value for each data block and the number of values fit one block
unfoldable pub fits_leaf : List EntryRec → Bool
fits_leaf entries = nat_le (64 + 8 * (length entries + 2) + 2 * data_count entries + 4) 4096

-- the first form that fits
abbrev pub form_of : List EntryRec → ℕ → DirectoryForm
form_of entries fork =
    if fits_short entries fork then Short else if fits_single entries then Single else if fits_leaf entries then Leaf else Node

-- how many leaves some pairs need, of 504 each, and how many nodes stand above so many blocks of a level: none above one
abbrev pub leaf_blocks : ℕ → ℕ
leaf_blocks pairs = (pairs + 503) / 504

abbrev pub nodes_above : ℕ → ℕ
nodes_above blocks = if nat_le blocks 1 then 0 else (blocks + 503) / 504

-- the blocks of the tree over so many pairs; two levels of nodes are enough for all that a directory can have
unfoldable pub tree_count : ℕ → ℕ
tree_count pairs = nodes_above (nodes_above (leaf_blocks pairs)) + nodes_above (leaf_blocks pairs) + leaf_blocks pairs

-- how many free blocks there are, of 2016 values each
unfoldable pub value_blocks : ℕ → ℕ
value_blocks values = (values + 2015) / 2016

-- how many blocks of each kind a form has
abbrev pub data_blocks_of : DirectoryForm → List EntryRec → ℕ
data_blocks_of Short entries = 0
data_blocks_of Single entries = 1
data_blocks_of Leaf entries = data_count entries
data_blocks_of Node entries = data_count entries

abbrev pub index_blocks_of : DirectoryForm → List EntryRec → ℕ
index_blocks_of Short entries = 0
index_blocks_of Single entries = 0
index_blocks_of Leaf entries = 1
index_blocks_of Node entries = tree_count (length entries + 2)

abbrev pub free_blocks_of : DirectoryForm → List EntryRec → ℕ
free_blocks_of Short entries = 0
free_blocks_of Single entries = 0
free_blocks_of Leaf entries = 0
free_blocks_of Node entries = value_blocks (data_count entries)
