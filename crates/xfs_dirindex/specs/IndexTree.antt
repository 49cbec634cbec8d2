-- The tree of index blocks of the node form (chapter "Directories", "Node Directories").
use Rattle.std.specs.Prelude.{ℕ, zero, suc, Bool, true, false, ◌+◌, ◌*◌, ◌==◌, ◌&&◌, ◌||◌, nat_le, if◌then◌else◌, List, [], ◌∷◌, ◌++◌, length, map, filter, count_by}
use Rattle.std.specs.List.{flat_map}
use Rattle.xfs_word.specs.Field.{field_of}
use Rattle.xfs_dirindex.specs.declared.pairs.Pair.{Pair}
use Rattle.xfs_dirindex.specs.Pairs.{pairs_at, is_stale, same_pairs, is_index}
use Rattle.xfs_dirindex.specs.Mapped.{Mapped, is_index_block}
use Rattle.xfs_dirindex.specs.Leaf.{leaf_count, leaf_stale}
use Rattle.xfs_dirindex.specs.Lookup.{bytes_mapped, is_mapped}

-- the pairs of an index block: in a leaf those of names, in a node the greatest hash and the file block of each child
unfoldable pub pairs_of : List ℕ → List Pair
pairs_of bytes = pairs_at bytes 64 (leaf_count bytes)

-- the hash of its last pair
abbrev pub last_hash : List ℕ → ℕ
last_hash bytes = field_of bytes (56 + 8 * leaf_count bytes) 4

-- leaves are of level 0; nodes state their level where leaves state how many of their pairs are stale
abbrev pub magic_of_level : ℕ → ℕ
magic_of_level level = if level == 0 then 0x3dff else 0x3ebe

abbrev pub stated_of : ℕ → List ℕ → ℕ
stated_of level bytes = if level == 0 then count_by is_stale (pairs_of bytes) else level

-- a block of a level is mapped, has the magic number of its level and 1 to 504 pairs; so does a leaf that is the root, since
-- the directory and its parent have pairs there
unfoldable pub has_index_form : ℕ → List ℕ → Bool
has_index_form level bytes =
    is_mapped bytes && field_of bytes 8 2 == magic_of_level level && nat_le 1 (leaf_count bytes) && nat_le (leaf_count bytes) 504
    && leaf_stale bytes == stated_of level bytes

-- it names its neighbours on the level, and 0 at the ends
unfoldable pub has_neighbours : ℕ → ℕ → List ℕ → Bool
has_neighbours before next bytes = field_of bytes 4 4 == before && field_of bytes 0 4 == next

-- a pair of its parent gives its greatest hash; the root has no parent
abbrev pub has_greatest : Bool → ℕ → List ℕ → Bool
has_greatest root hash bytes = root || last_hash bytes == hash

abbrev pub is_member : List Mapped → Bool → ℕ → ℕ → Pair → ℕ → Bool
is_member ms root level before link next =
    has_index_form level (bytes_mapped ms link.address)
    && has_neighbours before next (bytes_mapped ms link.address)
    && has_greatest root link.hash (bytes_mapped ms link.address)

-- the blocks of a level, from the left, given by the pairs of their parents
abbrev pub next_link : List Pair → ℕ
next_link [] = 0
next_link (link ∷ links) = link.address

abbrev pub are_members : List Mapped → Bool → ℕ → ℕ → List Pair → Bool
are_members ms root level before [] = true
are_members ms root level before (link ∷ links) =
    is_member ms root level before link (next_link links) && are_members ms root level link.address links

-- the pairs of these blocks
abbrev pub pairs_below : List Mapped → List Pair → List Pair
pairs_below ms links = flat_map (λ link. pairs_of (bytes_mapped ms link.address)) links

-- the blocks of a level and of all levels below it keep their rules
abbrev pub are_levels : List Mapped → Bool → ℕ → List Pair → Bool
are_levels ms root zero links = are_members ms root 0 0 links
are_levels ms root (suc level) links = are_members ms root (suc level) 0 links && are_levels ms false level (pairs_below ms links)

-- file blocks, as pairs that have no hash, so that they are compared as pairs are
abbrev pub pair_of_place : ℕ → Pair
pair_of_place block = record { hash = 0; address = block }

abbrev pub pairs_of_places : List Pair → List Pair
pairs_of_places links = map (λ (link : Pair). pair_of_place link.address) links

-- all blocks of these levels
abbrev pub index_tree_places : List Mapped → ℕ → List Pair → List Pair
index_tree_places ms zero links = pairs_of_places links
index_tree_places ms (suc level) links = pairs_of_places links ++ index_tree_places ms level (pairs_below ms links)

-- the pairs of the leaves below, from the left
abbrev pub leaf_pairs : List Mapped → ℕ → List Pair → List Pair
leaf_pairs ms zero links = pairs_below ms links
leaf_pairs ms (suc level) links = leaf_pairs ms level (pairs_below ms links)

-- the root stands at the first file block of the index
abbrev pub root_links : List Pair
root_links = pair_of_place 0x800000 ∷ []

unfoldable pub level_in : List ℕ → ℕ
level_in bytes = if is_mapped bytes && field_of bytes 8 2 == 0x3ebe then leaf_stale bytes else 0

abbrev pub index_level : List Mapped → ℕ
index_level ms = level_in (bytes_mapped ms 0x800000)

-- what the whole tree is: whether its levels keep their rules, its blocks and the pairs of its leaves
unfoldable pub keeps_rules : List Mapped → Bool
keeps_rules ms = are_levels ms true (index_level ms) root_links

unfoldable pub index_tree_all_places : List Mapped → List Pair
index_tree_all_places ms = index_tree_places ms (index_level ms) root_links

unfoldable pub all_leaf_pairs : List Mapped → List Pair
all_leaf_pairs ms = leaf_pairs ms (index_level ms) root_links

-- the index blocks that are mapped
unfoldable pub index_places : List Mapped → List Pair
index_places ms = map (λ (m : Mapped). pair_of_place m.offset) (filter is_index_block ms)

-- some blocks are exactly those that are mapped
unfoldable pub are_exactly : List Mapped → List Pair → Bool
are_exactly ms places = length places == length (index_places ms) && same_pairs places (index_places ms)

-- these pairs of all leaves are sound
unfoldable pub are_due : List Pair → List Pair → Bool
are_due pairs due = is_index pairs (count_by is_stale pairs) due

-- the index blocks are a tree whose leaves have the pairs that are due
unfoldable pub is_tree : List Mapped → List Pair → Bool
is_tree ms due = keeps_rules ms && are_exactly ms (index_tree_all_places ms) && are_due (all_leaf_pairs ms) due
