-- How many blocks a directory is built with.
use Rattle.std.proofs.Common.{◌≡◌, inl, inr, ℕ, suc, Bool, true, false, ◌+◌, ◌*◌, ◌/◌, ◌^◌, ◌≤◌, ◌<◌, ◌==◌, if◌then◌else◌, List, [], ◌∷◌, ◌++◌, length, map, refl, sym, ap, ap₂, ◌∙◌, arith}
use Rattle.std.specs.List.{All, flat_map, range_with_len}
use Rattle.std.proofs.lemmas.Bool.{cases_lt}
use Rattle.std.proofs.lemmas.List.{length-append, length-map}
use Rattle.std.proofs.lemmas.List.Elements.{All-filter, All-head, All-tail}
use Rattle.xfs_dirdata.specs.declared.records.EntryRec.{EntryRec}
use Rattle.xfs_dirdata.specs.Written.{IsWritableEntry, data_size_of, offsets}
use Rattle.xfs_dirindex.specs.Data.{due_pairs}
use Rattle.xfs_dirindex.specs.Sorted.{is_pair_upto}
use Rattle.xfs_dirindex.specs.declared.pairs.Pair.{Pair}
use Rattle.xfs_dirbuild.specs.Blocks.{data_block, dir_blocks, free_block_at, free_index_blocks, index_links, index_of, index_rows, index_tree_blocks, leaf_block, row_block, row_blocks}
use Rattle.xfs_dirbuild.specs.Filling.{all_entries, filled, filled_shares, pairs_from, rest_in}
use Rattle.xfs_dirbuild.specs.Forms.{data_blocks_of, data_count, form_of, free_blocks_of, index_blocks_of, leaf_blocks, nodes_above, tree_count, value_blocks}
use Rattle.xfs_dirbuild.specs.Ranking.{in_rank, with_pair}
use Rattle.xfs_dirbuild.specs.declared.forms.DirectoryForm.{DirectoryForm}
use Rattle.xfs_dirbuild.specs.declared.forms.DirectoryForm.TheVariants.{Leaf, Node, Short, Single}
use Rattle.xfs_dirbuild.proofs.DataPlaced.{flat-filled}
use Rattle.xfs_dirbuild.proofs.FillSteps.{shares-count}
use Rattle.xfs_dirbuild.proofs.Filled.{count-fits, count-full, filled-some}
use Rattle.xfs_dirbuild.proofs.TreeCounts.{above-most, total-is}
use Rattle.xfs_naming.specs.Naming.{entries_in}
use Rattle.xfs_names.specs.Built.{CanBeBuilt, IsBuiltAsWanted, IsImageIn, fork_room}
use Rattle.xfs_names.specs.Pairs.{parent_or_itself}
use Rattle.xfs_names.specs.declared.building.BuiltDirectory.{BuiltDirectory}
use Rattle.xfs_names.specs.declared.building.ForkRoom.{ForkRoom}
use Rattle.xfs_names.specs.declared.records.WantedNames.{WantedNames}
use Rattle.xfs_names.proofs.OwnEntries.{own_few}
use Rattle.xfs_built.specs.Directories.{HasOwnCounts}
use Rattle.xfs_built.proofs.Mapping.{length_range}

-- pairs in rank are as many as before
length_step : (t : Bool) (p q : Pair) (qs : List Pair) → length (with_pair p qs) ≡ suc (length qs) → length (if t then p ∷ q ∷ qs else q ∷ with_pair p qs) ≡ suc (suc (length qs))
length_step true p q qs more = refl
length_step false p q qs more = ap suc more

length_with : (p : Pair) (qs : List Pair) → length (with_pair p qs) ≡ suc (length qs)
length_with p [] = refl
length_with p (q ∷ qs) = length_step (is_pair_upto p q) p q qs (length_with p qs)

length_rank : (ps : List Pair) → length (in_rank ps) ≡ length ps
unfolding in_rank
length_rank [] = refl
length_rank (p ∷ ps) = length_with p (in_rank ps) ∙ ap suc (length_rank ps)

-- an entry has one pair
length_due : (block at : ℕ) (es : List EntryRec) → length (due_pairs block es (offsets at es)) ≡ length es
length_due block at [] = refl
length_due block at (e ∷ es) = ap suc (length_due block (at + data_size_of e) es)

length_pairs : (block : ℕ) (ess : List (List EntryRec)) → length (pairs_from block ess) ≡ length (flat_map (λ (xs : List EntryRec). xs) ess)
length_pairs block [] = refl
length_pairs block (es ∷ ess) =
    length-append (due_pairs block es (offsets 64 es)) (pairs_from (block + 1) ess)
    ∙ (ap₂ (λ (m n : ℕ). m + n) (length_due block 64 es) (length_pairs (block + 1) ess) ∙ sym (length-append es (flat_map (λ (xs : List EntryRec). xs) ess)))

pub length_index : (d parent : ℕ) (es : List EntryRec) → length (index_of (filled_shares d parent es)) ≡ length es + 2
length_index d parent es =
    let all : length (index_of (filled_shares d parent es)) ≡ length (all_entries d parent es) =
    length_rank (pairs_from 0 (filled_shares d parent es))
    ∙ (length_pairs 0 (filled_shares d parent es) ∙ ap length (flat-filled 64 (all_entries d parent es))) in
    all ∙ omega arith

-- the rows of the tree
length_row : (level first count : ℕ) (pairs : List Pair) → length (row_blocks level first count pairs) ≡ count
unfolding row_blocks
length_row level first count pairs = length-map (range_with_len 0 count) (row_block level first count pairs) ∙ length_range 0 count

length_rows : (tops nodes leaves : ℕ) (pairs : List Pair) → length (index_rows tops nodes leaves pairs) ≡ tops + nodes + leaves
length_rows tops nodes leaves pairs =
    let below : List Pair = index_links (tops + nodes) leaves pairs in
    let top : List (List ℕ) = row_blocks 2 0 tops (index_links tops nodes below) in
    let middle : List (List ℕ) = row_blocks 1 tops nodes below in
    let low : List (List ℕ) = row_blocks 0 (tops + nodes) leaves pairs in
    let one = length_row 2 0 tops (index_links tops nodes below) in
    let two = length_row 1 tops nodes below in
    let three = length_row 0 (tops + nodes) leaves pairs in
    length-append top (middle ++ low)
    ∙ (ap₂ (λ (m n : ℕ). m + n) one (length-append middle low ∙ ap₂ (λ (m n : ℕ). m + n) two three) ∙ omega arith)

pub length_tree : (pairs : List Pair) → length (index_tree_blocks pairs) ≡ tree_count (length pairs)
unfolding index_tree_blocks tree_count
length_tree pairs =
    length_rows (nodes_above (nodes_above (leaf_blocks (length pairs)))) (nodes_above (leaf_blocks (length pairs))) (leaf_blocks (length pairs)) pairs

length_free : (values : List ℕ) → length (free_index_blocks values) ≡ value_blocks (length values)
unfolding free_index_blocks
length_free values = length-map (range_with_len 0 (value_blocks (length values))) (free_block_at values) ∙ length_range 0 (value_blocks (length values))

pub length_data : (d parent : ℕ) (es : List EntryRec) → length (map data_block (filled_shares d parent es)) ≡ data_count es
length_data d parent es = length-map (filled_shares d parent es) data_block ∙ shares-count d parent es

pub length_blocks : (form : DirectoryForm) (d parent : ℕ) (es : List EntryRec)
    → length (dir_blocks form d parent es) ≡ data_blocks_of form es + index_blocks_of form es + free_blocks_of form es
unfolding dir_blocks
length_blocks Short d parent es = refl
length_blocks Single d parent es = refl
length_blocks Leaf d parent es =
    length-append (map data_block (filled_shares d parent es)) (leaf_block (index_of (filled_shares d parent es)) (map rest_in (filled_shares d parent es)) ∷ [])
    ∙ (ap (λ (n : ℕ). n + 1) (length_data d parent es) ∙ omega arith)
length_blocks Node d parent es =
    let shares = filled_shares d parent es in
    let tree : length (index_tree_blocks (index_of shares)) ≡ tree_count (length es + 2) = length_tree (index_of shares) ∙ ap tree_count (length_index d parent es) in
    let free : length (free_index_blocks (map rest_in shares)) ≡ value_blocks (data_count es) =
    length_free (map rest_in shares) ∙ ap value_blocks (length-map shares rest_in ∙ shares-count d parent es) in
    length-append (map data_block shares) (index_tree_blocks (index_of shares) ++ free_index_blocks (map rest_in shares))
    ∙ (ap₂ (λ (m n : ℕ). m + n) (length_data d parent es)
    (length-append (index_tree_blocks (index_of shares)) (free_index_blocks (map rest_in shares)) ∙ ap₂ (λ (m n : ℕ). m + n) tree free) ∙ omega arith)

-- none of these numbers is high
pub tree_low : (n : ℕ) → n ≤ 2 ^ 24 + 2 → tree_count n ≤ 0x180000
tree_low n few =
    let leaves : ℕ = leaf_blocks n in
    let nodes : ℕ = nodes_above leaves in
    let tops : ℕ = nodes_above nodes in
    let all : tree_count n ≡ tops + nodes + leaves = total-is n leaves nodes tops refl refl refl in
    let one : nodes ≤ (leaves + 503) / 504 = above-most leaves nodes refl in
    let two : tops ≤ (nodes + 503) / 504 = above-most nodes tops refl in
    let base : leaves ≡ (n + 503) / 504 = refl in
    sized_tree n leaves nodes tops (tree_count n) few all one two base
  where
    sized_tree : (m leaves nodes tops whole : ℕ) → m ≤ 2 ^ 24 + 2 → whole ≡ tops + nodes + leaves → nodes ≤ (leaves + 503) / 504 → tops ≤ (nodes + 503) / 504
        → leaves ≡ (m + 503) / 504 → whole ≤ 0x180000
    sized_tree m leaves nodes tops whole low all one two base = omega (arith, low, all, one, two, base)

filled_low : (at : ℕ) (es : List EntryRec) → All IsWritableEntry es → 3760 * length (filled at es) ≤ at + 272 * length es + 3760
unfolding filled
filled_low at [] all = omega arith
filled_low at (e ∷ es) all =
    let writable = All-head IsWritableEntry e es all in
    let name : length e.name < 256 = writable.name in
    let rest = All-tail IsWritableEntry e es all in
    elim (cases_lt 4096 (at + data_size_of e)) [
      | inl full ↦ let one = count-full at e es full in let more = filled_low (64 + data_size_of e) es rest in omega (arith, one, more, name, full)
      | inr fits ↦ let one = count-fits at e es fits in let more = filled_low (at + data_size_of e) es rest in omega (arith, one, more, name, fits)
    ]

count_low : (es : List EntryRec) → All IsWritableEntry es → length es ≤ 2 ^ 24 → data_count es ≤ 0x180000
unfolding data_count
count_low es all few = omega (arith, filled_low 96 es all, few)

values_low : (n : ℕ) → n ≤ 0x180000 → value_blocks n ≤ 0x180000
unfolding value_blocks
values_low n few = omega (arith, few)

pub data_low : (form : DirectoryForm) (es : List EntryRec) → All IsWritableEntry es → length es ≤ 2 ^ 24 → data_blocks_of form es ≤ 0x180000
data_low Short es writable few = omega arith
data_low Single es writable few = omega arith
data_low Leaf es writable few = count_low es writable (omega (arith, few))
data_low Node es writable few = count_low es writable (omega (arith, few))

pub index_low : (form : DirectoryForm) (es : List EntryRec) → length es ≤ 2 ^ 24 → index_blocks_of form es ≤ 0x180000
index_low Short es few = omega arith
index_low Single es few = omega arith
index_low Leaf es few = omega arith
index_low Node es few = tree_low (length es + 2) (omega (arith, few))

pub free_low : (form : DirectoryForm) (es : List EntryRec) → All IsWritableEntry es → length es ≤ 2 ^ 24 → free_blocks_of form es ≤ 0x180000
free_low Short es writable few = omega arith
free_low Single es writable few = omega arith
free_low Leaf es writable few = omega arith
free_low Node es writable few = values_low (data_count es) (count_low es writable (omega (arith, few)))

-- only the short form has no data blocks
some_data : (es : List EntryRec) → 1 ≤ data_count es
unfolding data_count
some_data es = filled-some 96 es

pub none_short : (form : DirectoryForm) (es : List EntryRec) → data_blocks_of form es ≡ 0 → form ≡ Short
none_short Short es none = refl
none_short Single es none = absurd (omega (arith, none))
none_short Leaf es none = let some = some_data es in absurd (omega (arith, none, some))
none_short Node es none = let some = some_data es in absurd (omega (arith, none, some))

no_blocks : (form : DirectoryForm) (d parent : ℕ) (es : List EntryRec) → data_blocks_of form es ≡ 0 → dir_blocks form d parent es ≡ []
unfolding dir_blocks
no_blocks form d parent es none = ap (λ (f : DirectoryForm). dir_blocks f d parent es) (none_short form es none)

image_sized : (form : DirectoryForm) (es : List EntryRec) (parent : ℕ) (b : BuiltDirectory) → IsImageIn form es b.ino parent b.image → All IsWritableEntry es → length es ≤ 2 ^ 24
    → b.ino < 2 ^ 32 → HasOwnCounts b
image_sized form es parent b is writable few low =
    let data_is = is.data_count in
    let index_is = is.index_count in
    let free_is = is.free_count in
    let data_few = data_low form es writable few in
    let index_few = index_low form es few in
    let free_few = free_low form es writable few in
    let blocks_is : length b.image.blocks ≡ data_blocks_of form es + index_blocks_of form es + free_blocks_of form es = ap length is.blocks_are ∙ length_blocks form b.ino parent es in
    record {
      low = omega (arith, low);
      data' = omega (arith, data_is, data_few);
      index' = omega (arith, index_is, index_few);
      free' = omega (arith, free_is, free_few);
      count = omega (arith, blocks_is, data_is, index_is, free_is);
      none = λ no. is.blocks_are ∙ no_blocks form b.ino parent es (sym data_is ∙ no);
    }

-- what a directory needs of the names that are wanted
pub own_writable : (w : WantedNames) (d : ℕ) → CanBeBuilt w → All IsWritableEntry (entries_in w.entries d)
own_writable w d can = All-filter (λ (e : EntryRec). e.dir == d) IsWritableEntry w.entries can.writable

pub own_are_few : (w : WantedNames) (d : ℕ) → CanBeBuilt w → length (entries_in w.entries d) ≤ 2 ^ 24
own_are_few w d can = let own = own_few w.entries d in let few = can.few in omega (arith, own, few)

pub built_sized : (w : WantedNames) (rooms : List ForkRoom) (b : BuiltDirectory) → CanBeBuilt w → b.ino < 2 ^ 32 → IsBuiltAsWanted w rooms b → HasOwnCounts b
built_sized w rooms b can low is =
    image_sized (form_of (entries_in w.entries b.ino) (fork_room rooms b.ino)) (entries_in w.entries b.ino) (parent_or_itself w.parents b.ino) b is
    (own_writable w b.ino can) (own_are_few w b.ino can) low
