-- How many blocks of each kind a directory has: no more than an extent can have (chapter "Directories").
use Rattle.std.proofs.Common.{ℕ, ◌+◌, ◌*◌, ◌/◌, ◌^◌, ◌≤◌, ◌<◌, inl, inr, Bool, true, false, cond, nat_le, List, [], ◌∷◌, length, arith}
use Rattle.std.specs.List.{All}
use Rattle.std.proofs.lemmas.Bool.{cases_lt}
use Rattle.std.proofs.lemmas.List.Elements.{All-head, All-tail}
use Rattle.xfs_dirbuild.proofs.Filled.{count-fits, count-full}
use Rattle.xfs_dirbuild.specs.Filling.{filled}
use Rattle.xfs_dirbuild.specs.Forms.{data_blocks_of, data_count, free_blocks_of, index_blocks_of, leaf_blocks, nodes_above, tree_count, value_blocks}
use Rattle.xfs_dirbuild.specs.declared.forms.DirectoryForm.{DirectoryForm}
use Rattle.xfs_dirbuild.specs.declared.forms.DirectoryForm.TheVariants.{Short, Single, Leaf, Node}
use Rattle.xfs_dirdata.specs.Written.{IsWritableEntry, data_size_of}
use Rattle.xfs_dirdata.specs.declared.records.EntryRec.{EntryRec}

-- a block is full where an entry of at most 272 bytes does not fit it
filled_few : (at : ℕ) (es : List EntryRec) → All IsWritableEntry es → 3760 * length (filled at es) ≤ at + 272 * length es + 3760
unfolding filled
filled_few at [] all = omega arith
filled_few at (e ∷ es) all =
    let writable = All-head IsWritableEntry e es all in
    let name : length e.name < 256 = writable.name in
    let rest = All-tail IsWritableEntry e es all in
    elim (cases_lt 4096 (at + data_size_of e)) [
      | inl full ↦ let one = count-full at e es full in let more = filled_few (64 + data_size_of e) es rest in omega (arith, one, more, name, full)
      | inr fits ↦ let one = count-fits at e es fits in let more = filled_few (at + data_size_of e) es rest in omega (arith, one, more, name, fits)
    ]

count_few : (es : List EntryRec) → All IsWritableEntry es → length es ≤ 2 ^ 24 → data_count es ≤ 1300000
unfolding data_count
count_few es all few = let most = filled_few 96 es all in omega (arith, most, few)

pub data_few : (form : DirectoryForm) (es : List EntryRec) → All IsWritableEntry es → length es ≤ 2 ^ 24 → data_blocks_of form es ≤ 2097151
data_few Short es all few = omega arith
data_few Single es all few = omega arith
data_few Leaf es all few = let most = count_few es all few in omega (arith, most)
data_few Node es all few = let most = count_few es all few in omega (arith, most)

above_few : (blocks : ℕ) → nodes_above blocks ≤ (blocks + 503) / 504
above_few blocks = by_case (nat_le blocks 1)
  where
    by_case : (r : Bool) → cond r 0 ((blocks + 503) / 504) ≤ (blocks + 503) / 504
    by_case true = omega arith
    by_case false = omega arith

tree_few : (pairs : ℕ) → pairs ≤ 2 ^ 24 + 2 → tree_count pairs ≤ 2097151
unfolding tree_count
tree_few pairs few =
    let nodes = above_few (leaf_blocks pairs) in
    let tops = above_few (nodes_above (leaf_blocks pairs)) in
    omega (arith, nodes, tops, few)

values_few : (values : ℕ) → values ≤ 1300000 → value_blocks values ≤ 2097151
unfolding value_blocks
values_few values few = omega (arith, few)

pub index_few : (form : DirectoryForm) (es : List EntryRec) → length es ≤ 2 ^ 24 → index_blocks_of form es ≤ 2097151
index_few Short es few = omega arith
index_few Single es few = omega arith
index_few Leaf es few = omega arith
index_few Node es few = tree_few (length es + 2) (omega (arith, few))

pub free_few : (form : DirectoryForm) (es : List EntryRec) → All IsWritableEntry es → length es ≤ 2 ^ 24 → free_blocks_of form es ≤ 2097151
free_few Short es all few = omega arith
free_few Single es all few = omega arith
free_few Leaf es all few = omega arith
free_few Node es all few = values_few (data_count es) (count_few es all few)
