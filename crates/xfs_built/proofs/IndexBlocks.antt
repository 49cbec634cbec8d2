-- The blocks of an index that is built are no data and no free blocks, and have one of the three magic numbers of an index.
use Rattle.std.proofs.Common.{◌≡◌, ◌⊎◌, inl, inr, ℕ, zero, suc, Bool, true, false, ◌+◌, ◌^◌, ◌≤◌, ◌<◌, ◌==◌, ◌||◌, if◌then◌else◌, List, [], ◌∷◌, ◌++◌, length, map, get_or, refl, sym, ap, ap₂, ◌∙◌, subst, arith}
use Rattle.std.specs.Int.{bytes_high_first}
use Rattle.std.specs.List.{AllByRecursion, range_with_len}
use Rattle.std.proofs.lemmas.Bool.{eqb-true, ne_eqb}
use Rattle.std.proofs.lemmas.List.{get_or-append-add, get_or_append_left}
use Rattle.std.proofs.lemmas.List.Elements.{All-from_recursion}
use Rattle.byteorder.specs.Numbers.{big_number-reads_back}
use Rattle.xfs_word.specs.Field.{field_of, zeros}
use Rattle.xfs_word.specs.Seal.{has_magic}
use Rattle.xfs_word.specs.declared.kinds.SealKind.TheVariants.{DirData, DirFree}
use Rattle.xfs_dirdata.specs.declared.records.EntryRec.{EntryRec}
use Rattle.xfs_dirindex.specs.IndexTree.{magic_of_level}
use Rattle.xfs_dirindex.specs.declared.pairs.Pair.{Pair}
use Rattle.xfs_dirbuild.specs.Blocks.{data_block, dir_blocks, free_index_blocks, index_block, index_links, index_of, index_rows, index_tree_blocks, leaf_block, row_block, row_blocks}
use Rattle.xfs_dirbuild.specs.Filling.{filled_shares, rest_in}
use Rattle.xfs_dirbuild.specs.Forms.{data_blocks_of, index_blocks_of, leaf_blocks, nodes_above, tree_count}
use Rattle.xfs_dirbuild.specs.declared.forms.DirectoryForm.{DirectoryForm}
use Rattle.xfs_dirbuild.specs.declared.forms.DirectoryForm.TheVariants.{Leaf, Node, Short, Single}
use Rattle.xfs_dirbuild.proofs.Magics.{next-small}
use Rattle.xfs_dirbuild.proofs.TreeCounts.{total-is}
use Rattle.xfs_built.proofs.Sized.{length_data, length_index, length_tree, tree_low}
use Rattle.xfs_built.proofs.Fronts.{all_append}

-- it names no block behind file block 0x1000000, and has the magic number of a leaf, of a leaf of a tree, or of a node
pub record IsIndexLike (bytes : List ℕ) : Type 0 where
  pub forw : field_of bytes 0 4 ≤ 0x1000000
  pub kind : (field_of bytes 8 2 ≡ 0x3df1) ⊎ ((field_of bytes 8 2 ≡ 0x3dff) ⊎ (field_of bytes 8 2 ≡ 0x3ebe))

-- the first number of a block that begins with it, and the number behind two others
first_number : (next : ℕ) (rest : List ℕ) → next ≤ 0x1000000 → field_of (bytes_high_first 4 next ++ rest) 0 4 ≡ next
unfolding field_of
first_number next rest low = big_number-reads_back 4 next rest (omega (arith, low))

third_number : (a b m : ℕ) (rest : List ℕ) → m < 2 ^ 16 → field_of (bytes_high_first 4 a ++ (bytes_high_first 4 b ++ (bytes_high_first 2 m ++ rest))) 8 2 ≡ m
unfolding field_of
third_number a b m rest low = big_number-reads_back 2 m rest (omega (arith, low))

abbrev IsTreeMagic : ℕ → Type 0
IsTreeMagic m = (m ≡ 0x3dff) ⊎ (m ≡ 0x3ebe)

level_magic : (level : ℕ) → IsTreeMagic (magic_of_level level)
level_magic level = by_case (level == 0)
  where
    by_case : (t : Bool) → IsTreeMagic (if t then 0x3dff else 0x3ebe)
    by_case true = inl refl
    by_case false = inr refl

magic_low : (m : ℕ) → (m ≡ 0x3dff) ⊎ (m ≡ 0x3ebe) → m < 2 ^ 16
magic_low m (inl is) = omega (arith, is)
magic_low m (inr is) = omega (arith, is)

one_of : (m n : ℕ) → n ≡ m → (m ≡ 0x3dff) ⊎ (m ≡ 0x3ebe) → (n ≡ 0x3df1) ⊎ ((n ≡ 0x3dff) ⊎ (n ≡ 0x3ebe))
one_of m n same (inl is) = inr (inl (same ∙ is))
one_of m n same (inr is) = inr (inr (same ∙ is))

index_like : (level before next : ℕ) (pairs : List Pair) → next ≤ 0x1000000 → IsIndexLike (index_block level before next pairs)
unfolding index_block
index_like level before next pairs low =
    let first : field_of (index_block level before next pairs) 0 4 ≡ next = first_number next _ low in
    record {
      forw = omega (arith, first, low);
      kind = one_of (magic_of_level level) (field_of (index_block level before next pairs) 8 2)
          (third_number next before (magic_of_level level) _ (magic_low (magic_of_level level) (level_magic level))) (level_magic level);
    }

leaf_like : (pairs : List Pair) (values : List ℕ) → IsIndexLike (leaf_block pairs values)
unfolding leaf_block zeros
leaf_like pairs values =
    let first : field_of (leaf_block pairs values) 0 4 ≡ 0 = first_number 0 _ (omega arith) in
    record { forw = omega (arith, first); kind = inl (third_number 0 0 0x3df1 _ (omega arith)) }

-- all blocks of a row, and of a tree
all_made : {X : Type 0} (P : X → Type 0) (f : ℕ → X) (k n : ℕ) → ((i : ℕ) → P (f i)) → AllByRecursion P (map f (range_with_len k n))
all_made P f k zero each = tt
all_made P f k (suc n) each = (each k, all_made P f (k + 1) n each)

row_like : (level first count : ℕ) (pairs : List Pair) → first + count ≤ 0x800000 → AllByRecursion IsIndexLike (row_blocks level first count pairs)
unfolding row_blocks
row_like level first count pairs room =
    all_made IsIndexLike (row_block level first count pairs) 0 count (λ i. index_like level _ _ _ (next-small first count (i + 1) room))

rows_like : (tops nodes leaves : ℕ) (pairs : List Pair) → tops + nodes + leaves ≤ 0x800000 → AllByRecursion IsIndexLike (index_rows tops nodes leaves pairs)
rows_like tops nodes leaves pairs room =
    let below : List Pair = index_links (tops + nodes) leaves pairs in
    all_append IsIndexLike (row_blocks 2 0 tops (index_links tops nodes below)) (row_blocks 1 tops nodes below ++ row_blocks 0 (tops + nodes) leaves pairs)
    (row_like 2 0 tops (index_links tops nodes below) (omega (arith, room)))
    (all_append IsIndexLike (row_blocks 1 tops nodes below) (row_blocks 0 (tops + nodes) leaves pairs)
    (row_like 1 tops nodes below (omega (arith, room))) (row_like 0 (tops + nodes) leaves pairs (omega (arith, room))))

tree_like : (pairs : List Pair) → length pairs ≤ 2 ^ 24 + 2 → AllByRecursion IsIndexLike (index_tree_blocks pairs)
unfolding index_tree_blocks
tree_like pairs few =
    let leaves : ℕ = leaf_blocks (length pairs) in
    let low = tree_low (length pairs) few in
    let total = total-is (length pairs) leaves (nodes_above leaves) (nodes_above (nodes_above leaves)) refl refl refl in
    rows_like (nodes_above (nodes_above leaves)) (nodes_above leaves) leaves pairs (omega (arith, low, total))

one_like : (x : List ℕ) (k : ℕ) → IsIndexLike x → k < 1 → IsIndexLike (get_or (x ∷ []) k [])
one_like x zero is low = is
one_like x (suc k) is low = absurd (omega (arith, low))

-- behind the data blocks
pub index_at : (form : DirectoryForm) (d parent : ℕ) (es : List EntryRec) (k : ℕ) → length es ≤ 2 ^ 24 → k < index_blocks_of form es
    → IsIndexLike (get_or (dir_blocks form d parent es) (data_blocks_of form es + k) [])
unfolding dir_blocks
index_at Short d parent es k few low = absurd (omega (arith, low))
index_at Single d parent es k few low = absurd (omega (arith, low))
index_at Leaf d parent es k few low =
    let front : List (List ℕ) = map data_block (filled_shares d parent es) in
    let leaf : List ℕ = leaf_block (index_of (filled_shares d parent es)) (map rest_in (filled_shares d parent es)) in
    let here : get_or (front ++ leaf ∷ []) (length front + k) [] ≡ get_or (leaf ∷ []) k [] = get_or-append-add front (leaf ∷ []) k [] in
    subst (λ (n : ℕ). IsIndexLike (get_or (front ++ leaf ∷ []) (n + k) [])) (length_data d parent es)
    (subst IsIndexLike (sym here) (one_like leaf k (leaf_like _ _) low))
index_at Node d parent es k few low =
    let shares : List (List EntryRec) = filled_shares d parent es in
    let front : List (List ℕ) = map data_block shares in
    let tree : List (List ℕ) = index_tree_blocks (index_of shares) in
    let free : List (List ℕ) = free_index_blocks (map rest_in shares) in
    let pairs : length (index_of shares) ≡ length es + 2 = length_index d parent es in
    let many : length tree ≡ tree_count (length es + 2) = length_tree (index_of shares) ∙ ap tree_count pairs in
    let inside : k < length tree = omega (arith, low, many) in
    let here : get_or (front ++ (tree ++ free)) (length front + k) [] ≡ get_or tree k [] =
    get_or-append-add front (tree ++ free) k [] ∙ get_or_append_left tree free [] k inside in
    subst (λ (n : ℕ). IsIndexLike (get_or (front ++ (tree ++ free)) (n + k) [])) (length_data d parent es)
    (subst IsIndexLike (sym here) (All-from_recursion IsIndexLike tree (tree_like (index_of shares) (omega (arith, pairs, few))) k [] inside))

-- no data block, and no free block
pub no_data : (bytes : List ℕ) → field_of bytes 0 4 ≤ 0x1000000 → has_magic DirData bytes ≡ false
unfolding has_magic
no_data bytes low =
    ap₂ (λ (s t : Bool). s || t) (ne_eqb (field_of bytes 0 4) 0x58444433 (λ e. omega (arith, e, low))) (ne_eqb (field_of bytes 0 4) 0x58444233 (λ e. omega (arith, e, low)))

pub no_free : (bytes : List ℕ) → field_of bytes 0 4 ≤ 0x1000000 → has_magic DirFree bytes ≡ false
unfolding has_magic
no_free bytes low = ne_eqb (field_of bytes 0 4) 0x58444633 (λ e. omega (arith, e, low))

pub free_no_data : (bytes : List ℕ) → has_magic DirFree bytes ≡ true → has_magic DirData bytes ≡ false
unfolding has_magic
free_no_data bytes is = ap (λ (n : ℕ). n == 0x58444433 || n == 0x58444233) (eqb-true (field_of bytes 0 4) 0x58444633 is)
