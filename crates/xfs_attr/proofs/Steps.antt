-- One more entry of a leaf.
use Rattle.std.proofs.Common.{◌≡◌, ℕ, ◌+◌, ◌<◌, ◌≤◌, Bool, true, false, cond, ◌&&◌, List, [], ◌∷◌, ◌++◌, length, map, refl, ap, ◌∙◌, arith}
use Rattle.std.specs.List.{list_all, filter, sum_by}
use Rattle.std.proofs.lemmas.List.{append-nil, map-append}
use Rattle.std.proofs.lemmas.List.Folds.{list_all-append, list_all_at}
use Rattle.std.proofs.lemmas.List.FromFn.{length-map-range_with_len, get_or-map-range_with_len, map-range_with_len_more, sum_by-map-range_with_len_more, filter_of_map_range_with_len_more}
use Rattle.xfs_attr.specs.declared.entries.LeafEntry.{LeafEntry}
use Rattle.xfs_attr.specs.Leaf.{leaf_entry_at, entries, leaf_entry_size, is_complete, attribute_of}

-- no value takes fewer than four bytes
pub some_bytes : (block : List ℕ) (entry : LeafEntry) → 4 ≤ leaf_entry_size block entry
unfolding leaf_entry_size
some_bytes block entry = omega arith

pub one_more : (block : List ℕ) (n : ℕ) → entries block (n + 1) ≡ entries block n ++ (leaf_entry_at block n ∷ [])
one_more block n = map-range_with_len_more (leaf_entry_at block) 0 n n (omega arith)

both : (a b : Bool) → (a && (b && true)) ≡ (a && b)
both a true = refl
both a false = refl

pub all_more : (p : LeafEntry → Bool) (block : List ℕ) (n : ℕ) → list_all p (entries block (n + 1)) ≡ (list_all p (entries block n) && p (leaf_entry_at block n))
all_more p block n =
    ap (list_all p) (one_more block n) ∙ (list_all-append p (entries block n) (leaf_entry_at block n ∷ []) ∙ both (list_all p (entries block n)) (p (leaf_entry_at block n)))

-- one entry settles it
pub not_all : (p : LeafEntry → Bool) (block : List ℕ) (n i : ℕ) → i < n → p (leaf_entry_at block i) ≡ false → list_all p (entries block n) ≡ false
not_all p block n i low fails =
    let long : length (entries block n) ≡ n = length-map-range_with_len (leaf_entry_at block) 0 n in
    let inside : i < length (entries block n) = omega arith in
    list_all_at p (entries block n) i (leaf_entry_at block i) inside
    (ap p (get_or-map-range_with_len (leaf_entry_at block) 0 n i i (leaf_entry_at block i) low (omega arith)) ∙ fails)

pub sum_more : (f : LeafEntry → ℕ) (block : List ℕ) (n : ℕ) → sum_by f (entries block (n + 1)) ≡ sum_by f (entries block n) + f (leaf_entry_at block n)
sum_more f block n = sum_by-map-range_with_len_more f (leaf_entry_at block) 0 n n (omega arith)

-- an entry that is an attribute
pub kept_more : (block : List ℕ) (n : ℕ) → is_complete (leaf_entry_at block n) ≡ true
    → map (attribute_of block) (filter is_complete (entries block (n + 1)))
    ≡ map (attribute_of block) (filter is_complete (entries block n)) ++ (attribute_of block (leaf_entry_at block n) ∷ [])
kept_more block n kept =
    let more = filter_of_map_range_with_len_more is_complete (leaf_entry_at block) 0 n n (omega arith) in
    ap (map (attribute_of block)) (more ∙ ap (λ (b : Bool). filter is_complete (entries block n) ++ cond b (leaf_entry_at block n ∷ []) []) kept)
    ∙ map-append (attribute_of block) (filter is_complete (entries block n)) (leaf_entry_at block n ∷ [])

-- an entry that is none
pub skipped_more : (block : List ℕ) (n : ℕ) → is_complete (leaf_entry_at block n) ≡ false
    → map (attribute_of block) (filter is_complete (entries block (n + 1))) ≡ map (attribute_of block) (filter is_complete (entries block n))
skipped_more block n skipped =
    let more = filter_of_map_range_with_len_more is_complete (leaf_entry_at block) 0 n n (omega arith) in
    ap (map (attribute_of block))
    (more
    ∙ (ap (λ (b : Bool). filter is_complete (entries block n) ++ cond b (leaf_entry_at block n ∷ []) []) skipped ∙ append-nil (filter is_complete (entries block n))))
