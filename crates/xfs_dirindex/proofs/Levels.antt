-- The levels of a tree of index blocks.
use Rattle.std.proofs.Common.{◌≡◌, ℕ, suc, ◌+◌, Bool, true, false, ◌&&◌, nat_le, nat_lt, if◌then◌else◌, List, [], ◌∷◌, ◌++◌, drop, map, filter, refl, sym, ap, ◌∙◌, subst}
use Rattle.std.specs.List.{list_all}
use Rattle.std.proofs.lemmas.List.{append_assoc, map-append}
use Rattle.std.proofs.lemmas.List.Elements.{filter-append}
use Rattle.std.proofs.lemmas.Bool.{and_left}
use Rattle.xfs_dirindex.specs.declared.pairs.Pair.{Pair}
use Rattle.xfs_dirindex.specs.Mapped.{Mapped, mapped_block, is_index_block}
use Rattle.xfs_dirindex.specs.IndexTree.{pair_of_place, pairs_of_places, are_members, are_levels, pairs_below, index_tree_places, leaf_pairs}

and-true : (x y : Bool) → x ≡ true → (x && y) ≡ y
and-true true y is = refl
and-true false y is = cc

-- one level after the other
pub levels-step : (ms : List Mapped) (root : Bool) (level below : ℕ) (links : List Pair) → suc below ≡ level → are_members ms root level 0 links ≡ true
    → are_levels ms root level links ≡ are_levels ms false below (pairs_below ms links)
levels-step ms root level below links next =
    subst (λ (n : ℕ). are_members ms root n 0 links ≡ true → are_levels ms root n links ≡ are_levels ms false below (pairs_below ms links)) next
    (λ is. and-true (are_members ms root (suc below) 0 links) (are_levels ms false below (pairs_below ms links)) is)

pub places-step : (ms : List Mapped) (level below : ℕ) (links old new all : List Pair) → suc below ≡ level → new ≡ old ++ pairs_of_places links
    → old ++ index_tree_places ms level links ≡ all → new ++ index_tree_places ms below (pairs_below ms links) ≡ all
places-step ms level below links old new all next made whole =
    ap (λ (xs : List Pair). xs ++ index_tree_places ms below (pairs_below ms links)) made
    ∙ (append_assoc old (pairs_of_places links) (index_tree_places ms below (pairs_below ms links))
    ∙ subst (λ (n : ℕ). old ++ index_tree_places ms n links ≡ all → old ++ index_tree_places ms (suc below) links ≡ all) next (λ e. e) whole)

pub pairs-step : (ms : List Mapped) (level below : ℕ) (links all : List Pair) → suc below ≡ level
    → leaf_pairs ms level links ≡ all → leaf_pairs ms below (pairs_below ms links) ≡ all
pairs-step ms level below links all next = subst (λ (n : ℕ). leaf_pairs ms n links ≡ all → leaf_pairs ms below (pairs_below ms links) ≡ all) next (λ e. e)

-- the index blocks, one after the other
pub index-one : (o : ℕ) (b : List ℕ) → (if nat_le 0x800000 o && nat_lt o 0x1000000 then pair_of_place o ∷ [] else [])
    ≡ map (λ (m : Mapped). pair_of_place m.offset) (filter is_index_block (mapped_block o b ∷ []))
index-one o b = by_case (nat_le 0x800000 o && nat_lt o 0x1000000) refl
  where
    by_case : (t : Bool) → (nat_le 0x800000 o && nat_lt o 0x1000000) ≡ t → (if nat_le 0x800000 o && nat_lt o 0x1000000 then pair_of_place o ∷ [] else [])
        ≡ map (λ (m : Mapped). pair_of_place m.offset) (filter is_index_block (mapped_block o b ∷ []))
    by_case true e = rw e refl
    by_case false e = rw e refl

pub joins_index : (ms ns : List Mapped) → map (λ (m : Mapped). pair_of_place m.offset) (filter is_index_block (ms ++ ns))
    ≡ map (λ (m : Mapped). pair_of_place m.offset) (filter is_index_block ms) ++ map (λ (m : Mapped). pair_of_place m.offset) (filter is_index_block ns)
joins_index ms ns =
    ap (map (λ (m : Mapped). pair_of_place m.offset)) (filter-append is_index_block ms ns)
    ∙ map-append (λ (m : Mapped). pair_of_place m.offset) (filter is_index_block ms) (filter is_index_block ns)

-- a test of each element of a list, one after the other
pub all-step : {X : Type 0} (test : X → Bool) (xs : List X) (i : ℕ) (x : X) (all : Bool) → drop i xs ≡ x ∷ drop (i + 1) xs → test x ≡ true
    → all ≡ list_all test (drop i xs) → all ≡ list_all test (drop (i + 1) xs)
all-step test xs i x all step is whole = whole ∙ (ap (list_all test) step ∙ and-true (test x) (list_all test (drop (i + 1) xs)) is)

pub all-stop : {X : Type 0} (test : X → Bool) (xs : List X) (i : ℕ) (x : X) (all : Bool) → drop i xs ≡ x ∷ drop (i + 1) xs → test x ≡ false
    → all ≡ list_all test (drop i xs) → false ≡ all
all-stop test xs i x all step is whole = sym (whole ∙ (ap (list_all test) step ∙ and_left (test x) (list_all test (drop (i + 1) xs)) is))
