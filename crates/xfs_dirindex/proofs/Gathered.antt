-- What is gathered of the blocks of a directory, one after the other.
use Rattle.std.proofs.Common.{◌≡◌, ℕ, zero, suc, ◌+◌, ◌<◌, ◌≤◌, Bool, true, false, ◌&&◌, ◌==◌, List, [], ◌∷◌, ◌++◌, length, drop, map, filter, get_or, refl, sym, ap, ap₂, ◌∙◌, arith, inl, inr, min, Some, slice_get}
use Rattle.std.specs.List.{list_all, flat_map}
use Rattle.std.proofs.lemmas.List.{append-nil, append_assoc, drop_all, map-append}
use Rattle.std.proofs.lemmas.Grind.{flat_map-append}
use Rattle.std.proofs.lemmas.List.Elements.{filter-append}
use Rattle.std.proofs.lemmas.Bool.{cases_lt, and_parts, and_left, eqb-true, cond-true}
use Rattle.std.proofs.lemmas.Bool.Decides.{nat_tests}
use Rattle.xfs_dirdata.specs.declared.records.EntryRec.{EntryRec}
use Rattle.xfs_dirindex.specs.declared.seen.IndexFault.{IndexFault}
use Rattle.xfs_dirindex.specs.declared.seen.IndexFault.TheVariants.{Unsound, NoMemory}
use Rattle.xfs_dirindex.specs.Faults.{OnUnsoundIndex}
use Rattle.xfs_dirindex.specs.Mapped.{Mapped, mapped_block, mapped, is_data}
use Rattle.xfs_dirindex.specs.Data.{is_first_block, is_later, is_sound_data, are_data, begin_with_dots, stand_first, area_in, due_pairs, pairs_in, best_in}

-- no pairs are left where one of the lists is at its end
pub due-end : (offset : ℕ) (es : List EntryRec) (places : List ℕ) (i : ℕ) → min (length es) (length places) ≤ i → due_pairs offset (drop i es) (drop i places) ≡ []
due-end offset es places i past =
    elim (cases_lt (length es) (length places)) [
      | inl few ↦ ap (λ (xs : List EntryRec). due_pairs offset xs (drop i places)) (drop_all i es (omega arith))
      | inr many ↦ ap (due_pairs offset (drop i es)) (drop_all i places (omega arith)) ∙ ended (drop i es)
    ]
  where
    ended : (xs : List EntryRec) → due_pairs offset xs [] ≡ []
    ended [] = refl
    ended (x ∷ xs) = refl

-- one mapped block after the other
pub mapped-step : (offsets : List ℕ) (blocks : List (List ℕ)) (i o : ℕ) (b : List ℕ) → i < length offsets
    → o ≡ get_or offsets i o → slice_get blocks i ≡ Some b → drop i (mapped offsets blocks) ≡ mapped_block o b ∷ drop (i + 1) (mapped offsets blocks)
mapped-step [] blocks i o b low at_o at_b = absurd (omega arith)
mapped-step (x ∷ offsets) [] i o b low at_o at_b = cc
mapped-step (x ∷ offsets) (y ∷ blocks) zero o b low at_o at_b =
    let block : y ≡ b = cc in
    ap₂ (λ (m : ℕ) (n : List ℕ). mapped_block m n ∷ mapped offsets blocks) (sym at_o) block
mapped-step (x ∷ offsets) (y ∷ blocks) (suc i) o b low at_o at_b =
    let next : suc i + 1 ≡ suc (i + 1) = omega arith in
    mapped-step offsets blocks i o b (omega arith) at_o at_b ∙ ap (λ (n : ℕ). mapped_block o b ∷ drop n (mapped (x ∷ offsets) (y ∷ blocks))) (sym next)

pub length-mapped : (offsets : List ℕ) (blocks : List (List ℕ)) → length blocks ≡ length offsets → length (mapped offsets blocks) ≡ length offsets
length-mapped [] blocks same = refl
length-mapped (x ∷ offsets) [] same = absurd (omega arith)
length-mapped (x ∷ offsets) (y ∷ blocks) same = let rest = length-mapped offsets blocks (omega arith) in omega arith

and-true : (x y : Bool) → x ≡ true → (x && y) ≡ y
and-true true y is = refl
and-true false y is = cc

filter-one : (m : Mapped) → is_data m ≡ true → filter is_data (m ∷ []) ≡ m ∷ []
filter-one m is = cond-true (is_data m) (m ∷ []) [] is

-- what is left of a list gives what it all gives, one element on and at the end
pub gathered-step : {X : Type 0} (f : List Mapped → List X) → ((ms ns : List Mapped) → f (ms ++ ns) ≡ f ms ++ f ns) → (all old new : List X) (ms : List Mapped) (i : ℕ) (m : Mapped)
    → drop i ms ≡ m ∷ drop (i + 1) ms → new ≡ old ++ f (m ∷ []) → old ++ f (drop i ms) ≡ all → new ++ f (drop (i + 1) ms) ≡ all
gathered-step {X = X} f joins all old new ms i m step made before =
    ap (λ (xs : List X). xs ++ f (drop (i + 1) ms)) made
    ∙ (append_assoc old (f (m ∷ [])) (f (drop (i + 1) ms))
    ∙ (ap (λ (xs : List X). old ++ xs) (sym (joins (m ∷ []) (drop (i + 1) ms)) ∙ ap f (sym step)) ∙ before))

pub joins_pairs : (dir : ℕ) (ms ns : List Mapped) → flat_map (pairs_in dir false) (filter is_data (ms ++ ns))
    ≡ flat_map (pairs_in dir false) (filter is_data ms) ++ flat_map (pairs_in dir false) (filter is_data ns)
joins_pairs dir ms ns = ap (flat_map (pairs_in dir false)) (filter-append is_data ms ns) ∙ flat_map-append (pairs_in dir false) (filter is_data ms) (filter is_data ns)

pub joins_bests : (dir : ℕ) (ms ns : List Mapped) → map (best_in dir false) (filter is_data (ms ++ ns))
    ≡ map (best_in dir false) (filter is_data ms) ++ map (best_in dir false) (filter is_data ns)
joins_bests dir ms ns = ap (map (best_in dir false)) (filter-append is_data ms ns) ∙ map-append (best_in dir false) (filter is_data ms) (filter is_data ns)

-- what a fault says of one fact it says of what follows from it
pub on_unsound : {P Q : Type 0} (fault : IndexFault) → (P → Q) → OnUnsoundIndex fault P → OnUnsoundIndex fault Q
on_unsound Unsound turn p = turn p
on_unsound NoMemory turn p = tt

-- the first block, and then the later ones
pub sound-first : (dir : ℕ) (ms : List Mapped) (m : Mapped) → ms ≡ m ∷ drop 1 ms → is_first_block dir false m ≡ true → are_data dir ms ≡ list_all (is_later dir) (drop 1 ms)
sound-first dir ms m step first = ap (are_data dir) step ∙ and-true (is_first_block dir false m) (list_all (is_later dir) (drop 1 ms)) first

pub unsound-first : (dir : ℕ) (ms : List Mapped) (m : Mapped) → ms ≡ m ∷ drop 1 ms → is_first_block dir false m ≡ false → are_data dir ms ≡ false
unsound-first dir ms m step first = ap (are_data dir) step ∙ and_left (is_first_block dir false m) (list_all (is_later dir) (drop 1 ms)) first

pub sound-later : (dir : ℕ) (ms : List Mapped) (i : ℕ) (m : Mapped) (all : Bool) → drop i ms ≡ m ∷ drop (i + 1) ms → is_later dir m ≡ true
    → all ≡ list_all (is_later dir) (drop i ms) → all ≡ list_all (is_later dir) (drop (i + 1) ms)
sound-later dir ms i m all step later before = before ∙ (ap (list_all (is_later dir)) step ∙ and-true (is_later dir m) (list_all (is_later dir) (drop (i + 1) ms)) later)

pub unsound-later : (dir : ℕ) (ms : List Mapped) (i : ℕ) (m : Mapped) (all : Bool) → drop i ms ≡ m ∷ drop (i + 1) ms
    → all ≡ list_all (is_later dir) (drop i ms) → is_later dir m ≡ false → all ≡ false
unsound-later dir ms i m all step before later = before ∙ (ap (list_all (is_later dir)) step ∙ and_left (is_later dir m) (list_all (is_later dir) (drop (i + 1) ms)) later)

-- the first block is a data block
pub first-data : (dir : ℕ) (m : Mapped) → is_first_block dir false m ≡ true → is_data m ≡ true
unfolding is_first_block
first-data dir m first =
    let dots = begin_with_dots dir (area_in dir false m).entries in
    let all = and_parts (m.offset == 0 && is_sound_data dir false m && dots) (stand_first (area_in dir false m).places) first in
    let parts = and_parts (m.offset == 0 && is_sound_data dir false m) dots all.0 in
    let front = and_parts (m.offset == 0) (is_sound_data dir false m) parts.0 in
    let zero_offset : m.offset ≡ 0 = eqb-true m.offset 0 front.0 in
    grind (arith, nat_tests)

pub only-pairs : (dir : ℕ) (m : Mapped) → is_data m ≡ true → flat_map (pairs_in dir false) (filter is_data (m ∷ [])) ≡ pairs_in dir false m
only-pairs dir m is = ap (flat_map (pairs_in dir false)) (filter-one m is) ∙ append-nil (pairs_in dir false m)

pub only-best : (dir : ℕ) (m : Mapped) → is_data m ≡ true → map (best_in dir false) (filter is_data (m ∷ [])) ≡ best_in dir false m ∷ []
only-best dir m is = ap (map (best_in dir false)) (filter-one m is)
