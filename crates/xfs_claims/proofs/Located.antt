-- Places of files.
use Rattle.std.proofs.Common.{◌≡◌, ℕ, zero, suc, Bool, true, false, ◌+◌, ◌≤◌, ◌<◌, inl, inr, nat_lt, List, [], ◌∷◌, ◌++◌, map, length, get_or, take, refl, sym, ◌∙◌, ap, ap₂, subst, arith, if◌then◌else◌, append-nil}
use Rattle.std.specs.List.{filter, All, AllByRecursion, sum_by}
use Rattle.std.specs.List.Sorted.{IsPermutation, IsSorted}
use Rattle.std.specs.Ordering.{nat_cmp, is_lt, ordering_then}
use Rattle.std.specs.declared.cmp.Ordering.{Ordering}
use Rattle.std.proofs.lemmas.Bool.{cases_lt, both_ways}
use Rattle.std.proofs.lemmas.Bool.Decides.{nat_tests}
use Rattle.std.proofs.lemmas.List.Elements.{All-push, All-same, recursion_from_All, All-weaker, filter-append}
use Rattle.std.proofs.lemmas.List.{take_more, map-append, get_or_default}
use Rattle.std.proofs.Math.Seq.{take-length}
use Rattle.std.proofs.lemmas.List.Sums.{sum_by-cons}
use Rattle.std.proofs.lemmas.List.Sorted.{IsPermutation-map, All-permutation, IsNonDecreasingBy-from_all_adjacent}
use Rattle.xfs_claims.specs.declared.claimants.FileClaim.{FileClaim}
use Rattle.xfs_claims.specs.declared.ranks.FilePlace.{FilePlace}
use Rattle.xfs_claims.specs.Private.Places.{no_claim, file_at_place, IsFilePlace, ArePlaces}
use Rattle.xfs_claims.specs.Ranks.{by_number, claimed_number, AreDifferent}
use Rattle.xfs_claims.proofs.Ordered.{in_order, rises, rises_map, filter_differ, Rise}

abbrev pub place_number : FilePlace → ℕ
place_number place = place.number

abbrev pub place_cmp : FilePlace → FilePlace → Ordering
place_cmp x y = ordering_then (nat_cmp x.number y.number) (nat_cmp x.at y.at)

first_decides : (a b : ℕ) (rest : Ordering) → is_lt (ordering_then (nat_cmp b a) rest) ≡ false → a ≤ b
first_decides a b rest h =
    elim (cases_lt b a) [
      | inl lt ↦ let e : nat_lt b a ≡ true = grind (arith, nat_tests) in
          let f : is_lt (ordering_then (nat_cmp b a) rest) ≡ true = rw e refl in
          absurd (both_ways (is_lt (ordering_then (nat_cmp b a) rest)) h f)
      | inr ge ↦ ge
    ]

places_rise : (places : List FilePlace) → IsSorted place_cmp places → Rise place_number places
places_rise places up =
    rises place_number places (IsNonDecreasingBy-from_all_adjacent place_number places
    (λ k d h. first_decides (get_or places k d).number (get_or places (k + 1) d).number (nat_cmp (get_or places (k + 1) d).at (get_or places k d).at) (up k d (omega arith) h)))

-- places in order have the files in order
pub files_in_order : (files : List FileClaim) (places sorted : List FilePlace) → IsPermutation places sorted → IsSorted place_cmp sorted → All (IsFilePlace files) places
    → AreDifferent claimed_number (map (file_at_place files) places) → map (file_at_place files) sorted ≡ by_number claimed_number (map (file_at_place files) places)
files_in_order files places sorted moved up each differ =
    let same : AllByRecursion (λ p. place_number p ≡ claimed_number (file_at_place files p)) sorted =
    recursion_from_All (λ (p : FilePlace). place_number p ≡ claimed_number (file_at_place files p)) sorted
    (All-weaker (IsFilePlace files) (λ (p : FilePlace). place_number p ≡ claimed_number (file_at_place files p)) (λ p h. h.number) sorted
    (All-permutation (IsFilePlace files) places sorted moved each)) in
    in_order claimed_number (map (file_at_place files) places) (map (file_at_place files) sorted) (IsPermutation-map (file_at_place files) places sorted moved)
    (rises_map (file_at_place files) claimed_number place_number sorted same (places_rise sorted up)) differ

abbrev pub no_place : FilePlace
no_place = record { number = 0; at = 0 }

-- the places of all files have those that pass the test
pub places_are : (files : List FileClaim) (test : FileClaim → Bool) (places : List FilePlace) → ArePlaces files test (length files) places → map (file_at_place files) places ≡ filter test files
places_are files test places are = are.files_are ∙ ap (filter test) (take-length files)

pub places_differ : (files : List FileClaim) (test : FileClaim → Bool) (places : List FilePlace) → ArePlaces files test (length files) places
    → AreDifferent claimed_number files → AreDifferent claimed_number (map (file_at_place files) places)
places_differ files test places are differ =
    subst (λ (x : List FileClaim). AreDifferent claimed_number x) (sym (places_are files test places are)) (filter_differ claimed_number test files differ)

-- one more place, of a file that passes the test
pub places_step : (files : List FileClaim) (test : FileClaim → Bool) (n : ℕ) (places new : List FilePlace) (place : FilePlace) (file : FileClaim) (t : Bool)
    → ArePlaces files test n places → n < length files → file ≡ get_or files n file → t ≡ test file → place.number ≡ file.ino → place.at ≡ n
    → new ≡ (if t then places ++ place ∷ [] else places) → ArePlaces files test (n + 1) new
places_step files test n places new place file t so inside is passes number at more =
    let stands : file ≡ get_or files n no_claim = is ∙ get_or_default files n file no_claim inside in
    let next : take (n + 1) files ≡ take n files ++ file ∷ [] = take_more files n no_claim inside ∙ ap (λ (f : FileClaim). take n files ++ f ∷ []) (sym stands) in
    let at_place : file_at_place files place ≡ file = ap (λ (i : ℕ). get_or files i no_claim) at ∙ sym stands in
    let found : filter test (take (n + 1) files) ≡ filter test (take n files) ++ filter test (file ∷ []) = ap (filter test) next ∙ filter-append test (take n files) (file ∷ []) in
    either t passes more at_place found
  where
    either : (s : Bool) → s ≡ test file → new ≡ (if s then places ++ place ∷ [] else places) → file_at_place files place ≡ file
        → filter test (take (n + 1) files) ≡ filter test (take n files) ++ filter test (file ∷ []) → ArePlaces files test (n + 1) new
    either true passes more at_place found =
        let one : IsFilePlace files place = record { inside = rw at inside; number = number ∙ ap (λ (f : FileClaim). f.ino) (sym at_place) } in
        let taken : filter test (file ∷ []) ≡ file ∷ [] = rw (sym passes) refl in
        record {
          each = All-same (IsFilePlace files) new (places ++ place ∷ []) more (All-push (IsFilePlace files) places place so.each one);
          files_are = ap (map (file_at_place files)) more ∙ (map-append (file_at_place files) places (place ∷ []) ∙ (ap₂ (λ (xs ys : List FileClaim). xs ++ ys) so.files_are (ap (λ (f : FileClaim). f ∷ []) at_place ∙ sym taken) ∙ sym found));
        }
    either false passes more at_place found =
        let none : filter test (file ∷ []) ≡ [] = rw (sym passes) refl in
        record {
          each = All-same (IsFilePlace files) new places more so.each;
          files_are = ap (map (file_at_place files)) more ∙ (so.files_are ∙ sym (found ∙ (ap (λ (ys : List FileClaim). filter test (take n files) ++ ys) none ∙ append-nil (filter test (take n files)))));
        }

-- steps that are counted for the files at places up to one of them
pub sum_upto : (g : FilePlace → FileClaim) (f : FileClaim → ℕ) (places : List FilePlace) (i : ℕ) (d : FilePlace) → i < length places
    → sum_by f (map g (take i places)) + f (g (get_or places i d)) ≤ sum_by f (map g places)
sum_upto g f [] i d h = absurd (omega (arith, h))
sum_upto g f (p ∷ places) zero d h = let e = sum_by-cons f (g p) (map g places) in omega (arith, e)
sum_upto g f (p ∷ places) (suc i) d h =
    let e = sum_by-cons f (g p) (map g places) in
    let k = sum_by-cons f (g p) (map g (take i places)) in
    let rest = sum_upto g f places i d (omega (arith, h)) in
    omega (arith, e, k, rest)

-- the files at places in order, where the files and the test are told in another way
pub same_rank : (files files' : List FileClaim) (places : List FilePlace) (test test' : FileClaim → Bool) → files ≡ files' → ((f : FileClaim) → test f ≡ test' f)
    → map (file_at_place files) places ≡ by_number claimed_number (filter test files) → map (file_at_place files') places ≡ by_number claimed_number (filter test' files')
same_rank files files' places test test' same alike is =
    let all : test ≡ test' = λ k f. alike f k in
    sym (ap (λ (x : List FileClaim). map (file_at_place x) places) same) ∙ (is ∙ (λ k. by_number claimed_number (filter (all k) (same k))))
