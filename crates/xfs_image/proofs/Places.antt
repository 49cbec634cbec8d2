-- Places in order are all the places, and in order.
use Rattle.std.proofs.Common.{◌≡◌, Bool, true, false, [], ◌∷◌, List, if◌then◌else◌, refl, arith}
use Rattle.std.specs.List.Sorted.{IsPermutation}
use Rattle.std.proofs.lemmas.Bool.Decides.{nat_tests}
use Rattle.std.proofs.lemmas.List.Sorted.{IsPermutation-refl, IsPermutation-sym, IsPermutation-cons, IsPermutation-trans, IsPermutation-middle}
use Rattle.xfs_image.specs.Lsns.{PlacesInOrder, IsUptoAll, LsnPlace, lsn_places_in_order, is_place_upto, with_place}

-- what comes no later than a place comes no later than a later one
upto_later : (p q r : LsnPlace) → is_place_upto p q ≡ true → is_place_upto q r ≡ true → is_place_upto p r ≡ true
upto_later p q r first last = grind (arith, nat_tests)

other_way : (p q : LsnPlace) → is_place_upto p q ≡ false → is_place_upto q p ≡ true
other_way p q last = grind (arith, nat_tests)

upto_all-later : (p q : LsnPlace) (rs : List LsnPlace) → is_place_upto p q ≡ true → IsUptoAll q rs → IsUptoAll p rs
upto_all-later p q [] first all = tt
upto_all-later p q (r ∷ rs) first all = (upto_later p q r first all.0, upto_all-later p q rs first all.1)

upto_all-with : (q p : LsnPlace) (rs : List LsnPlace) → is_place_upto q p ≡ true → IsUptoAll q rs → IsUptoAll q (with_place p rs)
upto_all-with q p [] first all = (first, tt)
upto_all-with q p (r ∷ rs) first all = by_case (is_place_upto p r) (upto_all-with q p rs first all.1)
  where
    by_case : (b : Bool) → IsUptoAll q (with_place p rs) → IsUptoAll q (if b then p ∷ r ∷ rs else (r ∷ with_place p rs))
    by_case true rest = (first, all)
    by_case false rest = (all.0, rest)

in_order-with : (p : LsnPlace) (qs : List LsnPlace) → PlacesInOrder qs → PlacesInOrder (with_place p qs)
in_order-with p [] order = (tt, tt)
in_order-with p (q ∷ qs) order = by_case (is_place_upto p q) refl (in_order-with p qs order.1)
  where
    by_case : (b : Bool) → is_place_upto p q ≡ b → PlacesInOrder (with_place p qs) → PlacesInOrder (if b then p ∷ q ∷ qs else (q ∷ with_place p qs))
    by_case true first rest = ((first, upto_all-later p q qs first order.0), order)
    by_case false last rest = (upto_all-with q p qs (other_way p q last) order.0, rest)

pub are_in_order : (ps : List LsnPlace) → PlacesInOrder (lsn_places_in_order ps)
are_in_order [] = tt
are_in_order (p ∷ ps) = in_order-with p (lsn_places_in_order ps) (are_in_order ps)

-- putting a place among others only moves it
moved-with : (p : LsnPlace) (qs : List LsnPlace) → IsPermutation (p ∷ qs) (with_place p qs)
moved-with p [] = IsPermutation-refl (p ∷ [])
moved-with p (q ∷ qs) = by_case (is_place_upto p q) (moved-with p qs)
  where
    by_case : (b : Bool) → IsPermutation (p ∷ qs) (with_place p qs) → IsPermutation (p ∷ q ∷ qs) (if b then p ∷ q ∷ qs else (q ∷ with_place p qs))
    by_case true rest = IsPermutation-refl (p ∷ q ∷ qs)
    by_case false rest =
        IsPermutation-trans (p ∷ q ∷ qs) (q ∷ p ∷ qs) (q ∷ with_place p qs)
        (IsPermutation-sym (q ∷ p ∷ qs) (p ∷ q ∷ qs) (IsPermutation-middle (q ∷ []) p qs)) (IsPermutation-cons q (p ∷ qs) (with_place p qs) rest)

pub all_moved : (ps : List LsnPlace) → IsPermutation ps (lsn_places_in_order ps)
all_moved [] = IsPermutation-refl []
all_moved (p ∷ ps) =
    IsPermutation-trans (p ∷ ps) (p ∷ lsn_places_in_order ps) (with_place p (lsn_places_in_order ps)) (IsPermutation-cons p ps (lsn_places_in_order ps) (all_moved ps)) (moved-with p (lsn_places_in_order ps))
