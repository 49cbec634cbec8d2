-- Places that are sorted are those that are put in order one by one.
use Rattle.std.proofs.Common.{◌≡◌, ℕ, suc, ◌+◌, ◌<◌, ◌≤◌, Bool, true, false, cond, ◌&&◌, ◌||◌, ◌==◌, nat_lt, nat_le, List, [], ◌∷◌, length, refl, sym, ap, ap₂, ◌∙◌, subst, arith, get_or}
use Rattle.std.specs.List.{count_by}
use Rattle.std.specs.List.Sorted.{IsPermutation, IsSorted}
use Rattle.std.specs.Ordering.{is_lt, nat_cmp, ordering_then}
use Rattle.std.proofs.lemmas.List.Sums.{sum_by-cons}
use Rattle.std.proofs.lemmas.List.Sorted.{IsPermutation-map, sum_by-IsPermutation}
use Rattle.std.proofs.lemmas.Bool.{and_parts, and_from, eqb-true, eq-eqb}
use Rattle.std.proofs.lemmas.Bool.Decides.{nat_tests}
use Rattle.xfs_image.specs.Lsns.{PlacesInOrder, IsUptoAll, LsnPlace, lsn_places_in_order, is_place_upto}
use Rattle.xfs_journal.specs.Placed.{listed, lsn_place_of}
use Rattle.xfs_journal.specs.contracts.places.LsnPositionOrd.TheImpl.{cmp-value}
use Rattle.xfs_journal.specs.declared.places.LsnPosition.{LsnPosition}

abbrev is_same : LsnPlace → LsnPlace → Bool
is_same a b = a.block == b.block && a.byte == b.byte

same_one : (x y : LsnPlace) → is_same x y ≡ true → x ≡ y
same_one x y e =
    let parts = and_parts (x.block == y.block) (x.byte == y.byte) e in
    ap₂ (λ (b o : ℕ). let p : LsnPlace = record { block = b; byte = o } in p) (eqb-true x.block y.block parts.0) (eqb-true x.byte y.byte parts.1)

same_itself : (x : LsnPlace) → is_same x x ≡ true
same_itself x = and_from (x.block == x.block) (x.byte == x.byte) (eq-eqb x.block x.block refl) (eq-eqb x.byte x.byte refl)

upto_itself : (x : LsnPlace) → is_place_upto x x ≡ true
upto_itself x = on x.block x.byte
  where
    on : (a b : ℕ) → (nat_lt a a || (a == a && nat_le b b)) ≡ true
    on a b = grind (arith, nat_tests)

upto_both : (x y : LsnPlace) → is_place_upto x y ≡ true → is_place_upto y x ≡ true → x ≡ y
upto_both x y one other =
    ap₂ (λ (b o : ℕ). let p : LsnPlace = record { block = b; byte = o } in p) (blocks x.block x.byte y.block y.byte one other) (bytes x.block x.byte y.block y.byte one other)
  where
    blocks : (a b c d : ℕ) → (nat_lt a c || (a == c && nat_le b d)) ≡ true → (nat_lt c a || (c == a && nat_le d b)) ≡ true → a ≡ c
    blocks a b c d one other = grind (arith, nat_tests)

    bytes : (a b c d : ℕ) → (nat_lt a c || (a == c && nat_le b d)) ≡ true → (nat_lt c a || (c == a && nat_le d b)) ≡ true → b ≡ d
    bytes a b c d one other = grind (arith, nat_tests)

upto_later : (p q r : LsnPlace) → is_place_upto p q ≡ true → is_place_upto q r ≡ true → is_place_upto p r ≡ true
upto_later p q r first last = grind (arith, nat_tests)

-- a list counts an element at its head, and one more further on
count-cons : (p : LsnPlace → Bool) (x : LsnPlace) (xs : List LsnPlace) → count_by p (x ∷ xs) ≡ cond (p x) 1 0 + count_by p xs
count-cons p x xs = sum_by-cons (λ y. cond (p y) 1 0) x xs

passes : (x y : LsnPlace) (zs : List LsnPlace) → IsUptoAll x zs → 1 ≤ count_by (is_same y) zs → is_place_upto x y ≡ true
passes x y [] all some = absurd (omega arith)
passes x y (z ∷ zs) all some = by_head (is_same y z) refl (λ e. passes x y zs all.1 e)
  where
    by_head : (t : Bool) → is_same y z ≡ t → (1 ≤ count_by (is_same y) zs → is_place_upto x y ≡ true) → is_place_upto x y ≡ true
    by_head true is rest = subst (λ (w : LsnPlace). is_place_upto x w ≡ true) (sym (same_one y z is)) all.0
    by_head false is rest =
        let more : count_by (is_same y) (z ∷ zs) ≡ cond (is_same y z) 1 0 + count_by (is_same y) zs = count-cons (is_same y) z zs in
        let none : ◌≡◌ {A = ℕ} (cond (is_same y z) 1 0) 0 = ap (λ (b : Bool). cond {A = ℕ} b 1 0) is in
        rest (omega arith)

head-counted : (x : LsnPlace) (xs : List LsnPlace) → 1 ≤ count_by (is_same x) (x ∷ xs)
head-counted x xs =
    let more : count_by (is_same x) (x ∷ xs) ≡ cond (is_same x x) 1 0 + count_by (is_same x) xs = count-cons (is_same x) x xs in
    let one : ◌≡◌ {A = ℕ} (cond (is_same x x) 1 0) 1 = ap (λ (b : Bool). cond {A = ℕ} b 1 0) (same_itself x) in
    omega arith

only_one : (xs ys : List LsnPlace) → PlacesInOrder xs → PlacesInOrder ys → ((p : LsnPlace) → count_by (is_same p) xs ≡ count_by (is_same p) ys) → xs ≡ ys
only_one [] [] a b counts = refl
only_one [] (y ∷ ys) a b counts = let some = head-counted y ys in let e = counts y in absurd (omega arith)
only_one (x ∷ xs) [] a b counts = let some = head-counted x xs in let e = counts x in absurd (omega arith)
only_one (x ∷ xs) (y ∷ ys) a b counts =
    let first : 1 ≤ count_by (is_same x) (x ∷ xs) = head-counted x xs in
    let second : 1 ≤ count_by (is_same y) (y ∷ ys) = head-counted y ys in
    let at_x : count_by (is_same x) (x ∷ xs) ≡ count_by (is_same x) (y ∷ ys) = counts x in
    let at_y : count_by (is_same y) (x ∷ xs) ≡ count_by (is_same y) (y ∷ ys) = counts y in
    let heads : x ≡ y = upto_both x y (passes x y (x ∷ xs) (upto_itself x, a.0) (omega arith)) (passes y x (y ∷ ys) (upto_itself y, b.0) (omega arith)) in
    let rest : (p : LsnPlace) → count_by (is_same p) xs ≡ count_by (is_same p) ys =
    λ p.
    let left : count_by (is_same p) (x ∷ xs) ≡ cond (is_same p x) 1 0 + count_by (is_same p) xs = count-cons (is_same p) x xs in
    let right : count_by (is_same p) (y ∷ ys) ≡ cond (is_same p y) 1 0 + count_by (is_same p) ys = count-cons (is_same p) y ys in
    let one : ◌≡◌ {A = ℕ} (cond (is_same p x) 1 0) (cond (is_same p y) 1 0) = ap (λ (z : LsnPlace). cond {A = ℕ} (is_same p z) 1 0) heads in
    let e = counts p in
    omega arith in
    ap₂ (λ (z : LsnPlace) (zs : List LsnPlace). z ∷ zs) heads (only_one xs ys a.1 b.1 rest)

-- what a sort gives is in order
upto_from_cmp : (x y : LsnPosition) → is_lt (cmp-value.it y x) ≡ false → is_place_upto (lsn_place_of x) (lsn_place_of y) ≡ true
upto_from_cmp x y e = on x.block x.byte y.block y.byte e
  where
    on : (a b c d : ℕ) → is_lt (ordering_then (nat_cmp c a) (nat_cmp d b)) ≡ false → (nat_lt a c || (a == c && nat_le b d)) ≡ true
    on a b c d e = grind (arith, nat_tests)

all_later : (p q : LsnPlace) (rs : List LsnPlace) → is_place_upto p q ≡ true → IsUptoAll q rs → IsUptoAll p rs
all_later p q [] first all = tt
all_later p q (r ∷ rs) first all = (upto_later p q r first all.0, all_later p q rs first all.1)

in_order_from_sort : (xs : List LsnPosition) → IsSorted cmp-value.it xs → PlacesInOrder (listed xs)
in_order_from_sort [] sorted = tt
in_order_from_sort (x ∷ []) sorted = (tt, tt)
in_order_from_sort (x ∷ y ∷ ys) sorted =
    let first : is_place_upto (lsn_place_of x) (lsn_place_of y) ≡ true = upto_from_cmp x y (sorted 0 x (omega arith) (omega arith)) in
    let later = λ (k : ℕ) (d : LsnPosition) (low : 0 ≤ k) (high : k + 1 < length (y ∷ ys)).
    let shift : suc k + 1 ≡ suc (k + 1) = omega arith in
    subst (λ (n : ℕ). is_lt (cmp-value.it (get_or (x ∷ y ∷ ys) n d) (get_or (x ∷ y ∷ ys) (suc k) d)) ≡ false) shift (sorted (suc k) d (omega arith) (omega arith)) in
    let rest : PlacesInOrder (listed (y ∷ ys)) = in_order_from_sort (y ∷ ys) later in
    ((first, all_later (lsn_place_of x) (lsn_place_of y) (listed ys) first rest.0), rest)

-- what a sort gives is what the definition gives
pub sorted_is : (ps qs : List LsnPosition) → IsPermutation ps qs → IsSorted cmp-value.it qs
    → PlacesInOrder (lsn_places_in_order (listed ps)) → IsPermutation (listed ps) (lsn_places_in_order (listed ps)) → listed qs ≡ lsn_places_in_order (listed ps)
sorted_is ps qs moved sorted order all =
    only_one (listed qs) (lsn_places_in_order (listed ps)) (in_order_from_sort qs sorted) order
    (λ p.
    sum_by-IsPermutation (λ q. cond (is_same p q) 1 0) (listed ps) (listed qs) (IsPermutation-map lsn_place_of ps qs moved)
    ∙ sym (sum_by-IsPermutation (λ q. cond (is_same p q) 1 0) (listed ps) (lsn_places_in_order (listed ps)) all))
