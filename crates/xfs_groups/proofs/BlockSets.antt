-- Sets of blocks: what is added is there, and what lies in a range, in order.
use Rattle.std.proofs.Common.{◌≡◌, ℕ, zero, suc, Bool, true, false, cond, ◌+◌, ◌≤◌, ◌<◌, inl, inr, ◌&&◌, ◌||◌, ◌==◌, nat_le, nat_lt, List, [], ◌∷◌, ◌++◌, Result, Ok, Err, refl, sym, ap, ap₂, ◌∙◌, subst, arith}
use Rattle.std.specs.Prelude.{IfOk, OnOk}
use Rattle.std.specs.Cmp.{unsigned_tied}
use Rattle.std.specs.Ordering.{eq_by_cmp, nat_cmp}
use Rattle.std.specs.declared.cmp.Ordering.TheVariants.{Less}
use Rattle.std.specs.List.{AllByRecursion, filter, list_any, range_with_len}
use Rattle.std.specs.List.Sorted.{IsStrictlySortedBy}
use Rattle.std.proofs.lemmas.Bool.{and_parts, cases_lt, eq-eqb, leb-true, ltb-true, ne_eqb}
use Rattle.std.proofs.lemmas.Bool.Decides.{nat_tests}
use Rattle.std.proofs.lemmas.List.Folds.{list_any-append}
use Rattle.std.proofs.lemmas.Map.Keys.{sorted_head, sorted_tail}
use Rattle.xfs_disk.specs.Lists.{is_among}
use Rattle.xfs_image.specs.Claims.{is_of_cluster}
use Rattle.xfs_groups.specs.Sets.{Rising}

pub or_moved : (x y z : Bool) → (x || (y || z)) ≡ ((x || y) || z)
or_moved true y z = refl
or_moved false y z = refl

or_one : (x y : Bool) → (x || (y || false)) ≡ (x || y)
or_one true y = refl
or_one false true = refl
or_one false false = refl

-- a list has what it had, and the block that is added
pub pushed : (n : ℕ) (xs ys : List ℕ) (q : ℕ) → ys ≡ xs ++ n ∷ [] → is_among ys q ≡ (is_among xs q || n == q)
pushed n xs ys q is = ap (λ (zs : List ℕ). is_among zs q) is ∙ list_any-append (λ m. m == q) xs (n ∷ []) ∙ or_one (is_among xs q) (n == q)

-- a set that is made of a list has what the list has
tied : (q : ℕ) (xs : List ℕ) → list_any (eq_by_cmp nat_cmp q) xs ≡ is_among xs q
tied q [] = refl
tied q (x ∷ xs) =
    let turned : (q == x) ≡ (x == q) = grind (arith, nat_tests) in
    ap₂ (λ (a b : Bool). a || b) (unsigned_tied q x ∙ turned) (tied q xs)

pub collected : (xs keys : List ℕ) → ((q : ℕ) → list_any (eq_by_cmp nat_cmp q) keys ≡ list_any (eq_by_cmp nat_cmp q) xs) → (q : ℕ) → is_among keys q ≡ is_among xs q
collected xs keys same q = sym (tied q keys) ∙ same q ∙ tied q xs

-- what holds where there is enough memory leads to what does
pub ok_then : {T E : Type 0} {P Q : Type 0} (result : Result T E) → (P → Q) → OnOk result P → OnOk result Q
ok_then (Ok x) leads held = leads held
ok_then (Err e) leads held = tt

pub made_then : {T E : Type 0} {P Q : T → Type 0} (result : Result T E) → ((x : T) → P x → Q x) → IfOk result P → IfOk result Q
made_then (Ok x) leads held = leads x held
made_then (Err e) leads held = tt

-- the blocks of two lists, the second of which may be the first
pub one_twice : (old a b : Bool) → a ≡ b → (old || a) ≡ (old || (a || b))
one_twice old a b same = ap (λ (t : Bool). old || t) (twice a ∙ ap (λ (t : Bool). a || t) same)
  where
    twice : (x : Bool) → x ≡ (x || x)
    twice true = refl
    twice false = refl

pub both_added : (old first a b new : Bool) → first ≡ (old || a) → new ≡ (first || b) → new ≡ (old || (a || b))
both_added old first a b new one two = two ∙ ap (λ (t : Bool). t || b) one ∙ sym (or_moved old a b)

-- the four blocks of a cluster, one after the other
pub four_blocks : (old : Bool) (c q : ℕ) → ((((old || c == q) || c + 1 == q) || c + 2 == q) || c + 3 == q) ≡ (old || is_of_cluster c q)
four_blocks true c q = refl
four_blocks false c q = grind (arith, nat_tests)

abbrev lies : ℕ → ℕ → ℕ → Bool
lies first count q = nat_le first q && nat_lt q (first + count)

pub from_lower : (low high : ℕ) (xs : List ℕ) → low ≤ high → Rising high xs → Rising low xs
from_lower low high [] le up = tt
from_lower low high (x ∷ xs) le up = (let first = up.0 in omega (arith, le, first), up.1)

pub none_below : (q low : ℕ) (xs : List ℕ) → q < low → Rising low xs → is_among xs q ≡ false
none_below q low [] lt up = refl
none_below q low (x ∷ xs) lt up =
    let first : low ≤ x = up.0 in
    let e : (x == q) ≡ false = grind (arith, nat_tests) in
    rw e (none_below q (x + 1) xs (omega (arith, lt, first)) up.1)

-- numbers in a row that pass a test are those that ascend and pass it
filter_rising : (p : ℕ → Bool) (n a : ℕ) (xs : List ℕ) → Rising a xs → AllByRecursion (λ x. x < a + n) xs
    → ((q : ℕ) → a ≤ q → q < a + n → p q ≡ is_among xs q) → filter p (range_with_len a n) ≡ xs
filter_rising p zero a [] up low is = refl
filter_rising p zero a (x ∷ xs) up low is = let first = up.0 in let last = low.0 in absurd (omega (arith, first, last))
filter_rising p (suc n) a [] up low is =
    let e : p a ≡ false = is a (omega arith) (omega arith) in
    rw e (filter_rising p n (a + 1) [] tt tt (λ q from upto. is q (omega (arith, from)) (omega (arith, upto))))
filter_rising p (suc n) a (x ∷ xs) up low is =
    elim (cases_lt a x) [
      | inl lt ↦
          let none : is_among (x ∷ xs) a ≡ false = none_below a (a + 1) (x ∷ xs) (omega arith) (omega (arith, lt), up.1) in
          let e : p a ≡ false = is a (omega arith) (omega arith) ∙ none in
          rw e (filter_rising p n (a + 1) (x ∷ xs) (omega (arith, lt), up.1) (subst (λ (m : ℕ). AllByRecursion (λ y. y < m) (x ∷ xs)) (omega arith) low)
          (λ q from upto. is q (omega (arith, from)) (omega (arith, upto))))
      | inr ge ↦
          let first : a ≤ x = up.0 in
          let same : a ≡ x = omega (arith, ge, first) in
          let here : (x == a) ≡ true = eq-eqb x a (sym same) in
          let e : p a ≡ true = is a (omega arith) (omega arith) ∙ ap (λ (t : Bool). t || is_among xs a) here in
          let rest : filter p (range_with_len (a + 1) n) ≡ xs =
          filter_rising p n (a + 1) xs (from_lower (a + 1) (x + 1) xs (omega (arith, same)) up.1)
          (subst (λ (m : ℕ). AllByRecursion (λ y. y < m) xs) (omega arith) low.1)
          (λ q from upto.
          let other : (x == q) ≡ false = ne_eqb x q (λ is. omega (arith, is, same, from)) in
          is q (omega (arith, from)) (omega (arith, upto)) ∙ ap (λ (t : Bool). t || is_among xs q) other) in
          rw e (ap₂ (λ (y : ℕ) (ys : List ℕ). y ∷ ys) same rest)
    ]

pub rising_filtered : (p : ℕ → Bool) (low : ℕ) (xs : List ℕ) → Rising low xs → Rising low (filter p xs)
rising_filtered p low [] up = tt
rising_filtered p low (x ∷ xs) up = by_case (p x) (rising_filtered p (x + 1) xs up.1)
  where
    by_case : (b : Bool) → Rising (x + 1) (filter p xs) → Rising low (cond b (x ∷ filter p xs) (filter p xs))
    by_case true rest = (up.0, rest)
    by_case false rest = let first = up.0 in from_lower low (x + 1) (filter p xs) (omega (arith, first)) rest

-- the first of those that lie in a range is at its start or behind, and all end before its end
starts_in : (first count : ℕ) (xs : List ℕ) → Rising 0 xs → Rising first (filter (lies first count) xs)
starts_in first count xs up = from_start (filter (lies first count) xs) (rising_filtered (lies first count) 0 xs up) (each_lies xs)
  where
    each_lies : (xs : List ℕ) → AllByRecursion (λ x. lies first count x ≡ true) (filter (lies first count) xs)
    each_lies [] = tt
    each_lies (x ∷ xs) = by_case (lies first count x) refl (each_lies xs)
      where
        by_case : (b : Bool) → lies first count x ≡ b → AllByRecursion (λ x. lies first count x ≡ true) (filter (lies first count) xs)
            → AllByRecursion (λ x. lies first count x ≡ true) (cond b (x ∷ filter (lies first count) xs) (filter (lies first count) xs))
        by_case true e rest = (e, rest)
        by_case false e rest = rest

    from_start : (ys : List ℕ) → Rising 0 ys → AllByRecursion (λ x. lies first count x ≡ true) ys → Rising first ys
    from_start [] up all = tt
    from_start (y ∷ ys) up all = (leb-true first y (and_parts (nat_le first y) (nat_lt y (first + count)) all.0).0, up.1)

end_in : (first count : ℕ) (xs : List ℕ) → AllByRecursion (λ x. x < first + count) (filter (lies first count) xs)
end_in first count [] = tt
end_in first count (x ∷ xs) = by_case (lies first count x) refl (end_in first count xs)
  where
    by_case : (b : Bool) → lies first count x ≡ b → AllByRecursion (λ y. y < first + count) (filter (lies first count) xs)
        → AllByRecursion (λ y. y < first + count) (cond b (x ∷ filter (lies first count) xs) (filter (lies first count) xs))
    by_case true e rest = (ltb-true x (first + count) (and_parts (nat_le first x) (nat_lt x (first + count)) e).1, rest)
    by_case false e rest = rest

has_lying : (first count q : ℕ) (xs : List ℕ) → first ≤ q → q < first + count → is_among xs q ≡ is_among (filter (lies first count) xs) q
has_lying first count q [] from upto = refl
has_lying first count q (x ∷ xs) from upto = by_case (lies first count x) refl (has_lying first count q xs from upto)
  where
    by_case : (b : Bool) → lies first count x ≡ b → is_among xs q ≡ is_among (filter (lies first count) xs) q
        → (x == q || is_among xs q) ≡ is_among (cond b (x ∷ filter (lies first count) xs) (filter (lies first count) xs)) q
    by_case true e rest = ap (λ (t : Bool). x == q || t) rest
    by_case false e rest =
        let other : (x == q) ≡ false = grind (arith, nat_tests) in
        rw other rest

sorted_rises : (low : ℕ) (xs : List ℕ) → AllByRecursion (λ x. low ≤ x) xs → IsStrictlySortedBy nat_cmp xs → Rising low xs
sorted_rises low [] from up = tt
sorted_rises low (x ∷ xs) from up = (from.0, sorted_rises (x + 1) xs (above xs (sorted_head nat_cmp x xs up)) (sorted_tail nat_cmp x xs up))
  where
    above : (ys : List ℕ) → AllByRecursion (λ y. nat_cmp x y ≡ Less) ys → AllByRecursion (λ y. x + 1 ≤ y) ys
    above [] all = tt
    above (y ∷ ys) all = (let e = all.0 in grind (arith, nat_tests), above ys all.1)

any_from_zero : (xs : List ℕ) → AllByRecursion (λ x. 0 ≤ x) xs
any_from_zero [] = tt
any_from_zero (x ∷ xs) = (omega arith, any_from_zero xs)

-- of a set, those in a range are the numbers of the range that it has
pub lying : (first count : ℕ) (xs : List ℕ) → IsStrictlySortedBy nat_cmp xs
    → filter (λ q. nat_le first q && nat_lt q (first + count)) xs ≡ filter (is_among xs) (range_with_len first count)
lying first count xs up =
    let rising : Rising 0 xs = sorted_rises 0 xs (any_from_zero xs) up in
    sym (filter_rising (is_among xs) count first (filter (lies first count) xs) (starts_in first count xs rising) (end_in first count xs)
    (λ q from upto. has_lying first count q xs from upto))
