-- Ascending blocks beside the places of a group.
use Rattle.std.proofs.Common.{◌≡◌, ℕ, zero, suc, Bool, true, false, cond, ◌+◌, ◌≤◌, ◌<◌, inl, inr, ◌||◌, ◌==◌, List, [], ◌∷◌, drop, drop-cons, length, get_or, add-one, refl, sym, ap, ◌∙◌, subst, arith}
use Rattle.std.specs.List.{filter, range_with_len}
use Rattle.std.proofs.lemmas.List.{drop_all}
use Rattle.std.proofs.lemmas.Bool.{cases_lt, eq-eqb, ne_eqb}
use Rattle.xfs_disk.specs.Lists.{is_among}
use Rattle.xfs_groups.specs.Sets.{Rising, SameFrom, StartsFrom}
use Rattle.xfs_groups.proofs.BlockSets.{from_lower, none_below, rising_filtered}

-- one block more is passed
pub passed : (place i : ℕ) (xs : List ℕ) (d : ℕ) → i < length xs → get_or xs i d < place → SameFrom place (drop i xs) (drop (i + 1) xs)
passed place i xs d inside low = λ q from.
    let next : drop (i + 1) xs ≡ drop (suc i) xs = ap (λ (k : ℕ). drop k xs) (add-one i) in
    let other : (get_or xs i d == q) ≡ false = ne_eqb (get_or xs i d) q (λ same. omega (arith, same, low, from)) in
    ap (λ (ys : List ℕ). is_among ys q) next
    ∙ sym (ap (λ (ys : List ℕ). is_among ys q) (drop-cons xs i d inside) ∙ ap (λ (t : Bool). t || is_among (drop (suc i) xs) q) other)

pub same_on : (place : ℕ) (xs ys zs : List ℕ) → SameFrom place xs ys → SameFrom place ys zs → SameFrom place xs zs
same_on place xs ys zs first then = λ q from. then q from ∙ first q from

pub same_later : (place later : ℕ) (xs ys : List ℕ) → place ≤ later → SameFrom place xs ys → SameFrom later xs ys
same_later place later xs ys le same = λ q from. same q (omega (arith, le, from))

pub starts_at : (place i : ℕ) (xs : List ℕ) (d : ℕ) → i < length xs → place ≤ get_or xs i d → StartsFrom place (drop i xs)
starts_at place i xs d inside late = subst (StartsFrom place) (sym (drop-cons xs i d inside)) late

pub rising_dropped : (n low : ℕ) (xs : List ℕ) → Rising low xs → Rising 0 (drop n xs)
rising_dropped zero low xs up = from_lower 0 low xs (omega arith) up
rising_dropped (suc n) low [] up = tt
rising_dropped (suc n) low (x ∷ xs) up = rising_dropped n (x + 1) xs up.1

-- whether a place is one of the blocks of which the first stands there or behind it
first_is : (place x : ℕ) (xs : List ℕ) → Rising 0 (x ∷ xs) → StartsFrom place (x ∷ xs) → (x == place) ≡ is_among (x ∷ xs) place
first_is place x xs up from =
    elim (cases_lt place x) [
      | inl lt ↦ or_rest (x == place) (is_among xs place) (none_below place (x + 1) xs (omega (arith, lt)) up.1)
      | inr ge ↦
          let same : (x == place) ≡ true = eq-eqb x place (omega (arith, ge, from)) in
          same ∙ sym (ap (λ (t : Bool). t || is_among xs place) same)
    ]
  where
    or_rest : (a b : Bool) → b ≡ false → a ≡ (a || b)
    or_rest true b none = refl
    or_rest false b none = sym none

pub stands : (place i : ℕ) (xs : List ℕ) (d : ℕ) → i < length xs → Rising 0 (drop i xs) → StartsFrom place (drop i xs) → (get_or xs i d == place) ≡ is_among (drop i xs) place
stands place i xs d inside up from =
    let cut : drop i xs ≡ get_or xs i d ∷ drop (suc i) xs = drop-cons xs i d inside in
    first_is place (get_or xs i d) (drop (suc i) xs) (subst (Rising 0) cut up) (subst (StartsFrom place) cut from)
    ∙ ap (λ (ys : List ℕ). is_among ys place) (sym cut)

pub none_left : (place i : ℕ) (xs : List ℕ) → length xs ≤ i → is_among (drop i xs) place ≡ false
none_left place i xs past = ap (λ (ys : List ℕ). is_among ys place) (drop_all i xs past)

-- numbers in a row ascend, and so do those of them that pass a test
range_rises : (a n : ℕ) → Rising a (range_with_len a n)
range_rises a zero = tt
range_rises a (suc n) = (omega arith, range_rises (a + 1) n)

pub kept_rise : (p : ℕ → Bool) (a n : ℕ) (xs : List ℕ) → xs ≡ filter p (range_with_len a n) → Rising 0 xs
kept_rise p a n xs is = subst (Rising 0) (sym is) (from_lower 0 a (filter p (range_with_len a n)) (omega arith) (rising_filtered p a (range_with_len a n) (range_rises a n)))

-- a number of the row is one of those where it passes
row_has : (p : ℕ → Bool) (a n q : ℕ) → a ≤ q → q < a + n → is_among (filter p (range_with_len a n)) q ≡ p q
row_has p a zero q from upto = absurd (omega (arith, from, upto))
row_has p a (suc n) q from upto =
    elim (cases_lt a q) [
      | inl lt ↦ by_case (p a) (row_has p (a + 1) n q (omega (arith, lt)) (omega (arith, upto)))
          (ne_eqb a q (λ same. omega (arith, lt, same)))
      | inr ge ↦
          let same : a ≡ q = omega (arith, from, ge) in
          subst (λ (m : ℕ). is_among (filter p (range_with_len a (suc n))) m ≡ p m) same
          (at_first (p a) refl (none_below a (a + 1) (filter p (range_with_len (a + 1) n)) (omega arith) (rising_filtered p (a + 1) (range_with_len (a + 1) n) (range_rises (a + 1) n))))
    ]
  where
    by_case : (b : Bool) → is_among (filter p (range_with_len (a + 1) n)) q ≡ p q → (a == q) ≡ false
        → is_among (cond b (a ∷ filter p (range_with_len (a + 1) n)) (filter p (range_with_len (a + 1) n))) q ≡ p q
    by_case true rest other = ap (λ (t : Bool). t || is_among (filter p (range_with_len (a + 1) n)) q) other ∙ rest
    by_case false rest other = rest

    at_first : (b : Bool) → p a ≡ b → is_among (filter p (range_with_len (a + 1) n)) a ≡ false
        → is_among (cond b (a ∷ filter p (range_with_len (a + 1) n)) (filter p (range_with_len (a + 1) n))) a ≡ p a
    at_first true is none = ap (λ (t : Bool). t || is_among (filter p (range_with_len (a + 1) n)) a) (eq-eqb a a refl) ∙ sym is
    at_first false is none = none ∙ sym is

pub kept_has : (p : ℕ → Bool) (a n q : ℕ) (xs : List ℕ) → xs ≡ filter p (range_with_len a n) → a ≤ q → q < a + n → is_among xs q ≡ p q
kept_has p a n q xs is from upto = ap (λ (ys : List ℕ). is_among ys q) is ∙ row_has p a n q from upto

-- whether a place of the row passes, by what is left of them
pub named_at : (p : ℕ → Bool) (a n q next : ℕ) (xs : List ℕ) (b : Bool) → xs ≡ filter p (range_with_len a n) → a ≤ q → q < a + n
    → SameFrom q xs (drop next xs) → StartsFrom q (drop next xs)
    → (Rising 0 (drop next xs) → StartsFrom q (drop next xs) → b ≡ is_among (drop next xs) q) → b ≡ p q
named_at p a n q next xs b is from upto same first told =
    told (rising_dropped next 0 xs (kept_rise p a n xs is)) first ∙ (same q (omega arith) ∙ kept_has p a n q xs is from upto)
