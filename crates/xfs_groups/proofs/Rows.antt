-- Numbers in a row, one more of them.
use Rattle.std.proofs.Common.{◌≡◌, ℕ, zero, suc, Bool, true, false, cond, ◌+◌, ◌≤◌, ◌<◌, ◌&&◌, ◌||◌, if◌then◌else◌, List, [], ◌∷◌, ◌++◌, add-one, append-nil, map, refl, sym, ap, ap₂, ◌∙◌, subst, arith}
use Rattle.std.specs.List.{filter, list_all, list_any, range_with_len}
use Rattle.std.proofs.lemmas.Bool.{and_left, or_left}
use Rattle.std.specs.List.{All}
use Rattle.std.proofs.lemmas.List.{map-append}
use Rattle.std.proofs.lemmas.List.Elements.{All-push, filter-append}
use Rattle.std.proofs.lemmas.List.FromFn.{filter_of_map_range_with_len_more}
use Rattle.std.proofs.lemmas.List.Folds.{list_all-append, list_any-append}

range_suc : (a n : ℕ) → range_with_len a (suc n) ≡ range_with_len a n ++ (a + n) ∷ []
range_suc a zero = ap (λ (k : ℕ). k ∷ []) (omega arith)
range_suc a (suc n) =
    ap (λ (xs : List ℕ). a ∷ xs) (range_suc (a + 1) n ∙ ap (λ (k : ℕ). range_with_len (a + 1) n ++ k ∷ []) (omega arith))

pub range_more : (a n : ℕ) → range_with_len a (n + 1) ≡ range_with_len a n ++ (a + n) ∷ []
range_more a n = ap (range_with_len a) (add-one n) ∙ range_suc a n

or_end : (x y : Bool) → (x || (y || false)) ≡ (x || y)
or_end true y = refl
or_end false true = refl
or_end false false = refl

and_end : (x y : Bool) → (x && (y && true)) ≡ (x && y)
and_end false y = refl
and_end true true = refl
and_end true false = refl

pub any_more : (p : ℕ → Bool) (a n : ℕ) → list_any p (range_with_len a (n + 1)) ≡ (list_any p (range_with_len a n) || p (a + n))
any_more p a n =
    ap (list_any p) (range_more a n) ∙ (list_any-append p (range_with_len a n) ((a + n) ∷ []) ∙ or_end (list_any p (range_with_len a n)) (p (a + n)))

pub all_more : (p : ℕ → Bool) (a n : ℕ) → list_all p (range_with_len a (n + 1)) ≡ (list_all p (range_with_len a n) && p (a + n))
all_more p a n =
    ap (list_all p) (range_more a n) ∙ (list_all-append p (range_with_len a n) ((a + n) ∷ []) ∙ and_end (list_all p (range_with_len a n)) (p (a + n)))

pub filter_more : (p : ℕ → Bool) (a n : ℕ) → filter p (range_with_len a (n + 1)) ≡ filter p (range_with_len a n) ++ cond (p (a + n)) ((a + n) ∷ []) []
filter_more p a n = ap (filter p) (range_more a n) ∙ filter-append p (range_with_len a n) ((a + n) ∷ [])

-- one that passes, and one that does not
pub any_here : (p : ℕ → Bool) (a n k : ℕ) → k < n → p (a + k) ≡ true → list_any p (range_with_len a n) ≡ true
any_here p a zero k inside passes = absurd (omega (arith, inside))
any_here p a (suc n) zero inside passes = or_left (p a) (list_any p (range_with_len (a + 1) n)) (subst (λ (m : ℕ). p m ≡ true) (omega arith) passes)
any_here p a (suc n) (suc k) inside passes =
    let moved : p (a + 1 + k) ≡ true = subst (λ (m : ℕ). p m ≡ true) (omega arith) passes in
    let rest : list_any p (range_with_len (a + 1) n) ≡ true = any_here p (a + 1) n k (omega (arith, inside)) moved in
    either (p a) (list_any p (range_with_len (a + 1) n)) rest
  where
    either : (x y : Bool) → y ≡ true → (x || y) ≡ true
    either true y e = refl
    either false y e = e

pub all_unless : (p : ℕ → Bool) (a n k : ℕ) → k < n → p (a + k) ≡ false → list_all p (range_with_len a n) ≡ false
all_unless p a zero k inside fails = absurd (omega (arith, inside))
all_unless p a (suc n) zero inside fails = and_left (p a) (list_all p (range_with_len (a + 1) n)) (subst (λ (m : ℕ). p m ≡ false) (omega arith) fails)
all_unless p a (suc n) (suc k) inside fails =
    let moved : p (a + 1 + k) ≡ false = subst (λ (m : ℕ). p m ≡ false) (omega arith) fails in
    let rest : list_all p (range_with_len (a + 1) n) ≡ false = all_unless p (a + 1) n k (omega (arith, inside)) moved in
    neither (p a) (list_all p (range_with_len (a + 1) n)) rest
  where
    neither : (x y : Bool) → y ≡ false → (x && y) ≡ false
    neither true y e = e
    neither false y e = refl

-- two tests that agree on the numbers of a row
pub all_alike : (p q : ℕ → Bool) (a n : ℕ) → ((b : ℕ) → a ≤ b → p b ≡ q b) → list_all p (range_with_len a n) ≡ list_all q (range_with_len a n)
all_alike p q a zero alike = refl
all_alike p q a (suc n) alike =
    ap₂ (λ (x y : Bool). x && y) (alike a (omega arith)) (all_alike p q (a + 1) n (λ b from. alike b (omega (arith, from))))

pub any_mapped : {X : Type 0} (p : X → Bool) (f : ℕ → X) (xs : List ℕ) → list_any p (map f xs) ≡ list_any (λ x. p (f x)) xs
any_mapped p f [] = refl
any_mapped p f (x ∷ xs) = ap (λ (t : Bool). p (f x) || t) (any_mapped p f xs)

-- one place more, of which what passes is kept
pub kept_more : {X : Type 0} (h : ℕ → X) (p : ℕ → Bool) (f : ℕ → ℕ) (n : ℕ) (b : Bool) → b ≡ p (f n)
    → map h (filter p (map f (range_with_len 0 n))) ++ (if b then (h (f n) ∷ []) else []) ≡ map h (filter p (map f (range_with_len 0 (n + 1))))
kept_more h p f n b is =
    ap (λ (t : Bool). map h (filter p (map f (range_with_len 0 n))) ++ (if t then (h (f n) ∷ []) else [])) is
    ∙ sym (ap (map h) (filter_of_map_range_with_len_more p f 0 n n (omega arith))
    ∙ (map-append h (filter p (map f (range_with_len 0 n))) (cond (p (f n)) (f n ∷ []) [])
    ∙ ap (λ ys. map h (filter p (map f (range_with_len 0 n))) ++ ys) (of_one (p (f n)))))
  where
    of_one : (t : Bool) → map h (cond t (f n ∷ []) []) ≡ (if t then (h (f n) ∷ []) else [])
    of_one true = refl
    of_one false = refl

-- what holds of each still does with one more
pub each_more : {X : Type 0} (P : X → Type 0) (xs : List X) (b : Bool) (x : X) → All P xs → P x → All P (xs ++ (if b then (x ∷ []) else []))
each_more P xs true x all one = All-push P xs x all one
each_more P xs false x all one = rw (append-nil xs) all
