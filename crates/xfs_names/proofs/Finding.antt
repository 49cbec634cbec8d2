-- The first of a list that passes a test.
use Rattle.std.proofs.Common.{◌≡◌, ℕ, ◌+◌, ◌-◌, ◌<◌, ◌≤◌, Bool, true, false, cond, List, [], ◌∷◌, ◌++◌, length, drop, zero, suc, refl, sym, ap, ◌∙◌, arith, subst, add-one, Option, None, Some, slice_index_or, find, is_some}
use Rattle.std.specs.List.{flat_map, range_with_len}

found_first : {X : Type 0} (p : X → Bool) (xs ys : List X) (x : X) → find p xs ≡ Some x → find p (xs ++ ys) ≡ Some x
found_first p [] ys x h = cc
found_first p (z ∷ zs) ys x h = either (p z) h (found_first p zs ys x)
  where
    either : (t : Bool) → cond t (Some z) (find p zs) ≡ Some x → (find p zs ≡ Some x → find p (zs ++ ys) ≡ Some x) → cond t (Some z) (find p (zs ++ ys)) ≡ Some x
    either true k r = k
    either false k r = r k

found_later : {X : Type 0} (p : X → Bool) (xs ys : List X) → find p xs ≡ None → find p (xs ++ ys) ≡ find p ys
found_later p [] ys h = refl
found_later p (z ∷ zs) ys h = either (p z) h (found_later p zs ys)
  where
    either : (t : Bool) → cond t (Some z) (find p zs) ≡ None → (find p zs ≡ None → find p (zs ++ ys) ≡ find p ys) → cond t (Some z) (find p (zs ++ ys)) ≡ find p ys
    either true k r = cc
    either false k r = r k

-- what a list begins with from a place on
rest_at : (cs : List ℕ) (i : ℕ) (f : ℕ → List ℕ) → i < length cs → flat_map f (drop i cs) ≡ f (slice_index_or cs i 0) ++ flat_map f (drop (suc i) cs)
rest_at [] i f h = absurd (omega arith)
rest_at (c ∷ cs) zero f h = refl
rest_at (c ∷ cs) (suc i) f h = rest_at cs i f (omega arith)

pub part_found : (p : ℕ → Bool) (f : ℕ → List ℕ) (cs : List ℕ) (i : ℕ) (o : Option ℕ) → i < length cs → is_some o ≡ true → o ≡ find p (f (slice_index_or cs i 0)) → o ≡ find p (flat_map f (drop i cs))
part_found p f cs i None h t e = cc
part_found p f cs i (Some x) h t e = sym (ap (find p) (rest_at cs i f h) ∙ found_first p (f (slice_index_or cs i 0)) (flat_map f (drop (suc i) cs)) x (sym e))

pub part_passed : (p : ℕ → Bool) (f : ℕ → List ℕ) (cs : List ℕ) (i : ℕ) (o : Option ℕ) → i < length cs → is_some o ≡ false → o ≡ find p (f (slice_index_or cs i 0)) → find p (flat_map f (drop (i + 1) cs)) ≡ find p (flat_map f (drop i cs))
part_passed p f cs i (Some x) h t e = cc
part_passed p f cs i None h t e = ap (λ k. find p (flat_map f (drop k cs))) (add-one i) ∙ sym (ap (find p) (rest_at cs i f h) ∙ found_later p (f (slice_index_or cs i 0)) (flat_map f (drop (suc i) cs)) (sym e))

-- numbers one after the other
one_first : (p : ℕ → Bool) (a m : ℕ) → p a ≡ true → find p (range_with_len a (suc m)) ≡ Some a
one_first p a m t = ap (λ b. cond b (Some a) (find p (range_with_len (a + 1) m))) t

pub number_found : (p : ℕ → Bool) (a b : ℕ) → a < b → p a ≡ true → find p (range_with_len a (b - a)) ≡ Some a
number_found p a b h t = subst (λ m. find p (range_with_len a m) ≡ Some a) (more a b h) (one_first p a (b - (a + 1)) t)
  where
    more : (a b : ℕ) → a < b → suc (b - (a + 1)) ≡ b - a
    more a b h = omega arith

pub number_passed : (p : ℕ → Bool) (a b : ℕ) → a < b → p a ≡ false → find p (range_with_len (a + 1) (b - (a + 1))) ≡ find p (range_with_len a (b - a))
number_passed p a b h t = sym (ap (λ m. find p (range_with_len a m)) (less a b h) ∙ ap (λ u. cond u (Some a) (find p (range_with_len (a + 1) (b - (a + 1))))) t)
  where
    less : (a b : ℕ) → a < b → b - a ≡ suc (b - (a + 1))
    less a b h = omega arith

pub none_left : (p : ℕ → Bool) (a b : ℕ) → b ≤ a → None ≡ find p (range_with_len a (b - a))
none_left p a b h = ap (λ m. find p (range_with_len a m)) (none a b h)
  where
    none : (a b : ℕ) → b ≤ a → 0 ≡ b - a
    none a b h = omega arith
