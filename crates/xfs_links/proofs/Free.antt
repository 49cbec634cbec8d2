-- There is always a free name: of one more names than there are entries not all are taken.
use Rattle.std.proofs.Common.{◌≡◌, ℕ, zero, suc, ◌+◌, ◌^◌, ◌<◌, ◌≤◌, ◌&&◌, ◌||◌, ◌⊎◌, inl, inr, Bool, true, false, cond, List, [], ◌∷◌, length, refl, sym, ◌∙◌, ap, arith, Option, if◌then◌else◌}
use Rattle.std.specs.Str.{bytes_eq}
use Rattle.std.proofs.lemmas.Bool.{cases_lt}
use Rattle.std.proofs.lemmas.Bool.Decides.{nat_tests}
use Rattle.std.proofs.lemmas.Slice.Eq.{bytes_eq-Decides}
use Rattle.xfs_dirdata.specs.declared.records.EntryRec.{EntryRec}
use Rattle.xfs_links.specs.Connected.{is_parent, is_taken_name, lost_name, free_name}
use Rattle.xfs_links.proofs.Numerals.{name_once}

-- how many of the m numbers from a on pass
abbrev pub passing : (ℕ → Bool) → ℕ → ℕ → ℕ
passing p a zero = 0
passing p a (suc m) = cond (p a) 1 0 + passing p (a + 1) m

passing_none : (p : ℕ → Bool) (a m : ℕ) → ((k : ℕ) → a ≤ k → k < a + m → p k ≡ false) → passing p a m ≡ 0
passing_none p a zero h = refl
passing_none p a (suc m) h = either (p a) (h a (omega arith) (omega arith)) (passing_none p (a + 1) m (λ k l r. h k (omega arith) (omega arith)))
  where
    either : (t : Bool) → t ≡ false → passing p (a + 1) m ≡ 0 → cond t 1 0 + passing p (a + 1) m ≡ 0
    either true e r = cc
    either false e r = omega arith

passing_all : (p : ℕ → Bool) (a m : ℕ) → ((k : ℕ) → a ≤ k → k < a + m → p k ≡ true) → passing p a m ≡ m
passing_all p a zero h = refl
passing_all p a (suc m) h = either (p a) (h a (omega arith) (omega arith)) (passing_all p (a + 1) m (λ k l r. h k (omega arith) (omega arith)))
  where
    either : (t : Bool) → t ≡ true → passing p (a + 1) m ≡ m → cond t 1 0 + passing p (a + 1) m ≡ suc m
    either true e r = omega arith
    either false e r = cc

-- one at most, where those that pass are one
passing_one : (p : ℕ → Bool) (a m : ℕ) → ((j k : ℕ) → j < a + m → k < a + m → p j ≡ true → p k ≡ true → j ≡ k) → passing p a m ≤ 1
passing_one p a zero h = omega arith
passing_one p a (suc m) h = either (p a) refl (passing_one p (a + 1) m (λ j k l r. h j k (omega arith) (omega arith)))
  where
    either : (t : Bool) → p a ≡ t → passing p (a + 1) m ≤ 1 → cond t 1 0 + passing p (a + 1) m ≤ 1
    either true e r = omega (arith, passing_none p (a + 1) m others)
      where
        others : (k : ℕ) → a + 1 ≤ k → k < a + 1 + m → p k ≡ false
        others k l r = decide (p k) refl
          where
            decide : (t : Bool) → p k ≡ t → t ≡ false
            decide true f = let same : a ≡ k = h a k (omega arith) (omega arith) e f in absurd (omega arith)
            decide false f = refl
    either false e r = omega arith

-- those that pass one of two tests
passing_either : (p q : ℕ → Bool) (a m : ℕ) → passing (λ k. p k || q k) a m ≤ passing p a m + passing q a m
passing_either p q a zero = omega arith
passing_either p q a (suc m) = either (p a) (q a) (passing_either p q (a + 1) m)
  where
    either : (s t : Bool) → passing (λ k. p k || q k) (a + 1) m ≤ passing p (a + 1) m + passing q (a + 1) m
        → cond (s || t) 1 0 + passing (λ k. p k || q k) (a + 1) m ≤ (cond s 1 0 + passing p (a + 1) m) + (cond t 1 0 + passing q (a + 1) m)
    either true true h = omega arith
    either true false h = omega arith
    either false true h = omega arith
    either false false h = omega arith

-- no more names of a file are taken than there are entries
taken_few : (lost : Option ℕ) (n m : ℕ) (es : List EntryRec) → n < 2 ^ 64 → m ≤ 2 ^ 64 → passing (λ k. is_taken_name es lost (lost_name n k)) 0 m ≤ length es
taken_few lost n m [] h l = omega (arith, passing_none (λ k. false) 0 m (λ k a b. refl))
taken_few lost n m (e ∷ es) h l =
    omega (arith, passing_either (λ k. is_parent e.dir lost && bytes_eq e.name (lost_name n k)) (λ k. is_taken_name es lost (lost_name n k)) 0 m, one, taken_few lost n m es h l)
  where
    right : (s t : Bool) → (s && t) ≡ true → t ≡ true
    right s t e = grind (arith, nat_tests)

    spells : (k : ℕ) → (is_parent e.dir lost && bytes_eq e.name (lost_name n k)) ≡ true → e.name ≡ lost_name n k
    spells k t = (bytes_eq-Decides e.name (lost_name n k)).0 (right (is_parent e.dir lost) (bytes_eq e.name (lost_name n k)) t)

    one : passing (λ k. is_parent e.dir lost && bytes_eq e.name (lost_name n k)) 0 m ≤ 1
    one = passing_one (λ k. is_parent e.dir lost && bytes_eq e.name (lost_name n k)) 0 m
        (λ j k a b s t. name_once n j k h (omega arith) (omega arith) (sym (spells j s) ∙ spells k t))

-- the name that is picked is one of these
pub free_is : (taken : List ℕ → Bool) (n steps k : ℕ) → (j : ℕ) × (j ≤ k + steps) × (free_name taken n steps k ≡ lost_name n j)
free_is taken n zero k = (k, omega arith, refl)
free_is taken n (suc steps) k = either (taken (lost_name n k)) (free_is taken n steps (k + 1))
  where
    either : (t : Bool) → ((j : ℕ) × (j ≤ k + 1 + steps) × (free_name taken n steps (k + 1) ≡ lost_name n j))
        → (j : ℕ) × (j ≤ k + suc steps) × ((if t then free_name taken n steps (k + 1) else lost_name n k) ≡ lost_name n j)
    either true r = let low : r.0 ≤ k + 1 + steps = r.1 in (r.0, omega arith, r.2)
    either false r = (k, omega arith, refl)

-- it is free, or all are taken
free_or_all : (taken : List ℕ → Bool) (n steps k : ℕ) → (taken (free_name taken n steps k) ≡ false) ⊎ ((j : ℕ) → k ≤ j → j < k + steps + 1 → taken (lost_name n j) ≡ true)
free_or_all taken n zero k = either (taken (lost_name n k)) refl
  where
    either : (t : Bool) → taken (lost_name n k) ≡ t → (taken (lost_name n k) ≡ false) ⊎ ((j : ℕ) → k ≤ j → j < k + 0 + 1 → taken (lost_name n j) ≡ true)
    either true e = inr (λ j l r. let same : j ≡ k = omega arith in ap (λ m. taken (lost_name n m)) same ∙ e)
    either false e = inl e
free_or_all taken n (suc steps) k = either (taken (lost_name n k)) refl (free_or_all taken n steps (k + 1))
  where
    either : (t : Bool) → taken (lost_name n k) ≡ t → (taken (free_name taken n steps (k + 1)) ≡ false) ⊎ ((j : ℕ) → k + 1 ≤ j → j < k + 1 + steps + 1 → taken (lost_name n j) ≡ true)
        → (taken (if t then free_name taken n steps (k + 1) else lost_name n k) ≡ false) ⊎ ((j : ℕ) → k ≤ j → j < k + suc steps + 1 → taken (lost_name n j) ≡ true)
    either false e r = inl e
    either true e (inl r) = inl r
    either true e (inr r) = inr (λ j l m. pick j l m (cases_lt k j))
      where
        pick : (j : ℕ) → k ≤ j → j < k + suc steps + 1 → (k < j) ⊎ (j ≤ k) → taken (lost_name n j) ≡ true
        pick j l m (inl a) = r j (omega arith) (omega arith)
        pick j l m (inr a) = let same : j ≡ k = omega arith in ap (λ m. taken (lost_name n m)) same ∙ e

pub is_free : (es : List EntryRec) (lost : Option ℕ) (n : ℕ) → n < 2 ^ 64 → length es < 2 ^ 64 → is_taken_name es lost (free_name (is_taken_name es lost) n (length es) 0) ≡ false
is_free es lost n h l = elim (free_or_all (is_taken_name es lost) n (length es) 0) [
  | inl e ↦ e
  | inr all ↦ absurd (omega (arith, taken_few lost n (length es + 1) es h (omega arith), passing_all (λ k. is_taken_name es lost (lost_name n k)) 0 (length es + 1) (λ k a b. all k (omega arith) (omega arith))))
]
