-- Laws that are kept, group by group.
use Rattle.std.proofs.Common.{◌≡◌, ℕ, zero, suc, ◌+◌, ◌<◌, ◌≤◌, ◌==◌, true, List, [], ◌∷◌, ◌++◌, map, refl, subst, arith}
use Rattle.std.specs.List.{range_with_len}
use Rattle.std.proofs.lemmas.Bool.{eq-eqb}
use Rattle.xfs_volume.specs.declared.findings.Law.{Law}
use Rattle.xfs_volume.specs.declared.groups.GroupRec.{GroupRec}
use Rattle.xfs_volume.specs.Laws.{AreKept, first_difference}
use Rattle.xfs_laws.specs.Counting.{by_group}

pub both_kept : (xs ys : List Law) → AreKept xs → AreKept ys → AreKept (xs ++ ys)
both_kept [] ys a b = b
both_kept (x ∷ xs) ys a b = (a.0, both_kept xs ys a.1 b)

-- a law of groups that is kept for each of them
pub groups_kept : (laws : ℕ → GroupRec → List Law) (group : ℕ → GroupRec) (a n : ℕ) → ((ag : ℕ) → a ≤ ag → ag < a + n → AreKept (laws ag (group ag)))
    → AreKept (by_group laws a (map group (range_with_len a n)))
groups_kept laws group a zero each = tt
groups_kept laws group a (suc n) each =
    both_kept (laws a (group a)) (by_group laws (a + 1) (map group (range_with_len (a + 1) n))) (each a (omega arith) (omega arith))
    (groups_kept laws group (a + 1) n (λ ag low high. each ag (omega (arith, low)) (omega (arith, high))))

-- a list does not differ from itself
itself : (xs : List ℕ) → (first_difference xs xs).0 ≡ (first_difference xs xs).1
itself [] = refl
itself (x ∷ xs) = let same : (x == x) ≡ true = eq-eqb x x refl in rw same (itself xs)

pub no_difference : (held due : List ℕ) → held ≡ due → (first_difference held due).0 ≡ (first_difference held due).1
no_difference held due same = subst (λ (xs : List ℕ). (first_difference held xs).0 ≡ (first_difference held xs).1) same (itself held)
