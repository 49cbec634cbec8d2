-- What entries name is as often among their targets.
use Rattle.std.proofs.Common.{◌≡◌, ℕ, suc, ◌≤◌, ◌==◌, Bool, true, false, cond, List, [], ◌∷◌, length, map, filter, refl, sym, ap, ◌∙◌, arith}
use Rattle.std.specs.List.Sorted.{IsPermutation, IsNonDecreasingBy}
use Rattle.std.proofs.lemmas.List.Sums.{length-filter}
use Rattle.std.proofs.lemmas.List.Sorted.{sum_by-IsPermutation}
use Rattle.xfs_dirdata.specs.declared.records.EntryRec.{EntryRec}
use Rattle.xfs_naming.specs.Naming.{entries_to}
use Rattle.xfs_names.specs.declared.linking.Target.{Target}
use Rattle.xfs_names.specs.Private.Targets.{AreTargets, target_of}

as_many : (n : ℕ) (es : List EntryRec) → length (filter (λ (t : Target). t.ino == n) (map target_of es)) ≡ length (entries_to es n)
as_many n [] = refl
as_many n (e ∷ es) = either (e.ino == n) (as_many n es)
  where
    either : (t : Bool) → length (filter (λ (t : Target). t.ino == n) (map target_of es)) ≡ length (entries_to es n)
        → length (cond t (target_of e ∷ filter (λ (t : Target). t.ino == n) (map target_of es)) (filter (λ (t : Target). t.ino == n) (map target_of es))) ≡ length (cond t (e ∷ entries_to es n) (entries_to es n))
    either true rest = ap suc rest
    either false rest = rest

pub targeted : (es : List EntryRec) (targets : List Target) → IsNonDecreasingBy (λ (t : Target). t.ino) targets → IsPermutation (map target_of es) targets → AreTargets es targets
targeted es targets rise moved = record {
  rise = rise;
  as_many = λ n.
      length-filter (λ (t : Target). t.ino == n) targets
      ∙ sum_by-IsPermutation (λ (t : Target). cond (t.ino == n) 1 0) (map target_of es) targets moved
      ∙ sym (length-filter (λ (t : Target). t.ino == n) (map target_of es))
      ∙ as_many n es;
}

-- no more pass a test than there are
pub filter_fits : {X : Type 0} (p : X → Bool) (xs : List X) → length (filter p xs) ≤ length xs
filter_fits p [] = omega arith
filter_fits {X} p (x ∷ xs) = either (p x) (filter_fits p xs)
  where
    either : (t : Bool) → length (filter p xs) ≤ length xs → length (cond t (x ∷ filter p xs) (filter p xs)) ≤ length (x ∷ xs)
    either true r = omega arith
    either false r = omega arith
