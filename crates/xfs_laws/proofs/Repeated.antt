-- Different numbers, counted from one place of a list on.
use Rattle.std.proofs.Common.{◌≡◌, ℕ, suc, ◌+◌, ◌==◌, ◌<◌, true, false, if◌then◌else◌, List, ◌∷◌, length, get_or, drop, refl, ap, ◌∙◌, add-one, drop-cons}
use Rattle.std.specs.List.{list_any}
use Rattle.xfs_space.specs.Owners.{different}

-- how many differ from a place on: one more than behind it, where the number does not come again
pub different_from : (xs : List ℕ) (i : ℕ) → i < length xs
    → different (drop i xs) ≡ (if list_any (λ y. y == get_or xs i 0) (drop (i + 1) xs) then different (drop (i + 1) xs) else (get_or xs i 0 ∷ different (drop (i + 1) xs)))
different_from xs i inside = rw (drop-cons xs i 0 inside, add-one i) refl

pub again : (xs : List ℕ) (i : ℕ) → i < length xs → list_any (λ y. y == get_or xs i 0) (drop (i + 1) xs) ≡ true
    → length (different (drop i xs)) ≡ length (different (drop (i + 1) xs))
again xs i inside stands = ap length (different_from xs i inside) ∙ rw stands refl

pub new : (xs : List ℕ) (i : ℕ) → i < length xs → list_any (λ y. y == get_or xs i 0) (drop (i + 1) xs) ≡ false
    → length (different (drop i xs)) ≡ suc (length (different (drop (i + 1) xs)))
new xs i inside stands = ap length (different_from xs i inside) ∙ rw stands refl
