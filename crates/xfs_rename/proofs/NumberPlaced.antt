-- A number at its place among others.
use Rattle.std.proofs.Common.{◌≡◌, ℕ, suc, Bool, true, false, cond, ◌+◌, nat_lt, List, [], ◌∷◌, refl, ap, ◌∙◌, arith}
use Rattle.std.specs.List.{insert, prefix_len}
use Rattle.xfs_rename.specs.Settled.{with_number_in_order}

-- in front of the first that is not lower
pub number_placed : (n : ℕ) (numbers : List ℕ) → insert numbers (prefix_len (λ (x : ℕ). nat_lt x n) numbers) n ≡ with_number_in_order n numbers
number_placed n [] = refl
number_placed n (x ∷ numbers) = by_case (nat_lt x n) (number_placed n numbers)
  where
    behind : (k : ℕ) (ys : List ℕ) → insert numbers k n ≡ ys → insert (x ∷ numbers) (1 + k) n ≡ x ∷ ys
    behind k ys rest =
        let next : 1 + k ≡ suc k = omega arith in
        ap (λ (i : ℕ). insert (x ∷ numbers) i n) next ∙ ap (λ (zs : List ℕ). x ∷ zs) rest

    by_case : (t : Bool) → insert numbers (prefix_len (λ (y : ℕ). nat_lt y n) numbers) n ≡ with_number_in_order n numbers
        → insert (x ∷ numbers) (cond t (1 + prefix_len (λ (y : ℕ). nat_lt y n) numbers) 0) n ≡ cond t (x ∷ with_number_in_order n numbers) (n ∷ x ∷ numbers)
    by_case true rest = behind (prefix_len (λ (y : ℕ). nat_lt y n) numbers) (with_number_in_order n numbers) rest
    by_case false rest = refl
