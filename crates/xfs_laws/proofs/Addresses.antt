-- The number of an inode of a group in 64 bits.
use Rattle.std.proofs.Common.{◌≡◌, ℕ, ◌+◌, ◌*◌, ◌%◌, ◌^◌, ◌<◌, ◌≤◌, Fits, w64, arith, sym, ap, ◌∙◌, subst, one-mul, mul-le-mul, pow_mono}
use Rattle.xfs_laws.proofs.Bits.{shifted}

power_is : (k : ℕ) → k ≤ 26 → 1 * 2 ^ k % 2 ^ 64 ≡ 2 ^ k
power_is k short = shifted 1 k (omega arith) (omega arith) ∙ one-mul (2 ^ k)

low : (ag k : ℕ) → ag ≤ 512 → k ≤ 26 → ag * 2 ^ k ≤ 512 * 2 ^ 26
low ag k few short = mul-le-mul few (pow_mono short)

fits_low : (n : ℕ) → n ≤ 512 * 2 ^ 26 → Fits w64 n
fits_low n less = omega arith

fits_eight : (n : ℕ) → n ≤ 512 * 2 ^ 26 → Fits w64 (n * 8)
fits_eight n less = omega arith

fits_sum : (n agino : ℕ) → n ≤ 512 * 2 ^ 26 → agino < 2 ^ 33 → Fits w64 (n * 8 + agino)
fits_sum n agino less inside = omega arith

module _ (ag k : ℕ) (few : ag ≤ 512) (short : k ≤ 26) where
  pub product_fits : Fits w64 (ag * (1 * 2 ^ k % 2 ^ 64))
  product_fits = subst (λ (n : ℕ). Fits w64 (ag * n)) (sym (power_is k short)) (fits_low (ag * 2 ^ k) (low ag k few short))

  pub eight_fit : Fits w64 (ag * (1 * 2 ^ k % 2 ^ 64) * 8)
  eight_fit = subst (λ (n : ℕ). Fits w64 (ag * n * 8)) (sym (power_is k short)) (fits_eight (ag * 2 ^ k) (low ag k few short))

  pub sum_fits : (agino : ℕ) → agino < 2 ^ 33 → Fits w64 (ag * (1 * 2 ^ k % 2 ^ 64) * 8 + agino)
  sum_fits agino inside =
      subst (λ (n : ℕ). Fits w64 (ag * n * 8 + agino)) (sym (power_is k short)) (fits_sum (ag * 2 ^ k) agino (low ag k few short) inside)

  pub number_is : (agino : ℕ) → ag * (1 * 2 ^ k % 2 ^ 64) * 8 + agino ≡ ag * 2 ^ k * 8 + agino
  number_is agino = ap (λ (n : ℕ). ag * n * 8 + agino) (power_is k short)
