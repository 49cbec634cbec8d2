-- Counts that are raised again and again.
use Rattle.std.proofs.Common.{◌≡◌, ℕ, zero, suc, ◌+◌, refl, ap, ◌∙◌, arith}
use Rattle.xfs_disk.specs.Counts.{raised, raised_times}

-- not raised
pub raised_none : (count : ℕ) → raised_times 0 count ≡ count
raised_none count = refl

-- once more
pub raised_once : (n count : ℕ) → raised_times (n + 1) count ≡ raised (raised_times n count)
raised_once n count = let step : n + 1 ≡ suc n = omega arith in ap (λ (k : ℕ). raised_times k count) step

-- so many times, and then so many times more
pub raised_further : (n m count : ℕ) → raised_times m (raised_times n count) ≡ raised_times (n + m) count
raised_further n zero count = let none : n ≡ n + 0 = omega arith in ap (λ (k : ℕ). raised_times k count) none
raised_further n (suc m) count =
    let step : suc (n + m) ≡ n + suc m = omega arith in
    ap raised (raised_further n m count) ∙ ap (λ (k : ℕ). raised_times k count) step
