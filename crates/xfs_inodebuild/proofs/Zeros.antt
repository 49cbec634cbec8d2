-- Parts of bytes that are zero.
use Rattle.std.proofs.Common.{◌≡◌, ℕ, ◌+◌, ◌≤◌, ◌-◌, List, length, take, drop, replicate, sym, ◌∙◌, ap, subst, arith}
use Rattle.std.proofs.lemmas.List.{take-replicate, drop-replicate, length-replicate}
use Rattle.xfs_word.specs.Field.{part_of, zeros, IsZero}

-- a part of a run of zeros
pub zero_part : (bytes : List ℕ) (n at width : ℕ) → bytes ≡ replicate n 0 → at + width ≤ n → IsZero bytes at width
unfolding part_of zeros
zero_part bytes n at width all inside =
    let fits : width ≤ n - at = omega arith in
    ap (λ (b : List ℕ). take width (drop at b)) all
    ∙ (ap (λ (b : List ℕ). take width b) (drop-replicate at n 0) ∙ take-replicate width (n - at) 0 fits)

-- so many bytes of a run of zeros, put
pub zero_put : (bytes : List ℕ) (at width n : ℕ) → width ≤ n
    → part_of bytes at (length {A = ℕ} (take width (replicate n 0))) ≡ take width (replicate n 0) → IsZero bytes at width
unfolding zeros
zero_put bytes at width n inside put =
    let all : List ℕ = replicate width 0 in
    let same : take width (replicate n 0) ≡ all = take-replicate width n 0 inside in
    let long : length all ≡ width = length-replicate width 0 in
    let is : part_of bytes at (length all) ≡ all = subst (λ (xs : List ℕ). part_of bytes at (length xs) ≡ xs) same put in
    ap (part_of bytes at) (sym long) ∙ is
