-- Parts of bytes that are zero.
use Rattle.std.proofs.Common.{◌≡◌, ℕ, ◌+◌, ◌≤◌, ◌-◌, List, take, drop, replicate, ◌∙◌, ap, arith}
use Rattle.std.proofs.lemmas.List.{take-replicate, drop-replicate}
use Rattle.xfs_word.specs.Field.{part_of, zeros, IsZero}

pub zero_part : (bytes : List ℕ) (n at width : ℕ) → bytes ≡ replicate n 0 → at + width ≤ n → IsZero bytes at width
unfolding part_of zeros
zero_part bytes n at width all inside =
    let fits : width ≤ n - at = omega arith in
    ap (λ (b : List ℕ). take width (drop at b)) all
    ∙ (ap (λ (b : List ℕ). take width b) (drop-replicate at n 0) ∙ take-replicate width (n - at) 0 fits)
