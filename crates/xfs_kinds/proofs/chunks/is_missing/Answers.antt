use Rattle.std.proofs.Common.{◌≡◌, ℕ, ◌*◌, ◌/◌, ◌%◌, ◌^◌, ◌==◌, ap, sym, ◌∙◌, arith}
use Rattle.std.proofs.lemmas.Nat.{and_mask}
use Rattle.xfs_kinds.proofs.chunks.is_missing.Goals as goal

pub returns : goal.returns
returns c =
    let mask = c.args.holemask in
    let bit = c.args.bit in
    let place : 4 * bit / 4 ≡ bit = omega arith in
    ap (λ (n : ℕ). n == 1) (and_mask (mask / 2 ^ bit) 1) ∙ ap (λ (k : ℕ). mask / 2 ^ k % 2 == 1) (sym place)
