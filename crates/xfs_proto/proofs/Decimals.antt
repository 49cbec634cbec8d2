-- A number below a limit that is no larger than the limit of all numbers.
use Rattle.std.proofs.Common.{◌≡◌, ℕ, ◌^◌, ◌≤◌, Bool, true, false, List, Option, Some, None, refl, arith, nat_lt, cond, ap, sym}
use Rattle.std.proofs.lemmas.Bool.Decides.{nat_tests}
use Rattle.xfs_options.specs.Numbers.{below_limit, bounded_number, decimal_of}
use Rattle.xfs_proto.specs.Numbers.{limited, number_below}

chosen : (limit n : ℕ) (small : Bool) → limit ≤ 2 ^ 32 → nat_lt n (2 ^ 63) ≡ small → limited limit (cond small (Some n) None) ≡ limited limit (Some n)
chosen limit n true few is = refl
chosen limit n false few is =
    let none : nat_lt n limit ≡ false = grind (arith, nat_tests) in
    sym (ap (λ (b : Bool). cond b (Some n) None) none)

below_both : (limit : ℕ) (number : Option ℕ) → limit ≤ 2 ^ 32 → limited limit (below_limit number) ≡ limited limit number
below_both limit None few = refl
below_both limit (Some n) few = chosen limit n (nat_lt n (2 ^ 63)) few refl

pub bounded_below : (limit : ℕ) (text : List ℕ) → limit ≤ 2 ^ 32 → limited limit (bounded_number text) ≡ number_below limit text
unfolding bounded_number number_below
bounded_below limit text few = below_both limit (decimal_of text) few
