-- A set of numbers in their order, as a list of numbers.
use Rattle.std.proofs.Common.{◌≡◌, ℕ, Bool}
use Rattle.std.specs.Bool.{nat_eq}
use Rattle.std.specs.Cmp.{unsigned_tied}
use Rattle.std.specs.Ordering.{nat_cmp, eq_by_cmp}

-- numbers that an order does not tell apart are equal
pub tied : ◌≡◌ {A = ℕ → ℕ → Bool} (eq_by_cmp nat_cmp) nat_eq
tied = λ i a b. unsigned_tied a b i
