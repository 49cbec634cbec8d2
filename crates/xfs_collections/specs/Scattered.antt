-- Pairs of a place and an index that name each index below a number.
use Rattle.std.specs.Prelude.{◌≡◌, ℕ, ◌<◌, List, true, nat_eq}
use Rattle.std.specs.List.{list_any}

-- each index below `n` stands in some pair
abbrev pub NamesEach : ℕ → List (ℕ × ℕ) → Type 0
NamesEach n pairs = (i : ℕ) → i < n → list_any (λ (pair : ℕ × ℕ). nat_eq pair.1 i) pairs ≡ true
