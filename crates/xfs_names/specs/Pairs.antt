-- Directories with their parents, as pairs of numbers.
use Rattle.std.specs.Prelude.{ℕ, ◌+◌, ◌≤◌, ◌==◌, if◌then◌else◌, List, [], ◌∷◌, Option, None, Some, unwrap_or}

-- pairs ascend by their first number from low on
abbrev pub PairsAscend : ℕ → List (ℕ × ℕ) → Type 0
PairsAscend low [] = Unit {0}
PairsAscend low (p ∷ ps) = (low ≤ p.0) × PairsAscend (p.0 + 1) ps

-- the parent that the pairs tell of a directory
abbrev pub parent_among : List (ℕ × ℕ) → ℕ → Option ℕ
parent_among [] d = None
parent_among (p ∷ ps) d = if p.0 == d then Some p.1 else parent_among ps d

-- the same, and the directory itself where they tell none
abbrev pub parent_or_itself : List (ℕ × ℕ) → ℕ → ℕ
parent_or_itself parents d = unwrap_or (parent_among parents d) d
