-- Lists, ranges of numbers, and orders of what a list has.
use Rattle.std.specs.Prelude.{◌≡◌, ℕ, Bool, true, ◌+◌, ◌==◌, ◌&&◌, nat_le, nat_lt, if◌then◌else◌, List, [], ◌∷◌}
use Rattle.std.specs.List.{list_any, list_all}

-- a number is one of `count` numbers from `start` on
abbrev pub is_in_range : ℕ → ℕ → ℕ → Bool
is_in_range start count number = nat_le start number && nat_lt number (start + count)

-- a number is one of these
abbrev pub is_among : List ℕ → ℕ → Bool
is_among numbers n = list_any (λ m. m == n) numbers

-- ascending numbers with one more
abbrev pub with_number : ℕ → List ℕ → List ℕ
with_number n [] = n ∷ []
with_number n (m ∷ rest) = if nat_lt n m then n ∷ m ∷ rest else (if n == m then m ∷ rest else (m ∷ with_number n rest))

-- each comes no later than those behind it
abbrev pub AreInOrder : {X : Type 0} → (X → X → Bool) → List X → Type 0
AreInOrder upto [] = Unit {0}
AreInOrder upto (x ∷ xs) = (list_all (upto x) xs ≡ true) × AreInOrder upto xs
