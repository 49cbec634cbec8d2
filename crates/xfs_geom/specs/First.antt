-- The first of a list of tests that fails.
use Rattle.std.specs.Prelude.{ℕ, Bool, if◌then◌else◌, List, [], ◌∷◌, Option, Some, None}

-- tests by number: the number of the first that is false
abbrev pub first_false : List (ℕ × Bool) → Option ℕ
first_false [] = None
first_false (test ∷ tests) = if test.1 then first_false tests else Some test.0
