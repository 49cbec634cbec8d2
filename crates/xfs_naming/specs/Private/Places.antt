-- The place of a number among records in order.
use Rattle.std.specs.Prelude.{ℕ, ◌<◌, ◌≤◌, List, length}
use Rattle.std.specs.List.{AllWithin}

-- the records before it go by less than the number, and those from it on do not
pub record IsPlace {X : Type 0} (key : X → ℕ) (number : ℕ) (xs : List X) (place : ℕ) : Type 0 where
  pub before : AllWithin (λ (x : X). key x < number) xs 0 place
  pub from : AllWithin (λ (x : X). number ≤ key x) xs place (length xs)
