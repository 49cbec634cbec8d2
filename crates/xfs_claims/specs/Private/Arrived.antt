-- Numbers that come one after the other to a list that ascends.
use Rattle.std.specs.Prelude.{ℕ, suc, ◌≤◌, List, [], ◌∷◌}
use Rattle.xfs_disk.specs.Lists.{with_number}

-- what is held, and then each of the others at its place
abbrev pub arrived : List ℕ → List ℕ → List ℕ
arrived held [] = held
arrived held (n ∷ rest) = arrived (with_number n held) rest

-- the first is the least one or more, and each is above the one in front of it
abbrev pub AscendFrom : ℕ → List ℕ → Type 0
AscendFrom least [] = Unit {0}
AscendFrom least (n ∷ rest) = (least ≤ n) × AscendFrom (suc n) rest
