-- Lists of blocks as sets.
use Rattle.std.specs.Prelude.{◌≡◌, ℕ, ◌+◌, ◌≤◌, List, [], ◌∷◌}
use Rattle.xfs_disk.specs.Lists.{is_among}

-- numbers ascend from one on
abbrev pub Rising : ℕ → List ℕ → Type 0
Rising low [] = Unit {0}
Rising low (x ∷ xs) = (low ≤ x) × Rising (x + 1) xs

-- the first block, where there is one, stands at a place or behind it
abbrev pub StartsFrom : ℕ → List ℕ → Type 0
StartsFrom place [] = Unit {0}
StartsFrom place (x ∷ xs) = place ≤ x

-- the same blocks are there from a place on
abbrev pub SameFrom : ℕ → List ℕ → List ℕ → Type 0
SameFrom place xs ys = (q : ℕ) → place ≤ q → is_among ys q ≡ is_among xs q
