-- What a law says of a volume, place by place: the number that is held there and the number that is due there.
use Rattle.std.specs.Prelude.{ℕ, ◌-◌, ◌^◌, ◌==◌, ◌≡◌, if◌then◌else◌, List, [], ◌∷◌, Option, Some, None}
use Rattle.xfs_volume.specs.declared.findings.Law.{Law}

-- a law at a place: what is held there, what is due there
abbrev pub law_at : ℕ → ℕ → ℕ → ℕ → Law
law_at law place held due = record { law = law; place = place; held = held; due = due }

-- the first of the places at which the held number is not the one that is due
unfoldable pub first_broken : List Law → Option Law
first_broken [] = None
first_broken (l ∷ ls) = if l.held == l.due then first_broken ls else Some l

-- each number that is held is the one that is due
abbrev pub AreKept : List Law → Type 0
AreKept [] = Unit {0}
AreKept (l ∷ ls) = (l.held ≡ l.due) × AreKept ls

-- stands for a record or an owner that is not there
abbrev pub nothing : ℕ
nothing = 2 ^ 128 - 1

-- two lists of numbers at the first place where they differ; past the end of a list stands nothing
abbrev pub first_difference : List ℕ → List ℕ → ℕ × ℕ
first_difference [] [] = (0, 0)
first_difference [] (due ∷ rest) = (nothing, due)
first_difference (held ∷ rest) [] = (held, nothing)
first_difference (held ∷ held_rest) (due ∷ due_rest) =
    if held == due then first_difference held_rest due_rest else (held, due)
