-- Bytes cut at blocks, and what is so of each part in turn.
use Rattle.std.specs.Prelude.{ℕ, ◌+◌, ◌-◌, ◌*◌, List, [], ◌∷◌, take, drop}

-- bytes cut at these blocks, of which the first has the number `low`
abbrev pub flat_parts : ℕ → List ℕ → List ℕ → List (List ℕ)
flat_parts low [] bytes = bytes ∷ []
flat_parts low (cut ∷ cuts) bytes = take ((cut - low) * 4096) bytes ∷ flat_parts cut cuts (drop ((cut - low) * 4096) bytes)

-- P is so of each part and its number, where the first part has the number `first`
abbrev pub EachFrom : (ℕ → List ℕ → Type 0) → ℕ → List (List ℕ) → Type 0
EachFrom P first [] = Unit {0}
EachFrom P first (part ∷ parts) = P first part × EachFrom P (first + 1) parts

-- R is so of each part's number, the part as it was and the part as it is; there are as many as there were
abbrev pub EachPairFrom : (ℕ → List ℕ → List ℕ → Type 0) → ℕ → List (List ℕ) → List (List ℕ) → Type 0
EachPairFrom R first [] [] = Unit {0}
EachPairFrom R first [] (new ∷ news) = ⊥
EachPairFrom R first (old ∷ olds) [] = ⊥
EachPairFrom R first (old ∷ olds) (new ∷ news) = R first old new × EachPairFrom R (first + 1) olds news
