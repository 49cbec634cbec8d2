-- What a file has after a write.
use Rattle.std.specs.Prelude.{ℕ, ◌+◌, List, ◌++◌, length, take, drop}

-- the bytes with this piece in the place of those from this place on
abbrev pub with_piece : ℕ → List ℕ → List ℕ → List ℕ
with_piece place piece all = take place all ++ (piece ++ drop (place + length piece) all)
