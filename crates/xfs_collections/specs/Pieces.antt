-- Blocks among bytes that several hold.
use Rattle.std.specs.Prelude.{ℕ, ◌+◌, ◌≤◌, List, length, take, drop}
use Rattle.xfs_collections.specs.declared.piece.Piece.{Piece}

-- the bytes of a block
abbrev pub block_of : Piece → List ℕ
block_of p = take 4096 (drop p.at p.bytes)

-- a block lies among the bytes
abbrev pub HasBlock : Piece → Type 0
HasBlock p = p.at + 4096 ≤ length p.bytes
