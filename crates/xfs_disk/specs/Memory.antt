-- An image as one list of bytes, block after block.
use Rattle.std.specs.Prelude.{ℕ, zero, suc, ◌*◌, List, [], ◌∷◌, ◌++◌, take, drop}
use Rattle.xfs_disk.specs.Blocks.{Image}

-- so many blocks of 4096 bytes each, from the front of the bytes
unfoldable pub blocks_of_bytes : ℕ → List ℕ → Image
blocks_of_bytes zero bytes = []
blocks_of_bytes (suc n) bytes = take 4096 bytes ∷ blocks_of_bytes n (drop 4096 bytes)

-- the bytes with this block in the place of the block of number `at`
unfoldable pub with_block : List ℕ → ℕ → List ℕ → List ℕ
with_block bytes at block = take (at * 4096) bytes ++ (block ++ drop 4096 (drop (at * 4096) bytes))
