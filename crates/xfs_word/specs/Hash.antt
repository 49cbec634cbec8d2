-- The hash of a name, by which directories and attributes are ordered. From the chapter "Directories" of
-- "XFS Algorithms and Data Structures".
use Rattle.std.specs.Prelude.{ℕ, ◌*◌, ◌^◌, List, [], ◌∷◌, bit_xor}
use Rattle.std.specs.Int.{rotate_left, w32}

-- the hash after a name's bytes, four at a time, and then its rest of up to three
abbrev pub hash_from : ℕ → List ℕ → ℕ
hash_from h (a ∷ b ∷ c ∷ d ∷ rest) =
    hash_from (bit_xor (bit_xor (bit_xor (bit_xor (a * 2 ^ 21) (b * 2 ^ 14)) (c * 2 ^ 7)) d) (rotate_left w32 h 28)) rest
hash_from h (a ∷ b ∷ c ∷ []) = bit_xor (bit_xor (bit_xor (a * 2 ^ 14) (b * 2 ^ 7)) c) (rotate_left w32 h 21)
hash_from h (a ∷ b ∷ []) = bit_xor (bit_xor (a * 2 ^ 7) b) (rotate_left w32 h 14)
hash_from h (a ∷ []) = bit_xor a (rotate_left w32 h 7)
hash_from h [] = h

-- the hash of a name
unfoldable pub hash_of : List ℕ → ℕ
hash_of name = hash_from 0 name
