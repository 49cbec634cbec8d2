-- Zero bytes at the start of bytes, as they are tested: eight at a time.
use Rattle.std.specs.Prelude.{◌≡◌, ◌≤◌, ℕ, List, length, drop}
use Rattle.byteorder.specs.Endian.{little_number}

-- the first sixteen are zero
pub record AreSixteenZeros (bytes : List ℕ) : Type 0 where
  pub first : little_number 8 bytes ≡ 0
  pub last : little_number 8 (drop 8 bytes) ≡ 0

-- the first thirty-two are zero
pub record AreManyZeros (bytes : List ℕ) : Type 0 where
  pub first : AreSixteenZeros bytes
  pub last : AreSixteenZeros (drop 16 bytes)

-- there are sixty-four, all zero
pub record BeginsWithZeros (bytes : List ℕ) : Type 0 where
  pub long : 64 ≤ length bytes
  pub first : AreManyZeros bytes
  pub last : AreManyZeros (drop 32 bytes)
