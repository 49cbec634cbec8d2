-- The checksum of on-disk objects, CRC-32C, bit by bit. From the chapter "Self Describing Metadata" of
-- "XFS Algorithms and Data Structures".
use Rattle.std.specs.Prelude.{ℕ, zero, suc, ◌+◌, ◌-◌, ◌*◌, ◌/◌, ◌%◌, ◌^◌, Bool, ◌==◌, List, [], ◌∷◌, ◌++◌, take, drop, fold, bit_xor}
use Rattle.byteorder.specs.Endian.{little_number}

-- the generator polynomial of CRC-32C, with the coefficient of the highest power lowest
abbrev pub polynomial : ℕ
polynomial = 0x82F6_3B78

-- the register after one bit: the lowest bit of their sum goes out, and the polynomial comes in for it
abbrev pub after_bit : ℕ → ℕ → ℕ
after_bit register bit = bit_xor (register / 2) ((register + bit) % 2 * polynomial)

-- the lowest n bits of a number, the lowest first
abbrev pub low_bits : ℕ → ℕ → List ℕ
low_bits zero number = []
low_bits (suc n) number = number % 2 ∷ low_bits n (number / 2)

-- the register after the eight bits of a byte
unfoldable pub after_byte : ℕ → ℕ → ℕ
after_byte register byte = fold after_bit register (low_bits 8 byte)

-- the register after bytes
abbrev pub after_bytes : ℕ → List ℕ → ℕ
after_bytes register bytes = fold after_byte register bytes

-- the register after n bits that are zero
unfoldable pub after_zeros : ℕ → ℕ → ℕ
after_zeros zero register = register
after_zeros (suc n) register = after_zeros n (after_bit register 0)

-- the checksum of bytes: the register starts with all ones, and is complemented at the end
unfoldable pub crc_of : List ℕ → ℕ
crc_of bytes = 2 ^ 32 - 1 - after_bytes (2 ^ 32 - 1) bytes

-- bytes with the four from an offset on taken as zero
unfoldable pub cleared : List ℕ → ℕ → List ℕ
cleared bytes at = take at bytes ++ 0 ∷ 0 ∷ 0 ∷ 0 ∷ drop (at + 4) bytes

-- the little-endian number in the width bytes from an offset on
unfoldable pub little_field_of : List ℕ → ℕ → ℕ → ℕ
little_field_of bytes at width = little_number width (drop at bytes)

-- the four bytes from an offset on hold, little-endian, the checksum of all bytes with these four as zero
unfoldable pub has_checksum : List ℕ → ℕ → Bool
has_checksum bytes at = little_field_of bytes at 4 == crc_of (cleared bytes at)
