-- Fields of bytes that are zero, and a byte of a field.
use Rattle.std.proofs.Common.{◌≡◌, ℕ, ◌+◌, ◌-◌, ◌/◌, ◌%◌, ◌^◌, ◌<◌, ◌≤◌, List, drop, get_or, get_or-take, get_or-drop, sym, ap, ◌∙◌, arith}
use Rattle.std.proofs.lemmas.List.{get_or-replicate}
use Rattle.xfs_word.specs.Field.{field_of, part_of, zeros, IsZero}

zero_byte : (bytes : List ℕ) (at width k : ℕ) → IsZero bytes at width → at ≤ k → k < at + width → get_or bytes k 0 ≡ 0
unfolding part_of zeros
zero_byte bytes at width k none low high =
    let inside : k - at < width = omega arith in
    let place : at + (k - at) ≡ k = omega arith in
    ap (λ (j : ℕ). get_or bytes j 0) (sym place)
    ∙ (sym (get_or-take width (drop at bytes) (k - at) 0 inside ∙ get_or-drop at bytes (k - at) 0)
    ∙ (ap (λ (xs : List ℕ). get_or xs (k - at) 0) none ∙ get_or-replicate width (k - at) 0 0 inside))

-- a number of one byte
pub zero_field_1 : (bytes : List ℕ) (at width a : ℕ) → IsZero bytes at width → at ≤ a → a + 1 ≤ at + width → field_of bytes a 1 ≡ 0
unfolding field_of
zero_field_1 bytes at width a is_zero low high =
    let first : get_or (drop a bytes) 0 0 ≡ 0 = get_or-drop a bytes 0 0 ∙ zero_byte bytes at width (a + 0) is_zero (omega arith) (omega arith) in
    omega (arith, first)

-- the second byte of the number at 8
pub second_byte : (bytes : List ℕ) → ((k : ℕ) → get_or bytes k 0 < 256) → field_of bytes 9 1 ≡ field_of bytes 8 4 / 2 ^ 16 % 2 ^ 8
unfolding field_of
second_byte bytes small =
    let a = small 8 in
    let b = small 9 in
    let c = small 10 in
    let d = small 11 in
    let at8 = get_or-drop 8 bytes 0 0 in
    let at9 = get_or-drop 8 bytes 1 0 in
    let at10 = get_or-drop 8 bytes 2 0 in
    let at11 = get_or-drop 8 bytes 3 0 in
    let one = get_or-drop 9 bytes 0 0 in
    omega (arith, a, b, c, d, at8, at9, at10, at11, one)
