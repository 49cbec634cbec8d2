-- An extent and its number determine each other.
use Rattle.std.proofs.Common.{◌≡◌, ℕ, zero, suc, ◌+◌, ◌-◌, ◌*◌, ◌/◌, ◌%◌, ◌^◌, ◌<◌, Bool, true, false, if◌then◌else◌, nat_eq, List, length, refl, sym, ◌∙◌, ap, ap₂, bit_or, bit_and, arith}
use Rattle.std.proofs.lemmas.Nat.{or_shifted, and_mask}
use Rattle.std.specs.Int.{from_bool}
use Rattle.byteorder.specs.Endian.{big_number, big_bytes}
use Rattle.xfs_word.specs.Extent.{IsPackable, extent_number, packed}
use Rattle.xfs_word.specs.declared.extents.Extent.{Extent}
use Rattle.xfs_word.proofs.Register.{AreBytes}
use Rattle.xfs_word.proofs.Digits.{big_number-big_bytes, big_bytes-big_number}

-- the extent of a number
unfoldable pub unpacked : ℕ → Extent
unpacked n = record { offset = n / 2 ^ 73 % 2 ^ 54; start = n / 2 ^ 21 % 2 ^ 52; count = n % 2 ^ 21; unwritten = nat_eq (n / 2 ^ 127) 1 }

-- a bit as a test, and back
bit_flag : (b : ℕ) → b < 2 → (if nat_eq b 1 then 1 else 0) ≡ b
bit_flag zero h = refl
bit_flag (suc zero) h = refl
bit_flag (suc (suc b)) h = absurd (omega arith)

-- a test as a bit, and back
flag_bit : (b : Bool) (n : ℕ) → n ≡ (if b then 1 else 0) → nat_eq n 1 ≡ b
flag_bit true n h = ap (λ (k : ℕ). nat_eq k 1) h
flag_bit false n h = ap (λ (k : ℕ). nat_eq k 1) h

-- a flag is below two
flag-lt : (b : Bool) → (if b then 1 else 0) < 2
flag-lt true = omega arith
flag-lt false = omega arith

-- the parts of a number of 128 bits
parts : (n u o s c : ℕ) → n ≡ ((u * 2 ^ 54 + o) * 2 ^ 52 + s) * 2 ^ 21 + c → o < 2 ^ 54 → s < 2 ^ 52 → c < 2 ^ 21
    → (n / 2 ^ 127 ≡ u) × (n / 2 ^ 73 % 2 ^ 54 ≡ o) × (n / 2 ^ 21 % 2 ^ 52 ≡ s) × (n % 2 ^ 21 ≡ c)
parts n u o s c e ho hs hc = (omega arith, omega arith, omega arith, omega arith)

-- a number of 128 bits is that of its parts
whole : (n u o s c : ℕ) → u ≡ n / 2 ^ 127 → o ≡ n / 2 ^ 73 % 2 ^ 54 → s ≡ n / 2 ^ 21 % 2 ^ 52 → c ≡ n % 2 ^ 21
    → ((u * 2 ^ 54 + o) * 2 ^ 52 + s) * 2 ^ 21 + c ≡ n
whole n u o s c hu ho hs hc = omega arith

-- the number of a number's extent
pub number-unpacked : (n : ℕ) → n < 2 ^ 128 → extent_number (unpacked n) ≡ n
unfolding extent_number unpacked
number-unpacked n h =
    let top : n / 2 ^ 127 < 2 = omega arith in
    whole n (if nat_eq (n / 2 ^ 127) 1 then 1 else 0) (n / 2 ^ 73 % 2 ^ 54) (n / 2 ^ 21 % 2 ^ 52) (n % 2 ^ 21)
    (bit_flag (n / 2 ^ 127) top) refl refl refl

-- extents with the same parts are the same
same_extent : (e : Extent) (o s c : ℕ) (u : Bool) → o ≡ e.offset → s ≡ e.start → c ≡ e.count → u ≡ e.unwritten
    → record { offset = o; start = s; count = c; unwritten = u } ≡ e
same_extent e o s c u ho hs hc hu =
    let at_offset = λ (x : ℕ). let r : Extent = record { offset = x; start = s; count = c; unwritten = u } in r in
    let at_start = λ (x : ℕ). let r : Extent = record { offset = e.offset; start = x; count = c; unwritten = u } in r in
    let at_count = λ (x : ℕ). let r : Extent = record { offset = e.offset; start = e.start; count = x; unwritten = u } in r in
    let at_unwritten = λ (x : Bool). let r : Extent = record { offset = e.offset; start = e.start; count = e.count; unwritten = x } in r in
    ap at_offset ho ∙ ap at_start hs ∙ ap at_count hc ∙ ap at_unwritten hu

-- the extent of an extent's number
pub unpacked-number : (e : Extent) (n : ℕ) → IsPackable e → n ≡ extent_number e → unpacked n ≡ e
unfolding extent_number unpacked
unpacked-number e n fits is =
    let cut = parts n (if e.unwritten then 1 else 0) e.offset e.start e.count is fits.offset fits.start fits.count in
    same_extent e (n / 2 ^ 73 % 2 ^ 54) (n / 2 ^ 21 % 2 ^ 52) (n % 2 ^ 21) (nat_eq (n / 2 ^ 127) 1) cut.1 cut.2 cut.3
    (flag_bit e.unwritten (n / 2 ^ 127) cut.0)

-- parts that fit make a number of 128 bits
below : (u o s c : ℕ) → u < 2 → o < 2 ^ 54 → s < 2 ^ 52 → c < 2 ^ 21 → ((u * 2 ^ 54 + o) * 2 ^ 52 + s) * 2 ^ 21 + c < 2 ^ 128
below u o s c hu ho hs hc = omega arith

-- the number of an extent has 128 bits
pub number_of-lt : (e : Extent) → IsPackable e → extent_number e < 2 ^ 128
unfolding extent_number
number_of-lt e fits =
    below (if e.unwritten then 1 else 0) e.offset e.start e.count (flag-lt e.unwritten) fits.offset fits.start fits.count

-- the parts joined by shifts
pub joined : (u o s c : ℕ) → u < 2 → o < 2 ^ 54 → s < 2 ^ 52 → c < 2 ^ 21
    → bit_or (bit_or (u * 2 ^ 127 % 2 ^ 128) (bit_or (o * 2 ^ 73 % 2 ^ 128) (s * 2 ^ 21 % 2 ^ 128))) c ≡ ((u * 2 ^ 54 + o) * 2 ^ 52 + s) * 2 ^ 21 + c
joined u o s c hu ho hs hc =
    let eu : u * 2 ^ 127 % 2 ^ 128 ≡ u * 2 ^ 127 = omega arith in
    let eo : o * 2 ^ 73 % 2 ^ 128 ≡ o * 2 ^ 73 = omega arith in
    let es : s * 2 ^ 21 % 2 ^ 128 ≡ s * 2 ^ 21 = omega arith in
    let room : s * 2 ^ 21 < 2 ^ 73 = omega arith in
    let low : bit_or (o * 2 ^ 73) (s * 2 ^ 21) ≡ o * 2 ^ 73 + s * 2 ^ 21 = or_shifted o 73 (s * 2 ^ 21) room in
    let wide : o * 2 ^ 73 + s * 2 ^ 21 < 2 ^ 127 = omega arith in
    let high : bit_or (u * 2 ^ 127) (o * 2 ^ 73 + s * 2 ^ 21) ≡ u * 2 ^ 127 + (o * 2 ^ 73 + s * 2 ^ 21) =
    or_shifted u 127 (o * 2 ^ 73 + s * 2 ^ 21) wide in
    let three : u * 2 ^ 127 + (o * 2 ^ 73 + s * 2 ^ 21) ≡ ((u * 2 ^ 54 + o) * 2 ^ 52 + s) * 2 ^ 21 = omega arith in
    let place = ap₂ bit_or eo es ∙ low in
    ap (λ (x : ℕ). bit_or x c) (ap₂ bit_or eu place ∙ high ∙ three) ∙ or_shifted ((u * 2 ^ 54 + o) * 2 ^ 52 + s) 21 c hc

-- the parts of an extent joined by shifts are its bytes
pub joined-packed : (e : Extent) (u : ℕ) → IsPackable e → u ≡ (if e.unwritten then 1 else 0)
    → big_bytes 16 (bit_or (bit_or (u * 2 ^ 127 % 2 ^ 128) (bit_or (e.offset * 2 ^ 73 % 2 ^ 128) (e.start * 2 ^ 21 % 2 ^ 128))) e.count) ≡ packed e
unfolding packed extent_number
joined-packed e u fits flag =
    let number = λ (x : ℕ). bit_or (bit_or (x * 2 ^ 127 % 2 ^ 128) (bit_or (e.offset * 2 ^ 73 % 2 ^ 128) (e.start * 2 ^ 21 % 2 ^ 128))) e.count in
    ap (λ (x : ℕ). big_bytes 16 (number x)) flag
    ∙ ap (big_bytes 16) (joined (if e.unwritten then 1 else 0) e.offset e.start e.count (flag-lt e.unwritten) fits.offset fits.start fits.count)

-- a flag as a number
pub flag-number : (b : Bool) → from_bool b ≡ (if b then 1 else 0)
flag-number true = refl
flag-number false = refl

-- the masked parts of a number are those of its extent
pub masked : (n : ℕ) → record { offset = bit_and (n / 2 ^ 73) (2 ^ 54 - 1); start = bit_and (n / 2 ^ 21) (2 ^ 52 - 1); count = bit_and n (2 ^ 21 - 1); unwritten = nat_eq (n / 2 ^ 127) 1 } ≡ unpacked n
unfolding unpacked
masked n =
    let e : Extent = record { offset = n / 2 ^ 73 % 2 ^ 54; start = n / 2 ^ 21 % 2 ^ 52; count = n % 2 ^ 21; unwritten = nat_eq (n / 2 ^ 127) 1 } in
    same_extent e (bit_and (n / 2 ^ 73) (2 ^ 54 - 1)) (bit_and (n / 2 ^ 21) (2 ^ 52 - 1)) (bit_and n (2 ^ 21 - 1)) (nat_eq (n / 2 ^ 127) 1)
    (and_mask (n / 2 ^ 73) 54) (and_mask (n / 2 ^ 21) 52) (and_mask n 21) refl

-- 16 bytes are those of the extent of their number
pub packed-unpacked : (bytes : List ℕ) (n : ℕ) → n ≡ big_number 16 bytes → n < 2 ^ 128 → length bytes ≡ 16 → AreBytes bytes → bytes ≡ packed (unpacked n)
unfolding packed
packed-unpacked bytes n is fits long all =
    sym (ap (big_bytes 16) (number-unpacked n fits ∙ is) ∙ big_bytes-big_number 16 bytes long all)

-- 16 bytes are those of one extent alone
pub unpacked-packed : (bytes : List ℕ) (n : ℕ) (e : Extent) → n ≡ big_number 16 bytes → IsPackable e → bytes ≡ packed e → unpacked n ≡ e
unfolding packed
unpacked-packed bytes n e is fits spelt =
    let back : n ≡ extent_number e = is ∙ ap (big_number 16) spelt ∙ big_number-big_bytes 16 (extent_number e) (number_of-lt e fits) in
    unpacked-number e n fits back
