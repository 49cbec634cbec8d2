-- The checksum's register: it takes in bits linearly, so that bytes can be taken in together.
use Rattle.std.proofs.Common.{◌≡◌, ℕ, zero, suc, ◌+◌, ◌*◌, ◌/◌, ◌%◌, ◌^◌, ◌<◌, ◌≤◌, ◌⊎◌, inl, inr, List, [], ◌∷◌, length, take, drop, fold, slice_index, bit_xor, refl, sym, ◌∙◌, ap, ap₂, subst, arith}
use Rattle.std.specs.Int.Bits.{xor_zero_r, xor_comm, xor_assoc, xor_shr, xor_self, xor_shifted}
use Rattle.std.proofs.lemmas.Nat.Bits.{bit_at_xor}
use Rattle.std.proofs.Math.Nat.{pow-suc, mul_assoc, zero-mul}
use Rattle.std.proofs.Math.Seq.{take-add}
use Rattle.std.proofs.lemmas.List.{drop-drop, length-drop, take-append-drop}
use Rattle.std.proofs.lemmas.List.Sums.{fold-append}
use Rattle.byteorder.specs.Endian.{little_number}
use Rattle.byteorder.specs.Numbers.{little_from-cons}
use Rattle.xfs_word.specs.Private.Zeros.{AreSixteenZeros, BeginsWithZeros}
use Rattle.xfs_word.specs.Crc.{polynomial, after_bit, low_bits, after_byte, after_bytes, after_zeros}

-- the lowest bit of a xor is that of the sum
xor_lowest : (a b : ℕ) → bit_xor a b % 2 ≡ (a % 2 + b % 2) % 2
xor_lowest a b =
    let e : bit_xor a b / 2 ^ 0 % 2 ≡ (a / 2 ^ 0 % 2 + b / 2 ^ 0 % 2) % 2 = bit_at_xor a b 0 in
    omega (arith, e)

-- half of a xor is the xor of the halves
xor_half : (a b : ℕ) → bit_xor a b / 2 ≡ bit_xor (a / 2) (b / 2)
xor_half a b = xor_shr a b 1

-- a xor of two pairs goes by columns
xor_turn : (a b c d : ℕ) → bit_xor (bit_xor a b) (bit_xor c d) ≡ bit_xor (bit_xor a c) (bit_xor b d)
xor_turn a b c d =
    xor_assoc a b (bit_xor c d)
    ∙ ap (bit_xor a) (sym (xor_assoc b c d) ∙ ap (λ (x : ℕ). bit_xor x d) (xor_comm b c) ∙ xor_assoc c b d)
    ∙ sym (xor_assoc a c (bit_xor b d))

-- a bit is 0 or 1
bit_cases : (a : ℕ) → a < 2 → (a ≡ 0) ⊎ (a ≡ 1)
bit_cases zero h = inl refl
bit_cases (suc n) h = inr (omega arith)

-- a product by a bit is linear
bit_times : (a b p : ℕ) → a < 2 → b < 2 → (a + b) % 2 * p ≡ bit_xor (a * p) (b * p)
bit_times a b p ha hb =
    elim (bit_cases a ha) [
      | inl a0 ↦
          let s : (a + b) % 2 ≡ b = omega arith in
          let z : a * p ≡ 0 = ap (λ (x : ℕ). x * p) a0 ∙ zero-mul p in
          ap (λ (x : ℕ). x * p) s ∙ sym (ap (λ (x : ℕ). bit_xor x (b * p)) z)
      | inr a1 ↦
          elim (bit_cases b hb) [
            | inl b0 ↦
                let s : (a + b) % 2 ≡ a = omega arith in
                let z : b * p ≡ 0 = ap (λ (x : ℕ). x * p) b0 ∙ zero-mul p in
                ap (λ (x : ℕ). x * p) s ∙ sym (ap (bit_xor (a * p)) z ∙ xor_zero_r (a * p))
            | inr b1 ↦
                let s : (a + b) % 2 ≡ 0 = omega arith in
                let same : a * p ≡ b * p = ap (λ (x : ℕ). x * p) (a1 ∙ sym b1) in
                ap (λ (x : ℕ). x * p) s ∙ zero-mul p ∙ sym (ap (λ (x : ℕ). bit_xor x (b * p)) same ∙ xor_self (b * p))
          ]
    ]

-- one zero bit, linearly
pub zero-xor : (a b : ℕ) → after_bit (bit_xor a b) 0 ≡ bit_xor (after_bit a 0) (after_bit b 0)
zero-xor a b =
    let low : (bit_xor a b + 0) % 2 ≡ ((a + 0) % 2 + (b + 0) % 2) % 2 = omega (arith, xor_lowest a b) in
    let times = bit_times ((a + 0) % 2) ((b + 0) % 2) polynomial (omega arith) (omega arith) in
    ap₂ bit_xor (xor_half a b) (ap (λ (x : ℕ). x * polynomial) low ∙ times)
    ∙ xor_turn (a / 2) (b / 2) ((a + 0) % 2 * polynomial) ((b + 0) % 2 * polynomial)

-- zero bits, linearly
pub after_zeros-xor : (n a b : ℕ) → after_zeros n (bit_xor a b) ≡ bit_xor (after_zeros n a) (after_zeros n b)
unfolding after_zeros
after_zeros-xor zero a b = refl
after_zeros-xor (suc n) a b = ap (after_zeros n) (zero-xor a b) ∙ after_zeros-xor n (after_bit a 0) (after_bit b 0)

-- zero bits after zero bits
pub after_zeros-add : (m n x : ℕ) → after_zeros (m + n) x ≡ after_zeros n (after_zeros m x)
unfolding after_zeros
after_zeros-add zero n x =
    let e : zero + n ≡ n = omega arith in
    ap (λ (k : ℕ). after_zeros k x) e
after_zeros-add (suc m) n x =
    let e : suc m + n ≡ suc (m + n) = omega arith in
    ap (λ (k : ℕ). after_zeros k x) e ∙ after_zeros-add m n (after_bit x 0)

-- n zero bits move a register down that has nothing in its lowest n bits
pub after_zeros-pow : (n x : ℕ) → after_zeros n (x * 2 ^ n) ≡ x
unfolding after_zeros
after_zeros-pow zero x = omega arith
after_zeros-pow (suc n) x =
    let twice : x * 2 ^ suc n ≡ x * 2 ^ n * 2 = ap (λ (p : ℕ). x * p) (pow-suc 2 n) ∙ sym (mul_assoc x (2 ^ n) 2) in
    let half : (x * 2 ^ n * 2) / 2 ≡ x * 2 ^ n = omega arith in
    let even : (x * 2 ^ n * 2 + 0) % 2 * polynomial ≡ 0 = omega arith in
    let down : after_bit (x * 2 ^ n * 2) 0 ≡ x * 2 ^ n = ap₂ bit_xor half even ∙ xor_zero_r (x * 2 ^ n) in
    ap (λ (k : ℕ). after_zeros n (after_bit k 0)) twice ∙ ap (after_zeros n) down ∙ after_zeros-pow n x

-- bits that come in are zero bits after a xor
pub after_bits : (n r x : ℕ) → x < 2 ^ n → fold after_bit r (low_bits n x) ≡ after_zeros n (bit_xor r x)
unfolding after_zeros
after_bits zero r x h =
    let none : x ≡ 0 = omega arith in
    sym (ap (bit_xor r) none ∙ xor_zero_r r)
after_bits (suc n) r x h =
    let twice : 2 ^ suc n ≡ 2 ^ n * 2 = pow-suc 2 n in
    let room : x / 2 < 2 ^ n = omega arith in
    let low : (r + x % 2) % 2 ≡ (bit_xor r x + 0) % 2 = omega (arith, xor_lowest r x) in
    let fed = (r + x % 2) % 2 * polynomial in
    let moved : bit_xor (bit_xor (r / 2) fed) (x / 2) ≡ bit_xor (bit_xor (r / 2) (x / 2)) fed =
    xor_assoc (r / 2) fed (x / 2) ∙ ap (bit_xor (r / 2)) (xor_comm fed (x / 2)) ∙ sym (xor_assoc (r / 2) (x / 2) fed) in
    after_bits n (after_bit r (x % 2)) (x / 2) room
    ∙ ap (after_zeros n) (moved ∙ ap₂ bit_xor (sym (xor_half r x)) (ap (λ (b : ℕ). b * polynomial) low))

-- a byte that comes in is eight zero bits after a xor
pub after_byte-zeros : (r x : ℕ) → x < 256 → after_byte r x ≡ after_zeros 8 (bit_xor r x)
unfolding after_byte
after_byte-zeros r x h = after_bits 8 r x h

-- the lowest byte and the rest, apart
pub byte_apart : (x : ℕ) → bit_xor (x % 256) (x / 256 * 256) ≡ x
byte_apart x =
    let fit : x % 256 < 2 ^ 8 = omega arith in
    let whole : x / 256 * 256 + x % 256 ≡ x = omega arith in
    xor_comm (x % 256) (x / 256 * 256) ∙ xor_shifted (x / 256) 8 (x % 256) fit ∙ whole

-- zero bits by the lowest byte, and by the rest after it
pub after_zeros-split : (k n x : ℕ) → k ≡ 8 + n → after_zeros k x ≡ bit_xor (after_zeros k (x % 256)) (after_zeros n (x / 256))
after_zeros-split k n x e =
    let rest : after_zeros k (x / 256 * 256) ≡ after_zeros n (x / 256) =
    ap (λ (j : ℕ). after_zeros j (x / 256 * 256)) e ∙ after_zeros-add 8 n (x / 256 * 256)
    ∙ ap (after_zeros n) (after_zeros-pow 8 (x / 256)) in
    ap (after_zeros k) (sym (byte_apart x)) ∙ after_zeros-xor k (x % 256) (x / 256 * 256)
    ∙ ap (bit_xor (after_zeros k (x % 256))) rest

-- the lowest byte and the rest, taken in apart
lowest_first : (k n x a rest : ℕ) → k ≡ 8 + n → a ≡ after_zeros k (x % 256) → rest ≡ after_zeros n (x / 256) → bit_xor a rest ≡ after_zeros k x
lowest_first k n x a rest e first then = ap₂ bit_xor first then ∙ sym (after_zeros-split k n x e)

-- the same, the lowest byte last
lowest_last : (k n x a rest : ℕ) → k ≡ 8 + n → a ≡ after_zeros k (x % 256) → rest ≡ after_zeros n (x / 256) → bit_xor rest a ≡ after_zeros k x
lowest_last k n x a rest e first then = xor_comm rest a ∙ lowest_first k n x a rest e first then

-- eight bytes with n zero bits behind them, each taken in apart, the highest first
pub eight : (n w a b c d e f g h : ℕ) → w < 2 ^ 64
    → a ≡ after_zeros (n + 64) (w % 256) → b ≡ after_zeros (n + 56) (w / 2 ^ 8 % 256) → c ≡ after_zeros (n + 48) (w / 2 ^ 16 % 256)
    → d ≡ after_zeros (n + 40) (w / 2 ^ 24 % 256) → e ≡ after_zeros (n + 32) (w / 2 ^ 32 % 256) → f ≡ after_zeros (n + 24) (w / 2 ^ 40 % 256)
    → g ≡ after_zeros (n + 16) (w / 2 ^ 48 % 256) → h ≡ after_zeros (n + 8) (w / 2 ^ 56 % 256)
    → bit_xor (bit_xor (bit_xor (bit_xor (bit_xor (bit_xor (bit_xor h g) f) e) d) c) b) a ≡ after_zeros (n + 64) w
eight n w a b c d e f g h fits ha hb hc hd he hf hg hh =
    let top : w / 2 ^ 56 % 256 ≡ w / 2 ^ 56 = omega arith in
    let w7 : w / 2 ^ 48 / 256 ≡ w / 2 ^ 56 = omega arith in
    let w6 : w / 2 ^ 40 / 256 ≡ w / 2 ^ 48 = omega arith in
    let w5 : w / 2 ^ 32 / 256 ≡ w / 2 ^ 40 = omega arith in
    let w4 : w / 2 ^ 24 / 256 ≡ w / 2 ^ 32 = omega arith in
    let w3 : w / 2 ^ 16 / 256 ≡ w / 2 ^ 24 = omega arith in
    let w2 : w / 2 ^ 8 / 256 ≡ w / 2 ^ 16 = omega arith in
    let s7 : h ≡ after_zeros (n + 8) (w / 2 ^ 48 / 256) = hh ∙ ap (after_zeros (n + 8)) (top ∙ sym w7) in
    let s6 = lowest_last (n + 16) (n + 8) (w / 2 ^ 48) g h (omega arith) hg s7 in
    let r6 = bit_xor h g in
    let s5 = lowest_last (n + 24) (n + 16) (w / 2 ^ 40) f r6 (omega arith) hf (s6 ∙ ap (after_zeros (n + 16)) (sym w6)) in
    let r5 = bit_xor r6 f in
    let s4 = lowest_last (n + 32) (n + 24) (w / 2 ^ 32) e r5 (omega arith) he (s5 ∙ ap (after_zeros (n + 24)) (sym w5)) in
    let r4 = bit_xor r5 e in
    let s3 = lowest_last (n + 40) (n + 32) (w / 2 ^ 24) d r4 (omega arith) hd (s4 ∙ ap (after_zeros (n + 32)) (sym w4)) in
    let r3 = bit_xor r4 d in
    let s2 = lowest_last (n + 48) (n + 40) (w / 2 ^ 16) c r3 (omega arith) hc (s3 ∙ ap (after_zeros (n + 40)) (sym w3)) in
    let r2 = bit_xor r3 c in
    let s1 = lowest_last (n + 56) (n + 48) (w / 2 ^ 8) b r2 (omega arith) hb (s2 ∙ ap (after_zeros (n + 48)) (sym w2)) in
    lowest_last (n + 64) (n + 56) w a (bit_xor r2 b) (omega arith) ha s1

-- the same of four bytes
pub four : (n w a b c d : ℕ) → w < 2 ^ 32
    → a ≡ after_zeros (n + 32) (w % 256) → b ≡ after_zeros (n + 24) (w / 2 ^ 8 % 256) → c ≡ after_zeros (n + 16) (w / 2 ^ 16 % 256)
    → d ≡ after_zeros (n + 8) (w / 2 ^ 24 % 256)
    → bit_xor (bit_xor (bit_xor d c) b) a ≡ after_zeros (n + 32) w
four n w a b c d fits ha hb hc hd =
    let top : w / 2 ^ 24 % 256 ≡ w / 2 ^ 24 = omega arith in
    let w3 : w / 2 ^ 16 / 256 ≡ w / 2 ^ 24 = omega arith in
    let w2 : w / 2 ^ 8 / 256 ≡ w / 2 ^ 16 = omega arith in
    let s3 : d ≡ after_zeros (n + 8) (w / 2 ^ 16 / 256) = hd ∙ ap (after_zeros (n + 8)) (top ∙ sym w3) in
    let s2 = lowest_last (n + 16) (n + 8) (w / 2 ^ 16) c d (omega arith) hc s3 in
    let r2 = bit_xor d c in
    let s1 = lowest_last (n + 24) (n + 16) (w / 2 ^ 8) b r2 (omega arith) hb (s2 ∙ ap (after_zeros (n + 16)) (sym w2)) in
    lowest_last (n + 32) (n + 24) w a (bit_xor r2 b) (omega arith) ha s1

-- an entry of a row behind others, by its place in them
pub entry_behind : (rows k bits e x : ℕ) → e ≡ after_zeros (8 * (rows + k + 1)) x → 8 * rows + bits ≡ 8 * (rows + k + 1) → e ≡ after_zeros (8 * rows + bits) x
entry_behind rows k bits e x is same = is ∙ ap (λ (n : ℕ). after_zeros n x) (sym same)

-- an entry of the first row behind others
pub entry_first : (rows e x : ℕ) → e ≡ after_zeros (8 * (rows + 1)) x → e ≡ after_zeros (8 * rows + 8) x
entry_first rows e x is =
    let same : 8 * (rows + 1) ≡ 8 * rows + 8 = omega arith in
    is ∙ ap (λ (n : ℕ). after_zeros n x) same

-- one byte by its look-up
pub one : (r x a : ℕ) → x < 256 → a ≡ after_zeros 8 (bit_xor r x % 256) → bit_xor a (r / 256) ≡ after_byte r x
unfolding after_zeros
one r x a fit first =
    let none : x / 256 ≡ 0 = omega arith in
    let high : bit_xor r x / 256 ≡ r / 256 = xor_shr r x 8 ∙ ap (bit_xor (r / 256)) none ∙ xor_zero_r (r / 256) in
    lowest_first 8 0 (bit_xor r x) a (r / 256) refl first (sym high) ∙ sym (after_byte-zeros r x fit)

-- each of the bytes is below 256
pub record AreBytes (xs : List ℕ) : Type 0 where
  pub below : (k : ℕ) → slice_index xs k < 256

-- bytes that come in together are zero bits after a xor with their little-endian number
pub together : (n r : ℕ) (xs : List ℕ) → AreBytes xs → n ≤ length xs → after_bytes r (take n xs) ≡ after_zeros (8 * n) (bit_xor r (little_number n xs))
unfolding after_zeros
together zero r xs fit long = sym (xor_zero_r r)
together (suc n) r [] fit long = absurd (omega arith)
together (suc n) r (x ∷ xs) fit long =
    let byte : x < 256 = fit.below 0 in
    let rest : AreBytes xs = record { below = λ k. fit.below (suc k) } in
    let more = little_number n xs in
    let eight : 8 * suc n ≡ 8 + 8 * n = omega arith in
    let number : little_number (suc n) (x ∷ xs) ≡ more * 256 + x = let e = little_from-cons 0 n x xs in omega (arith, e) in
    let apart : more * 256 + x ≡ bit_xor x (more * 256) = sym (xor_comm x (more * 256) ∙ xor_shifted more 8 x byte) in
    let first : after_byte r x ≡ after_zeros 8 (bit_xor r x) = after_byte-zeros r x byte in
    let down : after_zeros 8 (bit_xor (bit_xor r x) (more * 256)) ≡ bit_xor (after_byte r x) more =
    after_zeros-xor 8 (bit_xor r x) (more * 256) ∙ ap₂ bit_xor (sym first) (after_zeros-pow 8 more) in
    together n (after_byte r x) xs rest (omega arith)
    ∙ ap (after_zeros (8 * n)) (sym down) ∙ sym (after_zeros-add 8 (8 * n) (bit_xor (bit_xor r x) (more * 256)))
    ∙ sym (ap₂ after_zeros eight (ap (bit_xor r) (number ∙ apart) ∙ sym (xor_assoc r x (more * 256))))

-- the register after some bytes and what is left leads to what they and all lead to
pub turn : (n r next at : ℕ) (xs part : List ℕ) → part ≡ drop at xs → next ≡ after_bytes r (take n part) → after_bytes next (drop (at + n) xs) ≡ after_bytes r (drop at xs)
turn n r next at xs part whole taken =
    let ys = drop at xs in
    let rest : drop (at + n) xs ≡ drop n ys = sym (drop-drop n at xs) in
    let front : next ≡ after_bytes r (take n ys) = taken ∙ ap (λ (p : List ℕ). after_bytes r (take n p)) whole in
    ap₂ after_bytes front rest ∙ sym (fold-append after_byte r (take n ys) (drop n ys)) ∙ ap (after_bytes r) (take-append-drop n ys)

-- the register after eight bytes that are taken in together
pub eight_in : (r word : ℕ) (xs : List ℕ) → AreBytes xs → 8 ≤ length xs → word ≡ bit_xor r (little_number 8 xs) → after_zeros 64 word ≡ after_bytes r (take 8 xs)
eight_in r word xs fit long is = ap (after_zeros 64) is ∙ sym (together 8 r xs fit long)

-- the register after four bytes that are taken in together
pub four_in : (r word : ℕ) (xs : List ℕ) → AreBytes xs → 4 ≤ length xs → word ≡ bit_xor r (little_number 4 xs) → after_zeros 32 word ≡ after_bytes r (take 4 xs)
four_in r word xs fit long is = ap (after_zeros 32) is ∙ sym (together 4 r xs fit long)

-- what is behind some bytes
pub bytes_behind : (n : ℕ) (xs : List ℕ) → AreBytes xs → AreBytes (drop n xs)
bytes_behind zero xs fit = fit
bytes_behind (suc n) [] fit = fit
bytes_behind (suc n) (x ∷ xs) fit = bytes_behind n xs (record { below = λ k. fit.below (suc k) })

-- sixteen bytes, the last eight apart from the register
pub sixteen : (r first last : ℕ) (xs : List ℕ) → AreBytes xs → 16 ≤ length xs → first ≡ bit_xor r (little_number 8 xs) → last ≡ little_number 8 (drop 8 xs)
    → bit_xor (after_zeros 64 last) (after_zeros 128 first) ≡ after_bytes r (take 16 xs)
sixteen r first last xs fit long is behind =
    let next = after_zeros 64 first in
    let front : next ≡ after_bytes r (take 8 xs) = eight_in r first xs fit (omega arith) is in
    let rest : 8 ≤ length (drop 8 xs) = let e = length-drop 8 xs in omega (arith, e) in
    let all : after_zeros 64 (bit_xor next last) ≡ after_bytes next (take 8 (drop 8 xs)) =
    eight_in next (bit_xor next last) (drop 8 xs) (bytes_behind 8 xs fit) rest (ap (bit_xor next) behind) in
    xor_comm (after_zeros 64 last) (after_zeros 128 first)
    ∙ ap (λ (x : ℕ). bit_xor x (after_zeros 64 last)) (after_zeros-add 64 64 first)
    ∙ sym (after_zeros-xor 64 next last)
    ∙ all
    ∙ ap (λ (x : ℕ). after_bytes x (take 8 (drop 8 xs))) front
    ∙ sym (fold-append after_byte r (take 8 xs) (take 8 (drop 8 xs)))
    ∙ ap (after_bytes r) (sym (take-add 8 8 xs))

-- zero bits leave nothing of nothing
zeros_of_none : (n : ℕ) → after_zeros n 0 ≡ 0
unfolding after_zeros
zeros_of_none zero = refl
zeros_of_none (suc n) = zeros_of_none n

-- sixteen bytes that are zero
pub sixteen_zeros : (r : ℕ) (xs : List ℕ) → AreBytes xs → 16 ≤ length xs → little_number 8 xs ≡ 0 → little_number 8 (drop 8 xs) ≡ 0
    → after_zeros 128 r ≡ after_bytes r (take 16 xs)
sixteen_zeros r xs fit long none none_behind =
    let first : r ≡ bit_xor r (little_number 8 xs) = sym (ap (bit_xor r) none ∙ xor_zero_r r) in
    let alone : bit_xor (after_zeros 64 0) (after_zeros 128 r) ≡ after_zeros 128 r =
    ap (λ (x : ℕ). bit_xor x (after_zeros 128 r)) (zeros_of_none 64) ∙ xor_comm 0 (after_zeros 128 r) ∙ xor_zero_r (after_zeros 128 r) in
    sym alone ∙ sixteen r r 0 xs fit long first (sym none_behind)

-- sixteen bytes that are zero, and some behind them
zeros_behind : (n k r : ℕ) (xs : List ℕ) → AreBytes xs → 16 ≤ length xs → AreSixteenZeros xs → after_zeros n (after_zeros 128 r) ≡ after_bytes (after_zeros 128 r) (take k (drop 16 xs))
    → after_zeros (128 + n) r ≡ after_bytes r (take (16 + k) xs)
zeros_behind n k r xs fit long none rest =
    let front : after_zeros 128 r ≡ after_bytes r (take 16 xs) = sixteen_zeros r xs fit long none.first none.last in
    after_zeros-add 128 n r ∙ rest
    ∙ ap (λ (x : ℕ). after_bytes x (take k (drop 16 xs))) front
    ∙ sym (fold-append after_byte r (take 16 xs) (take k (drop 16 xs)))
    ∙ ap (after_bytes r) (sym (take-add 16 k xs))

-- sixty-four bytes that are zero
pub many_zeros : (r : ℕ) (xs : List ℕ) → AreBytes xs → BeginsWithZeros xs → after_zeros 512 r ≡ after_bytes r (take 64 xs)
many_zeros r xs fit none =
    let r1 = after_zeros 128 r in
    let r2 = after_zeros 128 r1 in
    let r3 = after_zeros 128 r2 in
    let there : (k : ℕ) → k ≤ 48 → 16 ≤ length (drop k xs) = λ k few. let e = length-drop k xs in omega (arith, e, none.long, few) in
    let behind : (k : ℕ) → drop 16 (drop k xs) ≡ drop (k + 16) xs = λ k. drop-drop 16 k xs in
    let fourth : AreSixteenZeros (drop 48 xs) = subst AreSixteenZeros (behind 32) none.last.last in
    let last : after_zeros 128 r3 ≡ after_bytes r3 (take 16 (drop 48 xs)) =
    sixteen_zeros r3 (drop 48 xs) (bytes_behind 48 xs fit) (there 48 (omega arith)) fourth.first fourth.last in
    let third : after_zeros 256 r2 ≡ after_bytes r2 (take 32 (drop 32 xs)) =
    zeros_behind 128 16 r2 (drop 32 xs) (bytes_behind 32 xs fit) (there 32 (omega arith)) none.last.first (last ∙ ap (λ (l : List ℕ). after_bytes r3 (take 16 l)) (sym (behind 32))) in
    let second : after_zeros 384 r1 ≡ after_bytes r1 (take 48 (drop 16 xs)) =
    zeros_behind 256 32 r1 (drop 16 xs) (bytes_behind 16 xs fit) (there 16 (omega arith)) none.first.last (third ∙ ap (λ (l : List ℕ). after_bytes r2 (take 32 l)) (sym (behind 16))) in
    zeros_behind 384 48 r xs fit (omega (arith, none.long)) none.first.first second

-- the first of a few bytes, and the rest
pub first_few : (n r next : ℕ) (xs : List ℕ) → next ≡ after_bytes r (take n xs) → after_bytes next (drop n xs) ≡ after_bytes r xs
first_few n r next xs is = ap (λ (x : ℕ). after_bytes x (drop n xs)) is ∙ sym (fold-append after_byte r (take n xs) (drop n xs)) ∙ ap (after_bytes r) (take-append-drop n xs)
