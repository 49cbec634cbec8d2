-- The hash of a name, a byte at a time.
use Rattle.std.proofs.Common.{◌≡◌, ℕ, suc, ◌+◌, ◌*◌, ◌/◌, ◌%◌, ◌^◌, ◌<◌, List, [], ◌∷◌, fold, bit_xor, bit_or, w32, refl, sym, ◌∙◌, ap, ap₂, arith}
use Rattle.std.specs.Int.{rotate_left}
use Rattle.std.specs.Int.Bits.{xor_comm, xor_assoc, xor_shr, xor_mod, xor_block, xor_lt}
use Rattle.std.proofs.lemmas.Nat.{or_shifted}
use Rattle.xfs_word.specs.Hash.{hash_from}
use Rattle.xfs_word.proofs.Register.{AreBytes}

-- one byte more
abbrev pub round : ℕ → ℕ → ℕ
round h b = bit_xor (rotate_left w32 h 7) b

-- a rotation in plain numbers
turned_7 : (n : ℕ) → n < 2 ^ 32 → rotate_left w32 n 7 ≡ n % 2 ^ 25 * 2 ^ 7 + n / 2 ^ 25
turned_7 n h =
    let cut : n * 2 ^ 7 % 2 ^ 32 ≡ n % 2 ^ 25 * 2 ^ 7 = omega arith in
    let low : n / 2 ^ 25 < 2 ^ 7 = omega arith in
    ap (λ (x : ℕ). bit_or x (n / 2 ^ 25)) cut ∙ or_shifted (n % 2 ^ 25) 7 (n / 2 ^ 25) low

turned_14 : (n : ℕ) → n < 2 ^ 32 → rotate_left w32 n 14 ≡ n % 2 ^ 18 * 2 ^ 14 + n / 2 ^ 18
turned_14 n h =
    let cut : n * 2 ^ 14 % 2 ^ 32 ≡ n % 2 ^ 18 * 2 ^ 14 = omega arith in
    let low : n / 2 ^ 18 < 2 ^ 14 = omega arith in
    ap (λ (x : ℕ). bit_or x (n / 2 ^ 18)) cut ∙ or_shifted (n % 2 ^ 18) 14 (n / 2 ^ 18) low

turned_21 : (n : ℕ) → n < 2 ^ 32 → rotate_left w32 n 21 ≡ n % 2 ^ 11 * 2 ^ 21 + n / 2 ^ 11
turned_21 n h =
    let cut : n * 2 ^ 21 % 2 ^ 32 ≡ n % 2 ^ 11 * 2 ^ 21 = omega arith in
    let low : n / 2 ^ 11 < 2 ^ 21 = omega arith in
    ap (λ (x : ℕ). bit_or x (n / 2 ^ 11)) cut ∙ or_shifted (n % 2 ^ 11) 21 (n / 2 ^ 11) low

turned_28 : (n : ℕ) → n < 2 ^ 32 → rotate_left w32 n 28 ≡ n % 2 ^ 4 * 2 ^ 28 + n / 2 ^ 4
turned_28 n h =
    let cut : n * 2 ^ 28 % 2 ^ 32 ≡ n % 2 ^ 4 * 2 ^ 28 = omega arith in
    let low : n / 2 ^ 4 < 2 ^ 28 = omega arith in
    ap (λ (x : ℕ). bit_or x (n / 2 ^ 4)) cut ∙ or_shifted (n % 2 ^ 4) 28 (n / 2 ^ 4) low

-- a rotation keeps 32 bits
turned-lt : (n : ℕ) → n < 2 ^ 32 → rotate_left w32 n 7 < 2 ^ 32
turned-lt n h = let e = turned_7 n h in omega (arith, e)

-- rotations one after the other
twice : (n : ℕ) → n < 2 ^ 32 → rotate_left w32 (rotate_left w32 n 7) 7 ≡ rotate_left w32 n 14
twice n h =
    let x = rotate_left w32 n 7 in
    let e : x ≡ n % 2 ^ 25 * 2 ^ 7 + n / 2 ^ 25 = turned_7 n h in
    let small : x < 2 ^ 32 = turned-lt n h in
    let plain : x % 2 ^ 25 * 2 ^ 7 + x / 2 ^ 25 ≡ n % 2 ^ 18 * 2 ^ 14 + n / 2 ^ 18 = omega (arith, e) in
    turned_7 x small ∙ plain ∙ sym (turned_14 n h)

turned_14-lt : (n : ℕ) → n < 2 ^ 32 → rotate_left w32 n 14 < 2 ^ 32
turned_14-lt n h = let e = turned_14 n h in omega (arith, e)

thrice : (n : ℕ) → n < 2 ^ 32 → rotate_left w32 (rotate_left w32 n 14) 7 ≡ rotate_left w32 n 21
thrice n h =
    let x = rotate_left w32 n 14 in
    let e : x ≡ n % 2 ^ 18 * 2 ^ 14 + n / 2 ^ 18 = turned_14 n h in
    let small : x < 2 ^ 32 = turned_14-lt n h in
    let plain : x % 2 ^ 25 * 2 ^ 7 + x / 2 ^ 25 ≡ n % 2 ^ 11 * 2 ^ 21 + n / 2 ^ 11 = omega (arith, e) in
    turned_7 x small ∙ plain ∙ sym (turned_21 n h)

turned_21-lt : (n : ℕ) → n < 2 ^ 32 → rotate_left w32 n 21 < 2 ^ 32
turned_21-lt n h = let e = turned_21 n h in omega (arith, e)

four_times : (n : ℕ) → n < 2 ^ 32 → rotate_left w32 (rotate_left w32 n 21) 7 ≡ rotate_left w32 n 28
four_times n h =
    let x = rotate_left w32 n 21 in
    let e : x ≡ n % 2 ^ 11 * 2 ^ 21 + n / 2 ^ 11 = turned_21 n h in
    let small : x < 2 ^ 32 = turned_21-lt n h in
    let plain : x % 2 ^ 25 * 2 ^ 7 + x / 2 ^ 25 ≡ n % 2 ^ 4 * 2 ^ 28 + n / 2 ^ 4 = omega (arith, e) in
    turned_7 x small ∙ plain ∙ sym (turned_28 n h)

-- a small number is shifted
shifted_7 : (n m : ℕ) → n < 2 ^ 25 → n * 2 ^ 7 ≡ m → rotate_left w32 n 7 ≡ m
shifted_7 n m h e =
    let wide : n < 2 ^ 32 = omega arith in
    let plain : n % 2 ^ 25 * 2 ^ 7 + n / 2 ^ 25 ≡ m = omega arith in
    turned_7 n wide ∙ plain

-- a rotation goes through a xor
turned-xor : (a b : ℕ) → a < 2 ^ 32 → b < 2 ^ 32 → rotate_left w32 (bit_xor a b) 7 ≡ bit_xor (rotate_left w32 a 7) (rotate_left w32 b 7)
turned-xor a b ha hb =
    let la : a / 2 ^ 25 < 2 ^ 7 = omega arith in
    let lb : b / 2 ^ 25 < 2 ^ 7 = omega arith in
    turned_7 (bit_xor a b) (xor_lt 32 a b ha hb)
    ∙ ap₂ (λ (x y : ℕ). x * 2 ^ 7 + y) (xor_mod a b 25) (xor_shr a b 25)
    ∙ sym (xor_block 7 (a % 2 ^ 25) (b % 2 ^ 25) (a / 2 ^ 25) (b / 2 ^ 25) la lb)
    ∙ sym (ap₂ bit_xor (turned_7 a ha) (turned_7 b hb))

-- the hash after one byte
one : (h a : ℕ) → round h a ≡ bit_xor (rotate_left w32 h 7) a
one h a = refl

-- the hash after two bytes
two : (h a b : ℕ) → h < 2 ^ 32 → a < 256 → round (round h a) b ≡ bit_xor (bit_xor (rotate_left w32 h 14) (a * 2 ^ 7)) b
two h a b hh ha =
    let wide : a < 2 ^ 32 = omega arith in
    let small : a < 2 ^ 25 = omega arith in
    ap (λ (x : ℕ). bit_xor x b)
    (turned-xor (rotate_left w32 h 7) a (turned-lt h hh) wide ∙ ap₂ bit_xor (twice h hh) (shifted_7 a (a * 2 ^ 7) small refl))

-- the hash after three bytes
three : (h a b c : ℕ) → h < 2 ^ 32 → a < 256 → b < 256
    → round (round (round h a) b) c ≡ bit_xor (bit_xor (bit_xor (rotate_left w32 h 21) (a * 2 ^ 14)) (b * 2 ^ 7)) c
three h a b c hh ha hb =
    let r = rotate_left w32 h 14 in
    let rl = turned_14-lt h hh in
    let a7 : a * 2 ^ 7 < 2 ^ 25 = omega arith in
    let aw : a * 2 ^ 7 < 2 ^ 32 = omega arith in
    let bw : b < 2 ^ 32 = omega arith in
    let bs : b < 2 ^ 25 = omega arith in
    let a14 : a * 2 ^ 7 * 2 ^ 7 ≡ a * 2 ^ 14 = omega arith in
    ap (λ (x : ℕ). round x c) (two h a b hh ha)
    ∙ ap (λ (x : ℕ). bit_xor x c)
    (turned-xor (bit_xor r (a * 2 ^ 7)) b (xor_lt 32 r (a * 2 ^ 7) rl aw) bw
    ∙ ap₂ bit_xor (turned-xor r (a * 2 ^ 7) rl aw ∙ ap₂ bit_xor (thrice h hh) (shifted_7 (a * 2 ^ 7) (a * 2 ^ 14) a7 a14))
    (shifted_7 b (b * 2 ^ 7) bs refl))

-- the hash after four bytes
four : (h a b c d : ℕ) → h < 2 ^ 32 → a < 256 → b < 256 → c < 256
    → round (round (round (round h a) b) c) d
    ≡ bit_xor (bit_xor (bit_xor (bit_xor (rotate_left w32 h 28) (a * 2 ^ 21)) (b * 2 ^ 14)) (c * 2 ^ 7)) d
four h a b c d hh ha hb hc =
    let r = rotate_left w32 h 21 in
    let rl = turned_21-lt h hh in
    let a14 : a * 2 ^ 14 < 2 ^ 25 = omega arith in
    let aw : a * 2 ^ 14 < 2 ^ 32 = omega arith in
    let b7 : b * 2 ^ 7 < 2 ^ 25 = omega arith in
    let bw : b * 2 ^ 7 < 2 ^ 32 = omega arith in
    let cs : c < 2 ^ 25 = omega arith in
    let cw : c < 2 ^ 32 = omega arith in
    let a21 : a * 2 ^ 14 * 2 ^ 7 ≡ a * 2 ^ 21 = omega arith in
    let b14 : b * 2 ^ 7 * 2 ^ 7 ≡ b * 2 ^ 14 = omega arith in
    let ral = xor_lt 32 r (a * 2 ^ 14) rl aw in
    ap (λ (x : ℕ). round x d) (three h a b c hh ha hb)
    ∙ ap (λ (x : ℕ). bit_xor x d)
    (turned-xor (bit_xor (bit_xor r (a * 2 ^ 14)) (b * 2 ^ 7)) c (xor_lt 32 (bit_xor r (a * 2 ^ 14)) (b * 2 ^ 7) ral bw) cw
    ∙ ap₂ bit_xor
    (turned-xor (bit_xor r (a * 2 ^ 14)) (b * 2 ^ 7) ral bw
    ∙ ap₂ bit_xor (turned-xor r (a * 2 ^ 14) rl aw ∙ ap₂ bit_xor (four_times h hh) (shifted_7 (a * 2 ^ 14) (a * 2 ^ 21) a14 a21))
    (shifted_7 (b * 2 ^ 7) (b * 2 ^ 14) b7 b14))
    (shifted_7 c (c * 2 ^ 7) cs refl))

-- a round keeps 32 bits
round-lt : (h b : ℕ) → h < 2 ^ 32 → b < 256 → round h b < 2 ^ 32
round-lt h b hh hb =
    let wide : b < 2 ^ 32 = omega arith in
    xor_lt 32 (rotate_left w32 h 7) b (turned-lt h hh) wide

-- the first of a xor goes last
last_2 : (r a b : ℕ) → bit_xor (bit_xor r a) b ≡ bit_xor (bit_xor a b) r
last_2 r a b = xor_assoc r a b ∙ xor_comm r (bit_xor a b)

last_3 : (r a b c : ℕ) → bit_xor (bit_xor (bit_xor r a) b) c ≡ bit_xor (bit_xor (bit_xor a b) c) r
last_3 r a b c = ap (λ (x : ℕ). bit_xor x c) (xor_assoc r a b) ∙ last_2 r (bit_xor a b) c

last_4 : (r a b c d : ℕ) → bit_xor (bit_xor (bit_xor (bit_xor r a) b) c) d ≡ bit_xor (bit_xor (bit_xor (bit_xor a b) c) d) r
last_4 r a b c d = ap (λ (x : ℕ). bit_xor (bit_xor x c) d) (xor_assoc r a b) ∙ last_3 r (bit_xor a b) c d

-- byte by byte the hash is that of the format's rule
pub rounds : (h : ℕ) (name : List ℕ) → h < 2 ^ 32 → AreBytes name → fold round h name ≡ hash_from h name
rounds h [] hh bytes = refl
rounds h (a ∷ []) hh bytes = xor_comm (rotate_left w32 h 7) a
rounds h (a ∷ b ∷ []) hh bytes = two h a b hh (bytes.below 0) ∙ last_2 (rotate_left w32 h 14) (a * 2 ^ 7) b
rounds h (a ∷ b ∷ c ∷ []) hh bytes =
    three h a b c hh (bytes.below 0) (bytes.below 1) ∙ last_3 (rotate_left w32 h 21) (a * 2 ^ 14) (b * 2 ^ 7) c
rounds h (a ∷ b ∷ c ∷ d ∷ rest) hh bytes =
    let more : AreBytes rest = record { below = λ k. bytes.below (suc (suc (suc (suc k)))) } in
    let next = round (round (round (round h a) b) c) d in
    let small : next < 2 ^ 32 =
    round-lt (round (round (round h a) b) c) d
    (round-lt (round (round h a) b) c (round-lt (round h a) b (round-lt h a hh (bytes.below 0)) (bytes.below 1)) (bytes.below 2))
    (bytes.below 3) in
    rounds next rest small more
    ∙ ap (λ (x : ℕ). hash_from x rest)
    (four h a b c d hh (bytes.below 0) (bytes.below 1) (bytes.below 2)
    ∙ last_4 (rotate_left w32 h 28) (a * 2 ^ 21) (b * 2 ^ 14) (c * 2 ^ 7) d)
