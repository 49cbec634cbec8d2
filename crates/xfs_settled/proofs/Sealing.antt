-- Sealed bytes are given by those beside their checksum.
use Rattle.std.proofs.Common.{◌≡◌, ℕ, zero, suc, ◌+◌, ◌*◌, ◌<◌, ◌≤◌, true, List, [], ◌∷◌, ◌++◌, length, take, drop, slice_index, refl, sym, ◌∙◌, ap, ap₂, subst, length-drop, arith}
use Rattle.std.proofs.Math.Nat.{zero-add}
use Rattle.std.proofs.lemmas.Bool.{eqb-true}
use Rattle.std.proofs.lemmas.List.{get_or-drop, get_or-take, length-take-le, take_all}
use Rattle.byteorder.specs.Endian.{little_from, little_number}
use Rattle.byteorder.specs.Numbers.{little_from-cons}
use Rattle.xfs_word.specs.Crc.{cleared, crc_of, has_checksum, little_field_of}
use Rattle.xfs_word.specs.Field.{field_of, part_of}
use Rattle.xfs_word.proofs.Register.{AreBytes}
use Rattle.xfs_word.proofs.Written.{little_from-same}
use Rattle.xfs_dirdata.proofs.Spelling.{number-part, part-join}
use Rattle.xfs_settled.specs.Sectors.{AreSized}

-- the bytes of a part are bytes
take_byte : (n : ℕ) (xs : List ℕ) (k : ℕ) → AreBytes xs → slice_index (take n xs) k < 256
take_byte zero xs k all = omega arith
take_byte (suc n) [] k all = omega arith
take_byte (suc n) (x ∷ xs) zero all = all.below 0
take_byte (suc n) (x ∷ xs) (suc k) all = take_byte n xs k (record { below = λ i. all.below (suc i) })

drop_byte : (n : ℕ) (xs : List ℕ) (k : ℕ) → AreBytes xs → slice_index (drop n xs) k < 256
drop_byte n xs k all = let e : slice_index (drop n xs) k ≡ slice_index xs (n + k) = get_or-drop n xs k 0 in omega (arith, e, all.below (n + k))

pub part_bytes : (xs : List ℕ) (at n : ℕ) → AreBytes xs → AreBytes (part_of xs at n)
unfolding part_of
part_bytes xs at n all = record { below = λ k. take_byte n (drop at xs) k (record { below = λ i. drop_byte at xs i all }) }

pub part_long : (xs : List ℕ) (at n : ℕ) → at + n ≤ length xs → length (part_of xs at n) ≡ n
unfolding part_of
part_long xs at n inside = length-take-le n (drop at xs) (omega (arith, length-drop at xs))

-- the sum of a low byte and 256 times the rest gives both
low_byte : (x y r s : ℕ) → x < 256 → y < 256 → x + 256 * r ≡ y + 256 * s → (x ≡ y) × (r ≡ s)
low_byte x y r s hx hy e = (omega arith, omega arith)

-- bytes are those of their number alone, the lowest first
same_little : (n : ℕ) (xs ys : List ℕ) → length xs ≡ n → length ys ≡ n → AreBytes xs → AreBytes ys → little_number n xs ≡ little_number n ys → xs ≡ ys
same_little zero [] [] lx ly bx by e = refl
same_little zero [] (y ∷ ys) lx ly bx by e = absurd (omega arith)
same_little zero (x ∷ xs) ys lx ly bx by e = absurd (omega arith)
same_little (suc n) [] ys lx ly bx by e = absurd (omega arith)
same_little (suc n) (x ∷ xs) [] lx ly bx by e = absurd (omega arith)
same_little (suc n) (x ∷ xs) (y ∷ ys) lx ly bx by e =
    let cx : AreBytes xs = record { below = λ k. bx.below (suc k) } in
    let cy : AreBytes ys = record { below = λ k. by.below (suc k) } in
    let whole : x + 256 * little_from 0 n xs ≡ y + 256 * little_from 0 n ys =
    sym (ap (λ (r : ℕ). x + 256 * r) (little_from-cons 0 n x xs)) ∙ e ∙ ap (λ (r : ℕ). y + 256 * r) (little_from-cons 0 n y ys) in
    let apart = low_byte x y (little_from 0 n xs) (little_from 0 n ys) (bx.below 0) (by.below 0) whole in
    let lx' : length xs ≡ n = omega arith in
    let ly' : length ys ≡ n = omega arith in
    ap₂ ◌∷◌ apart.0 (same_little n xs ys lx' ly' cx cy apart.1)

-- the number in a part
little_part : (xs : List ℕ) (at n : ℕ) → little_number n (part_of xs at n) ≡ little_field_of xs at n
unfolding part_of little_field_of
little_part xs at n =
    little_from-same 0 n (drop at xs) (take n (drop at xs)) (record { agree = λ k low high. get_or-take n (drop at xs) k 0 (omega arith) })

-- all of the bytes, and all from one on
pub whole_part : (xs : List ℕ) (n : ℕ) → length xs ≡ n → part_of xs 0 n ≡ xs
unfolding part_of
whole_part xs n long = take_all n xs (omega arith)

rest_part : (xs : List ℕ) (at n : ℕ) → length xs ≡ at + n → part_of xs at n ≡ drop at xs
unfolding part_of
rest_part xs at n long = take_all n (drop at xs) (omega (arith, length-drop at xs))

cleared_same : (a b : List ℕ) (at n : ℕ) → length a ≡ at + 4 + n → length b ≡ at + 4 + n → part_of a 0 at ≡ part_of b 0 at
    → part_of a (at + 4) n ≡ part_of b (at + 4) n → cleared a at ≡ cleared b at
unfolding cleared part_of
cleared_same a b at n la lb front back =
    let rest : drop (at + 4) a ≡ drop (at + 4) b = sym (rest_part a (at + 4) n la) ∙ back ∙ rest_part b (at + 4) n lb in
    ap₂ (λ (xs ys : List ℕ). xs ++ 0 ∷ 0 ∷ 0 ∷ 0 ∷ ys) front rest

number_is : (xs : List ℕ) (at : ℕ) → has_checksum xs at ≡ true → little_field_of xs at 4 ≡ crc_of (cleared xs at)
unfolding has_checksum
number_is xs at has = eqb-true (little_field_of xs at 4) (crc_of (cleared xs at)) has

-- two parts, one behind the other, are the same
pub same_join : (a b : List ℕ) (at m n : ℕ) → part_of a at m ≡ part_of b at m → part_of a (at + m) n ≡ part_of b (at + m) n → part_of a at (m + n) ≡ part_of b at (m + n)
same_join a b at m n front back = part-join a at m n ∙ ap₂ ◌++◌ front back ∙ sym (part-join b at m n)

pub sealed_one : (a b : List ℕ) (at n size : ℕ) → size ≡ at + 4 + n → AreSized size a → AreSized size b → part_of a 0 at ≡ part_of b 0 at
    → part_of a (at + 4) n ≡ part_of b (at + 4) n → has_checksum a at ≡ true → has_checksum b at ≡ true → a ≡ b
sealed_one a b at n size is sa sb front back ha hb =
    let la : length a ≡ at + 4 + n = sa.size ∙ is in
    let lb : length b ≡ at + 4 + n = sb.size ∙ is in
    let ca : AreBytes a = record { below = sa.low } in
    let cb : AreBytes b = record { below = sb.low } in
    let number : little_field_of a at 4 ≡ little_field_of b at 4 =
    number_is a at ha ∙ ap crc_of (cleared_same a b at n la lb front back) ∙ sym (number_is b at hb) in
    let crc : part_of a at 4 ≡ part_of b at 4 =
    same_little 4 (part_of a at 4) (part_of b at 4) (part_long a at 4 (omega arith)) (part_long b at 4 (omega arith))
    (part_bytes a at 4 ca) (part_bytes b at 4 cb) (little_part a at 4 ∙ number ∙ sym (little_part b at 4)) in
    let here : (at m : ℕ) → part_of a at m ≡ part_of b at m → part_of a (0 + at) m ≡ part_of b (0 + at) m =
    λ at m same. subst (λ (k : ℕ). part_of a k m ≡ part_of b k m) (sym (zero-add at)) same in
    let all : part_of a 0 (at + 4 + n) ≡ part_of b 0 (at + 4 + n) =
    same_join a b 0 (at + 4) n (same_join a b 0 at 4 front (here at 4 crc)) (here (at + 4) n back) in
    sym (whole_part a (at + 4 + n) la) ∙ all ∙ whole_part b (at + 4 + n) lb

-- parts of these widths, one behind the other from an offset on, are the same
abbrev pub SameParts : List ℕ → List ℕ → ℕ → List ℕ → Type 0
SameParts a b at [] = Unit {0}
SameParts a b at (w ∷ ws) = (part_of a at w ≡ part_of b at w) × SameParts a b (at + w) ws

abbrev pub widths_sum : List ℕ → ℕ
widths_sum [] = 0
widths_sum (w ∷ ws) = w + widths_sum ws

none_same : (a b : List ℕ) (at : ℕ) → part_of a at 0 ≡ part_of b at 0
unfolding part_of
none_same a b at = refl

pub same_parts : (a b : List ℕ) (at : ℕ) (ws : List ℕ) → SameParts a b at ws → part_of a at (widths_sum ws) ≡ part_of b at (widths_sum ws)
same_parts a b at [] same = none_same a b at
same_parts a b at (w ∷ ws) same = same_join a b at w (widths_sum ws) same.0 (same_parts a b (at + w) ws same.1)

-- the same number stands in the same bytes
pub same_number : (a b : List ℕ) (size at w : ℕ) → AreSized size a → AreSized size b → at + w ≤ size → field_of a at w ≡ field_of b at w → part_of a at w ≡ part_of b at w
same_number a b size at w sa sb inside same =
    number-part a at w (field_of b at w) (record { below = sa.low }) (omega (arith, sa.size)) same
    ∙ sym (number-part b at w (field_of b at w) (record { below = sb.low }) (omega (arith, sb.size)) refl)
