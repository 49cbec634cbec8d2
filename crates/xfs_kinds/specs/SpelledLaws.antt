-- Numbers that stand one behind the other are those of their bytes.
use Rattle.std.proofs.Common.{◌≡◌, ℕ, zero, suc, ◌+◌, ◌^◌, ◌<◌, ◌≤◌, List, [], ◌∷◌, ◌++◌, length, take, drop, slice_index, refl, sym, ◌∙◌, ap, ap₂, length-append, length-drop, arith}
use Rattle.std.proofs.lemmas.List.{drop-drop, drop_at, drop_all, get_or-drop, length-take-le, take-append-drop}
use Rattle.byteorder.specs.Endian.{big_number, big_bytes}
use Rattle.byteorder.specs.Numbers.{big_from-take, big_number-reads_back, length-bytes_high_first}
use Rattle.xfs_word.specs.Field.{field_of}
use Rattle.xfs_word.proofs.Digits.{big_bytes-big_number}
use Rattle.xfs_word.proofs.Register.{AreBytes}
use Rattle.xfs_kinds.specs.Spelled.{spelled}

-- how many bytes the numbers take
abbrev pub total_width : List (ℕ × ℕ) → ℕ
total_width [] = 0
total_width ((width, number) ∷ rest) = width + total_width rest

-- each number fits its width
abbrev pub AllFit : List (ℕ × ℕ) → Type 0
AllFit [] = Unit {0}
AllFit ((width, number) ∷ rest) = (number < 256 ^ width) × AllFit rest

-- the numbers stand one behind the other from an offset on
abbrev pub Stand : List ℕ → ℕ → List (ℕ × ℕ) → Type 0
Stand bytes at [] = Unit {0}
Stand bytes at ((width, number) ∷ rest) = (field_of bytes at width ≡ number) × Stand bytes (at + width) rest

pub length-spelled : (rows : List (ℕ × ℕ)) → length (spelled rows) ≡ total_width rows
unfolding spelled
length-spelled [] = refl
length-spelled ((width, number) ∷ rest) =
    let front = length-append (big_bytes width number) (spelled rest) in
    let long = length-bytes_high_first width number in
    let more = length-spelled rest in
    omega (arith, front, long, more)

-- the numbers that were written are read again
pub spelled_again : (rows : List (ℕ × ℕ)) (bytes : List ℕ) (at : ℕ) → AllFit rows → drop at bytes ≡ spelled rows → Stand bytes at rows
unfolding spelled field_of
spelled_again [] bytes at fit is = tt
spelled_again ((width, number) ∷ rest) bytes at fit is =
    let here : field_of bytes at width ≡ number = ap (big_number width) is ∙ big_number-reads_back width number (spelled rest) fit.0 in
    let long = length-bytes_high_first width number in
    let cut : drop width (big_bytes width number ++ spelled rest) ≡ spelled rest =
    drop_at (big_bytes width number) (spelled rest) width long in
    let behind : drop (at + width) bytes ≡ spelled rest = sym (drop-drop width at bytes) ∙ ap (drop width) is ∙ cut in
    (here, spelled_again rest bytes (at + width) fit.1 behind)

-- the first of some bytes are bytes
take_byte : (n : ℕ) (xs : List ℕ) (k : ℕ) → AreBytes xs → slice_index (take n xs) k < 256
take_byte zero xs k all = omega arith
take_byte (suc n) [] k all = omega arith
take_byte (suc n) (x ∷ xs) zero all = all.below 0
take_byte (suc n) (x ∷ xs) (suc k) all = take_byte n xs k (record { below = λ i. all.below (suc i) })

-- the last of some bytes are bytes
drop_byte : (n : ℕ) (xs : List ℕ) (k : ℕ) → AreBytes xs → slice_index (drop n xs) k < 256
drop_byte n xs k all =
    let e : slice_index (drop n xs) k ≡ slice_index xs (n + k) = get_or-drop n xs k 0 in
    let h = all.below (n + k) in
    omega (arith, e, h)

-- bytes are those of the number that stands in them
front_bytes : (width number : ℕ) (ys : List ℕ) → AreBytes ys → width ≤ length ys → big_number width ys ≡ number → take width ys ≡ big_bytes width number
front_bytes width number ys all long is =
    let size = length-take-le width ys long in
    let byte : AreBytes (take width ys) = record { below = λ k. take_byte width ys k all } in
    let inside : 0 + width ≤ width = omega arith in
    let same = big_from-take 0 width width ys inside in
    sym (big_bytes-big_number width (take width ys) size byte) ∙ ap (big_bytes width) (same ∙ is)

-- bytes in which the numbers stand one behind the other, up to the end, are those of the numbers
pub spelled_from : (rows : List (ℕ × ℕ)) (bytes : List ℕ) (at : ℕ) → AreBytes bytes → length bytes ≡ at + total_width rows → Stand bytes at rows → drop at bytes ≡ spelled rows
unfolding spelled field_of
spelled_from [] bytes at all long stand = drop_all at bytes (omega (arith, long))
spelled_from ((width, number) ∷ rest) bytes at all long stand =
    let after : length bytes ≡ (at + width) + total_width rest = omega (arith, long) in
    let more = spelled_from rest bytes (at + width) all after stand.1 in
    let cut = length-drop at bytes in
    let enough : width ≤ length (drop at bytes) = omega (arith, cut, long) in
    let byte : AreBytes (drop at bytes) = record { below = λ k. drop_byte at bytes k all } in
    let front = front_bytes width number (drop at bytes) byte enough stand.0 in
    sym (take-append-drop width (drop at bytes)) ∙ ap₂ ◌++◌ front (drop-drop width at bytes ∙ more)
