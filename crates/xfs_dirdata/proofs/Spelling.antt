-- Parts that stand one behind the other are the bytes between two byte offsets.
use Rattle.std.proofs.Common.{◌≡◌, ℕ, zero, suc, ◌+◌, ◌<◌, ◌≤◌, List, [], ◌∷◌, ◌++◌, length, take, drop, slice_index, refl, sym, ◌∙◌, ap, ap₂, length-drop, arith}
use Rattle.std.specs.Int.{bytes_high_first}
use Rattle.std.proofs.Math.Seq.{take-add}
use Rattle.std.proofs.lemmas.List.{drop-drop, get_or-drop, get_or-take, length-take-le}
use Rattle.xfs_word.specs.Field.{field_of, part_of}
use Rattle.xfs_word.proofs.Digits.{big_bytes-big_number}
use Rattle.xfs_word.proofs.Written.{Agree, big_from-same}
use Rattle.xfs_word.proofs.Register.{AreBytes}

-- parts, each with its width, and how many bytes they have
abbrev pub total : List (ℕ × List ℕ) → ℕ
total [] = 0
total ((width, part) ∷ rest) = width + total rest

abbrev pub joined : List (ℕ × List ℕ) → List ℕ
joined [] = []
joined ((width, part) ∷ rest) = part ++ joined rest

-- the parts stand one behind the other from a byte offset on
abbrev pub Lie : List ℕ → ℕ → List (ℕ × List ℕ) → Type 0
Lie bytes at [] = Unit {0}
Lie bytes at ((width, part) ∷ rest) = (part_of bytes at width ≡ part) × Lie bytes (at + width) rest

-- the first of some bytes are bytes, and the last
take_byte : (n : ℕ) (xs : List ℕ) (k : ℕ) → AreBytes xs → slice_index (take n xs) k < 256
take_byte zero xs k all = omega arith
take_byte (suc n) [] k all = omega arith
take_byte (suc n) (x ∷ xs) zero all = all.below 0
take_byte (suc n) (x ∷ xs) (suc k) all = take_byte n xs k (record { below = λ i. all.below (suc i) })

drop_byte : (n : ℕ) (xs : List ℕ) (k : ℕ) → AreBytes xs → slice_index (drop n xs) k < 256
drop_byte n xs k all = let e : slice_index (drop n xs) k ≡ slice_index xs (n + k) = get_or-drop n xs k 0 in omega (arith, e, all.below (n + k))

-- a part is that of its front and of its rest
pub part-join : (bytes : List ℕ) (at a b : ℕ) → part_of bytes at (a + b) ≡ part_of bytes at a ++ part_of bytes (at + a) b
unfolding part_of
part-join bytes at a b = take-add a b (drop at bytes) ∙ ap (λ (xs : List ℕ). take a (drop at bytes) ++ take b xs) (drop-drop a at bytes)

pub part-none : (bytes : List ℕ) (at : ℕ) → part_of bytes at 0 ≡ []
unfolding part_of
part-none bytes at = refl

pub parts-join : (bytes : List ℕ) (at : ℕ) (parts : List (ℕ × List ℕ)) → Lie bytes at parts → part_of bytes at (total parts) ≡ joined parts
parts-join bytes at [] lie = part-none bytes at
parts-join bytes at ((width, part) ∷ rest) lie =
    part-join bytes at width (total rest) ∙ ap₂ ◌++◌ lie.0 (parts-join bytes (at + width) rest lie.1)

-- a part is the bytes of the number that stands in it
pub number-part : (bytes : List ℕ) (at width number : ℕ) → AreBytes bytes → at + width ≤ length bytes → field_of bytes at width ≡ number
    → part_of bytes at width ≡ bytes_high_first width number
unfolding field_of part_of
number-part bytes at width number all inside is =
    let rest = drop at bytes in
    let long : length (take width (drop at bytes)) ≡ width = length-take-le width (drop at bytes) (omega (arith, length-drop at bytes)) in
    let byte : AreBytes (take width (drop at bytes)) = record { below = λ k. take_byte width rest k (record { below = λ i. drop_byte at bytes i all }) } in
    let front : Agree 0 width (drop at bytes) (take width (drop at bytes)) = record { agree = λ k low high. get_or-take width rest k 0 (omega arith) } in
    sym (big_bytes-big_number width (take width rest) long byte)
    ∙ ap (bytes_high_first width) (big_from-same 0 width rest (take width rest) front ∙ is)

-- the same at a byte offset and of a width that are equal to others
pub number-at : (bytes : List ℕ) (at place width number : ℕ) → AreBytes bytes → place + width ≤ length bytes → at ≡ place → field_of bytes place width ≡ number
    → part_of bytes at width ≡ bytes_high_first width number
number-at bytes at place width number all inside same is =
    ap (λ (a : ℕ). part_of bytes a width) same ∙ number-part bytes place width number all inside is

pub part-at : (bytes : List ℕ) (at place width size : ℕ) (part : List ℕ) → at ≡ place → width ≡ size → part_of bytes place size ≡ part
    → part_of bytes at width ≡ part
part-at bytes at place width size part same long is = ap₂ (part_of bytes) same long ∙ is
