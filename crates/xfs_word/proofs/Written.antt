-- What stays where bytes stay.
use Rattle.std.proofs.Common.{◌≡◌, ℕ, zero, suc, ◌+◌, ◌-◌, ◌∷◌, ◌++◌, IsTrue, ◌<◌, ◌≤◌, List, length, take, drop, slice_index, refl, sym, ◌∙◌, ap, ap₂, inl, inr, ◌⊎◌, arith, length-take, length-drop}
use Rattle.std.proofs.lemmas.List.{take_rest, get_or-drop, get_or-take, same_lists, get_or_default}
use Rattle.std.proofs.lemmas.Bool.{eq-eqb}
use Rattle.byteorder.specs.Endian.{big_from, little_from}
use Rattle.xfs_word.specs.Crc.{cleared, crc_of, little_field_of, has_checksum}
use Rattle.xfs_word.specs.Field.{field_of, part_of, Beside, SameBeside, KeepsBeside, KeepsParts}

-- the byte lists agree from place i on for n places
pub record Agree (i n : ℕ) (xs ys : List ℕ) : Type 0 where
  pub agree : (k : ℕ) → i ≤ k → k < i + n → slice_index ys k ≡ slice_index xs k

-- a big-endian number goes by its bytes alone
pub big_from-same : (i n : ℕ) (xs ys : List ℕ) → Agree i n xs ys → big_from i n ys ≡ big_from i n xs
big_from-same i zero xs ys h = refl
big_from-same i (suc n) xs ys h =
    let rest = big_from-same (suc i) n xs ys (record { agree = λ k low high. h.agree k (omega arith) (omega arith) }) in
    let byte : slice_index ys i ≡ slice_index xs i = h.agree i (omega arith) (omega arith) in
    rw (byte, rest) refl

-- a little-endian number goes by its bytes alone
pub little_from-same : (i n : ℕ) (xs ys : List ℕ) → Agree i n xs ys → little_from i n ys ≡ little_from i n xs
little_from-same i zero xs ys h = refl
little_from-same i (suc n) xs ys h =
    let rest = little_from-same (suc i) n xs ys (record { agree = λ k low high. h.agree k (omega arith) (omega arith) }) in
    let byte : slice_index ys i ≡ slice_index xs i = h.agree i (omega arith) (omega arith) in
    rw (byte, rest) refl

-- w bytes beside the written ones agree
pub beside-agree : (old new : List ℕ) (at width a w : ℕ) → SameBeside old new at width → Beside at width a w → Agree 0 w (drop a old) (drop a new)
beside-agree old new at width a w same apart = record {
  agree = λ k low high.
      let place : (a + k < at) ⊎ (at + width ≤ a + k) = elim apart [ inl before ↦ inl (omega arith) | inr after ↦ inr (omega arith) ] in
      get_or-drop a new k 0 ∙ same (a + k) place ∙ sym (get_or-drop a old k 0);
}

-- numbers beside the written bytes stay
pub keeps : (old new : List ℕ) (at width : ℕ) → SameBeside old new at width → KeepsBeside old new at width
unfolding field_of
keeps old new at width same a w apart =
    big_from-same 0 w (drop a old) (drop a new) (beside-agree old new at width a w same apart)

-- parts beside the written bytes stay
pub keeps_parts : (old new : List ℕ) (at width : ℕ) → length new ≡ length old → SameBeside old new at width → KeepsParts old new at width
unfolding part_of
keeps_parts old new at width long same a w apart =
    let bytes = beside-agree old new at width a w same apart in
    same_lists (take w (drop a new)) (take w (drop a old)) (grind (arith, length-take, length-drop, long))
    (λ k d within.
    let inside : k < w = omega (arith, length-take w (drop a new)) in
    let room_new : k < length (take w (drop a new)) = within in
    let room_old : k < length (take w (drop a old)) = omega (arith, length-take w (drop a old), length-take w (drop a new), length-drop a old, length-drop a new) in
    get_or_default (take w (drop a new)) k d 0 room_new
    ∙ get_or-take w (drop a new) k 0 inside
    ∙ bytes.agree k (omega arith) (omega arith)
    ∙ sym (get_or-take w (drop a old) k 0 inside)
    ∙ get_or_default (take w (drop a old)) k 0 d room_old)

-- bytes that differ at four places alone are the same with these as zero
pub cleared-same : (old new : List ℕ) (at : ℕ) → length new ≡ length old → KeepsParts old new at 4 → cleared new at ≡ cleared old at
unfolding cleared part_of
cleared-same old new at long same =
    let front : take at new ≡ take at old = same 0 at (inl (omega arith)) in
    let back : take (length old - (at + 4)) (drop (at + 4) new) ≡ take (length old - (at + 4)) (drop (at + 4) old) =
    same (at + 4) (length old - (at + 4)) (inr (omega arith)) in
    let rest : drop (at + 4) new ≡ drop (at + 4) old =
    sym (take_rest new (at + 4)) ∙ ap (λ (n : ℕ). take (n - (at + 4)) (drop (at + 4) new)) long ∙ back ∙ take_rest old (at + 4) in
    ap₂ (λ (xs ys : List ℕ). xs ++ 0 ∷ 0 ∷ 0 ∷ 0 ∷ ys) front rest

-- the checksum that is written is right
pub has_checksum-put : (old new : List ℕ) (at : ℕ) → length new ≡ length old → KeepsParts old new at 4
    → little_field_of new at 4 ≡ crc_of (cleared old at) → IsTrue (has_checksum new at)
unfolding has_checksum
has_checksum-put old new at long same put =
    let clear = cleared-same old new at long same in
    let e : little_field_of new at 4 ≡ crc_of (cleared new at) = put ∙ ap crc_of (sym clear) in
    eq-eqb (little_field_of new at 4) (crc_of (cleared new at)) e
