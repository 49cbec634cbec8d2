-- Numbers that stand in a part of some bytes.
use Rattle.std.proofs.Common.{◌≡◌, ℕ, ◌+◌, ◌<◌, ◌≤◌, List, take, drop, slice_index, sym, ap, ◌∙◌, arith}
use Rattle.std.proofs.lemmas.List.{get_or-drop, get_or-take}
use Rattle.xfs_word.specs.Field.{field_of, part_of}
use Rattle.xfs_word.proofs.Written.{big_from-same}

-- a number that lies in a part is the number there of the whole
pub number_in_part : (bytes : List ℕ) (at n a w : ℕ) → a + w ≤ n → field_of (part_of bytes at n) a w ≡ field_of bytes (at + a) w
unfolding field_of part_of
number_in_part bytes at n a w inside =
    big_from-same 0 w (drop (at + a) bytes) (drop a (take n (drop at bytes))) (record {
      agree = λ k first last.
          let low : a + k < n = omega (arith, inside, last) in
          let place : at + (a + k) ≡ at + a + k = omega arith in
          get_or-drop a (take n (drop at bytes)) k 0
          ∙ get_or-take n (drop at bytes) (a + k) 0 low
          ∙ get_or-drop at bytes (a + k) 0
          ∙ ap (slice_index bytes) place
          ∙ sym (get_or-drop (at + a) bytes k 0);
    })
