-- Numbers and parts that are the same between two byte offsets.
use Rattle.std.proofs.Common.{◌≡◌, ℕ, ◌+◌, ◌-◌, ◌<◌, ◌≤◌, List, length, take, drop, slice_index, sym, ◌∙◌, ap, inl, arith, length-take, length-drop}
use Rattle.std.proofs.lemmas.List.{get_or-drop, get_or-take, get_or_default, same_lists, drop-take, take-take}
use Rattle.xfs_word.specs.Field.{field_of, part_of, SameBeside}
use Rattle.xfs_word.proofs.Written.{big_from-same}

-- each number and each part that lies between two offsets is the same
pub record SameBetween (from end : ℕ) (old new : List ℕ) : Type 0 where
  pub numbers : (a w : ℕ) → from ≤ a → a + w ≤ end → field_of new a w ≡ field_of old a w
  pub parts : (a w : ℕ) → from ≤ a → a + w ≤ end → part_of new a w ≡ part_of old a w

-- where the bytes are the same
pub same_between : (old new : List ℕ) (from end : ℕ) → length new ≡ length old
    → ((k : ℕ) → from ≤ k → k < end → slice_index new k ≡ slice_index old k) → SameBetween from end old new
unfolding field_of part_of
same_between old new from end long same = record {
  numbers = λ a w low high.
      big_from-same 0 w (drop a old) (drop a new) (record {
        agree = λ k first last. get_or-drop a new k 0 ∙ (same (a + k) (omega arith) (omega arith) ∙ sym (get_or-drop a old k 0));
      });
  parts = λ a w low high.
      same_lists (take w (drop a new)) (take w (drop a old)) (grind (arith, length-take, length-drop, long))
      (λ k d within.
      let inside : k < w = omega (arith, length-take w (drop a new)) in
      let room_new : k < length (take w (drop a new)) = within in
      let room_old : k < length (take w (drop a old)) = omega (arith, length-take w (drop a old), length-take w (drop a new), length-drop a old, length-drop a new) in
      get_or_default (take w (drop a new)) k d 0 room_new
      ∙ get_or-take w (drop a new) k 0 inside
      ∙ get_or-drop a new k 0
      ∙ same (a + k) (omega arith) (omega arith)
      ∙ sym (get_or-drop a old k 0)
      ∙ sym (get_or-take w (drop a old) k 0 inside)
      ∙ get_or_default (take w (drop a old)) k 0 d room_old);
}

-- what stands before written bytes
pub same_before : (old new : List ℕ) (from at width : ℕ) → length new ≡ length old → SameBeside old new at width → SameBetween from at old new
same_before old new from at width long same = same_between old new from at long (λ k low high. same k (inl high))

-- what stands in the front of bytes
pub same_in_front : (bytes : List ℕ) (n : ℕ) → n ≤ length bytes → SameBetween 0 n bytes (take n bytes)
unfolding field_of part_of
same_in_front bytes n short = record {
  numbers = λ a w low high.
      big_from-same 0 w (drop a bytes) (drop a (take n bytes)) (record {
        agree = λ k first last.
            let inside : a + k < n = omega arith in
            get_or-drop a (take n bytes) k 0 ∙ (get_or-take n bytes (a + k) 0 inside ∙ sym (get_or-drop a bytes k 0));
      });
  parts = λ a w low high.
      let whole : n ≡ a + (n - a) = omega arith in
      let few : w ≤ n - a = omega arith in
      ap (λ (m : ℕ). take w (drop a (take m bytes))) whole ∙ (ap (λ (xs : List ℕ). take w xs) (drop-take a (n - a) bytes) ∙ take-take w (n - a) (drop a bytes) few);
}
