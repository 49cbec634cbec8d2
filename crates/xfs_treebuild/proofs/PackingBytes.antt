-- What a write to a part of a block leaves.
use Rattle.std.proofs.Common.{rules, ◌≡◌, ℕ, ◌+◌, ◌-◌, ◌≤◌, inl, inr, List, length, ◌∙◌, arith}
use Rattle.std.proofs.lemmas.List.{places, same_lists}
use Rattle.xfs_word.specs.Field.{part_of, SameBeside, KeepsBeside, KeepsParts}
use Rattle.xfs_word.proofs.Written.{keeps, keeps_parts}
use borrow.Rule.Slice.PartMut.{put_mid}

mid_length : (a k : ℕ) (xs ys : List ℕ) → a + k ≤ length xs → length ys ≡ k → length (put_mid a k xs ys) ≡ length xs
mid_length a k xs ys inside len = search (rules, places)

mid_part : (a k : ℕ) (xs ys : List ℕ) → a + k ≤ length xs → length ys ≡ k → part_of (put_mid a k xs ys) a k ≡ ys
unfolding part_of
mid_part a k xs ys inside len = same_lists _ ys (search (rules, places)) (λ i d within. grind (arith, places))

mid_same : (a k : ℕ) (xs ys : List ℕ) → a + k ≤ length xs → length ys ≡ k → SameBeside xs (put_mid a k xs ys) a k
mid_same a k xs ys inside len = λ i b. elim b [ inl low ↦ grind (arith, places) | inr high ↦ grind (arith, places) ]

-- after a write to the w bytes from `at` on, k and p are their length and place, in other words
pub wrote_part : (at p w k : ℕ) (xs ys zs : List ℕ) → at ≡ p → w ≡ k → at + w ≤ length xs → length ys ≡ k → ys ≡ zs
    → part_of (put_mid at (at + w - at) xs ys) p k ≡ zs
wrote_part at p w k xs ys zs here size inside len same =
    let width : at + w - at ≡ k = omega arith in
    rw (width, here) (mid_part p k xs ys (omega arith) len ∙ same)

pub wrote_keeps : (at p w k : ℕ) (xs ys : List ℕ) → at ≡ p → w ≡ k → at + w ≤ length xs → length ys ≡ k
    → KeepsBeside xs (put_mid at (at + w - at) xs ys) p k
wrote_keeps at p w k xs ys here size inside len =
    let width : at + w - at ≡ k = omega arith in
    rw (width, here) (keeps xs (put_mid p k xs ys) p k (mid_same p k xs ys (omega arith) len))

pub wrote_keeps_parts : (at p w k : ℕ) (xs ys : List ℕ) → at ≡ p → w ≡ k → at + w ≤ length xs → length ys ≡ k
    → KeepsParts xs (put_mid at (at + w - at) xs ys) p k
wrote_keeps_parts at p w k xs ys here size inside len =
    let width : at + w - at ≡ k = omega arith in
    rw (width, here) (keeps_parts xs (put_mid p k xs ys) p k (mid_length p k xs ys (omega arith) len) (mid_same p k xs ys (omega arith) len))
