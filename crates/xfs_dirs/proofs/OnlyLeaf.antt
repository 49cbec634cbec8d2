-- The leaf form has one block behind the data blocks.
use Rattle.std.proofs.Common.{◌≡◌, ℕ, ◌*◌, Bool, true, false, not, ◌==◌, ◌&&◌, nat_le, nat_lt, if◌then◌else◌, List, [], ◌∷◌, length, filter, count_by, refl, sym, ap, ◌∙◌, arith}
use Rattle.std.proofs.lemmas.Bool.Decides.{nat_tests}
use Rattle.std.proofs.lemmas.List.Sums.{length-filter}
use Rattle.xfs_dirindex.specs.Data.{all_bests, all_pairs, are_data}
use Rattle.xfs_dirindex.specs.Leaf.{end_of, is_only_leaf, is_whole_leaf}
use Rattle.xfs_dirindex.specs.Mapped.{Mapped, mapped_block, is_beyond, mapped}
use Rattle.xfs_dirindex.specs.declared.data.Best.{Best}
use Rattle.xfs_dirindex.specs.declared.pairs.Pair.{Pair}
use Rattle.xfs_dirs.proofs.Readings.{with_false}

beyond_is : (offset start : ℕ) → nat_le start offset ≡ not (nat_lt offset start)
beyond_is offset start = grind (arith, nat_tests)

-- one more of two lists that are tested
counted : (t u : Bool) (m : Mapped) (ms : List Mapped) (o : ℕ) (os : List ℕ) → u ≡ t → length ms ≡ length os
    → length (if t then m ∷ ms else ms) ≡ length (if u then o ∷ os else os)
counted true u m ms o os same as_many =
    let more : length (m ∷ ms) ≡ length (o ∷ os) = omega (arith, as_many) in
    more ∙ sym (ap (λ v. length (if v then o ∷ os else os)) same)
counted false u m ms o os same as_many = as_many ∙ sym (ap (λ v. length (if v then o ∷ os else os)) same)

count_beyond : (offsets : List ℕ) (blocks : List (List ℕ)) → length blocks ≡ length offsets
    → length (filter is_beyond (mapped offsets blocks)) ≡ length (filter (nat_le 0x800000) offsets)
count_beyond [] blocks as_many = refl
count_beyond (o ∷ os) [] as_many = absurd (omega (arith, as_many))
count_beyond (o ∷ os) (b ∷ bs) as_many =
    counted (not (nat_lt o 0x800000)) (nat_le 0x800000 o) (mapped_block o b) (filter is_beyond (mapped os bs)) o (filter (nat_le 0x800000) os)
    (beyond_is o 0x800000) (count_beyond os bs (omega (arith, as_many)))

only_one : (bests : List Best) (due : List Pair) (ms : List Mapped) → (length ms ≡ 1 → ⊥) → is_only_leaf bests due ms ≡ false
only_one bests due [] other = refl
only_one bests due (m ∷ []) other = absurd (other refl)
only_one bests due (m ∷ n ∷ ms) other = refl

without : (a b c : Bool) → c ≡ false → false ≡ (a && b && c)
without a b c broken = with_false (a && b) ∙ sym (ap (λ t. a && b && t) broken)

pub other_form : (dir size : ℕ) (offsets : List ℕ) (blocks : List (List ℕ)) → length blocks ≡ length offsets → (count_by (nat_le 0x800000) offsets ≡ 1 → ⊥)
    → false ≡ is_whole_leaf dir size (mapped offsets blocks)
unfolding is_whole_leaf
other_form dir size offsets blocks as_many other =
    let ms = mapped offsets blocks in
    without (are_data dir ms) (size == 4096 * end_of (all_bests dir ms)) (is_only_leaf (all_bests dir ms) (all_pairs dir ms) (filter is_beyond ms))
    (only_one (all_bests dir ms) (all_pairs dir ms) (filter is_beyond ms) (λ one. other (sym (length-filter (nat_le 0x800000) offsets) ∙ (sym (count_beyond offsets blocks as_many) ∙ one))))
