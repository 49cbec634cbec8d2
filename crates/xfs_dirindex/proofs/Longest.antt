-- The values of the longest unused spans.
use Rattle.std.proofs.Common.{◌≡◌, ℕ, zero, suc, ◌+◌, ◌-◌, ◌*◌, ◌/◌, ◌%◌, ◌<◌, Bool, true, false, ◌&&◌, ◌==◌, List, [], ◌∷◌, ◌++◌, length, count_by, cond, get_or, refl, sym, ap, ◌∙◌, arith, inl, inr}
use Rattle.std.specs.List.{list_all, range_with_len}
use Rattle.std.proofs.lemmas.List.Folds.{list_all-append, list_all_at}
use Rattle.std.proofs.lemmas.List.{map-id}
use Rattle.std.proofs.lemmas.List.Sums.{sum_by_push}
use Rattle.std.proofs.lemmas.List.FromFn.{map-range_with_len_more, length-range_with_len, get_or-range_with_len}
use Rattle.std.proofs.lemmas.Bool.{cases_eq, eq-eqb, ne_eqb, cond-true, cond-false}
use Rattle.xfs_dirindex.specs.declared.data.Best.{Best}
use Rattle.xfs_dirindex.specs.Leaf.{best_length_of, end_of}

-- a test of each number below one more
both : (a b : Bool) → (a && (b && true)) ≡ (a && b)
both a true = refl
both a false = refl

range-more : (n : ℕ) → range_with_len 0 (n + 1) ≡ range_with_len 0 n ++ n ∷ []
range-more n =
    sym (map-id (range_with_len 0 (n + 1)))
    ∙ (map-range_with_len_more (λ (x : ℕ). x) 0 n n (omega arith) ∙ ap (λ (xs : List ℕ). xs ++ n ∷ []) (map-id (range_with_len 0 n)))

pub all_more : (p : ℕ → Bool) (n : ℕ) → list_all p (range_with_len 0 (n + 1)) ≡ (list_all p (range_with_len 0 n) && p n)
all_more p n =
    ap (list_all p) (range-more n) ∙ (list_all-append p (range_with_len 0 n) (n ∷ []) ∙ both (list_all p (range_with_len 0 n)) (p n))

abbrev one_if : Bool → ℕ
one_if b = cond b 1 0

counted_more : (p : ℕ → Bool) (n : ℕ) → count_by p (range_with_len 0 (n + 1)) ≡ count_by p (range_with_len 0 n) + one_if (p n)
counted_more p n = ap (count_by p) (range-more n) ∙ sum_by_push (λ (x : ℕ). one_if (p x)) (range_with_len 0 n) n

pub counted_yes : (p : ℕ → Bool) (n used new : ℕ) → p n ≡ true → used ≡ count_by p (range_with_len 0 n) → new ≡ used + 1 → new ≡ count_by p (range_with_len 0 (n + 1))
counted_yes p n used new so counted is =
    let next = counted_more p n in
    let one = ap one_if so in
    omega (arith, next, one, counted, is)

pub counted_no : (p : ℕ → Bool) (n used new : ℕ) → p n ≡ false → used ≡ count_by p (range_with_len 0 n) → new ≡ used → new ≡ count_by p (range_with_len 0 (n + 1))
counted_no p n used new fails counted is =
    let next = counted_more p n in
    let none = ap one_if fails in
    omega (arith, next, none, counted, is)

pub not_all : (p : ℕ → Bool) (n i : ℕ) → i < n → p i ≡ false → list_all p (range_with_len 0 n) ≡ false
not_all p n i low fails =
    let long : length (range_with_len 0 n) ≡ n = length-range_with_len 0 n in
    let inside : i < length (range_with_len 0 n) = omega arith in
    let there : get_or (range_with_len 0 n) i 0 ≡ i = omega (arith, get_or-range_with_len 0 n i 0 low) in
    list_all_at p (range_with_len 0 n) i 0 inside (ap p there ∙ fails)

-- the value of a block
pub best_at-found : (bests : List Best) (block k : ℕ) (d : Best) → ((j : ℕ) → j < k → (get_or bests j d).offset < block) → k < length bests
    → (get_or bests k d).offset ≡ block → best_length_of bests block ≡ (get_or bests k d).length
best_at-found [] block k d before low here = absurd (omega arith)
best_at-found (b ∷ bests) block zero d before low here = cond-true (b.offset == block) b.length (best_length_of bests block) (eq-eqb b.offset block here)
best_at-found (b ∷ bests) block (suc k) d before low here =
    let first : b.offset < block = before 0 (omega arith) in
    cond-false (b.offset == block) b.length (best_length_of bests block) (ne_eqb b.offset block (λ e. omega arith))
    ∙ best_at-found bests block k d (λ j h. before (suc j) (omega arith)) (omega arith) here

pub best_at-none : (bests : List Best) (block : ℕ) (d : Best) → ((j : ℕ) → j < length bests → (get_or bests j d).offset ≡ block → ⊥) → best_length_of bests block ≡ 0xffff
best_at-none [] block d none = refl
best_at-none (b ∷ bests) block d none =
    cond-false (b.offset == block) b.length (best_length_of bests block) (ne_eqb b.offset block (none 0 (omega arith)))
    ∙ best_at-none bests block d (λ j h. none (suc j) (omega arith))

-- the end is behind the last of the data blocks
pub end_of-last : (bests : List Best) (d : Best) → 0 < length bests → end_of bests ≡ (get_or bests (length bests - 1) d).offset + 1
end_of-last [] d some = absurd (omega arith)
end_of-last (b ∷ []) d some = refl
end_of-last (b ∷ c ∷ bests) d some =
    let same : length (b ∷ c ∷ bests) - 1 ≡ suc (length (c ∷ bests) - 1) = omega arith in
    end_of-last (c ∷ bests) d (omega arith) ∙ ap (λ (n : ℕ). (get_or (b ∷ c ∷ bests) n d).offset + 1) (sym same)

pub same_size : (size last end : ℕ) → end ≡ last + 1 → size % 4096 ≡ 0 → 0 < size → (size / 4096 - 1 == last) ≡ (size == 4096 * end)
same_size size last end is whole some =
    elim (cases_eq size (4096 * end)) [
      | inl same ↦
          let here : size / 4096 - 1 ≡ last = omega arith in
          eq-eqb (size / 4096 - 1) last here ∙ sym (eq-eqb size (4096 * end) same)
      | inr other ↦
          ne_eqb (size / 4096 - 1) last (λ e. let again : size ≡ 4096 * end = omega arith in other again) ∙ sym (ne_eqb size (4096 * end) other)
    ]

pub no_size : (size end : ℕ) → 0 < end → size ≡ 0 → false ≡ (size == 4096 * end)
no_size size end some is = sym (ne_eqb size (4096 * end) (λ e. omega arith))
