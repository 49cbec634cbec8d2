-- Values that share no byte are disjoint, and the other way round.
use Rattle.std.proofs.Common.{◌≡◌, ℕ, zero, suc, ◌+◌, ◌<◌, ◌≤◌, ◌⊎◌, ◌↔◌, inl, inr, max, Bool, true, false, cond, List, length, get_or, refl, sym, ap, subst, ◌∙◌, add-one, arith}
use Rattle.std.specs.Prelude.{nat_le, nat_lt}
use Rattle.std.specs.List.{count_by, range_with_len}
use Rattle.std.proofs.lemmas.Bool.{leb-true, ltb-true, le-leb, lt-ltb, and_parts, and_from, cases_lt}
use Rattle.std.proofs.lemmas.List.FromFn.{length-range_with_len, get_or-range_with_len}
use Rattle.std.proofs.lemmas.List.Sums.{AllPass-from_list_all, list_all-from_AllPass}
use Rattle.xfs_attr.specs.declared.entries.LeafEntry.{LeafEntry}
use Rattle.xfs_attr.specs.Leaf.{leaf_entry_at, entries, leaf_entry_size, holds_byte, entries_apart, AreInside, AreDisjoint}
use Rattle.xfs_attr.proofs.Steps.{some_bytes, sum_more}
use Rattle.xfs_attr.proofs.Taken.{more_holds}

-- the end of an entry's value
abbrev end_of : List ℕ → ℕ → ℕ
end_of block i = (leaf_entry_at block i).nameidx + leaf_entry_size block (leaf_entry_at block i)

-- a byte lies between the value's two ends
record Lies (block : List ℕ) (b i : ℕ) : Type 0 where
  from : (leaf_entry_at block i).nameidx ≤ b
  to : b < end_of block i

lies : (block : List ℕ) (b i : ℕ) → holds_byte block b (leaf_entry_at block i) ≡ true → Lies block b i
lies block b i h =
    let parts = and_parts (nat_le (leaf_entry_at block i).nameidx b) (nat_lt b (end_of block i)) h in
    record { from = leb-true (leaf_entry_at block i).nameidx b parts.0; to = ltb-true b (end_of block i) parts.1 }

holds : (block : List ℕ) (b i : ℕ) → Lies block b i → holds_byte block b (leaf_entry_at block i) ≡ true
holds block b i h = and_from _ _ (le-leb (leaf_entry_at block i).nameidx b h.from) (lt-ltb b (end_of block i) h.to)

-- two entries that pass count twice
twice : (p : LeafEntry → Bool) (block : List ℕ) (i j n : ℕ) → i < j → j < n → p (leaf_entry_at block i) ≡ true → p (leaf_entry_at block j) ≡ true
    → 2 ≤ count_by p (entries block n)
twice p block i j n low high at_i at_j =
    let counted : LeafEntry → ℕ = λ (e : LeafEntry). cond (p e) 1 0 in
    let one : count_by p (entries block (i + 1)) ≡ count_by p (entries block i) + 1 =
    sum_more counted block i ∙ ap (λ (t : Bool). count_by p (entries block i) + cond t 1 0) at_i in
    let other : count_by p (entries block (j + 1)) ≡ count_by p (entries block j) + 1 =
    sum_more counted block j ∙ ap (λ (t : Bool). count_by p (entries block j) + cond t 1 0) at_j in
    let between = more_holds p block (i + 1) j (omega arith) in
    let behind = more_holds p block (j + 1) n (omega arith) in
    omega (arith, one, other, between, behind)

-- a byte in no two of the values
at_most_once : (block : List ℕ) (count b : ℕ) → entries_apart block (entries block count) ≡ true → b < length block
    → count_by (holds_byte block b) (entries block count) ≤ 1
unfolding entries_apart
at_most_once block count b apart low =
    let test : ℕ → Bool = λ (k : ℕ). nat_le (count_by (holds_byte block k) (entries block count)) 1 in
    let long = length-range_with_len 0 (length block) in
    let at : get_or (range_with_len 0 (length block)) b 0 ≡ b = get_or-range_with_len 0 (length block) b 0 low ∙ omega arith in
    let passes : test (get_or (range_with_len 0 (length block)) b 0) ≡ true =
    AllPass-from_list_all test (range_with_len 0 (length block)) apart b 0 (omega (arith, long)) in
    leb-true (count_by (holds_byte block b) (entries block count)) 1 (ap test (sym at) ∙ passes)

disjoint_from : (block : List ℕ) (count : ℕ) → length block ≡ 4096 → AreInside block count → entries_apart block (entries block count) ≡ true → AreDisjoint block count
disjoint_from block count long inside apart i j low high =
    elim (cases_lt (leaf_entry_at block j).nameidx (end_of block i)) [
      | inr behind ↦ inl behind
      | inl before ↦ elim (cases_lt (leaf_entry_at block i).nameidx (end_of block j)) [
        | inr behind ↦ inr behind
        | inl after ↦
            let b = max (leaf_entry_at block i).nameidx (leaf_entry_at block j).nameidx in
            let some_i = some_bytes block (leaf_entry_at block i) in
            let some_j = some_bytes block (leaf_entry_at block j) in
            let within_i = inside.each i (omega arith) in
            let in_i : Lies block b i = record { from = omega arith; to = omega (arith, some_i, before) } in
            let in_j : Lies block b j = record { from = omega arith; to = omega (arith, some_j, after) } in
            let most = at_most_once block count b apart (omega (arith, long, in_i.to, within_i)) in
            let least = twice (holds_byte block b) block i j count low high (holds block b i in_i) (holds block b j in_j) in
            absurd (omega (arith, most, least))
      ]
    ]

-- no one of the first n entries passes, or just one does
abbrev OneAtMost : (LeafEntry → Bool) → List ℕ → ℕ → Type 0
OneAtMost p block n =
    (count_by p (entries block n) ≡ 0) ⊎ ((count_by p (entries block n) ≡ 1) × (i : ℕ) × (i < n) × (p (leaf_entry_at block i) ≡ true))

pass_more : (p : LeafEntry → Bool) (block : List ℕ) (n : ℕ) (t : Bool) → p (leaf_entry_at block n) ≡ t
    → ((i : ℕ) → i < n → p (leaf_entry_at block i) ≡ true → p (leaf_entry_at block n) ≡ true → ⊥) → OneAtMost p block n → OneAtMost p block (n + 1)
pass_more p block n false last never (inl none) =
    let more = sum_more (λ (e : LeafEntry). cond (p e) 1 0) block n ∙ ap (λ (t : Bool). count_by p (entries block n) + cond t 1 0) last in
    inl (omega (arith, more, none))
pass_more p block n false last never (inr (one, i, low, passes)) =
    let more = sum_more (λ (e : LeafEntry). cond (p e) 1 0) block n ∙ ap (λ (t : Bool). count_by p (entries block n) + cond t 1 0) last in
    inr (omega (arith, more, one), i, omega arith, passes)
pass_more p block n true last never (inl none) =
    let more = sum_more (λ (e : LeafEntry). cond (p e) 1 0) block n ∙ ap (λ (t : Bool). count_by p (entries block n) + cond t 1 0) last in
    inr (omega (arith, more, none), n, omega arith, last)
pass_more p block n true last never (inr (one, i, low, passes)) = absurd (never i low passes last)

one_at_most : (p : LeafEntry → Bool) (block : List ℕ) (n : ℕ)
    → ((i j : ℕ) → i < j → j < n → p (leaf_entry_at block i) ≡ true → p (leaf_entry_at block j) ≡ true → ⊥) → OneAtMost p block n
one_at_most p block zero never = inl refl
one_at_most p block (suc n) never =
    subst (λ (k : ℕ). OneAtMost p block k) (add-one n)
    (pass_more p block n (p (leaf_entry_at block n)) refl (λ i low one other. never i n low (omega arith) one other)
    (one_at_most p block n (λ i j low high. never i j low (omega arith))))

few : (p : LeafEntry → Bool) (block : List ℕ) (n : ℕ) → OneAtMost p block n → count_by p (entries block n) ≤ 1
few p block n (inl none) = omega (arith, none)
few p block n (inr (one, i, low, passes)) = omega (arith, one)

not_both : (block : List ℕ) (count b : ℕ) → AreDisjoint block count → (i j : ℕ) → i < j → j < count
    → holds_byte block b (leaf_entry_at block i) ≡ true → holds_byte block b (leaf_entry_at block j) ≡ true → ⊥
not_both block count b disjoint i j low high at_i at_j =
    let in_i = lies block b i at_i in
    let in_j = lies block b j at_j in
    elim (disjoint i j low high) [
      | inl before ↦ omega (arith, before, in_i.to, in_j.from)
      | inr behind ↦ omega (arith, behind, in_j.to, in_i.from)
    ]

apart_from : (block : List ℕ) (count : ℕ) → AreDisjoint block count → entries_apart block (entries block count) ≡ true
unfolding entries_apart
apart_from block count disjoint =
    let test : ℕ → Bool = λ (k : ℕ). nat_le (count_by (holds_byte block k) (entries block count)) 1 in
    let long = length-range_with_len 0 (length block) in
    list_all-from_AllPass test (range_with_len 0 (length block))
    (λ k d h.
    let low : k < length block = omega (arith, long) in
    let at : get_or (range_with_len 0 (length block)) k d ≡ k = get_or-range_with_len 0 (length block) k d low ∙ omega arith in
    let most = few (holds_byte block k) block count (one_at_most (holds_byte block k) block count (not_both block count k disjoint)) in
    ap test at ∙ le-leb (count_by (holds_byte block k) (entries block count)) 1 most)

-- no byte lies in two values exactly where these are disjoint
pub disjoint : (block : List ℕ) (count : ℕ) → length block ≡ 4096 → AreInside block count → (entries_apart block (entries block count) ≡ true) ↔ AreDisjoint block count
disjoint block count long inside = (disjoint_from block count long inside, apart_from block count)
