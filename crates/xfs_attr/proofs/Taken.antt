-- Bytes that are marked as taken, one value after the other.
use Rattle.std.proofs.Common.{◌≡◌, ℕ, ◌+◌, ◌<◌, ◌≤◌, Bool, true, false, cond, ◌&&◌, ◌||◌, List, length, get_or, refl, sym, ap, ap₂, subst, ◌∙◌, arith}
use Rattle.std.specs.Prelude.{nat_le, nat_lt}
use Rattle.std.specs.List.{count_by, range_with_len}
use Rattle.std.proofs.lemmas.Bool.{leb-true, ltb-true, le-leb, lt-ltb, lt-leb, and_parts, and_from}
use Rattle.std.proofs.lemmas.List.Folds.{list_all_at}
use Rattle.std.proofs.lemmas.List.FromFn.{length-range_with_len, get_or-range_with_len, take-map-range_with_len}
use Rattle.std.proofs.lemmas.List.Sums.{sum_by-take-le, list_all-from_AllPass}
use Rattle.xfs_attr.specs.declared.entries.LeafEntry.{LeafEntry}
use Rattle.xfs_attr.specs.Leaf.{leaf_entry_at, entries, leaf_entry_size, holds_byte, entries_apart}
use Rattle.xfs_attr.proofs.Steps.{sum_more}

-- each byte is marked that lies in one of the first n values, and none lies in two
abbrev pub Marks : List ℕ → ℕ → List Bool → Type 0
Marks block n taken = (b : ℕ) → b < length block → count_by (holds_byte block b) (entries block n) ≡ cond (get_or taken b false) 1 0

pub count_more : (block : List ℕ) (b n : ℕ)
    → count_by (holds_byte block b) (entries block (n + 1)) ≡ count_by (holds_byte block b) (entries block n) + cond (holds_byte block b (leaf_entry_at block n)) 1 0
count_more block b n = sum_more (λ (e : LeafEntry). cond (holds_byte block b e) 1 0) block n

added : (old held new : Bool) → (held ≡ true → old ≡ false) → new ≡ (old || held) → ◌≡◌ {A = ℕ} (cond old 1 0 + cond held 1 0) (cond new 1 0)
added true true new free now = let no : true ≡ false = free refl in cc
added true false new free now = ap (λ (n : Bool). cond n 1 0) (sym now)
added false true new free now = ap (λ (n : Bool). cond n 1 0) (sym now)
added false false new free now = ap (λ (n : Bool). cond n 1 0) (sym now)

-- a value whose bytes are marked now, and were not before
pub mark_more : (block : List ℕ) (n start end : ℕ) (old new : List Bool) → Marks block n old
    → start ≡ (leaf_entry_at block n).nameidx → end ≡ (leaf_entry_at block n).nameidx + leaf_entry_size block (leaf_entry_at block n)
    → ((b : ℕ) → start ≤ b → b < end → get_or old b false ≡ false)
    → ((b : ℕ) → b < length block → get_or new b false ≡ (get_or old b false || (nat_le start b && nat_lt b end)))
    → Marks block (n + 1) new
mark_more block n start end old new marks from to free now =
    λ b low.
    let held : Bool = holds_byte block b (leaf_entry_at block n) in
    let same : (nat_le start b && nat_lt b end) ≡ held = ap₂ (λ (s e : ℕ). nat_le s b && nat_lt b e) from to in
    let apart : held ≡ true → get_or old b false ≡ false =
    λ h. let parts = and_parts (nat_le start b) (nat_lt b end) (same ∙ h) in free b (leb-true start b parts.0) (ltb-true b end parts.1) in
    count_more block b n
    ∙ (ap (λ (k : ℕ). k + cond held 1 0) (marks b low)
    ∙ added (get_or old b false) held (get_or new b false) apart (now b low ∙ ap (λ (h : Bool). get_or old b false || h) same))

-- the number of a byte's values does not fall with more entries
pub more_holds : (p : LeafEntry → Bool) (block : List ℕ) (k n : ℕ) → k ≤ n → count_by p (entries block k) ≤ count_by p (entries block n)
more_holds p block k n h =
    let front = take-map-range_with_len (leaf_entry_at block) 0 n k h in
    subst (λ (xs : List LeafEntry). count_by p xs ≤ count_by p (entries block n)) front (sum_by-take-le (λ (e : LeafEntry). cond (p e) 1 0) (entries block n) k)

-- a value with a byte that is marked already
pub overlap : (block : List ℕ) (n count b : ℕ) (taken : List Bool) → Marks block n taken → n < count → b < length block
    → (leaf_entry_at block n).nameidx ≤ b → b < (leaf_entry_at block n).nameidx + leaf_entry_size block (leaf_entry_at block n) → get_or taken b false ≡ true
    → entries_apart block (entries block count) ≡ false
unfolding entries_apart
overlap block n count b taken marks low inside from to marked =
    let p : LeafEntry → Bool = holds_byte block b in
    let held : p (leaf_entry_at block n) ≡ true = and_from _ _ (le-leb _ b from) (lt-ltb b _ to) in
    let before : count_by p (entries block n) ≡ 1 = marks b inside ∙ ap (λ (t : Bool). cond t 1 0) marked in
    let now : count_by p (entries block (n + 1)) ≡ 2 = count_more block b n ∙ ap₂ (λ (k : ℕ) (t : Bool). k + cond t 1 0) before held in
    let all = more_holds p block (n + 1) count (omega arith) in
    let fails : nat_le (count_by p (entries block count)) 1 ≡ false = lt-leb (count_by p (entries block count)) 1 (omega (arith, now, all)) in
    let test : ℕ → Bool = λ (k : ℕ). nat_le (count_by (holds_byte block k) (entries block count)) 1 in
    let long = length-range_with_len 0 (length block) in
    let at : get_or (range_with_len 0 (length block)) b 0 ≡ b = get_or-range_with_len 0 (length block) b 0 inside ∙ omega arith in
    list_all_at test (range_with_len 0 (length block)) b 0 (omega (arith, long)) (ap test at ∙ fails)

one_at_most : (t : Bool) → nat_le (cond t 1 0) 1 ≡ true
one_at_most true = refl
one_at_most false = refl

-- all values are marked
pub no_overlap : (block : List ℕ) (count : ℕ) (taken : List Bool) → Marks block count taken → entries_apart block (entries block count) ≡ true
unfolding entries_apart
no_overlap block count taken marks =
    let test : ℕ → Bool = λ (k : ℕ). nat_le (count_by (holds_byte block k) (entries block count)) 1 in
    let long = length-range_with_len 0 (length block) in
    list_all-from_AllPass test (range_with_len 0 (length block))
    (λ k d h.
    let low : k < length block = omega (arith, long) in
    let at : get_or (range_with_len 0 (length block)) k d ≡ k = get_or-range_with_len 0 (length block) k d low ∙ omega arith in
    ap test at ∙ (ap (λ (n : ℕ). nat_le n 1) (marks k low) ∙ one_at_most (get_or taken k false)))
