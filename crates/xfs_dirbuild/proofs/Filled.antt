-- How entries fill data blocks, step by step.
use Rattle.std.proofs.Common.{◌≡◌, ℕ, suc, zero, ◌+◌, ◌-◌, ◌<◌, ◌≤◌, Bool, true, false, nat_le, List, [], ◌∷◌, ◌++◌, length, take, drop, refl, sym, ◌∙◌, ap, subst, arith}
use Rattle.std.specs.List.{All}
use Rattle.std.proofs.lemmas.List.Elements.{All-head, All-tail, All-drop}
use Rattle.std.proofs.lemmas.List.{length-drop, drop-drop}
use Rattle.std.proofs.lemmas.List.Sums.{sum_by-cons}
use Rattle.std.proofs.lemmas.Bool.Decides.{nat_tests}
use Rattle.xfs_dirdata.specs.declared.records.EntryRec.{EntryRec}
use Rattle.xfs_dirdata.specs.Written.{IsWritableEntry, data_size_of, data_length, offsets}
use Rattle.xfs_dirindex.specs.Data.{due_pair, due_pairs}
use Rattle.xfs_dirindex.specs.declared.pairs.Pair.{Pair}
use Rattle.xfs_dirbuild.specs.Filling.{ahead, filled}

-- what is left fills later blocks, if anything is left
abbrev pub later : List EntryRec → List (List EntryRec)
later [] = []
later (e ∷ es) = filled 64 (e ∷ es)

length-ahead : (e : EntryRec) (blocks : List (List EntryRec)) → 1 ≤ length blocks → length (ahead e blocks) ≡ length blocks
length-ahead e [] some = absurd (omega arith)
length-ahead e (b ∷ bs) some = refl

-- an entry that fits, and one that does not
pub filled-fits : (at : ℕ) (e : EntryRec) (es : List EntryRec) → at + data_size_of e ≤ 4096 → filled at (e ∷ es) ≡ ahead e (filled (at + data_size_of e) es)
unfolding filled
filled-fits at e es fits = let test : nat_le (at + data_size_of e) 4096 ≡ true = grind (arith, nat_tests) in rw test refl

pub filled-full : (at : ℕ) (e : EntryRec) (es : List EntryRec) → 4096 < at + data_size_of e → filled at (e ∷ es) ≡ [] ∷ ahead e (filled (64 + data_size_of e) es)
unfolding filled
filled-full at e es full = let test : nat_le (at + data_size_of e) 4096 ≡ false = grind (arith, nat_tests) in rw test refl

pub filled-some : (at : ℕ) (es : List EntryRec) → 1 ≤ length (filled at es)
unfolding filled
filled-some at [] = omega arith
filled-some at (e ∷ es) = by_test (nat_le (at + data_size_of e) 4096) refl
  where
    some_ahead : (blocks : List (List EntryRec)) → 1 ≤ length (ahead e blocks)
    some_ahead [] = omega arith
    some_ahead (b ∷ bs) = omega arith

    by_test : (t : Bool) → nat_le (at + data_size_of e) 4096 ≡ t → 1 ≤ length (filled at (e ∷ es))
    by_test true is = rw is (some_ahead (filled (at + data_size_of e) es))
    by_test false is = rw is (omega arith)

-- how many blocks they fill
pub count-fits : (at : ℕ) (e : EntryRec) (es : List EntryRec) → at + data_size_of e ≤ 4096 → length (filled at (e ∷ es)) ≡ length (filled (at + data_size_of e) es)
count-fits at e es fits = ap length (filled-fits at e es fits) ∙ length-ahead e (filled (at + data_size_of e) es) (filled-some (at + data_size_of e) es)

pub count-full : (at : ℕ) (e : EntryRec) (es : List EntryRec) → 4096 < at + data_size_of e
    → length (filled at (e ∷ es)) ≡ suc (length (filled (64 + data_size_of e) es))
count-full at e es full =
    ap length (filled-full at e es full) ∙ ap suc (length-ahead e (filled (64 + data_size_of e) es) (filled-some (64 + data_size_of e) es))

-- a writable entry fits a block
entry-small : (e : EntryRec) → IsWritableEntry e → 64 + data_size_of e ≤ 4096
entry-small e writable = let name = writable.name in omega arith

-- the first block takes as many as fit
pub filled-prefix : (at : ℕ) (es : List EntryRec) (c : ℕ) → All IsWritableEntry es → c ≤ length es → at + data_length (take c es) ≤ 4096
    → (c < length es → 4096 < at + data_length (take (c + 1) es)) → filled at es ≡ take c es ∷ later (drop c es)
unfolding filled
filled-prefix at [] zero writable within fits full = refl
filled-prefix at [] (suc c) writable within fits full = absurd (omega arith)
filled-prefix at (e ∷ es) zero writable within fits full =
    let small = entry-small e (All-head IsWritableEntry e es writable) in
    let size = sum_by-cons data_size_of e [] in
    let over : 4096 < at + data_size_of e = omega (arith, full (omega arith), size) in
    filled-full at e es over ∙ ap (λ bs. [] ∷ bs) (sym (filled-fits 64 e es small))
filled-prefix at (e ∷ es) (suc c) writable within fits full =
    let size = sum_by-cons data_size_of e (take c es) in
    let more = sum_by-cons data_size_of e (take (c + 1) es) in
    let next : suc c + 1 ≡ suc (c + 1) = omega arith in
    let over : c < length es → 4096 < at + data_length (e ∷ take (c + 1) es) =
    λ less. subst (λ (n : ℕ). 4096 < at + data_length (take n (e ∷ es))) next (full (omega arith)) in
    let one : at + data_size_of e ≤ 4096 = omega (arith, fits, size) in
    let rest : at + data_size_of e + data_length (take c es) ≤ 4096 = omega (arith, fits, size) in
    filled-fits at e es one
    ∙ ap (ahead e) (filled-prefix (at + data_size_of e) es c (All-tail IsWritableEntry e es writable) (omega arith) rest
    (λ less. omega (arith, over less, more)))

pub filled-front : (at : ℕ) (front es : List EntryRec) (c : ℕ) → All IsWritableEntry es → c ≤ length es → at + data_length (front ++ take c es) ≤ 4096
    → (c < length es → 4096 < at + data_length (front ++ take (c + 1) es)) → filled at (front ++ es) ≡ (front ++ take c es) ∷ later (drop c es)
filled-front at [] es c writable within fits full = filled-prefix at es c writable within fits full
filled-front at (f ∷ fs) es c writable within fits full =
    let size = sum_by-cons data_size_of f (fs ++ take c es) in
    let more = sum_by-cons data_size_of f (fs ++ take (c + 1) es) in
    let one : at + data_size_of f ≤ 4096 = omega (arith, fits, size) in
    let rest : at + data_size_of f + data_length (fs ++ take c es) ≤ 4096 = omega (arith, fits, size) in
    filled-fits at f (fs ++ es) one
    ∙ ap (ahead f) (filled-front (at + data_size_of f) fs es c writable within rest (λ less. omega (arith, full less, more)))

-- no block takes none of the entries that are left
pub one-fits : (es : List EntryRec) (c : ℕ) → All IsWritableEntry es → 1 ≤ length es → (c < length es → 4096 < 64 + data_length (take (c + 1) es)) → 1 ≤ c
one-fits [] c writable some full = absurd (omega arith)
one-fits (e ∷ es) zero writable some full =
    let small = entry-small e (All-head IsWritableEntry e es writable) in
    let size = sum_by-cons data_size_of e [] in
    absurd (omega (arith, full (omega arith), size, small))
one-fits (e ∷ es) (suc c) writable some full = omega arith

-- the pairs of entries behind entries
pub due_pairs-append : (block at : ℕ) (es fs : List EntryRec) → due_pairs block (es ++ fs) (offsets at (es ++ fs))
    ≡ due_pairs block es (offsets at es) ++ due_pairs block fs (offsets (at + data_length es) fs)
due_pairs-append block at [] fs = ap (λ (a : ℕ). due_pairs block fs (offsets a fs)) (omega arith)
due_pairs-append block at (e ∷ es) fs =
    let size = sum_by-cons data_size_of e es in
    let place : at + data_size_of e + data_length es ≡ at + data_length (e ∷ es) = omega (arith, size) in
    ap (λ (ps : List Pair). due_pair block e at ∷ ps) (due_pairs-append block (at + data_size_of e) es fs
    ∙ ap (λ (a : ℕ). due_pairs block es (offsets (at + data_size_of e) es) ++ due_pairs block fs (offsets a fs)) place)

-- the last block
pub filled-end : (at : ℕ) (es : List EntryRec) → es ≡ [] → length (filled at es) ≡ 1
unfolding filled
filled-end at [] none = refl
filled-end at (e ∷ es) none = cc

-- a block more is filled, and with it the count
pub counted-full : (count used size next_used next_count i : ℕ) (e : EntryRec) (es rest : List EntryRec) (total : ℕ) → size ≡ data_size_of e
    → 4096 < used + size → next_used ≡ 64 → next_count ≡ count + 1 → drop i es ≡ e ∷ rest → count + length (filled used (drop i es)) ≡ total
    → next_count + length (filled (next_used + size) rest) ≡ total
counted-full count used size next_used next_count i e es rest total size_is over used_is count_is step whole =
    let one : length (filled used (drop i es)) ≡ suc (length (filled (64 + data_size_of e) rest)) =
    ap (λ (xs : List EntryRec). length (filled used xs)) step ∙ count-full used e rest (omega (arith, size_is)) in
    let place : next_used + size ≡ 64 + data_size_of e = omega (arith, size_is) in
    let two : length (filled (next_used + size) rest) ≡ length (filled (64 + data_size_of e) rest) = ap (λ (n : ℕ). length (filled n rest)) place in
    omega (arith, one, two)

pub counted-fits : (count used size next_used next_count i : ℕ) (e : EntryRec) (es rest : List EntryRec) (total : ℕ) → size ≡ data_size_of e
    → used + size ≤ 4096 → next_used ≡ used → next_count ≡ count → drop i es ≡ e ∷ rest → count + length (filled used (drop i es)) ≡ total
    → next_count + length (filled (next_used + size) rest) ≡ total
counted-fits count used size next_used next_count i e es rest total size_is fits used_is count_is step whole =
    let one : length (filled used (drop i es)) ≡ length (filled (used + data_size_of e) rest) =
    ap (λ (xs : List EntryRec). length (filled used xs)) step ∙ count-fits used e rest (omega (arith, size_is)) in
    let place : next_used + size ≡ used + data_size_of e = omega (arith, size_is) in
    let two : length (filled (next_used + size) rest) ≡ length (filled (used + data_size_of e) rest) = ap (λ (n : ℕ). length (filled n rest)) place in
    omega (arith, one, two)

pub later-some : (es : List EntryRec) → 1 ≤ length es → 1 ≤ length (later es)
later-some [] some = absurd (omega arith)
later-some (e ∷ es) some = filled-some 64 (e ∷ es)

later-is : (es : List EntryRec) → 1 ≤ length es → later es ≡ filled 64 es
later-is [] some = absurd (omega arith)
later-is (e ∷ es) some = refl

-- what the next block takes of what is left
pub next-share : (es part : List EntryRec) (start c : ℕ) → part ≡ drop start es → All IsWritableEntry es → start < length es → c ≤ length part
    → 64 + data_length (take c part) ≤ 4096 → (c < length part → 4096 < 64 + data_length (take (c + 1) part))
    → (later (drop start es) ≡ take c part ∷ later (drop (start + c) es)) × (1 ≤ c) × (start + c ≤ length es)
next-share es part start c is writable left within fits full =
    let all : All IsWritableEntry part = subst (λ (xs : List EntryRec). All IsWritableEntry xs) (sym is) (All-drop IsWritableEntry start es writable) in
    let long : length part ≡ length es - start = ap length is ∙ length-drop start es in
    let some : 1 ≤ length part = omega arith in
    let first : later (drop start es) ≡ filled 64 part = ap later (sym is) ∙ later-is part some in
    let rest : drop c part ≡ drop (start + c) es = ap (drop c) is ∙ drop-drop c start es in (
      first ∙ (filled-prefix 64 part c all within fits full ∙ ap (λ (xs : List EntryRec). take c part ∷ later xs) rest),
      one-fits part c all some full,
      omega (arith, long),
    )
