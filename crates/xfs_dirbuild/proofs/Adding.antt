-- The pair of one entry more is added.
use Rattle.std.proofs.Common.{◌≡◌, ℕ, true, false, Option, Some, None, is_some, ◌+◌, ◌*◌, ◌/◌, ◌<◌, ◌≤◌, Fits, w64, List, [], ◌∷◌, ◌++◌, length, take, drop, get_or, refl, sym, ◌∙◌, ap, ap₂, arith}
use Rattle.std.specs.List.{All}
use Rattle.std.proofs.lemmas.List.{drop_more, drop_all, take_all, append_assoc, append-nil, length_push}
use Rattle.std.proofs.lemmas.List.Sums.{sum_by_more, sum_by-take-le}
use Rattle.xfs_word.specs.Hash.{hash_of}
use Rattle.xfs_dirdata.specs.declared.records.EntryRec.{EntryRec}
use Rattle.xfs_dirdata.specs.Written.{IsWritableEntry, data_size_of, data_length, first_entries, offsets}
use Rattle.xfs_dirindex.specs.declared.pairs.Pair.{Pair}
use Rattle.xfs_dirindex.specs.Data.{due_pairs, entry_address}

-- sums of offsets
joined : (at start before size next after : ℕ) → at ≡ start + before → size ≡ next → after ≡ before + next → at + size ≡ start + after
joined at start before size next after at_is size_is after_is = omega arith

within : (at size start after all most : ℕ) → at + size ≡ start + after → after ≤ all → start + all ≤ most → at + size ≤ most
within at size start after all most is less room = omega arith

fits-small : (at size : ℕ) → at + size ≤ 4096 → Fits w64 (at + size)
fits-small at size small = omega arith

below-256 : (n m : ℕ) → n ≡ m → m < 256 → n < 256
below-256 n m is less = omega arith

pushed-count : (new more old n i : ℕ) → new ≡ more → more ≡ old + 1 → old ≡ n + i → new ≡ n + (i + 1)
pushed-count new more old n i is more_is were = omega arith

-- where the next entry stands
pub place-on : (es : List EntryRec) (i start at size : ℕ) (e : EntryRec) → i < length es → e ≡ get_or es i e → at ≡ start + data_length (take i es)
    → size ≡ data_size_of e → at + size ≡ start + data_length (take (i + 1) es)
place-on es i start at size e inside is at_is size_is =
    let here : size ≡ data_size_of (get_or es i e) = size_is ∙ ap data_size_of is in
    joined at start (data_length (take i es)) size (data_size_of (get_or es i e)) (data_length (take (i + 1) es)) at_is here (sum_by_more data_size_of es i e inside)

-- an entry of entries that fit a block stands in it, and behind its header
pub place-in : (es : List EntryRec) (i start at : ℕ) (e : EntryRec) → i < length es → e ≡ get_or es i e → at ≡ start + data_length (take i es)
    → start + data_length es ≤ 4096 → at + data_size_of e ≤ 4096
place-in es i start at e inside is at_is room =
    within at (data_size_of e) start (data_length (take (i + 1) es)) (data_length es) 4096
    (place-on es i start at (data_size_of e) e inside is at_is refl) (sum_by-take-le data_size_of es (i + 1)) room

-- some bytes of an entry are in front of the block's end
pub before-end : (at size : ℕ) → at + (size + 19) / 8 * 8 ≤ 4096 → at < 4096
before-end at size inside = omega arith

-- a name of a writable entry
pub name-short : (es : List EntryRec) (i : ℕ) (e : EntryRec) (name : List ℕ) → All IsWritableEntry es → i < length es → e ≡ get_or es i e → name ≡ e.name → length name < 256
name-short es i e name all inside is name_is =
    let writable : IsWritableEntry (get_or es i e) = all i e inside in
    let short : length (get_or es i e).name < 256 = writable.name in
    let named : length name ≡ length (get_or es i e).name = ap length name_is ∙ ap (λ (x : EntryRec). length x.name) is in
    below-256 (length name) (length (get_or es i e).name) named short

-- what is left to add
pub pairs-next : (es : List EntryRec) (i n at size : ℕ) (e : EntryRec) (name : List ℕ) (old new whole : List Pair) → i < length es → e ≡ get_or es i e
    → name ≡ e.name → size ≡ data_size_of e → new ≡ old ++ (record { hash = hash_of name; address = entry_address n at }) ∷ []
    → old ++ due_pairs n (drop i es) (offsets at (drop i es)) ≡ whole
    → new ++ due_pairs n (drop (i + 1) es) (offsets (at + size) (drop (i + 1) es)) ≡ whole
pairs-next es i n at size e name old new whole inside is name_is size_is pushed leads =
    let rest = drop (i + 1) es in
    let x : Pair = record { hash = hash_of e.name; address = entry_address n at } in
    let added : new ≡ old ++ x ∷ [] = pushed ∙ ap (λ (m : List ℕ). let p : Pair = record { hash = hash_of m; address = entry_address n at } in old ++ p ∷ []) name_is in
    let left : drop i es ≡ e ∷ rest = drop_more es i e inside ∙ ap (λ (y : EntryRec). y ∷ rest) (sym is) in
    ap₂ (λ (ps : List Pair) (s : ℕ). ps ++ due_pairs n rest (offsets (at + s) rest)) added size_is
    ∙ (append_assoc old (x ∷ []) (due_pairs n rest (offsets (at + data_size_of e) rest))
    ∙ (ap (λ (xs : List EntryRec). old ++ due_pairs n xs (offsets at xs)) (sym left) ∙ leads))

-- all are added
pub pairs-end : (es : List EntryRec) (i n at : ℕ) (old whole : List Pair) → length es ≤ i → old ++ due_pairs n (drop i es) (offsets at (drop i es)) ≡ whole → old ≡ whole
pairs-end es i n at old whole past leads =
    sym (append-nil old) ∙ (ap (λ (xs : List EntryRec). old ++ due_pairs n xs (offsets at xs)) (sym (drop_all i es past)) ∙ leads)

pub place-end : (es : List EntryRec) (i start at : ℕ) → length es ≤ i → at ≡ start + data_length (take i es) → at ≡ start + data_length es
place-end es i start at past is = is ∙ ap (λ (xs : List EntryRec). start + data_length xs) (take_all i es past)

-- numbers on the way
pub behind-start : (start at more : ℕ) → at ≡ start + more → 64 ≤ start → 64 ≤ at
behind-start start at more is behind = omega arith

-- and how far they are
pub place-fits : (es : List EntryRec) (i start at size : ℕ) (e : EntryRec) → i < length es → e ≡ get_or es i e → at ≡ start + data_length (take i es)
    → start + data_length es ≤ 4096 → size ≡ data_size_of e → Fits w64 (at + size)
place-fits es i start at size e inside is at_is room size_is =
    fits-small at size
    (within at size start (data_length (take (i + 1) es)) (data_length es) 4096
    (place-on es i start at size e inside is at_is size_is) (sum_by-take-le data_size_of es (i + 1)) room)

pub count-on : (old new : List Pair) (x : Pair) (n i : ℕ) → new ≡ old ++ x ∷ [] → length old ≡ n + i → length new ≡ n + (i + 1)
count-on old new x n i pushed were =
    pushed-count (length new) (length (old ++ x ∷ [])) (length old) n i (ap length pushed) (length_push old x) were

pub count-end : (count len i n : ℕ) → count ≡ n + i → i ≤ len → len ≤ i → count ≡ n + len
count-end count len i n is within past = omega arith

-- a block that is not the first has no entries of the directory and its parent
pub no-first : (first : Option (ℕ × ℕ)) → is_some first ≡ false → first_entries first ≡ []
no-first None is = refl
no-first (Some p) is = cc

pub first-size : (first : Option (ℕ × ℕ)) → is_some first ≡ true → data_length (first_entries first) ≡ 32
first-size None is = cc
first-size (Some (dir, parent)) is = refl

pub first-count : (first : Option (ℕ × ℕ)) → is_some first ≡ true → length (first_entries first) ≡ 2
first-count None is = cc
first-count (Some (dir, parent)) is = refl

first-due : (first : Option (ℕ × ℕ)) (n : ℕ) → is_some first ≡ true → (let ps : List Pair = (record { hash = hash_of (46 ∷ []); address = entry_address n 64 }) ∷ (record { hash = hash_of (46 ∷ 46 ∷ []); address = entry_address n 80 }) ∷ [] in ps)
    ≡ due_pairs n (first_entries first) (offsets 64 (first_entries first))
first-due None n is = cc
first-due (Some (dir, parent)) n is = refl

pub first-pairs : (first : Option (ℕ × ℕ)) (n size : ℕ) (old middle new : List Pair) → is_some first ≡ true → size ≡ 16
    → middle ≡ old ++ (record { hash = hash_of (46 ∷ []); address = entry_address n 64 }) ∷ []
    → new ≡ middle ++ (record { hash = hash_of (46 ∷ 46 ∷ []); address = entry_address n (64 + size) }) ∷ []
    → new ≡ old ++ due_pairs n (first_entries first) (offsets 64 (first_entries first))
first-pairs first n size old middle new some is one two =
    let a : Pair = record { hash = hash_of (46 ∷ []); address = entry_address n 64 } in
    let b : Pair = record { hash = hash_of (46 ∷ 46 ∷ []); address = entry_address n 80 } in
    two
    ∙ (ap₂ (λ (ps : List Pair) (s : ℕ). let p : Pair = record { hash = hash_of (46 ∷ 46 ∷ []); address = entry_address n (64 + s) } in ps ++ p ∷ []) one is
    ∙ (append_assoc old (a ∷ []) (b ∷ []) ∙ ap (λ (ps : List Pair). old ++ ps) (first-due first n some)))

pub first-inside : (size : ℕ) → size ≡ 16 → 64 + size < 4096
first-inside size is = omega arith

pub first-end : (one two all : ℕ) → one ≡ 16 → two ≡ 16 → all ≡ 32 → 64 + one + two ≡ 64 + all
first-end one two all one_is two_is all_is = omega arith

two-more : (new middle old all : ℕ) → new ≡ middle + 1 → middle ≡ old + 1 → all ≡ 2 → new ≡ old + all
two-more new middle old all one two is = omega arith

pub first-more : (old middle new : List Pair) (a b : Pair) (all : ℕ) → middle ≡ old ++ a ∷ [] → new ≡ middle ++ b ∷ [] → all ≡ 2 → length new ≡ length old + all
first-more old middle new a b all one two is =
    two-more (length new) (length middle) (length old) all (ap length two ∙ length_push middle b) (ap length one ∙ length_push old a) is
