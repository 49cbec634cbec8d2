-- One data block more is filled.
use Rattle.std.proofs.Common.{◌≡◌, ℕ, ◌+◌, ◌-◌, ◌*◌, ◌<◌, ◌≤◌, Fits, w16, inl, inr, List, [], ◌∷◌, ◌++◌, map, length, take, drop, get_or, sym, ◌∙◌, ap, ap₂, subst, arith, add-zero}
use Rattle.std.specs.List.{All}
use Rattle.std.proofs.lemmas.List.{drop-drop, drop_all, length-drop, get_or-drop, take_more, append_assoc, map-append}
use Rattle.std.proofs.lemmas.List.Elements.{All-head, All-tail}
use Rattle.std.proofs.lemmas.Bool.{cases_lt}
use Rattle.xfs_dirdata.specs.declared.records.EntryRec.{EntryRec}
use Rattle.xfs_dirdata.specs.Written.{IsWritableEntry, data_size_of, data_length, offsets}
use Rattle.xfs_dirindex.specs.declared.pairs.Pair.{Pair}
use Rattle.xfs_dirindex.specs.Data.{due_pairs}
use Rattle.xfs_dirbuild.specs.Forms.{data_count}
use Rattle.xfs_dirbuild.specs.Filling.{filled, filled_shares, pairs_from, rest_in}
use Rattle.xfs_dirbuild.specs.Blocks.{data_block, bank_part}
use Rattle.xfs_dirbuild.specs.Placed.{IsBuiltDataBlock}
use Rattle.xfs_dirbuild.proofs.Sections.{section-push}
use Rattle.xfs_dirbuild.proofs.Filled.{later, later-some, count-fits, count-full, due_pairs-append}

pub left-on : (ss : List (List EntryRec)) (n : ℕ) (x : List EntryRec) (rest : List (List EntryRec)) → drop n ss ≡ x ∷ rest → drop (n + 1) ss ≡ rest
left-on ss n x rest at = sym (drop-drop 1 n ss) ∙ ap (drop 1) at

pub room-on : (ss : List (List EntryRec)) (n : ℕ) (x : List EntryRec) (rest : List (List EntryRec)) → drop n ss ≡ x ∷ rest → n + 1 ≤ length ss
room-on ss n x rest at =
    let long : length (drop n ss) ≡ length (x ∷ rest) = ap length at in
    omega (arith, long, length-drop n ss)

there-on : (ss : List (List EntryRec)) (n : ℕ) (x : List EntryRec) (rest : List (List EntryRec)) → drop n ss ≡ x ∷ rest → get_or ss n [] ≡ x
there-on ss n x rest at =
    ap (λ (k : ℕ). get_or ss k []) (sym (add-zero n)) ∙ (sym (get_or-drop n ss 0 []) ∙ ap (λ (xs : List (List EntryRec)). get_or xs 0 []) at)

pub pairs-on : (ss : List (List EntryRec)) (n : ℕ) (x : List EntryRec) (rest : List (List EntryRec)) (old new whole : List Pair) → drop n ss ≡ x ∷ rest
    → new ≡ old ++ due_pairs n x (offsets 64 x) → old ++ pairs_from n (drop n ss) ≡ whole → new ++ pairs_from (n + 1) (drop (n + 1) ss) ≡ whole
pairs-on ss n x rest old new whole at made leads =
    ap₂ (λ (ps : List Pair) (xs : List (List EntryRec)). ps ++ pairs_from (n + 1) xs) made (left-on ss n x rest at)
    ∙ (append_assoc old (due_pairs n x (offsets 64 x)) (pairs_from (n + 1) rest)
    ∙ (ap (λ (xs : List (List EntryRec)). old ++ pairs_from n xs) (sym at) ∙ leads))

pub rests-on : (ss : List (List EntryRec)) (n : ℕ) (x : List EntryRec) (rest : List (List EntryRec)) (old new : List ℕ) → drop n ss ≡ x ∷ rest
    → new ≡ old ++ rest_in x ∷ [] → old ≡ map rest_in (take n ss) → new ≡ map rest_in (take (n + 1) ss)
rests-on ss n x rest old new at made were =
    let room = room-on ss n x rest at in
    made ∙ (ap₂ (λ (xs : List ℕ) (y : List EntryRec). xs ++ rest_in y ∷ []) were (sym (there-on ss n x rest at))
    ∙ (sym (map-append rest_in (take n ss) (get_or ss n [] ∷ [])) ∙ ap (map rest_in) (sym (take_more ss n [] (omega arith)))))

pub blocks-on : (ss : List (List EntryRec)) (n : ℕ) (x : List EntryRec) (rest : List (List EntryRec)) (old new : List (List ℕ)) → drop n ss ≡ x ∷ rest
    → ((k : ℕ) → k < n → IsBuiltDataBlock (get_or ss k []) (get_or old k [])) → ((k : ℕ) → k < n → get_or new k [] ≡ get_or old k [])
    → IsBuiltDataBlock x (get_or new n []) → (k : ℕ) → k < n + 1 → IsBuiltDataBlock (get_or ss k []) (get_or new k [])
blocks-on ss n x rest old new at were same here k less =
    elim (cases_lt k n) [
      | inl before ↦ subst (λ (b : List ℕ). IsBuiltDataBlock (get_or ss k []) b) (sym (same k before)) (were k before)
      | inr behind ↦
          let last : n ≡ k = omega arith in
          subst (λ (m : ℕ). IsBuiltDataBlock (get_or ss m []) (get_or new m [])) last
          (subst (λ (es : List EntryRec). IsBuiltDataBlock es (get_or new n [])) (sym (there-on ss n x rest at)) here)
    ]

-- and these are its bytes
pub bytes-on : (ss : List (List EntryRec)) (n : ℕ) (x : List EntryRec) (rest : List (List EntryRec)) (old new : List (List ℕ)) → drop n ss ≡ x ∷ rest
    → length new ≡ length old → n < length old → ((k : ℕ) → k < n → get_or new k [] ≡ get_or old k []) → get_or new n [] ≡ data_block x
    → bank_part old 0 n ≡ map data_block (take n ss) → bank_part new 0 (n + 1) ≡ map data_block (take (n + 1) ss)
bytes-on ss n x rest old new at long room same put were =
    let inside = room-on ss n x rest at in
    let here : 0 + n ≡ n = omega arith in
    section-push old new 0 n (data_block x) long (omega arith)
    (λ k less.
    let there : 0 + k ≡ k = omega arith in
    ap (λ (m : ℕ). get_or new m []) there ∙ (same k less ∙ ap (λ (m : ℕ). get_or old m []) (sym there)))
    (ap (λ (m : ℕ). get_or new m []) here ∙ put)
    ∙ (ap₂ (λ (bs : List (List ℕ)) (y : List EntryRec). bs ++ data_block y ∷ []) were (sym (there-on ss n x rest at))
    ∙ (sym (map-append data_block (take n ss) (get_or ss n [] ∷ [])) ∙ ap (map data_block) (sym (take_more ss n [] (omega arith)))))

-- all blocks are filled
pub all-done : (ss : List (List EntryRec)) (n start : ℕ) (es : List EntryRec) → drop n ss ≡ later (drop start es) → length es ≤ start → n ≤ length ss → n ≡ length ss
all-done ss n start es left past within =
    let none : drop n ss ≡ [] = left ∙ ap later (drop_all start es past) in
    let long : length (drop n ss) ≡ 0 = ap length none in
    omega (arith, long, length-drop n ss)

-- one more is to be filled
pub next-block : (ss : List (List EntryRec)) (n start : ℕ) (es : List EntryRec) → drop n ss ≡ later (drop start es) → start < length es → n < length ss
next-block ss n start es left before =
    let some : 1 ≤ length (drop start es) = omega (arith, length-drop start es) in
    let long : length (drop n ss) ≡ length (later (drop start es)) = ap length left in
    omega (arith, long, later-some (drop start es) some, length-drop n ss)

-- how many blocks there are
pub shares-count : (dir parent : ℕ) (es : List EntryRec) → length (filled_shares dir parent es) ≡ data_count es
unfolding data_count
shares-count dir parent es =
    let one : EntryRec = record { dir = dir; name = 46 ∷ []; ino = dir; ftype = 2 } in
    let two : EntryRec = record { dir = dir; name = 46 ∷ 46 ∷ []; ino = parent; ftype = 2 } in
    count-fits 64 one (two ∷ es) (omega arith) ∙ count-fits 80 two es (omega arith)

filled-bound : (at : ℕ) (es : List EntryRec) → All IsWritableEntry es → 3760 * length (filled at es) ≤ at + 272 * length es + 3760
unfolding filled
filled-bound at [] all = omega arith
filled-bound at (e ∷ es) all =
    let writable = All-head IsWritableEntry e es all in
    let name : length e.name < 256 = writable.name in
    let rest = All-tail IsWritableEntry e es all in
    elim (cases_lt 4096 (at + data_size_of e)) [
      | inl full ↦ let one = count-full at e es full in let more = filled-bound (64 + data_size_of e) es rest in omega (arith, one, more, name, full)
      | inr fits ↦ let one = count-fits at e es fits in let more = filled-bound (at + data_size_of e) es rest in omega (arith, one, more, name, fits)
    ]

pub data_count-bound : (es : List EntryRec) → All IsWritableEntry es → length es ≤ 16777216 → data_count es ≤ 0x800000
unfolding data_count
data_count-bound es all few = omega (arith, filled-bound 96 es all)

-- numbers of one data block
pub front-low : (start front : ℕ) → start ≡ 64 + front → 64 ≤ start
front-low start front is = omega arith

pub front-end : (start front more all : ℕ) → start ≡ 64 + front → all ≡ front + more → 64 + all ≤ 4096 → start + more ≤ 4096
front-end start front more all is sum fits = omega arith

pub rest-left : (end start front more all : ℕ) → end ≡ start + more → start ≡ 64 + front → all ≡ front + more → 4096 - end ≡ 4096 - (64 + all)
rest-left end start front more all end_is is sum = omega arith

pub end-inside : (end start more : ℕ) → end ≡ start + more → start + more ≤ 4096 → end ≤ 4096
end-inside end start more is fits = omega arith

pub rest-fits : (end : ℕ) → Fits w16 (4096 - end)
rest-fits end = omega arith

pub more-added : (new middle old front part count : ℕ) → new ≡ middle + part → middle ≡ old + front → part ≡ count → new ≡ old + front + count
more-added new middle old front part count new_is middle_is part_is = omega arith

-- the pairs of a block's first entries, and those of the others
pub pairs-both : (n start count : ℕ) (front es : List EntryRec) (old middle new : List Pair) → middle ≡ old ++ due_pairs n front (offsets 64 front)
    → new ≡ middle ++ due_pairs n (take count es) (offsets start (take count es)) → start ≡ 64 + data_length front
    → new ≡ old ++ due_pairs n (front ++ take count es) (offsets 64 (front ++ take count es))
pairs-both n start count front es old middle new first more is =
    more
    ∙ (ap₂ (λ (ps : List Pair) (a : ℕ). ps ++ due_pairs n (take count es) (offsets a (take count es))) first is
    ∙ (append_assoc old (due_pairs n front (offsets 64 front)) (due_pairs n (take count es) (offsets (64 + data_length front) (take count es)))
    ∙ ap (λ (ps : List Pair). old ++ ps) (sym (due_pairs-append n 64 front (take count es)))))
