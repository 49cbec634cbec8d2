-- What data blocks state together, wherever they stand.
use Rattle.std.proofs.Common.{◌≡◌, ℕ, suc, zero, ◌+◌, ◌-◌, ◌*◌, ◌/◌, ◌<◌, ◌≤◌, inl, inr, Bool, true, false, not, ◌&&◌, ◌||◌, ◌==◌, nat_le, if◌then◌else◌, List, [], ◌∷◌, ◌++◌, map, length, get_or, is_some, unwrap_or, refl, sym, ◌∙◌, ap, ap₂, arith}
use Rattle.std.specs.List.{list_all, list_any, flat_map}
use Rattle.std.proofs.lemmas.List.{map-append}
use Rattle.std.proofs.lemmas.Bool.{and_from, eq-eqb, eqb-true}
use Rattle.std.proofs.lemmas.Bool.Decides.{nat_tests}
use Rattle.xfs_word.specs.Field.{field_of}
use Rattle.xfs_word.proofs.Written.{keeps}
use Rattle.xfs_dirdata.specs.declared.records.EntryRec.{EntryRec}
use Rattle.xfs_dirdata.specs.Data.{DataArea, data_of, data_area}
use Rattle.xfs_dirdata.specs.Written.{in_directory, data_length, offsets, rest_span, written_area}
use Rattle.xfs_dirindex.specs.declared.pairs.Pair.{Pair}
use Rattle.xfs_dirindex.specs.declared.data.Best.{Best}
use Rattle.xfs_dirindex.specs.Mapped.{Mapped, mapped_block, is_data}
use Rattle.xfs_dirindex.specs.Data.{is_self, is_parent_name, is_dots, have_no_dots, begin_with_dots, stand_first, no_area, area_in, is_sound_data, is_first_block, is_later, due_pairs, pairs_in, longest_span, best_in}
use Rattle.xfs_dirindex.specs.Leaf.{best_length_of, end_of}
use Rattle.xfs_dirbuild.specs.Filling.{ahead, filled, pairs_from, rest_in}
use Rattle.xfs_dirbuild.specs.Index.{IsPlacedBlock}
use Rattle.xfs_dirbuild.specs.Placed.{IsBuiltDataBlock}
use Rattle.xfs_dirbuild.proofs.Areas.{same-behind, area-same}
use Rattle.xfs_dirbuild.proofs.Standing.{stand}

pub data-placed : (es : List EntryRec) (b p : List ℕ) → IsBuiltDataBlock es b → IsPlacedBlock 4 b p → IsBuiltDataBlock es p
data-placed es b p was placed =
    let same = same-behind 48 b p (placed.long ∙ sym was.long) (λ k low. placed.same k (inr low)) in
    record {
      magic = keeps b p 4 44 placed.same 0 4 (inl (omega arith)) ∙ was.magic;
      long = placed.long;
      area = λ dir. area-same b p same dir (written_area dir es 4096) (was.area dir);
    }

-- one block
area-is : (dir o : ℕ) (es : List EntryRec) (p : List ℕ) → IsBuiltDataBlock es p → area_in dir false (mapped_block o p) ≡ written_area dir es 4096
unfolding area_in data_of data_area
area-is dir o es p block = ap (λ a. unwrap_or a no_area) (block.area dir)

sound-is : (dir o : ℕ) (es : List EntryRec) (p : List ℕ) → IsBuiltDataBlock es p → is_sound_data dir false (mapped_block o p) ≡ true
unfolding is_sound_data data_of data_area
sound-is dir o es p block = and_from _ _ (eq-eqb (field_of p 0 4) 0x58444433 block.magic) (ap (λ a. is_some a) (block.area dir))

due-in : (dir o : ℕ) (es : List EntryRec) (ps : List ℕ) → due_pairs o (map (in_directory dir) es) ps ≡ due_pairs o es ps
due-in dir o [] ps = refl
due-in dir o (e ∷ es) [] = refl
due-in dir o (e ∷ es) (p ∷ ps) = ap₂ ◌∷◌ refl (due-in dir o es ps)

pub pairs-of-area : (dir o end : ℕ) (es : List EntryRec) (area : DataArea) → area ≡ written_area dir es end → due_pairs o area.entries area.places ≡ due_pairs o es (offsets 64 es)
unfolding written_area
pairs-of-area dir o end es area is = ap (λ (a : DataArea). due_pairs o a.entries a.places) is ∙ due-in dir o es (offsets 64 es)

pairs-is : (dir o : ℕ) (es : List EntryRec) (p : List ℕ) → IsBuiltDataBlock es p → pairs_in dir false (mapped_block o p) ≡ due_pairs o es (offsets 64 es)
unfolding pairs_in
pairs-is dir o es p block = pairs-of-area dir o 4096 es (area_in dir false (mapped_block o p)) (area-is dir o es p block)

longest-rest : (at : ℕ) → longest_span (rest_span at 4096) ≡ 4096 - at
longest-rest at = by_test (at == 4096) refl
  where
    by_test : (t : Bool) → (at == 4096) ≡ t
        → longest_span (if t then [] else record { offset = at; length = 4096 - at } ∷ []) ≡ 4096 - at
    by_test true is = let e : at ≡ 4096 = eqb-true at 4096 is in omega arith
    by_test false is = omega arith

best-is : (dir o : ℕ) (es : List EntryRec) (p : List ℕ) → IsBuiltDataBlock es p → best_in dir false (mapped_block o p) ≡ record { offset = o; length = rest_in es }
unfolding best_in written_area
best-is dir o es p block =
    ap (λ (a : DataArea). let b : Best = record { offset = o; length = longest_span a.free } in b) (area-is dir o es p block)
    ∙ ap (λ (n : ℕ). let b : Best = record { offset = o; length = n } in b) (longest-rest (64 + data_length es))

pub entries-of-area : (dir end : ℕ) (es : List EntryRec) (area : DataArea) → area ≡ written_area dir es end → area.entries ≡ map (in_directory dir) es
unfolding written_area
entries-of-area dir end es area is = ap (λ (a : DataArea). a.entries) is

pub places-of-area : (dir end : ℕ) (es : List EntryRec) (area : DataArea) → area ≡ written_area dir es end → area.places ≡ offsets 64 es
unfolding written_area
places-of-area dir end es area is = ap (λ (a : DataArea). a.places) is

-- no entry is that of the directory or its parent
no_dots-in : (dir : ℕ) (es : List EntryRec) → list_any is_dots (map (in_directory dir) es) ≡ list_any is_dots es
unfolding is_dots
no_dots-in dir [] = refl
no_dots-in dir (e ∷ es) = ap (λ (b : Bool). is_dots e || b) (no_dots-in dir es)

pub no-dots : (dir : ℕ) (es : List EntryRec) → have_no_dots es ≡ true → have_no_dots (map (in_directory dir) es) ≡ true
no-dots dir es none = ap not (no_dots-in dir es) ∙ none

abbrev pub NoDots : List (List EntryRec) → Type 0
NoDots [] = Unit {0}
NoDots (es ∷ ess) = (have_no_dots es ≡ true) × NoDots ess

none-any : (es fs : List EntryRec) → have_no_dots (es ++ fs) ≡ true → (have_no_dots es ≡ true) × (have_no_dots fs ≡ true)
none-any [] fs none = (refl, none)
none-any (e ∷ es) fs none = by_test (is_dots e) none (none-any es fs)
  where
    by_test : (t : Bool) → not (t || list_any is_dots (es ++ fs)) ≡ true
        → (have_no_dots (es ++ fs) ≡ true → (have_no_dots es ≡ true) × (have_no_dots fs ≡ true))
        → (not (t || list_any is_dots es) ≡ true) × (have_no_dots fs ≡ true)
    by_test true h rest = cc
    by_test false h rest = rest h

pub no-dots-each : (ess : List (List EntryRec)) → have_no_dots (flat_map (λ (es : List EntryRec). es) ess) ≡ true → NoDots ess
no-dots-each [] none = tt
no-dots-each (es ∷ ess) none =
    let parts = none-any es (flat_map (λ (xs : List EntryRec). xs) ess) none in
    (parts.0, no-dots-each ess parts.1)

-- what fills the blocks is all
flat-ahead : (e : EntryRec) (bs : List (List EntryRec)) → flat_map (λ (es : List EntryRec). es) (ahead e bs) ≡ e ∷ flat_map (λ (es : List EntryRec). es) bs
flat-ahead e [] = refl
flat-ahead e (b ∷ bs) = refl

pub flat-filled : (at : ℕ) (es : List EntryRec) → flat_map (λ (xs : List EntryRec). xs) (filled at es) ≡ es
unfolding filled
flat-filled at [] = refl
flat-filled at (e ∷ es) =
    by_test (nat_le (at + (length e.name + 19) / 8 * 8) 4096)
    (flat-filled (at + (length e.name + 19) / 8 * 8) es) (flat-filled (64 + (length e.name + 19) / 8 * 8) es)
  where
    by_test : (t : Bool) → flat_map (λ (xs : List EntryRec). xs) (filled (at + (length e.name + 19) / 8 * 8) es) ≡ es
        → flat_map (λ (xs : List EntryRec). xs) (filled (64 + (length e.name + 19) / 8 * 8) es) ≡ es
        → flat_map (λ (xs : List EntryRec). xs)
        (if t then ahead e (filled (at + (length e.name + 19) / 8 * 8) es) else [] ∷ ahead e (filled (64 + (length e.name + 19) / 8 * 8) es)) ≡ e ∷ es
    by_test true fits full = flat-ahead e (filled (at + (length e.name + 19) / 8 * 8) es) ∙ ap (λ (xs : List EntryRec). e ∷ xs) fits
    by_test false fits full = flat-ahead e (filled (64 + (length e.name + 19) / 8 * 8) es) ∙ ap (λ (xs : List EntryRec). e ∷ xs) full

-- blocks that state these entries, one after the other
abbrev pub Both : List (List EntryRec) → List (List ℕ) → Type 0
Both [] [] = Unit {0}
Both [] (b ∷ bs) = ⊥
Both (es ∷ ess) [] = ⊥
Both (es ∷ ess) (b ∷ bs) = IsBuiltDataBlock es b × Both ess bs

pub both-from : (ess : List (List EntryRec)) (bs : List (List ℕ)) → length bs ≡ length ess
    → ((k : ℕ) → k < length ess → IsBuiltDataBlock (get_or ess k []) (get_or bs k [])) → Both ess bs
both-from [] [] long each = tt
both-from [] (b ∷ bs) long each = absurd (omega arith)
both-from (es ∷ ess) [] long each = absurd (omega arith)
both-from (es ∷ ess) (b ∷ bs) long each =
    (each 0 (omega arith), both-from ess bs (omega arith) (λ k less. each (suc k) (omega arith)))

pub pairs-all : (dir first : ℕ) (ess : List (List EntryRec)) (bs : List (List ℕ)) → Both ess bs → flat_map (pairs_in dir false) (stand first bs) ≡ pairs_from first ess
pairs-all dir first [] [] both = refl
pairs-all dir first [] (b ∷ bs) both = absurd both
pairs-all dir first (es ∷ ess) [] both = absurd both
pairs-all dir first (es ∷ ess) (b ∷ bs) both = ap₂ (λ (xs ys : List Pair). xs ++ ys) (pairs-is dir first es b both.0) (pairs-all dir (first + 1) ess bs both.1)

abbrev pub bests_from : ℕ → List (List EntryRec) → List Best
bests_from first [] = []
bests_from first (es ∷ ess) = record { offset = first; length = rest_in es } ∷ bests_from (first + 1) ess

pub bests-all : (dir first : ℕ) (ess : List (List EntryRec)) (bs : List (List ℕ)) → Both ess bs → map (best_in dir false) (stand first bs) ≡ bests_from first ess
bests-all dir first [] [] both = refl
bests-all dir first [] (b ∷ bs) both = absurd both
bests-all dir first (es ∷ ess) [] both = absurd both
bests-all dir first (es ∷ ess) (b ∷ bs) both = ap₂ ◌∷◌ (best-is dir first es b both.0) (bests-all dir (first + 1) ess bs both.1)

pub entries-all : (dir first : ℕ) (ess : List (List EntryRec)) (bs : List (List ℕ)) → Both ess bs
    → flat_map (λ (m : Mapped). (area_in dir false m).entries) (stand first bs) ≡ map (in_directory dir) (flat_map (λ (es : List EntryRec). es) ess)
entries-all dir first [] [] both = refl
entries-all dir first [] (b ∷ bs) both = absurd both
entries-all dir first (es ∷ ess) [] both = absurd both
entries-all dir first (es ∷ ess) (b ∷ bs) both =
    ap₂ (λ (xs ys : List EntryRec). xs ++ ys) (entries-of-area dir 4096 es (area_in dir false (mapped_block first b)) (area-is dir first es b both.0))
    (entries-all dir (first + 1) ess bs both.1)
    ∙ sym (map-append (in_directory dir) es (flat_map (λ (xs : List EntryRec). xs) ess))

later-one : (dir o : ℕ) (es : List EntryRec) (p : List ℕ) → IsBuiltDataBlock es p → have_no_dots es ≡ true → is_later dir (mapped_block o p) ≡ true
unfolding is_later
later-one dir o es p block none =
    let entries = entries-of-area dir 4096 es (area_in dir false (mapped_block o p)) (area-is dir o es p block) in
    let right : (is_sound_data dir false (mapped_block o p) && have_no_dots (area_in dir false (mapped_block o p)).entries) ≡ true =
    and_from _ _ (sound-is dir o es p block) (ap (λ (xs : List EntryRec). have_no_dots xs) entries ∙ no-dots dir es none) in
    ap (λ (b : Bool). if is_data (mapped_block o p) then b else true) right ∙ by_test (is_data (mapped_block o p))
  where
    by_test : (t : Bool) → (if t then true else true) ≡ true
    by_test true = refl
    by_test false = refl

pub later-beyond : (dir : ℕ) (m : Mapped) → is_data m ≡ false → is_later dir m ≡ true
unfolding is_later
later-beyond dir m beyond =
    ap (λ (b : Bool). if b then is_sound_data dir false m && have_no_dots (area_in dir false m).entries else true) beyond

pub later-all : (dir first : ℕ) (ess : List (List EntryRec)) (bs : List (List ℕ)) → Both ess bs → NoDots ess → list_all (is_later dir) (stand first bs) ≡ true
later-all dir first [] [] both none = refl
later-all dir first [] (b ∷ bs) both none = absurd both
later-all dir first (es ∷ ess) [] both none = absurd both
later-all dir first (es ∷ ess) (b ∷ bs) both none =
    and_from _ _ (later-one dir first es b both.0 none.0) (later-all dir (first + 1) ess bs both.1 none.1)

-- the entries of the first block
abbrev pub self_of : ℕ → EntryRec
self_of dir = record { dir = dir; name = 46 ∷ []; ino = dir; ftype = 2 }

abbrev pub parent_of : ℕ → ℕ → EntryRec
parent_of dir parent = record { dir = dir; name = 46 ∷ 46 ∷ []; ino = parent; ftype = 2 }

pub begins : (dir parent : ℕ) (es : List EntryRec) → have_no_dots es ≡ true
    → begin_with_dots dir (map (in_directory dir) (self_of dir ∷ parent_of dir parent ∷ es)) ≡ true
unfolding is_self is_parent_name
begins dir parent es none = and_from _ _ (and_from _ _ (and_from _ _ refl (eq-eqb dir dir refl)) refl) (no-dots dir es none)

pub stands : (dir parent : ℕ) (es : List EntryRec) → stand_first (offsets 64 (self_of dir ∷ parent_of dir parent ∷ es)) ≡ true
stands dir parent es = refl

pub first-one : (dir parent : ℕ) (es : List EntryRec) (p : List ℕ) → IsBuiltDataBlock (self_of dir ∷ parent_of dir parent ∷ es) p → have_no_dots es ≡ true
    → is_first_block dir false (mapped_block 0 p) ≡ true
unfolding is_first_block
first-one dir parent es p block none =
    let all = self_of dir ∷ parent_of dir parent ∷ es in
    let entries = entries-of-area dir 4096 all (area_in dir false (mapped_block 0 p)) (area-is dir 0 all p block) in
    let places = places-of-area dir 4096 all (area_in dir false (mapped_block 0 p)) (area-is dir 0 all p block) in
    and_from _ _ (and_from _ _ (and_from _ _ refl (sound-is dir 0 all p block))
    (ap (λ (xs : List EntryRec). begin_with_dots dir xs) entries ∙ begins dir parent es none))
    (ap (λ (ps : List ℕ). stand_first ps) places ∙ stands dir parent es)

-- the longest unused spans, by their blocks
pub end-of : (first : ℕ) (ess : List (List EntryRec)) → 1 ≤ length ess → end_of (bests_from first ess) ≡ first + length ess
end-of first [] some = absurd (omega arith)
end-of first (es ∷ []) some = refl
end-of first (es ∷ fs ∷ ess) some = end-of (first + 1) (fs ∷ ess) (omega arith) ∙ omega arith

pub best-at : (first : ℕ) (ess : List (List EntryRec)) (j : ℕ) → j < length ess → best_length_of (bests_from first ess) (first + j) ≡ get_or (map rest_in ess) j 0
best-at first [] j less = absurd (omega arith)
best-at first (es ∷ ess) zero less =
    let here : (first == first + 0) ≡ true = grind (arith, nat_tests) in
    ap (λ (t : Bool). if t then rest_in es else best_length_of (bests_from (first + 1) ess) (first + 0)) here
best-at first (es ∷ ess) (suc j) less =
    let other : (first == first + suc j) ≡ false = grind (arith, nat_tests) in
    let on : first + suc j ≡ first + 1 + j = omega arith in
    ap (λ (t : Bool). if t then rest_in es else best_length_of (bests_from (first + 1) ess) (first + suc j)) other
    ∙ (ap (best_length_of (bests_from (first + 1) ess)) on ∙ best-at (first + 1) ess j (omega arith))

pub rest-small : (ess : List (List EntryRec)) (j : ℕ) → get_or (map rest_in ess) j 0 ≤ 4032
rest-small [] j = omega arith
rest-small (es ∷ ess) zero = omega arith
rest-small (es ∷ ess) (suc j) = rest-small ess j

pub all-bests : (test : Best → Bool) (first : ℕ) (ess : List (List EntryRec))
    → ((k l : ℕ) → k < length ess → test (record { offset = first + k; length = l }) ≡ true) → list_all test (bests_from first ess) ≡ true
all-bests test first [] holds = refl
all-bests test first (es ∷ ess) holds =
    let start : first + 0 ≡ first = omega arith in
    let here : test (record { offset = first; length = rest_in es }) ≡ true =
    ap (λ (n : ℕ). test (record { offset = n; length = rest_in es })) (sym start) ∙ holds 0 (rest_in es) (omega arith) in
    and_from _ _ here (all-bests test (first + 1) ess (λ k l less.
    let on : first + 1 + k ≡ first + suc k = omega arith in
    ap (λ (n : ℕ). test (record { offset = n; length = l })) on ∙ holds (suc k) l (omega arith)))
