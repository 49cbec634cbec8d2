-- Entries that are written into a data block are read from it.
use Rattle.std.proofs.Common.{◌≡◌, ℕ, suc, zero, true, false, ◌+◌, ◌-◌, ◌%◌, ◌≤◌, ◌<◌, ◌==◌, ◌&&◌, nat_le, nat_lt, ◌++◌, [], ◌∷◌, List, length, map, Option, Some, refl, sym, ◌∙◌, ap, ap₂, subst, inl, inr, arith, add-zero}
use Rattle.std.specs.List.{filter}
use Rattle.std.specs.Option.{option_map}
use Rattle.std.proofs.lemmas.List.{append-nil}
use Rattle.std.proofs.lemmas.List.Elements.{filter-append}
use Rattle.std.proofs.lemmas.List.Sums.{sum_by-cons}
use Rattle.std.proofs.lemmas.Bool.{cond-true, cases_lt}
use Rattle.std.proofs.lemmas.Bool.Decides.{nat_tests}
use Rattle.xfs_dirdata.specs.declared.records.EntryRec.{EntryRec}
use Rattle.xfs_dirdata.specs.declared.records.FreeSpan.{FreeSpan}
use Rattle.xfs_dirdata.specs.Sizes.{data_size}
use Rattle.xfs_dirdata.specs.Best.{missing, bests_of, are_bests}
use Rattle.xfs_dirdata.specs.Data.{DataArea, is_span, is_entry, is_item, size_at, span_at, entry_at, items, stated_bests, best_at, has_bests, area_of}
use Rattle.xfs_dirdata.specs.Written.{in_directory, data_size_of, data_length, IsDataEntry, AreDataEntries, offsets, IsUnused, first_entries, rest_span, written_area}
use Rattle.xfs_dirdata.proofs.Leading.{behind, behind-nothing, behind-cons, behind-all}
use Rattle.xfs_dirdata.proofs.Items.{items-step, items-end, area-read}
use Rattle.xfs_dirdata.proofs.Same.{SameBetween}
use Rattle.xfs_dirdata.proofs.Standing.{few_entries}

-- an entry stays where its bytes stay
pub data_entry-stays : (from end : ℕ) (old new : List ℕ) (at : ℕ) (name : List ℕ) (ino ftype : ℕ) → SameBetween from end old new → from ≤ at
    → at + data_size (length name) ≤ end → IsDataEntry old at name ino ftype → IsDataEntry new at name ino ftype
unfolding is_span
data_entry-stays from end old new at name ino ftype same low high was = record {
  entry = ap (λ (n : ℕ). n == 0xffff) (same.numbers at 2 (omega arith) (omega arith)) ∙ was.entry;
  ino = same.numbers at 8 (omega arith) (omega arith) ∙ was.ino;
  name_length = same.numbers (at + 8) 1 (omega arith) (omega arith) ∙ was.name_length;
  name = same.parts (at + 9) (length name) (omega arith) (omega arith) ∙ was.name;
  ftype = same.numbers (at + 9 + length name) 1 (omega arith) (omega arith) ∙ was.ftype;
  padding = same.parts (at + 10 + length name) (at + data_size (length name) - 2 - (at + 10 + length name)) (omega arith) (omega arith) ∙ was.padding;
  tag = same.numbers (at + data_size (length name) - 2) 2 (omega arith) (omega arith) ∙ was.tag;
}

pub data_entries-stay : (from end : ℕ) (old new : List ℕ) (at : ℕ) (es : List EntryRec) → SameBetween from end old new → from ≤ at
    → at + data_length es ≤ end → AreDataEntries old at es → AreDataEntries new at es
data_entries-stay from end old new at [] same low high was = was
data_entries-stay from end old new at (e ∷ es) same low high was =
    let size = sum_by-cons data_size_of e es in (
      data_entry-stays from end old new at e.name e.ino e.ftype same low (omega arith) was.0,
      data_entries-stay from end old new (at + data_size_of e) es same (omega arith) (omega arith) was.1,
    )

-- entries behind entries
pub data_entries-join : (bytes : List ℕ) (at : ℕ) (es fs : List EntryRec) → AreDataEntries bytes at es → AreDataEntries bytes (at + data_length es) fs
    → AreDataEntries bytes at (es ++ fs)
data_entries-join bytes at [] fs first second = subst (λ (a : ℕ). AreDataEntries bytes a fs) (add-zero at) second
data_entries-join bytes at (e ∷ es) fs first second =
    let size = sum_by-cons data_size_of e es in
    let place : at + data_length (e ∷ es) ≡ at + data_size_of e + data_length es = omega arith in
    (first.0, data_entries-join bytes (at + data_size_of e) es fs first.1 (subst (λ (a : ℕ). AreDataEntries bytes a fs) place second))

-- an entry that stands keeps the rules and is read
entry-size : (bytes : List ℕ) (at : ℕ) (name : List ℕ) (ino ftype : ℕ) → IsDataEntry bytes at name ino ftype → size_at bytes at ≡ data_size (length name)
entry-size bytes at name ino ftype stands = rw (stands.entry, stands.name_length) refl

entry-item : (bytes : List ℕ) (at : ℕ) (name : List ℕ) (ino ftype : ℕ) → IsDataEntry bytes at name ino ftype → at + data_size (length name) ≤ length bytes
    → is_item bytes at ≡ true
unfolding is_item
entry-item bytes at name ino ftype stands inside =
    let one : nat_le (at + data_size (length name)) (length bytes) ≡ true = grind (arith, nat_tests) in
    let two : (at == at) ≡ true = grind (arith, nat_tests) in
    rw (stands.entry, stands.name_length, stands.tag, one, two) refl

entry-reads : (dir : ℕ) (bytes : List ℕ) (at : ℕ) (e : EntryRec) → IsDataEntry bytes at e.name e.ino e.ftype → entry_at dir bytes at ≡ in_directory dir e
unfolding entry_at
entry-reads dir bytes at e stands = rw (stands.name_length, stands.name, stands.ino, stands.ftype) refl

pub entries-read : (dir : ℕ) (bytes : List ℕ) (at : ℕ) (es : List EntryRec) → AreDataEntries bytes at es
    → map (entry_at dir bytes) (offsets at es) ≡ map (in_directory dir) es
entries-read dir bytes at [] stand = refl
entries-read dir bytes at (e ∷ es) stand = ap₂ ◌∷◌ (entry-reads dir bytes at e stand.0) (entries-read dir bytes (at + data_size_of e) es stand.1)

pub entries-places : (bytes : List ℕ) (at : ℕ) (es : List EntryRec) → AreDataEntries bytes at es → filter (is_entry bytes) (offsets at es) ≡ offsets at es
entries-places bytes at [] stand = refl
entries-places bytes at (e ∷ es) stand = rw ((stand.0).entry) (ap (λ (ps : List ℕ). at ∷ ps) (entries-places bytes (at + data_size_of e) es stand.1))

pub entries-spans : (bytes : List ℕ) (at : ℕ) (es : List EntryRec) → AreDataEntries bytes at es → filter (is_span bytes) (offsets at es) ≡ []
entries-spans bytes at [] stand = refl
entries-spans bytes at (e ∷ es) stand = rw ((stand.0).entry) (entries-spans bytes (at + data_size_of e) es stand.1)

pub items-entries : (m n : ℕ) (bytes : List ℕ) (at : ℕ) (es : List EntryRec) → m ≡ length es + n → AreDataEntries bytes at es
    → at + data_length es ≤ length bytes → items m bytes at ≡ behind (offsets at es) (items n bytes (at + data_length es))
items-entries m n bytes at [] count stand inside =
    let same : m ≡ n = omega arith in
    ap (λ (k : ℕ). items k bytes at) same ∙ (ap (λ (a : ℕ). items n bytes a) (sym (add-zero at)) ∙ sym (behind-nothing (items n bytes (at + 0))))
items-entries zero n bytes at (e ∷ es) count stand inside = absurd (omega arith)
items-entries (suc m) n bytes at (e ∷ es) count stand inside =
    let size = sum_by-cons data_size_of e es in
    let left : m ≡ length es + n = omega arith in
    let before : at < length bytes = omega arith in
    let within : at + data_size_of e ≤ length bytes = omega arith in
    let rest_within : at + data_size_of e + data_length es ≤ length bytes = omega arith in
    let step = items-step m bytes at before (entry-item bytes at e.name e.ino e.ftype stand.0 within) in
    let next : at + size_at bytes at ≡ at + data_size_of e = ap (λ (n : ℕ). at + n) (entry-size bytes at e.name e.ino e.ftype stand.0) in
    let rest = items-entries m n bytes (at + data_size_of e) es left stand.1 rest_within in
    let place : at + data_size_of e + data_length es ≡ at + data_length (e ∷ es) = omega arith in
    step ∙ (ap (λ (a : ℕ). option_map (λ more. at ∷ more) (items m bytes a)) next
    ∙ (ap (option_map (λ more. at ∷ more)) rest
    ∙ (behind-cons at (offsets (at + data_size_of e) es) (items n bytes (at + data_size_of e + data_length es))
    ∙ ap (λ (a : ℕ). behind (at ∷ offsets (at + data_size_of e) es) (items n bytes a)) place)))

-- an unused span that reaches the end keeps the rules
unused-item : (bytes : List ℕ) (at size : ℕ) → IsUnused bytes at size → 8 ≤ size → size % 8 ≡ 0 → at + size ≡ length bytes → is_item bytes at ≡ true
unfolding is_item
unused-item bytes at size unused some aligned end =
    let one : nat_le 8 size ≡ true = grind (arith, nat_tests) in
    let two : (size % 8 == 0) ≡ true = grind (arith, nat_tests) in
    let three : nat_le (at + size) (length bytes) ≡ true = grind (arith, nat_tests) in
    let four : (at == at) ≡ true = grind (arith, nat_tests) in
    let five : (at + size == length bytes) ≡ true = grind (arith, nat_tests) in
    rw (unused.mark, unused.long, one, two, three, unused.tag, four, five) refl

-- so the places of all items are those of the entries and of the span
items-rest : (n : ℕ) (bytes : List ℕ) (at size : ℕ) → 0 < n → IsUnused bytes at size → 8 ≤ size → size % 8 ≡ 0 → at + size ≡ length bytes
    → items n bytes at ≡ Some (at ∷ [])
items-rest zero bytes at size more unused some aligned end = absurd (omega arith)
items-rest (suc n) bytes at size more unused some aligned end =
    let before : at < length bytes = omega arith in
    let long : size_at bytes at ≡ size = rw (unused.mark, unused.long) refl in
    let next : at + size_at bytes at ≡ length bytes = ap (λ (k : ℕ). at + k) long ∙ end in
    items-step n bytes at before (unused-item bytes at size unused some aligned end)
    ∙ ap (option_map (λ more. at ∷ more)) (items-end n bytes (at + size_at bytes at) next)

-- one span is the largest, and none are none
bests-one : (s : FreeSpan) → 1 ≤ s.length → bests_of (s ∷ []) ≡ s ∷ missing ∷ missing ∷ []
unfolding bests_of
bests-one s some = let one : nat_lt 0 s.length ≡ true = grind (arith, nat_tests) in rw one refl

are_bests-one : (s : FreeSpan) → 1 ≤ s.length → are_bests (s ∷ []) s missing missing ≡ true
unfolding are_bests
are_bests-one s some =
    let away : (s.offset == 0 && s.length == 0) ≡ false = grind (arith, nat_tests) in
    let same : (s.offset == s.offset && s.length == s.length) ≡ true = grind (arith, nat_tests) in
    let short : nat_le s.length 0 ≡ false = grind (arith, nat_tests) in
    let low : nat_le 0 s.length ≡ true = grind (arith, nat_tests) in
    rw (away, same, low, short) refl

are_bests-at : (free : List FreeSpan) (a b c x y z : FreeSpan) → a ∷ b ∷ c ∷ [] ≡ x ∷ y ∷ z ∷ [] → are_bests free a b c ≡ are_bests free x y z
are_bests-at free a b c x y z whole =
    let first : a ≡ x = cc in
    let second : b ≡ y = cc in
    let third : c ≡ z = cc in
    rw (first, second, third) refl

has_bests-one : (bytes : List ℕ) (s : FreeSpan) → 1 ≤ s.length → stated_bests bytes ≡ bests_of (s ∷ []) → has_bests bytes (s ∷ []) ≡ true
has_bests-one bytes s some stated =
    are_bests-at (s ∷ []) (best_at bytes 0) (best_at bytes 1) (best_at bytes 2) s missing missing (stated ∙ bests-one s some) ∙ are_bests-one s some

bests-none : bests_of [] ≡ missing ∷ missing ∷ missing ∷ []
unfolding bests_of
bests-none = refl

are_bests-none : are_bests [] missing missing missing ≡ true
unfolding are_bests
are_bests-none = refl

has_bests-none : (bytes : List ℕ) → stated_bests bytes ≡ bests_of [] → has_bests bytes [] ≡ true
has_bests-none bytes stated =
    are_bests-at [] (best_at bytes 0) (best_at bytes 1) (best_at bytes 2) missing missing missing (stated ∙ bests-none) ∙ are_bests-none

-- a block is read that is full of entries
area-full : (dir : ℕ) (bytes : List ℕ) (es : List EntryRec) → AreDataEntries bytes 64 es → 64 + data_length es ≡ length bytes
    → stated_bests bytes ≡ bests_of [] → area_of dir bytes ≡ Some (record { entries = map (in_directory dir) es; places = offsets 64 es; free = []; bests = bests_of [] })
area-full dir bytes es stand end bests =
    let few = few_entries es in
    let count : length bytes ≡ length es + (length bytes - length es) = omega arith in
    let within : 64 + data_length es ≤ length bytes = omega arith in
    let all = items-entries (length bytes) (length bytes - length es) bytes 64 es count stand within
    ∙ (ap (behind (offsets 64 es)) (items-end (length bytes - length es) bytes (64 + data_length es) end) ∙ behind-all (offsets 64 es)) in
    let long : 64 ≤ length bytes = omega arith in
    let places = entries-places bytes 64 es stand in
    let spans = entries-spans bytes 64 es stand in
    area-read dir bytes (offsets 64 es) (map (in_directory dir) es) (offsets 64 es) [] (bests_of []) all long
    (sym (ap (map (entry_at dir bytes)) places ∙ entries-read dir bytes 64 es stand)) (sym places) (sym (ap (map (span_at bytes)) spans)) (sym bests)
    ∙ cond-true _ _ _ (has_bests-none bytes bests)

-- a block is read that has an unused span behind its entries
area-rest : (dir : ℕ) (bytes : List ℕ) (es : List EntryRec) (at size : ℕ) → AreDataEntries bytes 64 es → 64 + data_length es ≡ at → 8 ≤ size → size % 8 ≡ 0
    → at + size ≡ length bytes → IsUnused bytes at size → stated_bests bytes ≡ bests_of (record { offset = at; length = size } ∷ [])
    → area_of dir bytes ≡ Some (record {
      entries = map (in_directory dir) es;
      places = offsets 64 es;
      free = record { offset = at; length = size } ∷ [];
      bests = bests_of (record { offset = at; length = size } ∷ []);
    })
area-rest dir bytes es at size stand behind_all some aligned end unused bests =
    let span : FreeSpan = record { offset = at; length = size } in
    let few = few_entries es in
    let count : length bytes ≡ length es + (length bytes - length es) = omega arith in
    let within : 64 + data_length es ≤ length bytes = omega arith in
    let more : 0 < length bytes - length es = omega arith in
    let rest : items (length bytes - length es) bytes (64 + data_length es) ≡ Some (at ∷ []) =
    ap (items (length bytes - length es) bytes) behind_all ∙ items-rest (length bytes - length es) bytes at size more unused some aligned end in
    let all = items-entries (length bytes) (length bytes - length es) bytes 64 es count stand within ∙ ap (behind (offsets 64 es)) rest in
    let long : 64 ≤ length bytes = omega arith in
    let no_entry : filter (is_entry bytes) (at ∷ []) ≡ [] = rw unused.mark refl in
    let one_span : filter (is_span bytes) (at ∷ []) ≡ at ∷ [] = rw unused.mark refl in
    let places : filter (is_entry bytes) (offsets 64 es ++ at ∷ []) ≡ offsets 64 es =
    filter-append (is_entry bytes) (offsets 64 es) (at ∷ []) ∙ (ap₂ (λ (xs ys : List ℕ). xs ++ ys) (entries-places bytes 64 es stand) no_entry ∙ append-nil (offsets 64 es)) in
    let spans : filter (is_span bytes) (offsets 64 es ++ at ∷ []) ≡ at ∷ [] =
    filter-append (is_span bytes) (offsets 64 es) (at ∷ []) ∙ ap₂ (λ (xs ys : List ℕ). xs ++ ys) (entries-spans bytes 64 es stand) one_span in
    let free : map (span_at bytes) (at ∷ []) ≡ span ∷ [] = rw unused.long refl in
    let right : 1 ≤ span.length = omega arith in
    area-read dir bytes (offsets 64 es ++ at ∷ []) (map (in_directory dir) es) (offsets 64 es) (span ∷ []) (bests_of (span ∷ [])) all long
    (sym (ap (map (entry_at dir bytes)) places ∙ entries-read dir bytes 64 es stand)) (sym places)
    (sym (ap (map (span_at bytes)) spans ∙ free)) (sym bests)
    ∙ cond-true _ _ _ (has_bests-one bytes span right bests)

written-is : (dir : ℕ) (es : List EntryRec) (at end : ℕ) (free : List FreeSpan) → 64 + data_length es ≡ at → rest_span at end ≡ free
    → written_area dir es end ≡ record { entries = map (in_directory dir) es; places = offsets 64 es; free = free; bests = bests_of free }
unfolding written_area
written-is dir es at end free place rest =
    ap (λ (f : List FreeSpan). let r : DataArea = record { entries = map (in_directory dir) es; places = offsets 64 es; free = f; bests = bests_of f } in r)
    (ap (λ (a : ℕ). rest_span a end) place ∙ rest)

-- so what is written is read
area-reads : (dir : ℕ) (bytes : List ℕ) (es : List EntryRec) (at : ℕ) → AreDataEntries bytes 64 es → 64 + data_length es ≡ at → at ≤ length bytes
    → at % 8 ≡ 0 → length bytes % 8 ≡ 0 → (at < length bytes → IsUnused bytes at (length bytes - at))
    → stated_bests bytes ≡ bests_of (rest_span at (length bytes)) → area_of dir bytes ≡ Some (written_area dir es (length bytes))
area-reads dir bytes es at stand place inside aligned whole unused bests =
    elim (cases_lt at (length bytes)) [
      | inl before ↦
          let size = length bytes - at in
          let span : FreeSpan = record { offset = at; length = size } in
          let test : (at == length bytes) ≡ false = grind (arith, nat_tests) in
          let rest : rest_span at (length bytes) ≡ span ∷ [] = rw test refl in
          let some : 8 ≤ length bytes - at = omega arith in
          let even : (length bytes - at) % 8 ≡ 0 = omega arith in
          let end : at + (length bytes - at) ≡ length bytes = omega arith in
          area-rest dir bytes es at (length bytes - at) stand place some even end (unused before) (bests ∙ ap bests_of rest)
          ∙ ap (λ (a : DataArea). Some a) (sym (written-is dir es at (length bytes) (span ∷ []) place rest))
      | inr full ↦
          let end : at ≡ length bytes = omega arith in
          let test : (at == length bytes) ≡ true = grind (arith, nat_tests) in
          let rest : rest_span at (length bytes) ≡ [] = rw test refl in
          area-full dir bytes es stand (place ∙ end) (bests ∙ ap bests_of rest)
          ∙ ap (λ (a : DataArea). Some a) (sym (written-is dir es at (length bytes) [] place rest))
    ]

pub area-reads_within : (dir : ℕ) (bytes : List ℕ) (es : List EntryRec) (at end : ℕ) → length bytes ≡ end → AreDataEntries bytes 64 es → 64 + data_length es ≡ at
    → at ≤ end → at % 8 ≡ 0 → end % 8 ≡ 0 → (at < end → IsUnused bytes at (end - at)) → stated_bests bytes ≡ bests_of (rest_span at end)
    → area_of dir bytes ≡ Some (written_area dir es end)
area-reads_within dir bytes es at end long stand place =
    subst (λ (n : ℕ). at ≤ n → at % 8 ≡ 0 → n % 8 ≡ 0 → (at < n → IsUnused bytes at (n - at)) → stated_bests bytes ≡ bests_of (rest_span at n)
    → area_of dir bytes ≡ Some (written_area dir es n))
    long (area-reads dir bytes es at stand place)

-- the entries of a directory and its parent
pub first-stand : (first : Option (ℕ × ℕ)) (dir parent : ℕ) (bytes : List ℕ) → first ≡ Some (dir, parent) → IsDataEntry bytes 64 (46 ∷ []) dir 2
    → IsDataEntry bytes 80 (46 ∷ 46 ∷ []) parent 2 → AreDataEntries bytes 64 (first_entries first)
first-stand first dir parent bytes given one two = subst (λ (f : Option (ℕ × ℕ)). AreDataEntries bytes 64 (first_entries f)) (sym given) (one, (two, tt))

-- entries take a multiple of 8 bytes
pub data_length-aligned : (es : List EntryRec) → data_length es % 8 ≡ 0
data_length-aligned [] = refl
data_length-aligned (e ∷ es) = let size = sum_by-cons data_size_of e es in let rest = data_length-aligned es in omega arith
