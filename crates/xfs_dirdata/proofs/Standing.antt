-- Entries that are written into a short form are read from it.
use Rattle.std.proofs.Common.{◌≡◌, ℕ, true, ◌+◌, ◌*◌, ◌%◌, ◌≤◌, ◌==◌, nat_le, ◌++◌, [], ◌∷◌, List, length, map, Some, refl, ◌∙◌, ap, ap₂, subst, arith, add-zero, take, length-take}
use Rattle.std.specs.List.{sum_by}
use Rattle.std.proofs.lemmas.List.Sums.{sum_by-append, sum_by-cons}
use Rattle.std.proofs.lemmas.Bool.Decides.{nat_tests}
use Rattle.xfs_word.specs.Field.{field_of}
use Rattle.xfs_dirdata.specs.declared.records.EntryRec.{EntryRec}
use Rattle.xfs_dirdata.specs.Sizes.{data_size, short_size}
use Rattle.xfs_dirdata.specs.Short.{short_entry, is_short_entry, short_entries, short_size_at, data_end_at, index_size, short_of}
use Rattle.xfs_dirdata.specs.Written.{in_directory, short_size_of, data_size_of, short_length, data_length, IsShortEntry, AreShortEntries}
use Rattle.xfs_dirdata.proofs.Same.{SameBetween, same_in_front}

-- an entry stays where its bytes stay
short_entry-stays : (end : ℕ) (old new : List ℕ) (at offset : ℕ) (e : EntryRec) → SameBetween 0 end old new → at + short_size_of e ≤ end
    → IsShortEntry old at offset e → IsShortEntry new at offset e
short_entry-stays end old new at offset e same inside was = record {
  name_length = same.numbers at 1 (omega arith) (omega arith) ∙ was.name_length;
  data_offset = same.numbers (at + 1) 2 (omega arith) (omega arith) ∙ was.data_offset;
  name = same.parts (at + 3) (length e.name) (omega arith) (omega arith) ∙ was.name;
  ftype = same.numbers (at + 3 + length e.name) 1 (omega arith) (omega arith) ∙ was.ftype;
  ino = same.numbers (at + 4 + length e.name) 4 (omega arith) (omega arith) ∙ was.ino;
}

pub short_entries-stay : (end : ℕ) (old new : List ℕ) (at offset : ℕ) (es : List EntryRec) → SameBetween 0 end old new → at + short_length es ≤ end
    → AreShortEntries old at offset es → AreShortEntries new at offset es
short_entries-stay end old new at offset [] same inside was = was
short_entries-stay end old new at offset (e ∷ es) same inside was =
    let size = sum_by-cons short_size_of e es in (
      short_entry-stays end old new at offset e same (omega arith) was.0,
      short_entries-stay end old new (at + short_size_of e) (offset + data_size_of e) es same (omega arith) was.1,
    )

-- one more entry stands behind
pub short_entries-more : (form : List ℕ) (at offset : ℕ) (es : List EntryRec) (e : EntryRec) → AreShortEntries form at offset es
    → IsShortEntry form (at + short_length es) (offset + data_length es) e → AreShortEntries form at offset (es ++ e ∷ [])
short_entries-more form at offset [] e were one =
    (subst (λ (o : ℕ). IsShortEntry form at o e) (add-zero offset) (subst (λ (a : ℕ). IsShortEntry form a (offset + 0) e) (add-zero at) one), tt)
short_entries-more form at offset (x ∷ es) e were one =
    let size = sum_by-cons short_size_of x es in
    let data_bytes = sum_by-cons data_size_of x es in
    let place : at + short_length (x ∷ es) ≡ at + short_size_of x + short_length es = omega arith in
    let data_place : offset + data_length (x ∷ es) ≡ offset + data_size_of x + data_length es = omega arith in (
      were.0,
      short_entries-more form (at + short_size_of x) (offset + data_size_of x) es e were.1
          (subst (λ (o : ℕ). IsShortEntry form (at + short_size_of x + short_length es) o e) data_place
          (subst (λ (a : ℕ). IsShortEntry form a (offset + data_length (x ∷ es)) e) place one)),
    )

-- an entry that stands is read
short_entry-reads : (dir : ℕ) (form : List ℕ) (at offset : ℕ) (e : EntryRec) → IsShortEntry form at offset e → short_entry dir form at ≡ in_directory dir e
unfolding short_entry
short_entry-reads dir form at offset e stands = rw (stands.name_length, stands.name, stands.ino, stands.ftype) refl

is_short_entry-stands : (form : List ℕ) (at offset : ℕ) (e : EntryRec) → IsShortEntry form at offset e → at + short_size_of e ≤ length form → offset % 8 ≡ 0
    → is_short_entry form at offset ≡ true
is_short_entry-stands form at offset e stands inside aligned =
    rw (stands.name_length, stands.data_offset)
    (let one : nat_le (at + short_size_of e) (length form) ≡ true = grind (arith, nat_tests) in
    let two : (offset % 8 == 0) ≡ true = grind (arith, nat_tests) in
    let three : nat_le offset offset ≡ true = grind (arith, nat_tests) in
    rw (one, two, three) refl)

pub short_entries-read : (dir : ℕ) (form : List ℕ) (tail at least : ℕ) (es : List EntryRec) → AreShortEntries form at least es → at + short_length es ≡ length form
    → least % 8 ≡ 0 → least + data_length es + tail ≤ 4096 → short_entries dir form tail (length es) at least ≡ Some (map (in_directory dir) es)
unfolding short_entries
short_entries-read dir form tail at least [] stand end aligned single =
    let one : (at == length form) ≡ true = grind (arith, nat_tests) in
    let two : nat_le (least + tail) 4096 ≡ true = grind (arith, nat_tests) in
    rw (one, two) refl
short_entries-read dir form tail at least (e ∷ es) stand end aligned single =
    let size = sum_by-cons short_size_of e es in
    let data_bytes = sum_by-cons data_size_of e es in
    let sound = is_short_entry-stands form at least e stand.0 (omega arith) aligned in
    let next : at + short_size_at form at ≡ at + short_size_of e = ap (λ (n : ℕ). at + short_size n) (stand.0).name_length in
    let close : data_end_at form at ≡ least + data_size_of e = ap₂ (λ (o n : ℕ). o + data_size n) (stand.0).data_offset (stand.0).name_length in
    let rest = short_entries-read dir form tail (at + short_size_of e) (least + data_size_of e) es stand.1 (omega arith) (omega arith) (omega arith) in
    rw (sound, next, close, rest, short_entry-reads dir form at least e stand.0) refl

-- entries have some bytes each
pub few_entries : (es : List EntryRec) → 16 * length es ≤ data_length es
few_entries [] = omega arith
few_entries (e ∷ es) = let data_bytes = sum_by-cons data_size_of e es in let rest = few_entries es in omega arith

-- a short form that is written is read
pub short_form-reads : (dir parent size : ℕ) (form : List ℕ) (es : List EntryRec) → size ≡ 6 + short_length es → size ≤ length form
    → field_of form 0 1 ≡ length es → field_of form 1 1 ≡ 0 → field_of form 2 4 ≡ parent → AreShortEntries form 6 96 es
    → 96 + data_length es + index_size (length es) ≤ 4096
    → short_of dir (take size form) ≡ Some (record { parent = parent; entries = map (in_directory dir) es })
unfolding short_of
short_form-reads dir parent size form es long inside count wide above stand single =
    let same = same_in_front form size inside in
    let length_is : length (take size form) ≡ size = omega (arith, length-take size form) in
    let one : nat_le 6 (length (take size form)) ≡ true = grind (arith, nat_tests) in
    let two : field_of (take size form) 1 1 ≡ 0 = same.numbers 1 1 (omega arith) (omega arith) ∙ wide in
    let three : field_of (take size form) 0 1 ≡ length es = same.numbers 0 1 (omega arith) (omega arith) ∙ count in
    let four : field_of (take size form) 2 4 ≡ parent = same.numbers 2 4 (omega arith) (omega arith) ∙ above in
    let entries = short_entries-read dir (take size form) (index_size (length es)) 6 96 es (short_entries-stay size form (take size form) 6 96 es same (omega arith) stand)
    (omega arith) refl single in
    rw (one, two, three, four, entries) refl

-- the bytes of one more entry
pub bytes-more : (size_of : EntryRec → ℕ) (es : List EntryRec) (e : EntryRec) → sum_by size_of (es ++ e ∷ []) ≡ sum_by size_of es + size_of e
bytes-more size_of es e = sum_by-append size_of es (e ∷ []) ∙ ap (λ (n : ℕ). sum_by size_of es + n) (sum_by-cons size_of e [] ∙ add-zero (size_of e))
