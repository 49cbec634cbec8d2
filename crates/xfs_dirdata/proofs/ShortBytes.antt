-- Entries that stand in a short form are its bytes.
use Rattle.std.proofs.Common.{◌≡◌, ℕ, ◌+◌, ◌≤◌, List, [], ◌∷◌, ◌++◌, length, take, refl, ◌∙◌, ap, ap₂, arith}
use Rattle.std.proofs.lemmas.List.Sums.{sum_by-cons}
use Rattle.xfs_word.specs.Field.{field_of, part_of}
use Rattle.xfs_word.proofs.Register.{AreBytes}
use Rattle.xfs_dirdata.specs.declared.records.EntryRec.{EntryRec}
use Rattle.xfs_dirdata.specs.Written.{short_size_of, data_size_of, short_length, IsShortEntry, AreShortEntries}
use Rattle.xfs_dirdata.specs.Bytes.{big_endian, short_entry_bytes, short_entries_bytes, short_bytes}
use Rattle.xfs_dirdata.proofs.Spelling.{total, Lie, part-join, part-none, parts-join, number-part, number-at, part-at}

-- an entry
short_entry-part : (form : List ℕ) (at offset : ℕ) (e : EntryRec) → AreBytes form → at + short_size_of e ≤ length form → IsShortEntry form at offset e
    → part_of form at (short_size_of e) ≡ short_entry_bytes offset e
unfolding short_entry_bytes
short_entry-part form at offset e all inside stands =
    let n = length e.name in
    let parts : List (ℕ × List ℕ) =
    (1, big_endian 1 (length e.name)) ∷ (2, big_endian 2 offset) ∷ (length e.name, e.name) ∷ (1, big_endian 1 e.ftype) ∷ (4, big_endian 4 e.ino) ∷ [] in
    let whole : short_size_of e ≡ total parts = omega arith in
    let lie : Lie form at parts = (
      number-part form at 1 n all (omega arith) stands.name_length,
      (
        number-part form (at + 1) 2 offset all (omega arith) stands.data_offset,
        (
          part-at form (at + 1 + 2) (at + 3) n n e.name (omega arith) refl stands.name,
          (
            number-at form (at + 1 + 2 + n) (at + 3 + n) 1 e.ftype all (omega arith) (omega arith) stands.ftype,
            (
              number-at form (at + 1 + 2 + n + 1) (at + 4 + n) 4 e.ino all (omega arith) (omega arith) stands.ino,
              tt,
            ),
          ),
        ),
      ),
    ) in
    ap (part_of form at) whole ∙ parts-join form at parts lie

-- entries
short_entries-part : (form : List ℕ) (at offset : ℕ) (es : List EntryRec) → AreBytes form → at + short_length es ≤ length form
    → AreShortEntries form at offset es → part_of form at (short_length es) ≡ short_entries_bytes offset es
short_entries-part form at offset [] all inside stand = part-none form at
short_entries-part form at offset (e ∷ es) all inside stand =
    let size = sum_by-cons short_size_of e es in
    ap (part_of form at) size
    ∙ (part-join form at (short_size_of e) (short_length es)
    ∙ ap₂ ◌++◌ (short_entry-part form at offset e all (omega (arith, size)) stand.0)
    (short_entries-part form (at + short_size_of e) (offset + data_size_of e) es all (omega (arith, size)) stand.1))

-- all of a short form
pub short-part : (form : List ℕ) (parent size : ℕ) (es : List EntryRec) → AreBytes form → size ≡ 6 + short_length es → size ≤ length form
    → field_of form 0 1 ≡ length es → field_of form 1 1 ≡ 0 → field_of form 2 4 ≡ parent → AreShortEntries form 6 96 es
    → take size form ≡ short_bytes parent es
unfolding short_bytes part_of
short-part form parent size es all long inside count wide above stand =
    let parts : List (ℕ × List ℕ) =
    (1, big_endian 1 (length es)) ∷ (1, big_endian 1 0) ∷ (4, big_endian 4 parent) ∷ (short_length es, short_entries_bytes 96 es) ∷ [] in
    let whole : size ≡ total parts = omega arith in
    let lie : Lie form 0 parts = (
      number-part form 0 1 (length es) all (omega arith) count,
      (
        number-part form 1 1 0 all (omega arith) wide,
        (
          number-part form 2 4 parent all (omega arith) above,
          (
            short_entries-part form 6 96 es all (omega arith) stand,
            tt,
          ),
        ),
      ),
    ) in
    ap (part_of form 0) whole ∙ parts-join form 0 parts lie
