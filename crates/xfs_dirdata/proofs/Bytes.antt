-- Entries and unused spans that stand in a data block or in a short form are its bytes.
use Rattle.std.proofs.Common.{◌≡◌, ℕ, ◌+◌, ◌-◌, ◌*◌, ◌%◌, ◌<◌, ◌≤◌, ◌==◌, inl, inr, true, false, List, [], ◌∷◌, ◌++◌, length, refl, sym, ◌∙◌, ap, ap₂, arith}
use Rattle.std.specs.List.{concat, flat_map}
use Rattle.std.proofs.lemmas.Bool.{cases_lt, eqb-true}
use Rattle.std.proofs.lemmas.Bool.Decides.{nat_tests}
use Rattle.std.proofs.lemmas.List.{append-nil}
use Rattle.std.proofs.lemmas.List.Sums.{sum_by-cons}
use Rattle.xfs_word.specs.Field.{field_of, part_of, zeros}
use Rattle.xfs_word.proofs.Register.{AreBytes}
use Rattle.xfs_dirdata.specs.declared.records.EntryRec.{EntryRec}
use Rattle.xfs_dirdata.specs.declared.records.FreeSpan.{FreeSpan}
use Rattle.xfs_dirdata.specs.Best.{bests_of}
use Rattle.xfs_dirdata.specs.Data.{is_span, best_at, stated_bests}
use Rattle.xfs_dirdata.specs.Written.{data_size_of, data_length, IsDataEntry, AreDataEntries, IsUnused, rest_span}
use Rattle.xfs_dirdata.specs.Bytes.{big_endian, entry_bytes, entries_bytes, free_span_bytes, best_bytes, data_bytes}
use Rattle.xfs_dirdata.proofs.Spelling.{total, Lie, part-join, part-none, parts-join, number-part, number-at, part-at}

-- an entry
pub entry-part : (bytes : List ℕ) (at : ℕ) (e : EntryRec) → AreBytes bytes → at + data_size_of e ≤ length bytes → IsDataEntry bytes at e.name e.ino e.ftype
    → part_of bytes at (data_size_of e) ≡ entry_bytes at e
unfolding entry_bytes
entry-part bytes at e all inside stands =
    let n = length e.name in
    let pad = data_size_of e - (length e.name + 12) in
    let parts : List (ℕ × List ℕ) =
    (8, big_endian 8 e.ino) ∷ (1, big_endian 1 (length e.name)) ∷ (length e.name, e.name) ∷ (1, big_endian 1 e.ftype)
    ∷ (data_size_of e - (length e.name + 12), zeros (data_size_of e - (length e.name + 12))) ∷ (2, big_endian 2 at) ∷ [] in
    let whole : data_size_of e ≡ total parts = omega arith in
    let gap : at + data_size_of e - 2 - (at + 10 + length e.name) ≡ data_size_of e - (length e.name + 12) = omega arith in
    let lie : Lie bytes at parts = (
      number-part bytes at 8 e.ino all (omega arith) stands.ino,
      (
        number-part bytes (at + 8) 1 n all (omega arith) stands.name_length,
        (
          part-at bytes (at + 8 + 1) (at + 9) n n e.name (omega arith) refl stands.name,
          (
            number-at bytes (at + 8 + 1 + n) (at + 9 + n) 1 e.ftype all (omega arith) (omega arith) stands.ftype,
            (
              part-at bytes (at + 8 + 1 + n + 1) (at + 10 + n) pad (at + data_size_of e - 2 - (at + 10 + n)) (zeros pad) (omega arith) (sym gap) (stands.padding ∙ ap zeros gap),
              (
                number-at bytes (at + 8 + 1 + n + 1 + pad) (at + data_size_of e - 2) 2 at all (omega arith) (omega arith) stands.tag,
                tt,
              ),
            ),
          ),
        ),
      ),
    ) in
    ap (part_of bytes at) whole ∙ parts-join bytes at parts lie

-- entries
pub entries-part : (bytes : List ℕ) (at : ℕ) (es : List EntryRec) → AreBytes bytes → at + data_length es ≤ length bytes → AreDataEntries bytes at es
    → part_of bytes at (data_length es) ≡ entries_bytes at es
entries-part bytes at [] all inside stand = part-none bytes at
entries-part bytes at (e ∷ es) all inside stand =
    let size = sum_by-cons data_size_of e es in
    ap (part_of bytes at) size
    ∙ (part-join bytes at (data_size_of e) (data_length es)
    ∙ ap₂ ◌++◌ (entry-part bytes at e all (omega (arith, size)) stand.0) (entries-part bytes (at + data_size_of e) es all (omega (arith, size)) stand.1))

-- an unused span
pub span-part : (bytes : List ℕ) (at size : ℕ) → AreBytes bytes → 8 ≤ size → at + size ≤ length bytes → IsUnused bytes at size
    → part_of bytes at size ≡ free_span_bytes (record { offset = at; length = size })
unfolding free_span_bytes is_span
span-part bytes at size all some inside unused =
    let parts : List (ℕ × List ℕ) = (2, big_endian 2 0xffff) ∷ (2, big_endian 2 size) ∷ (size - 6, zeros (size - 6)) ∷ (2, big_endian 2 at) ∷ [] in
    let whole : size ≡ total parts = omega arith in
    let gap : at + size - 2 - (at + 4) ≡ size - 6 = omega arith in
    let lie : Lie bytes at parts = (
      number-part bytes at 2 0xffff all (omega arith) (eqb-true _ _ unused.mark),
      (
        number-part bytes (at + 2) 2 size all (omega arith) unused.long,
        (
          part-at bytes (at + 2 + 2) (at + 4) (size - 6) (at + size - 2 - (at + 4)) (zeros (size - 6)) (omega arith) (sym gap) (unused.rest ∙ ap zeros gap),
          (
            number-at bytes (at + 2 + 2 + (size - 6)) (at + size - 2) 2 at all (omega arith) (omega arith) unused.tag,
            tt,
          ),
        ),
      ),
    ) in
    ap (part_of bytes at) whole ∙ parts-join bytes at parts lie

-- what is left behind the entries
pub rest-part : (bytes : List ℕ) (at end : ℕ) → AreBytes bytes → at ≤ end → at % 8 ≡ 0 → end % 8 ≡ 0 → end ≤ length bytes
    → (at < end → IsUnused bytes at (end - at)) → part_of bytes at (end - at) ≡ flat_map free_span_bytes (rest_span at end)
rest-part bytes at end all order aligned whole inside unused =
    elim (cases_lt at end) [
      | inl before ↦
          let test : (at == end) ≡ false = grind (arith, nat_tests) in
          let span : FreeSpan = record { offset = at; length = end - at } in
          let rest : rest_span at end ≡ span ∷ [] = rw test refl in
          span-part bytes at (end - at) all (omega arith) (omega arith) (unused before)
          ∙ (sym (append-nil (free_span_bytes span)) ∙ sym (ap (flat_map free_span_bytes) rest))
      | inr full ↦
          let same : at ≡ end = omega arith in
          let test : (at == end) ≡ true = grind (arith, nat_tests) in
          let rest : rest_span at end ≡ [] = rw test refl in
          ap (part_of bytes at) (omega arith) ∙ (part-none bytes at ∙ sym (ap (flat_map free_span_bytes) rest))
    ]

-- the table of the largest unused spans
best-part : (bytes : List ℕ) (k : ℕ) → AreBytes bytes → k < 3 → 64 ≤ length bytes → part_of bytes (48 + 4 * k) 4 ≡ best_bytes (best_at bytes k)
best-part bytes k all low long =
    part-join bytes (48 + 4 * k) 2 2
    ∙ ap₂ ◌++◌ (number-part bytes (48 + 4 * k) 2 (field_of bytes (48 + 4 * k) 2) all (omega arith) refl)
    (number-at bytes (48 + 4 * k + 2) (50 + 4 * k) 2 (field_of bytes (50 + 4 * k) 2) all (omega arith) (omega arith) refl)

pub bests-part : (bytes : List ℕ) (bests : List FreeSpan) → AreBytes bytes → 64 ≤ length bytes → stated_bests bytes ≡ bests
    → part_of bytes 48 12 ≡ flat_map best_bytes bests
bests-part bytes bests all long are =
    let parts : List (ℕ × List ℕ) = (4, best_bytes (best_at bytes 0)) ∷ (4, best_bytes (best_at bytes 1)) ∷ (4, best_bytes (best_at bytes 2)) ∷ [] in
    let lie : Lie bytes 48 parts =
    (best-part bytes 0 all (omega arith) long, (best-part bytes 1 all (omega arith) long, (best-part bytes 2 all (omega arith) long, tt))) in
    parts-join bytes 48 parts lie ∙ ap (flat_map best_bytes) are

-- all of a data block behind what identifies it
pub data-part : (bytes : List ℕ) (es : List EntryRec) (at end : ℕ) → AreBytes bytes → length bytes ≡ end → AreDataEntries bytes 64 es
    → 64 + data_length es ≡ at → at ≤ end → at % 8 ≡ 0 → end % 8 ≡ 0 → (at < end → IsUnused bytes at (end - at))
    → stated_bests bytes ≡ bests_of (rest_span at end) → field_of bytes 60 4 ≡ 0 → part_of bytes 48 (end - 48) ≡ data_bytes es end
unfolding data_bytes zeros
data-part bytes es at end all long stand place order aligned whole unused bests pad =
    let free = rest_span at end in
    let parts : List (ℕ × List ℕ) =
    (12, flat_map best_bytes (bests_of (rest_span at end))) ∷ (4, zeros 4) ∷ (data_length es, entries_bytes 64 es)
    ∷ (end - at, flat_map free_span_bytes (rest_span at end)) ∷ [] in
    let size : end - 48 ≡ total parts = omega arith in
    let lie : Lie bytes 48 parts = (
      bests-part bytes (bests_of free) all (omega arith) bests,
      (
        number-part bytes 60 4 0 all (omega arith) pad,
        (
          entries-part bytes 64 es all (omega arith) stand,
          (
            part-at bytes (64 + data_length es) at (end - at) (end - at) (flat_map free_span_bytes free) place refl
                (rest-part bytes at end all order aligned whole (omega arith) unused),
            tt,
          ),
        ),
      ),
    ) in
    ap (part_of bytes 48) size
    ∙ (parts-join bytes 48 parts lie
    ∙ ap (λ (fs : List FreeSpan). concat (flat_map best_bytes (bests_of fs) ∷ zeros 4 ∷ entries_bytes 64 es ∷ flat_map free_span_bytes fs ∷ []))
    (ap (λ (a : ℕ). rest_span a end) (sym place)))
