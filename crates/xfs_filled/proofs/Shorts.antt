-- How many bytes a short form and the extents of a fork have.
use Rattle.std.proofs.Common.{◌≡◌, ℕ, ◌+◌, ◌*◌, List, [], ◌∷◌, ◌++◌, length, length-append, arith, refl}
use Rattle.std.specs.List.{flat_map}
use Rattle.std.proofs.lemmas.List.Sums.{sum_by-cons}
use Rattle.xfs_dirdata.specs.Bytes.{big_endian, short_bytes, short_entries_bytes, short_entry_bytes}
use Rattle.xfs_dirdata.specs.Written.{data_size_of, short_length, short_size_of}
use Rattle.xfs_dirdata.specs.declared.records.EntryRec.{EntryRec}
use Rattle.xfs_word.specs.Extent.{packed}
use Rattle.xfs_word.specs.declared.extents.Extent.{Extent}

entry_long : (offset : ℕ) (e : EntryRec) → length (short_entry_bytes offset e) ≡ short_size_of e
unfolding short_entry_bytes
entry_long offset e =
    let last = length-append (big_endian 4 e.ino) [] in
    let ftype = length-append (big_endian 1 e.ftype) (big_endian 4 e.ino ++ []) in
    let name = length-append e.name (big_endian 1 e.ftype ++ (big_endian 4 e.ino ++ [])) in
    let at = length-append (big_endian 2 offset) (e.name ++ (big_endian 1 e.ftype ++ (big_endian 4 e.ino ++ []))) in
    let first = length-append (big_endian 1 (length e.name)) (big_endian 2 offset ++ (e.name ++ (big_endian 1 e.ftype ++ (big_endian 4 e.ino ++ [])))) in
    omega (arith, last, ftype, name, at, first)

entries_long : (offset : ℕ) (es : List EntryRec) → length (short_entries_bytes offset es) ≡ short_length es
entries_long offset [] = refl
entries_long offset (e ∷ es) =
    let here = entry_long offset e in
    let rest = entries_long (offset + data_size_of e) es in
    let all = length-append (short_entry_bytes offset e) (short_entries_bytes (offset + data_size_of e) es) in
    let sizes = sum_by-cons short_size_of e es in
    omega (arith, here, rest, all, sizes)

pub short_long : (parent : ℕ) (es : List EntryRec) → length (short_bytes parent es) ≡ 6 + short_length es
unfolding short_bytes
short_long parent es =
    let rest = entries_long 96 es in
    let last = length-append (short_entries_bytes 96 es) [] in
    let above = length-append (big_endian 4 parent) (short_entries_bytes 96 es ++ []) in
    let wide = length-append (big_endian 1 0) (big_endian 4 parent ++ (short_entries_bytes 96 es ++ [])) in
    let count = length-append (big_endian 1 (length es)) (big_endian 1 0 ++ (big_endian 4 parent ++ (short_entries_bytes 96 es ++ []))) in
    omega (arith, rest, last, above, wide, count)

packed_long : (e : Extent) → length (packed e) ≡ 16
unfolding packed
packed_long e = refl

pub extents_long : (es : List Extent) → length (flat_map packed es) ≡ 16 * length es
extents_long [] = refl
extents_long (e ∷ es) =
    let here = packed_long e in
    let rest = extents_long es in
    let all = length-append (packed e) (flat_map packed es) in
    omega (arith, here, rest, all)
