-- The laws of the tree of owners.
use Rattle.std.proofs.Common.{◌≡◌, ℕ, not, ◌+◌, ◌-◌, ◌^◌, ◌≤◌, ◌<◌, Bool, ◌&&◌, ◌==◌, if◌then◌else◌, true, false, nat_lt, nat_le, IsTrue, List, length, Some, None, Less, refl, ◌∙◌, ap, arith}
use Rattle.std.specs.Cmp.{IsTotalOrder}
use Rattle.std.specs.Ordering.{nat_cmp}
use Rattle.std.proofs.lemmas.Bool.{and_parts, and_from, ltb-true, lt-ltb, leb-true}
use Rattle.std.proofs.lemmas.Bool.Decides.{nat_tests}
use Rattle.std.proofs.lemmas.Cmp.{nat_cmp_total, nat_eq_equiv, on_total, then_total}
use Rattle.xfs_word.specs.Field.{field_of}
use Rattle.xfs_word.proofs.Register.{AreBytes}
use Rattle.xfs_geom.specs.Volumes.{Volume}
use Rattle.xfs_geom.specs.declared.records.RmapRec.{RmapRec}
use Rattle.xfs_tree.specs.Shape.{IsKind}
use Rattle.xfs_kinds.specs.Groups.{lies_in_group}
use Rattle.xfs_kinds.specs.OffsetWords.{offset_in_fork, is_unwritten, is_file_data, key_word}
use Rattle.xfs_kinds.specs.OwnerTrees.{owner_of_bytes, owner_rows, owner_bytes, key_of_bytes, key_rows, key_bytes, fits_owner, fits_key, last_block_of, last_word, low_key, high_key, key_order, is_owner, is_owned_run, follows_end, rmap_shape}
use Rattle.xfs_kinds.specs.SpelledLaws.{AllFit, length-spelled, spelled_again, spelled_from}
use Rattle.xfs_kinds.specs.declared.owners.RmapKey.{RmapKey}

-- what a record's numbers keep
record Fits (r : RmapRec) : Type 0 where
  start : r.start < 2 ^ 32
  count : r.count < 2 ^ 32
  owner : r.owner < 2 ^ 64
  offset : r.offset_word < 2 ^ 64

numbers_fit : (r : RmapRec) → IsTrue (fits_owner r) → Fits r
numbers_fit r h =
    let s = nat_lt r.start (2 ^ 32) in
    let c = nat_lt r.count (2 ^ 32) in
    let o = nat_lt r.owner (2 ^ 64) in
    let w = nat_lt r.offset_word (2 ^ 64) in
    let d = and_parts (s && c && o) w h in
    let e = and_parts (s && c) o d.0 in
    let f = and_parts s c e.0 in
    record {
      start = ltb-true r.start (2 ^ 32) f.0;
      count = ltb-true r.count (2 ^ 32) f.1;
      owner = ltb-true r.owner (2 ^ 64) e.1;
      offset = ltb-true r.offset_word (2 ^ 64) d.1;
    }

-- what a key's numbers keep
record KeyFits (k : RmapKey) : Type 0 where
  start : k.start < 2 ^ 32
  owner : k.owner < 2 ^ 64
  offset : k.offset_word < 2 ^ 64
  written : IsTrue (not (is_unwritten k.offset_word))

key_numbers_fit : (k : RmapKey) → IsTrue (fits_key k) → KeyFits k
key_numbers_fit k h =
    let s = nat_lt k.start (2 ^ 32) in
    let o = nat_lt k.owner (2 ^ 64) in
    let w = nat_lt k.offset_word (2 ^ 64) in
    let d = and_parts (s && o && w) (not (is_unwritten k.offset_word)) h in
    let e = and_parts (s && o) w d.0 in
    let f = and_parts s o e.0 in
    record {
      start = ltb-true k.start (2 ^ 32) f.0;
      owner = ltb-true k.owner (2 ^ 64) f.1;
      offset = ltb-true k.offset_word (2 ^ 64) e.1;
      written = d.1;
    }

-- a key of numbers that fit fits
key_fits : (k : RmapKey) → KeyFits k → IsTrue (fits_key k)
key_fits k f =
    let s = nat_lt k.start (2 ^ 32) in
    let o = nat_lt k.owner (2 ^ 64) in
    let w = nat_lt k.offset_word (2 ^ 64) in
    let a = and_from s o (lt-ltb k.start (2 ^ 32) f.start) (lt-ltb k.owner (2 ^ 64) f.owner) in
    let b = and_from (s && o) w a (lt-ltb k.offset_word (2 ^ 64) f.offset) in
    and_from (s && o && w) (not (is_unwritten k.offset_word)) b f.written

-- records with the same numbers are the same
same_owner : (r : RmapRec) (s c o w : ℕ) → s ≡ r.start → c ≡ r.count → o ≡ r.owner → w ≡ r.offset_word → record { start = s; count = c; owner = o; offset_word = w } ≡ r
same_owner r s c o w hs hc ho hw =
    let at_s = λ (x : ℕ). let q : RmapRec = record { start = x; count = c; owner = o; offset_word = w } in q in
    let at_c = λ (x : ℕ). let q : RmapRec = record { start = r.start; count = x; owner = o; offset_word = w } in q in
    let at_o = λ (x : ℕ). let q : RmapRec = record { start = r.start; count = r.count; owner = x; offset_word = w } in q in
    let at_w = λ (x : ℕ). let q : RmapRec = record { start = r.start; count = r.count; owner = r.owner; offset_word = x } in q in
    ap at_s hs ∙ ap at_c hc ∙ ap at_o ho ∙ ap at_w hw

-- keys with the same numbers are the same
same_key : (k : RmapKey) (s o w : ℕ) → s ≡ k.start → o ≡ k.owner → w ≡ k.offset_word → record { start = s; owner = o; offset_word = w } ≡ k
same_key k s o w hs ho hw =
    let at_s = λ (x : ℕ). let q : RmapKey = record { start = x; owner = o; offset_word = w } in q in
    let at_o = λ (x : ℕ). let q : RmapKey = record { start = k.start; owner = x; offset_word = w } in q in
    let at_w = λ (x : ℕ). let q : RmapKey = record { start = k.start; owner = k.owner; offset_word = x } in q in
    ap at_s hs ∙ ap at_o ho ∙ ap at_w hw

owner_len : (r : RmapRec) → length (owner_bytes r) ≡ 24
unfolding owner_bytes
owner_len r = length-spelled (owner_rows r)

owner_again : (r : RmapRec) → IsTrue (fits_owner r) → owner_of_bytes (owner_bytes r) ≡ r
unfolding owner_bytes
owner_again r h =
    let f = numbers_fit r h in
    let s : r.start < 256 ^ 4 = f.start in
    let c : r.count < 256 ^ 4 = f.count in
    let o : r.owner < 256 ^ 8 = f.owner in
    let w : r.offset_word < 256 ^ 8 = f.offset in
    let fit : AllFit (owner_rows r) = (s, (c, (o, (w, tt)))) in
    let bytes = owner_bytes r in
    let read = spelled_again (owner_rows r) bytes 0 fit refl in
    same_owner r (field_of bytes 0 4) (field_of bytes 4 4) (field_of bytes 8 8) (field_of bytes 16 8) read.0 read.1.0 read.1.1.0 read.1.1.1.0

-- bytes in which the numbers of a record stand are its bytes
pub owner_put : (r : RmapRec) (bytes : List ℕ) → AreBytes bytes → length bytes ≡ 24 → field_of bytes 0 4 ≡ r.start → field_of bytes 4 4 ≡ r.count
    → field_of bytes 8 8 ≡ r.owner → field_of bytes 16 8 ≡ r.offset_word → bytes ≡ owner_bytes r
unfolding owner_bytes
owner_put r bytes all long s c o w = spelled_from (owner_rows r) bytes 0 all long (s, (c, (o, (w, tt))))

key_len : (k : RmapKey) → length (key_bytes k) ≡ 20
unfolding key_bytes
key_len k = length-spelled (key_rows k)

-- a word without the unwritten bit is a key's as it is
key_word_same : (w : ℕ) → IsTrue (not (is_unwritten w)) → key_word w ≡ w
key_word_same w h = grind (arith, nat_tests)

key_again : (k : RmapKey) → IsTrue (fits_key k) → key_of_bytes (key_bytes k) ≡ k
unfolding key_bytes
key_again k h =
    let f = key_numbers_fit k h in
    let s : k.start < 256 ^ 4 = f.start in
    let o : k.owner < 256 ^ 8 = f.owner in
    let w : k.offset_word < 256 ^ 8 = f.offset in
    let fit : AllFit (key_rows k) = (s, (o, (w, tt))) in
    let bytes = key_bytes k in
    let read = spelled_again (key_rows k) bytes 0 fit refl in
    same_key k (field_of bytes 0 4) (field_of bytes 4 8) (key_word (field_of bytes 12 8)) read.0 read.1.0
    (ap (λ (x : ℕ). key_word x) read.1.1.0 ∙ key_word_same k.offset_word f.written)

-- bytes in which the numbers of a key stand are its bytes
pub key_put : (k : RmapKey) (bytes : List ℕ) → AreBytes bytes → length bytes ≡ 20 → field_of bytes 0 4 ≡ k.start → field_of bytes 4 8 ≡ k.owner
    → field_of bytes 12 8 ≡ k.offset_word → bytes ≡ key_bytes k
unfolding key_bytes
key_put k bytes all long s o w = spelled_from (key_rows k) bytes 0 all long (s, (o, (w, tt)))

-- the word of a key fits, and has the unwritten bit 0
key_word-lt : (w : ℕ) → w < 2 ^ 64 → key_word w < 2 ^ 64
key_word-lt w h = grind (arith, nat_tests)

key_word_written : (w : ℕ) → IsTrue (not (is_unwritten (key_word w)))
key_word_written w = grind (arith, nat_tests)

last-lt : (most first count : ℕ) → last_block_of most first count < most + 1
last-lt most first count = omega arith

last_word-lt : (r : RmapRec) → r.offset_word < 2 ^ 64 → last_word r < 2 ^ 64
last_word-lt r h = by_case (is_file_data r.owner r.offset_word)
  where
    by_case : (b : Bool) → (if b then last_block_of (2 ^ 64 - 1) r.offset_word r.count else r.offset_word) < 2 ^ 64
    by_case true = last-lt (2 ^ 64 - 1) r.offset_word r.count
    by_case false = h

low_fits : (r : RmapRec) → IsTrue (fits_owner r) → IsTrue (fits_key (low_key r))
low_fits r h =
    let f = numbers_fit r h in
    key_fits (low_key r) (record { start = f.start; owner = f.owner; offset = key_word-lt r.offset_word f.offset; written = key_word_written r.offset_word })

high_fits : (r : RmapRec) → IsTrue (fits_owner r) → IsTrue (fits_key (high_key r))
high_fits r h =
    let f = numbers_fit r h in
    key_fits (high_key r) (record {
      start = last-lt (2 ^ 32 - 1) r.start r.count;
      owner = f.owner;
      offset = key_word-lt (last_word r) (last_word-lt r f.offset);
      written = key_word_written (last_word r);
    })

key_total : IsTotalOrder key_order
key_total =
    then_total (then_total (on_total (λ (k : RmapKey). k.start) nat_cmp_total) (on_total (λ (k : RmapKey). k.owner) nat_cmp_total))
    (on_total (λ (k : RmapKey). k.offset_word) nat_cmp_total)

-- the runs fit, and have some blocks
run_fits : (v : Volume) (ag : ℕ) (r : RmapRec) → IsTrue (is_owned_run v ag r) → IsTrue (fits_owner r) × (1 ≤ r.count)
run_fits v ag r h =
    let some = nat_le 1 r.count in
    let owner = is_owner r.owner in
    let end = nat_le (offset_in_fork r.offset_word + r.count) (2 ^ 54) in
    let a = and_parts (fits_owner r && some && owner && end) (lies_in_group v ag r.start r.count) h in
    let b = and_parts (fits_owner r && some && owner) end a.0 in
    let c = and_parts (fits_owner r && some) owner b.0 in
    let d = and_parts (fits_owner r) some c.0 in
    (d.0, leb-true 1 r.count d.1)

starts_ascend : (r next : RmapRec) → 1 ≤ r.count → IsTrue (follows_end (Some r) next) → nat_cmp r.start next.start ≡ Less
starts_ascend r next some h = grind (arith, nat_tests)

low_keys_ascend : (r next : RmapRec) → 1 ≤ r.count → IsTrue (follows_end (Some r) next) → key_order (low_key r) (low_key next) ≡ Less
low_keys_ascend r next some h = let first = starts_ascend r next some h in rw first refl

pub rmap_kind : (ag : ℕ) → IsKind (rmap_shape ag)
rmap_kind ag = record {
  laid_out = record {
    some_bytes = omega arith;
    some_key = omega arith;
    some_records = omega arith;
    two_children = omega arith;
    leaf_fits = omega arith;
    node_fits = omega arith;
    long_magic = λ long. cc;
  };
  total = key_total;
  same_as_itself = λ k.
      and_from (k.start == k.start) (k.owner == k.owner && k.offset_word == k.offset_word) (nat_eq_equiv.refl k.start)
      (and_from (k.owner == k.owner) (k.offset_word == k.offset_word) (nat_eq_equiv.refl k.owner) (nat_eq_equiv.refl k.offset_word));
  record_len = λ r h. owner_len r;
  key_len = λ k h. key_len k;
  record_again = owner_again;
  key_again = key_again;
  lawful_fits = λ v before r h. (run_fits v ag r (and_parts (is_owned_run v ag r) (follows_end before r) h).0).0;
  low_fits = low_fits;
  high_fits = high_fits;
  one_key = λ r h. cc;
  low_settled = λ r h. refl;
  high_settled = λ r h. refl;
  lawful_settled = λ v before r h. h;
  lawful_behind = λ v r next h. h;
  lawful_first = λ v r next one h. and_from (is_owned_run v ag next) (follows_end None next) (and_parts (is_owned_run v ag next) (follows_end (Some r) next) h).0 refl;
  ascends = λ v r next one h.
      low_keys_ascend r next (run_fits v ag r (and_parts (is_owned_run v ag r) (follows_end None r) one).0).1
      (and_parts (is_owned_run v ag next) (follows_end (Some r) next) h).1;
}
