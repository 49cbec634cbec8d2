-- The laws of the trees of chunks of inodes.
use Rattle.std.proofs.Common.{◌≡◌, ℕ, ◌/◌, ◌^◌, ◌<◌, bit_or, Bool, ◌&&◌, ◌==◌, true, false, nat_lt, IsTrue, List, [], ◌∷◌, length, Option, Some, None, Less, refl, sym, ◌∙◌, ap, subst, arith}
use Rattle.std.specs.Ordering.{nat_cmp}
use Rattle.std.proofs.lemmas.Bool.{and_parts, and_from, ltb-true, lt-ltb, eqb-true}
use Rattle.std.proofs.lemmas.Bool.Decides.{nat_tests}
use Rattle.std.proofs.lemmas.Cmp.{nat_cmp_total, nat_eq_equiv}
use Rattle.std.proofs.lemmas.Nat.{or_lt}
use Rattle.xfs_word.specs.Field.{field_of}
use Rattle.xfs_word.proofs.Register.{AreBytes}
use Rattle.xfs_geom.specs.Volumes.{Volume}
use Rattle.xfs_geom.specs.declared.records.InoRec.{InoRec}
use Rattle.xfs_tree.specs.Shape.{IsKind}
use Rattle.xfs_kinds.specs.Groups.{lies_in_group}
use Rattle.xfs_kinds.specs.InodeTrees.{four_each, missing_bits, is_holemask, chunk_of_bytes, settled_chunk, chunk_rows, chunk_bytes, fits_chunk, has_count, is_first_inode, is_chunk_clear, is_chunk, ascends_inode, startino_of, startino_bytes, inode_shape, ino_shape, fino_shape}
use Rattle.xfs_kinds.specs.SpelledLaws.{AllFit, length-spelled, spelled_again, spelled_from}

pub no_bits : missing_bits 0 ≡ 0
unfolding four_each
no_bits = refl

pub low_half : missing_bits 0x00ff ≡ 0xffff_ffff
unfolding four_each
low_half = refl

pub high_half : missing_bits 0xff00 ≡ 0xffff_ffff_0000_0000
unfolding four_each
high_half = refl

-- the bits of missing inodes are 64 at most
missing-lt : (holemask : ℕ) → IsTrue (is_holemask holemask) → missing_bits holemask < 2 ^ 64
missing-lt m h = by_case (m == 0) refl (m == 0x00ff) refl (m == 0xff00) refl
  where
    by_case : (a : Bool) → (m == 0) ≡ a → (b : Bool) → (m == 0x00ff) ≡ b → (c : Bool) → (m == 0xff00) ≡ c → missing_bits m < 2 ^ 64
    by_case true p b q c r = subst (λ (n : ℕ). missing_bits n < 2 ^ 64) (sym (eqb-true m 0 p)) (omega (arith, no_bits))
    by_case false p true q c r = subst (λ (n : ℕ). missing_bits n < 2 ^ 64) (sym (eqb-true m 0x00ff q)) (omega (arith, low_half))
    by_case false p false q true r = subst (λ (n : ℕ). missing_bits n < 2 ^ 64) (sym (eqb-true m 0xff00 r)) (omega (arith, high_half))
    by_case false p false q false r = absurd (grind (arith, nat_tests))

-- what a chunk's numbers keep
record Fits (r : InoRec) : Type 0 where
  startino : r.startino < 2 ^ 32
  holemask : IsTrue (is_holemask r.holemask)
  count : r.count < 2 ^ 8
  freecount : r.freecount < 2 ^ 8
  free : r.free < 2 ^ 64

numbers_fit : (r : InoRec) → IsTrue (fits_chunk r) → Fits r
numbers_fit r h =
    let s = nat_lt r.startino (2 ^ 32) in
    let m = is_holemask r.holemask in
    let c = nat_lt r.count (2 ^ 8) in
    let f = nat_lt r.freecount (2 ^ 8) in
    let u = nat_lt r.free (2 ^ 64) in
    let d = and_parts (s && m && c && f) u h in
    let e = and_parts (s && m && c) f d.0 in
    let i = and_parts (s && m) c e.0 in
    let j = and_parts s m i.0 in
    record {
      startino = ltb-true r.startino (2 ^ 32) j.0;
      holemask = j.1;
      count = ltb-true r.count (2 ^ 8) i.1;
      freecount = ltb-true r.freecount (2 ^ 8) e.1;
      free = ltb-true r.free (2 ^ 64) d.1;
    }

settled-lt : (r : InoRec) → Fits r → bit_or r.free (missing_bits r.holemask) < 2 ^ 64
settled-lt r fits = or_lt 64 r.free (missing_bits r.holemask) fits.free (missing-lt r.holemask fits.holemask)

-- a settled chunk fits
settled_fits : (r : InoRec) → IsTrue (fits_chunk r) → IsTrue (fits_chunk (settled_chunk r))
settled_fits r h =
    let s = nat_lt r.startino (2 ^ 32) in
    let m = is_holemask r.holemask in
    let c = nat_lt r.count (2 ^ 8) in
    let f = nat_lt r.freecount (2 ^ 8) in
    let d = and_parts (s && m && c && f) (nat_lt r.free (2 ^ 64)) h in
    let free = bit_or r.free (missing_bits r.holemask) in
    and_from (s && m && c && f) (nat_lt free (2 ^ 64)) d.0 (lt-ltb free (2 ^ 64) (settled-lt r (numbers_fit r h)))

-- chunks with the same numbers are the same
same_chunk : (r : InoRec) (s m c f u : ℕ) → s ≡ r.startino → m ≡ r.holemask → c ≡ r.count → f ≡ r.freecount → u ≡ r.free
    → record { startino = s; holemask = m; count = c; freecount = f; free = u } ≡ r
same_chunk r s m c f u hs hm hc hf hu =
    let at_s = λ (x : ℕ). let q : InoRec = record { startino = x; holemask = m; count = c; freecount = f; free = u } in q in
    let at_m = λ (x : ℕ). let q : InoRec = record { startino = r.startino; holemask = x; count = c; freecount = f; free = u } in q in
    let at_c = λ (x : ℕ). let q : InoRec = record { startino = r.startino; holemask = r.holemask; count = x; freecount = f; free = u } in q in
    let at_f = λ (x : ℕ). let q : InoRec = record { startino = r.startino; holemask = r.holemask; count = r.count; freecount = x; free = u } in q in
    let at_u = λ (x : ℕ). let q : InoRec = record { startino = r.startino; holemask = r.holemask; count = r.count; freecount = r.freecount; free = x } in q in
    ap at_s hs ∙ ap at_m hm ∙ ap at_c hc ∙ ap at_f hf ∙ ap at_u hu

chunk_len : (r : InoRec) → length (chunk_bytes r) ≡ 16
unfolding chunk_bytes
chunk_len r = length-spelled (chunk_rows (settled_chunk r))

mask-lt : (m : ℕ) → IsTrue (is_holemask m) → m < 2 ^ 16
mask-lt m h = grind (arith, nat_tests)

chunk_again : (r : InoRec) → IsTrue (fits_chunk r) → chunk_of_bytes (chunk_bytes r) ≡ settled_chunk r
unfolding chunk_bytes
chunk_again r h =
    let f = numbers_fit r h in
    let s : r.startino < 256 ^ 4 = f.startino in
    let m : r.holemask < 256 ^ 2 = mask-lt r.holemask f.holemask in
    let c : r.count < 256 ^ 1 = f.count in
    let e : r.freecount < 256 ^ 1 = f.freecount in
    let u : bit_or r.free (missing_bits r.holemask) < 256 ^ 8 = settled-lt r f in
    let fit : AllFit (chunk_rows (settled_chunk r)) = (s, (m, (c, (e, (u, tt))))) in
    let bytes = chunk_bytes r in
    let read = spelled_again (chunk_rows (settled_chunk r)) bytes 0 fit refl in
    same_chunk (settled_chunk r) (field_of bytes 0 4) (field_of bytes 4 2) (field_of bytes 6 1) (field_of bytes 7 1) (field_of bytes 8 8)
    read.0 read.1.0 read.1.1.0 read.1.1.1.0 read.1.1.1.1.0

-- bytes in which the numbers of a settled chunk stand are its bytes
pub chunk_put : (r : InoRec) (bytes : List ℕ) → AreBytes bytes → length bytes ≡ 16 → field_of bytes 0 4 ≡ r.startino → field_of bytes 4 2 ≡ r.holemask
    → field_of bytes 6 1 ≡ r.count → field_of bytes 7 1 ≡ r.freecount → field_of bytes 8 8 ≡ bit_or r.free (missing_bits r.holemask) → bytes ≡ chunk_bytes r
unfolding chunk_bytes
chunk_put r bytes all long s m c f u = spelled_from (chunk_rows (settled_chunk r)) bytes 0 all long (s, (m, (c, (f, (u, tt)))))

startino_len : (startino : ℕ) → length (startino_bytes startino) ≡ 4
unfolding startino_bytes
startino_len startino = length-spelled ((4, startino) ∷ [])

startino_again : (startino : ℕ) → IsTrue (nat_lt startino (2 ^ 32)) → startino_of (startino_bytes startino) ≡ startino
unfolding startino_bytes
startino_again startino h =
    let small : startino < 256 ^ 4 = ltb-true startino (2 ^ 32) h in
    (spelled_again ((4, startino) ∷ []) (startino_bytes startino) 0 (small, tt) refl).0

-- bytes in which the number of a first inode stands are its bytes
pub startino_put : (startino : ℕ) (bytes : List ℕ) → AreBytes bytes → length bytes ≡ 4 → field_of bytes 0 4 ≡ startino → bytes ≡ startino_bytes startino
unfolding startino_bytes
startino_put startino bytes all long is = spelled_from ((4, startino) ∷ []) bytes 0 all long (is, tt)

startino_fits : (r : InoRec) → IsTrue (fits_chunk r) → IsTrue (nat_lt r.startino (2 ^ 32))
startino_fits r h = lt-ltb r.startino (2 ^ 32) (numbers_fit r h).startino

chunk_fits : (v : Volume) (ag : ℕ) (r : InoRec) → IsTrue (is_chunk v ag r) → IsTrue (fits_chunk r)
chunk_fits v ag r h =
    let c = has_count r.holemask r.count in
    let m = is_first_inode r.startino in
    let g = lies_in_group v ag (r.startino / 8) 8 in
    let a = and_parts (fits_chunk r && c && m && g) (is_chunk_clear v ag r) h in
    let b = and_parts (fits_chunk r && c && m) g a.0 in
    let e = and_parts (fits_chunk r && c) m b.0 in
    (and_parts (fits_chunk r) c e.0).0

-- a settled chunk is one where it was
settled_chunk_is : (v : Volume) (ag : ℕ) (r : InoRec) → IsTrue (is_chunk v ag r) → IsTrue (is_chunk v ag (settled_chunk r))
settled_chunk_is v ag r h =
    let fits = chunk_fits v ag r h in
    let again = settled_fits r fits in
    let chunk = λ (b : Bool). b && has_count r.holemask r.count && is_first_inode r.startino && lies_in_group v ag (r.startino / 8) 8 && is_chunk_clear v ag r in
    ap chunk (again ∙ sym fits) ∙ h

-- a settled chunk stands behind what the chunk stands behind
settled_behind : (before : Option InoRec) (r : InoRec) → IsTrue (ascends_inode before r) → IsTrue (ascends_inode before (settled_chunk r))
settled_behind None r h = h
settled_behind (Some before) r h = h

inodes_ascend : (r next : InoRec) → IsTrue (ascends_inode (Some r) next) → nat_cmp r.startino next.startino ≡ Less
inodes_ascend r next h = grind (arith, nat_tests)

-- the laws of either tree
inode_kind : (magic ag : ℕ) → IsKind (inode_shape magic ag)
inode_kind magic ag = record {
  laid_out = record {
    some_bytes = omega arith;
    some_key = omega arith;
    some_records = omega arith;
    two_children = omega arith;
    leaf_fits = omega arith;
    node_fits = omega arith;
    long_magic = λ long. cc;
  };
  total = nat_cmp_total;
  same_as_itself = λ k. nat_eq_equiv.refl k;
  record_len = λ r h. chunk_len r;
  key_len = λ startino h. startino_len startino;
  record_again = chunk_again;
  key_again = startino_again;
  lawful_fits = λ v before r h. chunk_fits v ag r (and_parts (is_chunk v ag r) (ascends_inode before r) h).0;
  low_fits = startino_fits;
  high_fits = startino_fits;
  one_key = λ r h. refl;
  low_settled = λ r h. refl;
  high_settled = λ r h. refl;
  lawful_settled = λ v before r h.
      let parts = and_parts (is_chunk v ag r) (ascends_inode before r) h in
      and_from (is_chunk v ag (settled_chunk r)) (ascends_inode before (settled_chunk r)) (settled_chunk_is v ag r parts.0) (settled_behind before r parts.1);
  lawful_behind = λ v r next h. h;
  lawful_first = λ v r next one h. and_from (is_chunk v ag next) (ascends_inode None next) (and_parts (is_chunk v ag next) (ascends_inode (Some r) next) h).0 refl;
  ascends = λ v r next one h. inodes_ascend r next (and_parts (is_chunk v ag next) (ascends_inode (Some r) next) h).1;
}

pub ino_kind : (ag : ℕ) → IsKind (ino_shape ag)
ino_kind = inode_kind 0x4941_4233

pub fino_kind : (ag : ℕ) → IsKind (fino_shape ag)
fino_kind = inode_kind 0x4649_4233
