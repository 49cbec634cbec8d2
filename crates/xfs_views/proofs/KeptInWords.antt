-- What is kept of a file, field by field.
use Rattle.std.proofs.Common.{◌≡◌, ℕ, zero, suc, ◌+◌, ◌<◌, ◌≤◌, inl, inr, List, ◌∷◌, map, refl, sym, ◌∙◌, ap, ap₂, subst, arith}
use Rattle.std.specs.List.{range_with_len}
use Rattle.std.proofs.lemmas.Bool.{cases_eq}
use Rattle.xfs_disk.specs.Blocks.{Image}
use Rattle.xfs_geom.specs.Volumes.{Volume}
use Rattle.xfs_inode.specs.declared.files.FileRead.TheVariants as Reads
use Rattle.xfs_volume.specs.declared.cores.Core.{Core}
use Rattle.xfs_volume.specs.declared.files.FileRec.{FileRec}
use Rattle.xfs_image.specs.Keeping.{Keeps, byte_over, file_bytes, lasting}
use Rattle.xfs_image.specs.Slots.{reads_as}
use Rattle.xfs_views.specs.KeptInWords.{HasSameFields, IsKeptAs}

same_fields : (a b : Core) → lasting a ≡ lasting b → HasSameFields a b
same_fields a b e = record {
  magic = ap (λ (c : Core). c.magic) e;
  mode = ap (λ (c : Core). c.mode) e;
  version = ap (λ (c : Core). c.version) e;
  format = ap (λ (c : Core). c.format) e;
  uid = ap (λ (c : Core). c.uid) e;
  gid = ap (λ (c : Core). c.gid) e;
  projid_lo = ap (λ (c : Core). c.projid_lo) e;
  projid_hi = ap (λ (c : Core). c.projid_hi) e;
  atime = ap (λ (c : Core). c.atime) e;
  mtime = ap (λ (c : Core). c.mtime) e;
  ctime = ap (λ (c : Core). c.ctime) e;
  size = ap (λ (c : Core). c.size) e;
  nblocks = ap (λ (c : Core). c.nblocks) e;
  extsize = ap (λ (c : Core). c.extsize) e;
  nextents = ap (λ (c : Core). c.nextents) e;
  anextents = ap (λ (c : Core). c.anextents) e;
  forkoff = ap (λ (c : Core). c.forkoff) e;
  aformat = ap (λ (c : Core). c.aformat) e;
  flags = ap (λ (c : Core). c.flags) e;
  generation = ap (λ (c : Core). c.generation) e;
  changecount = ap (λ (c : Core). c.changecount) e;
  lsn = ap (λ (c : Core). c.lsn) e;
  flags2 = ap (λ (c : Core). c.flags2) e;
  cowextsize = ap (λ (c : Core). c.cowextsize) e;
  crtime = ap (λ (c : Core). c.crtime) e;
  ino = ap (λ (c : Core). c.ino) e;
  uuid = ap (λ (c : Core). c.uuid) e;
}

lasts : (a b : Core) → HasSameFields a b → lasting a ≡ lasting b
lasts a b same = λ k. record {
  magic = same.magic k;
  mode = same.mode k;
  version = same.version k;
  format = same.format k;
  uid = same.uid k;
  gid = same.gid k;
  nlink = 0;
  projid_lo = same.projid_lo k;
  projid_hi = same.projid_hi k;
  atime = same.atime k;
  mtime = same.mtime k;
  ctime = same.ctime k;
  size = same.size k;
  nblocks = same.nblocks k;
  extsize = same.extsize k;
  nextents = same.nextents k;
  anextents = same.anextents k;
  forkoff = same.forkoff k;
  aformat = same.aformat k;
  flags = same.flags k;
  generation = same.generation k;
  next_unlinked = 0;
  crc = 0;
  changecount = same.changecount k;
  lsn = same.lsn k;
  flags2 = same.flags2 k;
  cowextsize = same.cowextsize k;
  crtime = same.crtime k;
  ino = same.ino k;
  uuid = same.uuid k;
}

-- the bytes of equal rows of numbers are equal one by one
head_is : (x y : ℕ) (xs ys : List ℕ) → ◌≡◌ {A = List ℕ} (x ∷ xs) (y ∷ ys) → x ≡ y
head_is x y xs ys e = cc

tail_is : (x y : ℕ) (xs ys : List ℕ) → ◌≡◌ {A = List ℕ} (x ∷ xs) (y ∷ ys) → xs ≡ ys
tail_is x y xs ys e = cc

each_in_row : (f h : ℕ → ℕ) (k n : ℕ) → map f (range_with_len k n) ≡ map h (range_with_len k n) → (i : ℕ) → k ≤ i → i < k + n → f i ≡ h i
each_in_row f h k zero e i low high = absurd (omega (arith, low, high))
each_in_row f h k (suc n) e i low high =
    elim (cases_eq k i) [
      | inl same ↦ subst (λ (x : ℕ). f x ≡ h x) same (head_is (f k) (h k) (map f (range_with_len (k + 1) n)) (map h (range_with_len (k + 1) n)) e)
      | inr other ↦
          each_in_row f h (k + 1) n (tail_is (f k) (h k) (map f (range_with_len (k + 1) n)) (map h (range_with_len (k + 1) n)) e) i (omega (arith, low, other)) (omega (arith, high))
    ]

row_of_each : (f h : ℕ → ℕ) (k n : ℕ) → ((i : ℕ) → k ≤ i → i < k + n → f i ≡ h i) → map f (range_with_len k n) ≡ map h (range_with_len k n)
row_of_each f h k zero each = refl
row_of_each f h k (suc n) each =
    ap₂ (λ (x : ℕ) (xs : List ℕ). x ∷ xs) (each k (omega arith) (omega arith)) (row_of_each f h (k + 1) n (λ i low high. each i (omega (arith, low)) (omega (arith, high))))

one_file : (a b : FileRec) → Reads.File a ≡ Reads.File b → a ≡ b
one_file a b e = cc

same_bytes : (v : Volume) (before after : Image) (file kept : FileRec) → kept.core.size ≡ file.core.size → file_bytes v after kept ≡ file_bytes v before file
    → (i : ℕ) → i < file.core.size → byte_over v after kept.extents i ≡ byte_over v before file.extents i
unfolding file_bytes
same_bytes v before after file kept size bytes i inside =
    let sized : map (byte_over v after kept.extents) (range_with_len 0 file.core.size) ≡ map (byte_over v before file.extents) (range_with_len 0 file.core.size) =
    ap (λ (n : ℕ). map (byte_over v after kept.extents) (range_with_len 0 n)) (sym size) ∙ bytes in
    each_in_row (byte_over v after kept.extents) (byte_over v before file.extents) 0 file.core.size sized i (omega arith) (omega (arith, inside))

all_bytes : (v : Volume) (before after : Image) (file kept : FileRec) → kept.core.size ≡ file.core.size
    → ((i : ℕ) → i < file.core.size → byte_over v after kept.extents i ≡ byte_over v before file.extents i) → file_bytes v after kept ≡ file_bytes v before file
unfolding file_bytes
all_bytes v before after file kept size each =
    ap (λ (n : ℕ). map (byte_over v after kept.extents) (range_with_len 0 n)) size
    ∙ row_of_each (byte_over v after kept.extents) (byte_over v before file.extents) 0 file.core.size (λ i low high. each i (omega (arith, high)))

pub in_words : (v : Volume) (before after : Image) (ino : ℕ) (file kept : FileRec) → reads_as v before ino ≡ Reads.File file → reads_as v after ino ≡ Reads.File kept
    → Keeps v before after ino → IsKeptAs v before after file kept
in_words v before after ino file kept reads still is =
    let first : is.file ≡ file = one_file is.file file (sym is.reads ∙ reads) in
    let last : is.kept ≡ kept = one_file is.kept kept (sym is.reads_still ∙ still) in
    let fields : HasSameFields is.kept.core is.file.core = same_fields is.kept.core is.file.core is.core in
    let own : IsKeptAs v before after is.file is.kept =
    record {
      fields = fields;
      bytes = same_bytes v before after is.file is.kept fields.size is.bytes;
      attrs = is.attrs;
      target = is.target;
      device = is.device;
    } in
    subst (λ (f : FileRec). IsKeptAs v before after f kept) first (subst (λ (k : FileRec). IsKeptAs v before after is.file k) last own)

pub from_words : (v : Volume) (before after : Image) (ino : ℕ) (file kept : FileRec) → reads_as v before ino ≡ Reads.File file → reads_as v after ino ≡ Reads.File kept
    → IsKeptAs v before after file kept → Keeps v before after ino
from_words v before after ino file kept reads still is = record {
  file = file;
  kept = kept;
  reads = reads;
  reads_still = still;
  bytes = all_bytes v before after file kept is.fields.size is.bytes;
  attrs = is.attrs;
  target = is.target;
  device = is.device;
  core = lasts kept.core file.core is.fields;
}

pub itself : (v : Volume) (image : Image) (ino : ℕ) (file : FileRec) → reads_as v image ino ≡ Reads.File file → Keeps v image image ino
itself v image ino file reads = record { file = file; kept = file; reads = reads; reads_still = reads; bytes = refl; attrs = refl; target = refl; device = refl; core = refl }

pub back : (v : Volume) (a b : Image) (ino : ℕ) → Keeps v a b ino → Keeps v b a ino
back v a b ino is = record {
  file = is.kept;
  kept = is.file;
  reads = is.reads_still;
  reads_still = is.reads;
  bytes = sym is.bytes;
  attrs = sym is.attrs;
  target = sym is.target;
  device = sym is.device;
  core = sym is.core;
}
