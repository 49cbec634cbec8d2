-- A protected file keeps itself, and what is kept twice is kept.
use Rattle.std.proofs.Common.{◌≡◌, ℕ, refl, sym, ap, ◌∙◌, length}
use Rattle.std.proofs.lemmas.List.FromFn.{length-map-range_with_len}
use Rattle.xfs_disk.specs.Blocks.{Image}
use Rattle.xfs_geom.specs.Volumes.{Volume}
use Rattle.xfs_inode.specs.declared.files.FileRead.TheVariants as Reads
use Rattle.xfs_volume.specs.declared.files.FileRec.{FileRec}
use Rattle.xfs_image.specs.Keeping.{Keeps, Protected, byte_over, file_bytes, lasting}

pub keeps_itself : (v : Volume) (image : Image) (ino : ℕ) → Protected v image ino → Keeps v image image ino
keeps_itself v image ino is = record {
  file = is.file;
  kept = is.file;
  reads = is.reads;
  reads_still = is.reads;
  bytes = refl;
  attrs = refl;
  target = refl;
  device = refl;
  core = refl;
}

one_file : (a b : FileRec) → Reads.File a ≡ Reads.File b → a ≡ b
one_file a b e = cc

pub keeps_on : (v : Volume) (a b c : Image) (ino : ℕ) → Keeps v a b ino → Keeps v b c ino → Keeps v a c ino
keeps_on v a b c ino first second =
    let same : second.file ≡ first.kept = one_file second.file first.kept (sym second.reads ∙ first.reads_still) in
    record {
      file = first.file;
      kept = second.kept;
      reads = first.reads;
      reads_still = second.reads_still;
      bytes = second.bytes ∙ ap (file_bytes v b) same ∙ first.bytes;
      attrs = second.attrs ∙ ap (λ (f : FileRec). f.rest.attrs) same ∙ first.attrs;
      target = second.target ∙ ap (λ (f : FileRec). f.rest.target) same ∙ first.target;
      device = second.device ∙ ap (λ (f : FileRec). f.rest.device) same ∙ first.device;
      core = second.core ∙ ap (λ (f : FileRec). lasting f.core) same ∙ first.core;
    }

-- a file has as many bytes as its size says
pub all_bytes : (v : Volume) (image : Image) (f : FileRec) → length (file_bytes v image f) ≡ f.core.size
unfolding file_bytes
all_bytes v image f = length-map-range_with_len (byte_over v image f.extents) 0 f.core.size
