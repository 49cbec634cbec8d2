-- The files of a volume whose slots read as they are due.
use Rattle.std.proofs.Common.{◌≡◌, ℕ, zero, suc, ◌+◌, ◌-◌, ◌*◌, ◌≤◌, ◌<◌, cond, List, [], ◌∷◌, length, map, get_or, Result, Ok, arith, refl, ap, ap₂, ◌∙◌}
use Rattle.std.specs.List.{range_with_len}
use Rattle.std.proofs.lemmas.Bool.{ne_eqb}
use Rattle.xfs_disk.specs.Blocks.{Image}
use Rattle.xfs_disk.specs.declared.stamp.Stamp.{Stamp}
use Rattle.xfs_geom.specs.Conversions.{inode_of}
use Rattle.xfs_geom.specs.Shape.{HasGroups}
use Rattle.xfs_geom.specs.Volumes.{Volume}
use Rattle.xfs_geom.specs.declared.records.Run.{Run}
use Rattle.xfs_inode.specs.declared.files.FileRead.{FileRead}
use Rattle.xfs_inode.specs.declared.files.FileRead.TheVariants as Reads
use Rattle.xfs_volume.specs.declared.files.FileRec.{FileRec}
use Rattle.xfs_volume.specs.declared.groups.GroupRec.{GroupRec}
use Rattle.xfs_image.specs.Files.{files_at, files_read, inodes_of, with_file_read}
use Rattle.xfs_image.specs.Slots.{reads_as}
use Rattle.xfs_image.specs.declared.findings.Finding.{Finding}
use Rattle.xfs_empty.proofs.Places.{chunk_inode}
use Rattle.xfs_empty.specs.Inodes.{system_core}
use Rattle.xfs_made.specs.Files.{plain_file, slot_crc}
use Rattle.xfs_proto.specs.declared.protofile.ProtoNode.{ProtoNode}
use Rattle.xfs_filled.specs.Numbers.{index_of_place, inode_at}
use Rattle.xfs_populated.specs.FilledSlots.{ReadAsDue}
use Rattle.xfs_populated.specs.Populated.{filled_file, filled_files}

module _ (v : Volume) (s : Stamp) (starts : List ℕ) (ns : List ProtoNode) (contents : List (List ℕ)) (runs : List Run) (image : Image)
    (reads : ReadAsDue v s starts ns contents runs image) where
  abbrev due : ℕ → FileRec
  due = filled_file v s starts ns contents runs (slot_crc v image)

  -- no file among free inodes
  all_free : (a n : ℕ) → length ns + 2 ≤ a → a + n ≤ 64 * length starts → files_at v image (map (inode_at v starts) (range_with_len a n)) ≡ Ok []
  all_free a zero low high = refl
  all_free a (suc n) low high =
      ap₂ (λ (r : FileRead) (rest : Result (List FileRec) Finding). with_file_read (inode_at v starts a) r rest) (reads.free a low (omega (arith, high)))
      (all_free (a + 1) n (omega (arith, low)) (omega (arith, high)))

  file_at : (k a : ℕ) → 1 ≤ k → k < length ns → a ≡ k + 2 → reads_as v image (inode_at v starts a) ≡ Reads.File (due k)
  file_at k a some low at =
      let index : index_of_place k ≡ k + 2 = ap (λ t. cond t 0 (k + 2)) (ne_eqb k 0 (λ none. absurd (omega (arith, none, some)))) in
      let same : a ≡ index_of_place k = omega (arith, at, index) in
      ap (λ (j : ℕ). reads_as v image (inode_at v starts j)) same ∙ reads.files' k low

  -- the files from a place on, and no others behind them
  files_from : (k n a t : ℕ) → 1 ≤ k → k + n ≡ length ns → a ≡ k + 2 → n ≤ t → a + t ≤ 64 * length starts
      → files_at v image (map (inode_at v starts) (range_with_len a t)) ≡ Ok (map due (range_with_len k n))
  files_from k zero a t some all at few high = all_free a t (omega (arith, all, at)) high
  files_from k (suc n) a zero some all at few high = absurd (omega (arith, few))
  files_from k (suc n) a (suc t) some all at few high =
      ap₂ (λ (r : FileRead) (rest : Result (List FileRec) Finding). with_file_read (inode_at v starts a) r rest) (file_at k a some (omega (arith, all)) at)
      (files_from (k + 1) n (a + 1) t (omega arith) (omega (arith, all)) (omega (arith, at)) (omega (arith, few)) (omega (arith, high)))

  module _ (groups : HasGroups v.dblocks v.agblocks v.agcount) (first : get_or starts 0 0 ≡ 16) (some : 1 ≤ length ns) (enough : length ns + 2 ≤ 64 * length starts) where
    system_number : (j : ℕ) → j ≡ 1 → inode_at v starts j ≡ 129
    system_number j is = ap (inode_at v starts) is ∙ (ap (λ (b : ℕ). inode_of v (b + 0) 1) first ∙ chunk_inode v 0 1 groups (omega arith))

    summary_number : (j : ℕ) → j ≡ 2 → inode_at v starts j ≡ 130
    summary_number j is = ap (inode_at v starts) is ∙ (ap (λ (b : ℕ). inode_of v (b + 0) 2) first ∙ chunk_inode v 0 2 groups (omega arith))

    abbrev system_file : ℕ → FileRec
    system_file ino = plain_file (system_core v s ino) (slot_crc v image ino)

    bitmap_at : reads_as v image (inode_at v starts 1) ≡ Reads.File (system_file 129)
    bitmap_at = reads.system 1 (omega arith) (omega arith) ∙ ap (λ (n : ℕ). Reads.File (system_file n)) (system_number 1 refl)

    summary_at : reads_as v image (inode_at v starts 2) ≡ Reads.File (system_file 130)
    summary_at = reads.system 2 (omega arith) (omega arith) ∙ ap (λ (n : ℕ). Reads.File (system_file n)) (summary_number 2 refl)

    abbrev abbreviated : ℕ → Result (List FileRec) Finding
    abbreviated n = files_at v image (map (inode_at v starts) (range_with_len 0 n))

    front : (t : ℕ) → 64 * length starts ≡ 3 + t
        → files_at v image (inode_at v starts 0 ∷ inode_at v starts 1 ∷ inode_at v starts 2 ∷ map (inode_at v starts) (range_with_len 3 t))
        ≡ Ok (due 0 ∷ system_file 129 ∷ system_file 130 ∷ map due (range_with_len 1 (length ns - 1)))
    front t all =
        let rest = files_from 1 (length ns - 1) 3 t (omega arith) (omega (arith, some)) refl (omega (arith, all, enough)) (omega (arith, all)) in
        ap₂ (λ (r : FileRead) (rest : Result (List FileRec) Finding). with_file_read (inode_at v starts 0) r rest) (reads.files' 0 (omega (arith, some)))
        (ap₂ (λ (r : FileRead) (rest : Result (List FileRec) Finding). with_file_read (inode_at v starts 1) r rest) bitmap_at
        (ap₂ (λ (r : FileRead) (rest : Result (List FileRec) Finding). with_file_read (inode_at v starts 2) r rest) summary_at rest))

    pub files_joined : (records : List GroupRec) → inodes_of v records ≡ map (inode_at v starts) (range_with_len 0 (64 * length starts))
        → files_read v image records ≡ Ok (filled_files v s starts ns contents runs (slot_crc v image))
    unfolding files_read filled_files
    files_joined records inodes =
        let t : ℕ = 64 * length starts - 3 in
        let all : 64 * length starts ≡ suc (suc (suc (64 * length starts - 3))) = omega (arith, enough, some) in
        let count : 64 * length starts ≡ 3 + (64 * length starts - 3) = omega (arith, enough, some) in
        ap (files_at v image) inodes ∙ (ap abbreviated all ∙ front (64 * length starts - 3) count)
