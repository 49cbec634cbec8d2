-- All files of a volume are the same from another image that holds their slots and the blocks that they claim.
use Rattle.std.proofs.Common.{◌≡◌, ℕ, List, [], ◌∷◌, Ok, inl, inr, sym, ap, ◌∙◌, subst}
use Rattle.std.specs.List.{All, AllByRecursion}
use Rattle.std.proofs.lemmas.List.Elements.{recursion_from_All}
use Rattle.xfs_disk.specs.Blocks.{Image}
use Rattle.xfs_geom.specs.Volumes.{Volume}
use Rattle.xfs_inode.specs.declared.files.FileRead.TheVariants as Reads
use Rattle.xfs_volume.specs.declared.files.FileRec.{FileRec}
use Rattle.xfs_volume.specs.declared.groups.GroupRec.{GroupRec}
use Rattle.xfs_image.proofs.Views.{files_read_so}
use Rattle.xfs_image.specs.Files.{AreFilesRead, files_at, files_read, inodes_of, with_file_read}
use Rattle.xfs_image.specs.Slots.{reads_as}
use Rattle.xfs_views.specs.SameFiles.{HasSameClaims, HasSameSlot}
use Rattle.xfs_views.proofs.FilesStay.{file_stays, free_stays}

module _ (v : Volume) (image now : Image) where
  slots_stay : (inos : List ℕ) (files : List FileRec) → AreFilesRead v image inos files → AllByRecursion (HasSameSlot v image now) inos → AllByRecursion (HasSameClaims v image now) files
      → files_at v now inos ≡ Ok files
  slots_stay [] files read slots claimed = ap (λ (fs : List FileRec). Ok fs) (sym read)
  slots_stay (ino ∷ inos) files read slots claimed =
      elim read [
        | inl free ↦
            let here : reads_as v now ino ≡ Reads.Free = free_stays v image now ino slots.0 free.0 in
            let rest : files_at v now inos ≡ Ok files = slots_stay inos files free.1 slots.1 claimed in
            λ i. with_file_read ino (here i) (rest i)
        | inr used ↦
            let all : AllByRecursion (HasSameClaims v image now) (used.0 ∷ used.1) = subst (λ (fs : List FileRec). AllByRecursion (HasSameClaims v image now) fs) used.3 claimed in
            let here : reads_as v now ino ≡ Reads.File used.0 = file_stays v image now ino used.0 slots.0 all.0 used.2 in
            let rest : files_at v now inos ≡ Ok used.1 = slots_stay inos used.1 used.4 slots.1 all.1 in
            (λ i. with_file_read ino (here i) (rest i)) ∙ ap (λ (fs : List FileRec). Ok fs) (sym used.3)
      ]

  pub all_files_stay : (groups : List GroupRec) (files : List FileRec) → files_read v image groups ≡ Ok files → All (HasSameSlot v image now) (inodes_of v groups)
      → All (HasSameClaims v image now) files → files_read v now groups ≡ Ok files
  unfolding files_read
  all_files_stay groups files reads slots claimed =
      slots_stay (inodes_of v groups) files (files_read_so v image groups files reads) (recursion_from_All (HasSameSlot v image now) (inodes_of v groups) slots)
      (recursion_from_All (HasSameClaims v image now) files claimed)
