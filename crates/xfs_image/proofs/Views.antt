-- A view that reads is the catalog of the groups and the files that read.
use Rattle.std.proofs.Common.{◌≡◌, ◌⊎◌, inl, inr, ℕ, List, [], ◌∷◌, Result, Ok, Err, refl, sym}
use Rattle.xfs_disk.specs.Blocks.{Image}
use Rattle.xfs_geom.specs.Volumes.{Volume, volume_of}
use Rattle.xfs_geom.specs.declared.geometry.Geometry.{Geometry}
use Rattle.xfs_volume.specs.declared.catalogs.Catalog.{Catalog}
use Rattle.xfs_volume.specs.declared.files.FileRec.{FileRec}
use Rattle.xfs_volume.specs.declared.groups.GroupRec.{GroupRec}
use Rattle.xfs_inode.specs.declared.files.FileRead.{FileRead}
use Rattle.xfs_inode.specs.declared.files.FileRead.TheVariants as Reads
use Rattle.xfs_image.specs.Files.{AreFilesRead, files_at, files_read, inodes_of, with_file_read}
use Rattle.xfs_image.specs.Groups.{groups_read}
use Rattle.xfs_image.specs.Slots.{reads_as}
use Rattle.xfs_image.specs.View.{IsRead, catalog_of, if_read, view}
use Rattle.xfs_image.specs.declared.findings.Finding.{Finding}
use Rattle.xfs_image.specs.declared.findings.Finding.TheVariants as Found

abbrev ok : Catalog → Result Catalog Finding
ok c = Ok c

one : (x y : Catalog) → ok x ≡ ok y → x ≡ y
one x y e = cc

not_ok : (found : Finding) (c : Catalog) → Err found ≡ ok c → ⊥
not_ok found c e = cc

from_files : (g : Geometry) (image : Image) (c : Catalog) (groups : List GroupRec) → groups_read (volume_of g) image ≡ Ok groups
    → (r : Result (List FileRec) Finding) → files_read (volume_of g) image groups ≡ r
    → if_read r (λ files. Ok (catalog_of g image groups files)) ≡ Ok c → IsRead g image c
from_files g image c groups e (Err found) f h = absurd (not_ok found c h)
from_files g image c groups e (Ok files) f h =
    record { groups = groups; files = files; groups_read = e; files_read = f; catalog = sym (one (catalog_of g image groups files) c h) }

from_groups : (g : Geometry) (image : Image) (c : Catalog) → (r : Result (List GroupRec) Finding) → groups_read (volume_of g) image ≡ r
    → if_read r (λ groups. if_read (files_read (volume_of g) image groups) (λ files. Ok (catalog_of g image groups files))) ≡ Ok c
    → IsRead g image c
from_groups g image c (Err found) e h = absurd (not_ok found c h)
from_groups g image c (Ok groups) e h = from_files g image c groups e (files_read (volume_of g) image groups) refl h

pub view_of : (g : Geometry) (image : Image) (c : Catalog) → view g image ≡ Ok c → IsRead g image c
unfolding view
view_of g image c reads = from_groups g image c (groups_read (volume_of g) image) refl reads

-- slots that read
abbrev ok_files : List FileRec → Result (List FileRec) Finding
ok_files files = Ok files

one_list : (x y : List FileRec) → ok_files x ≡ ok_files y → x ≡ y
one_list x y e = cc

no_files : (found : Finding) (files : List FileRec) → Err found ≡ ok_files files → ⊥
no_files found files e = cc

slot_reads_so : (ino : ℕ) (read : FileRead) (rest : Result (List FileRec) Finding) (files : List FileRec) → with_file_read ino read rest ≡ ok_files files
    → ((read ≡ Reads.Free) × (rest ≡ ok_files files))
    ⊎ ((file : FileRec) × (others : List FileRec) × (read ≡ Reads.File file) × (files ≡ file ∷ others) × (rest ≡ ok_files others))
slot_reads_so ino Reads.Free rest files e = inl (refl, e)
slot_reads_so ino (Reads.File file) (Ok others) files e = inr (file, others, refl, sym (one_list (file ∷ others) files e), refl)
slot_reads_so ino (Reads.File file) (Err found) files e = absurd (no_files found files e)
slot_reads_so ino (Reads.FileWithoutAttrs file) rest files e = absurd (no_files (Found.Part 9 ino) files e)
slot_reads_so ino (Reads.Unsupported what) rest files e = absurd (no_files (Found.Part 9 ino) files e)
slot_reads_so ino Reads.Unsound rest files e = absurd (no_files (Found.Part 9 ino) files e)

slots_read_so : (v : Volume) (image : Image) (inos : List ℕ) (files : List FileRec) → files_at v image inos ≡ Ok files → AreFilesRead v image inos files
slots_read_so v image [] files e = sym (one_list [] files e)
slots_read_so v image (ino ∷ inos) files e =
    elim (slot_reads_so ino (reads_as v image ino) (files_at v image inos) files e) [
      | inl free ↦ inl (free.0, slots_read_so v image inos files free.1)
      | inr used ↦ inr (used.0, used.1, used.2, used.3, slots_read_so v image inos used.1 used.4)
    ]

pub files_read_so : (v : Volume) (image : Image) (groups : List GroupRec) (files : List FileRec) → files_read v image groups ≡ Ok files
    → AreFilesRead v image (inodes_of v groups) files
unfolding files_read
files_read_so v image groups files e = slots_read_so v image (inodes_of v groups) files e
