-- What does not read is a part of a group or a slot.
use Rattle.std.proofs.Common.{◌≡◌, ◌+◌, ◌≤◌, ◌<◌, ℕ, zero, suc, List, [], ◌∷◌, Option, Some, None, Result, Ok, Err, subst, arith}
use Rattle.std.specs.List.{range_with_len}
use Rattle.xfs_disk.specs.Blocks.{Image}
use Rattle.xfs_geom.specs.Volumes.{Volume, volume_of}
use Rattle.xfs_geom.specs.declared.geometry.Geometry.{Geometry}
use Rattle.xfs_inode.specs.declared.files.FileRead.{FileRead}
use Rattle.xfs_inode.specs.declared.files.FileRead.TheVariants as Reads
use Rattle.xfs_volume.specs.declared.files.FileRec.{FileRec}
use Rattle.xfs_volume.specs.declared.groups.GroupRec.{GroupRec}
use Rattle.xfs_image.specs.Consistent.{IsPartOf}
use Rattle.xfs_image.specs.Files.{files_at, files_read, inodes_of, with_file_read}
use Rattle.xfs_image.specs.Groups.{group_read, groups_from, groups_read, read_then, with_part, agf_at, agi_at, agfl_at, bno_at, cnt_at, ino_at, fino_at, rmap_at}
use Rattle.xfs_image.specs.Slots.{reads_as}
use Rattle.xfs_image.specs.View.{if_read, view}
use Rattle.xfs_image.specs.declared.findings.Finding.{Finding}

-- whatever is found of an answer has a fact
abbrev AllFound : {A : Type 0} → (Finding → Type 0) → Result A Finding → Type 0
AllFound P (Ok a) = Unit {0}
AllFound P (Err found) = P found

found_is : {A : Type 0} (P : Finding → Type 0) (r : Result A Finding) (found : Finding) → AllFound P r → r ≡ Err found → P found
found_is P (Ok a) found all e = absurd cc
found_is P (Err other) found all e = let same : other ≡ found = cc in subst P same all

at_part : {A B : Type 0} (v : Volume) (ag part : ℕ) → ag < v.agcount → 1 ≤ part → part ≤ 8 → (o : Option A) (next : A → Result B Finding)
    → ((a : A) → AllFound (IsPartOf v) (next a)) → AllFound (IsPartOf v) (with_part ag part o next)
at_part v ag part inside some few None next later = (some, omega (arith, few), λ h. inside)
at_part v ag part inside some few (Some a) next later = later a

of_group : (v : Volume) (image : Image) (ag : ℕ) → ag < v.agcount → AllFound (IsPartOf v) (group_read v image ag)
unfolding group_read
of_group v image ag inside =
    at_part v ag 1 inside (omega arith) (omega arith) (agf_at v image ag) _ (λ agf.
    at_part v ag 2 inside (omega arith) (omega arith) (agi_at v image ag) _ (λ agi.
    at_part v ag 3 inside (omega arith) (omega arith) (agfl_at v image ag agf) _ (λ agfl.
    at_part v ag 4 inside (omega arith) (omega arith) (bno_at v image ag agf) _ (λ bno.
    at_part v ag 5 inside (omega arith) (omega arith) (cnt_at v image ag agf) _ (λ cnt.
    at_part v ag 6 inside (omega arith) (omega arith) (ino_at v image ag agi) _ (λ ino.
    at_part v ag 7 inside (omega arith) (omega arith) (fino_at v image ag agi) _ (λ fino.
    at_part v ag 8 inside (omega arith) (omega arith) (rmap_at v image ag agf) _ (λ rmap. tt))))))))

of_first : {A : Type 0} (P : Finding → Type 0) (r : Result A Finding) (rest : Result (List A) Finding) → AllFound P r → AllFound P rest → AllFound P (read_then r rest)
of_first P (Err found) rest one all = one
of_first P (Ok a) (Err found) one all = all
of_first P (Ok a) (Ok others) one all = tt

of_groups : (v : Volume) (image : Image) (ag n : ℕ) → ag + n ≤ v.agcount → AllFound (IsPartOf v) (groups_from v image (range_with_len ag n))
of_groups v image ag zero inside = tt
of_groups v image ag (suc n) inside =
    of_first (IsPartOf v) (group_read v image ag) (groups_from v image (range_with_len (ag + 1) n))
    (of_group v image ag (omega (arith, inside))) (of_groups v image (ag + 1) n (omega (arith, inside)))

of_slot : (v : Volume) (ino : ℕ) (read : FileRead) (rest : Result (List FileRec) Finding) → AllFound (IsPartOf v) rest → AllFound (IsPartOf v) (with_file_read ino read rest)
of_slot v ino Reads.Free rest all = all
of_slot v ino (Reads.File file) (Ok others) all = tt
of_slot v ino (Reads.File file) (Err found) all = all
of_slot v ino (Reads.FileWithoutAttrs file) rest all = (omega arith, omega arith, λ h. absurd (omega (arith, h)))
of_slot v ino (Reads.Unsupported what) rest all = (omega arith, omega arith, λ h. absurd (omega (arith, h)))
of_slot v ino Reads.Unsound rest all = (omega arith, omega arith, λ h. absurd (omega (arith, h)))

of_slots : (v : Volume) (image : Image) (inos : List ℕ) → AllFound (IsPartOf v) (files_at v image inos)
of_slots v image [] = tt
of_slots v image (ino ∷ inos) = of_slot v ino (reads_as v image ino) (files_at v image inos) (of_slots v image inos)

after : {A B : Type 0} (P : Finding → Type 0) (r : Result A Finding) (next : A → Result B Finding) → AllFound P r → ((a : A) → AllFound P (next a)) → AllFound P (if_read r next)
after P (Err found) next all later = all
after P (Ok a) next all later = later a

all_groups : (v : Volume) (image : Image) → AllFound (IsPartOf v) (groups_read v image)
unfolding groups_read
all_groups v image = of_groups v image 0 v.agcount (omega arith)

all_files : (v : Volume) (image : Image) (groups : List GroupRec) → AllFound (IsPartOf v) (files_read v image groups)
unfolding files_read
all_files v image groups = of_slots v image (inodes_of v groups)

in_view : (g : Geometry) (image : Image) → AllFound (IsPartOf (volume_of g)) (view g image)
unfolding view
in_view g image =
    after (IsPartOf (volume_of g)) (groups_read (volume_of g) image) _ (all_groups (volume_of g) image) (λ groups.
    after (IsPartOf (volume_of g)) (files_read (volume_of g) image groups) _ (all_files (volume_of g) image groups) (λ files. tt))

pub part_of : (g : Geometry) (image : Image) (found : Finding) → view g image ≡ Err found → IsPartOf (volume_of g) found
part_of g image found e = found_is (IsPartOf (volume_of g)) (view g image) found (in_view g image) e
