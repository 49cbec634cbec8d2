-- Kept files stand for what they are: the root for a directory, a system inode for an empty regular file.
use Rattle.std.proofs.Common.{◌≡◌, ℕ, Bool, true, false, not, ◌==◌, ◌&&◌, if◌then◌else◌, List, inl, inr, length, refl, sym, ap, ◌∙◌, subst}
use Rattle.std.proofs.lemmas.Bool.{and_parts, eq-eqb, eqb-true, ne_eqb, or_cases, or_right}
use Rattle.xfs_disk.specs.Blocks.{Image}
use Rattle.xfs_disk.specs.Lists.{is_among}
use Rattle.xfs_disk.specs.declared.stamp.Stamp.{Stamp}
use Rattle.xfs_geom.specs.Volumes.{Volume, volume_of}
use Rattle.xfs_geom.specs.declared.geometry.Geometry.{Geometry}
use Rattle.xfs_links.specs.Entries.{is_reserved_inode}
use Rattle.xfs_naming.specs.Naming.{is_empty_regular, is_in_use, is_system}
use Rattle.xfs_volume.specs.Names.{is_directory, type_of}
use Rattle.xfs_volume.specs.declared.files.FileRec.{FileRec}
use Rattle.xfs_image.specs.Candidates.{candidates}
use Rattle.xfs_image.specs.Claims.{candidate_files}
use Rattle.xfs_views.specs.Standing.{stands}
use Rattle.xfs_views.proofs.Members.{Member, filter_member, member_filter}
use Rattle.xfs_rename.specs.xfs_scan.declared.evidence.Evidence.{Evidence}
use Rattle.xfs_salvage.specs.Kept.{claims_held, fresh_among, is_kept_file, kept_files, own_inodes}
use Rattle.xfs_rename.specs.xfs_request.Fresh.{new_root_core, new_system_core}
use Rattle.xfs_rename.specs.xfs_rebuild.declared.names_due.NamesDue.{NamesDue}
use Rattle.xfs_rename.specs.declared.planning.Renamed.{Renamed}
use Rattle.xfs_restored.specs.DueFiles.{new_core}
use Rattle.xfs_restored.specs.Relinking.{IsRelinked}
use Rattle.xfs_restored.proofs.WantedNumbers.{of_image}

-- an empty regular file
pub record IsEmptyRegular (f : FileRec) : Type 0 where
  pub kind : type_of f ≡ 8
  pub size : f.core.size ≡ 0
  pub data_none : length f.extents ≡ 0
  pub tree_none : length f.rest.tree ≡ 0

empty_is : (f : FileRec) → is_empty_regular f ≡ true → IsEmptyRegular f
empty_is f is =
    let one = and_parts (type_of f == 8 && f.core.size == 0 && length f.extents == 0) (length f.rest.tree == 0) is in
    let two = and_parts (type_of f == 8 && f.core.size == 0) (length f.extents == 0) one.0 in
    let three = and_parts (type_of f == 8) (f.core.size == 0) two.0 in
    record {
      kind = eqb-true (type_of f) 8 three.0;
      size = eqb-true f.core.size 0 three.1;
      data_none = eqb-true (length f.extents) 0 two.1;
      tree_none = eqb-true (length f.rest.tree) 0 one.1;
    }

-- a reserved inode but the root is one of the system's own
pub reserved_system : (root k : ℕ) → is_reserved_inode root k ≡ true → (k ≡ root → ⊥) → is_system root k ≡ true
reserved_system root k reserved off =
    elim (or_cases (k == root) (is_system root k) reserved) [
      | inl at ↦ absurd (off (eqb-true k root at))
      | inr is ↦ is
    ]

pub system_reserved : (root k : ℕ) → is_system root k ≡ true → is_reserved_inode root k ≡ true
system_reserved root k is = or_right (k == root) (is_system root k) is

-- a file that stands for the root, or for a system inode
pub standing_root : (root : ℕ) (f : FileRec) → stands root f ≡ true → f.ino ≡ root → type_of f ≡ 4
standing_root root f is at =
    eqb-true (type_of f) 4
    (sym (ap (λ (t : Bool). if t then is_directory f else (if is_system root f.ino then is_empty_regular f else true)) (eq-eqb f.ino root at)) ∙ is)

pub standing_system : (root : ℕ) (f : FileRec) → stands root f ≡ true → (f.ino ≡ root → ⊥) → is_system root f.ino ≡ true → IsEmptyRegular f
standing_system root f is off system =
    empty_is f
    (sym (ap (λ (t : Bool). if t then is_directory f else (if is_system root f.ino then is_empty_regular f else true)) (ne_eqb f.ino root off)
    ∙ ap (λ (t : Bool). if t then is_empty_regular f else true) system)
    ∙ is)

-- what is made anew is a directory just where it is the root
pub new_root : (v : Volume) (s : Stamp) → new_core v s v.rootino ≡ new_root_core v s
new_root v s = ap (λ (t : Bool). if t then new_root_core v s else new_system_core v s v.rootino) (eq-eqb v.rootino v.rootino refl)

pub new_system : (v : Volume) (s : Stamp) (ino : ℕ) → (ino ≡ v.rootino → ⊥) → new_core v s ino ≡ new_system_core v s ino
new_system v s ino off = ap (λ (t : Bool). if t then new_root_core v s else new_system_core v s ino) (ne_eqb ino v.rootino off)

module _ (g : Geometry) (sector : List ℕ) (s : Stamp) (image now : Image) (e : Evidence) (n : NamesDue) (r : Renamed) (has : IsRelinked g sector s image now e n r) where
  -- a kept file is what the root and the system inodes have to be
  pub file_stands : (f : FileRec) → Member f has.on.kept.files → stands g.rootino f ≡ true
  unfolding kept_files
  file_stands f is =
      let v : Volume = volume_of g in
      let of = of_image g sector s image now e n r has in
      let from = filter_member (is_kept_file v (candidates v image) (candidate_files v image)) f (candidate_files v image) (subst (λ (fs : List FileRec). Member f fs) of.files' is) in
      (and_parts (is_among (claims_held v (candidates v image) (candidate_files v image)).files f.ino) (stands g.rootino f) from.1).1

  -- each of these inodes is a kept file's, or is made anew
  pub own_inode : (ino : ℕ) → Member ino (own_inodes g.rootino) → is_in_use has.on.kept.files ino ≡ false → Member ino has.on.kept.fresh
  own_inode ino is free =
      let of = of_image g sector s image now e n r has in
      let fresh_are : has.on.kept.fresh ≡ fresh_among has.on.kept.files g.rootino = of.fresh' ∙ ap (λ (fs : List FileRec). fresh_among fs g.rootino) (sym of.files') in
      subst (λ (ns : List ℕ). Member ino ns) (sym fresh_are) (member_filter (λ m. not (is_in_use has.on.kept.files m)) ino (own_inodes g.rootino) is (ap not free))
