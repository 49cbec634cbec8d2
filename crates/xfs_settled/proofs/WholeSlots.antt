-- The slot of a kept file is sealed, and its attribute fork begins where the file says.
use Rattle.std.proofs.Common.{◌≡◌, ◌⊎◌, inl, inr, ℕ, Bool, true, false, not, ◌≤◌, ◌==◌, nat_le, if◌then◌else◌, List, Option, refl, ap, ◌∙◌, arith}
use Rattle.std.proofs.lemmas.Bool.{and_from, le-leb}
use Rattle.xfs_word.specs.Field.{field_of}
use Rattle.xfs_word.specs.Seal.{is_sealed}
use Rattle.xfs_word.specs.declared.extents.Extent.{Extent}
use Rattle.xfs_disk.specs.Blocks.{Image}
use Rattle.xfs_disk.specs.declared.stamp.Stamp.{Stamp}
use Rattle.xfs_geom.specs.Volumes.{Volume, volume_of}
use Rattle.xfs_geom.specs.declared.geometry.Geometry.{Geometry}
use Rattle.xfs_image.specs.Slots.{reads_as, slot_bytes}
use Rattle.xfs_inode.specs.Cores.{stated_core}
use Rattle.xfs_inode.specs.Files.{file_read}
use Rattle.xfs_inode.specs.Slots.{slot_read, slot_seal, unsupported, used_read}
use Rattle.xfs_inode.specs.declared.files.FileRead.{FileRead}
use Rattle.xfs_inode.specs.declared.files.FileRead.TheVariants as Reads
use Rattle.xfs_inode.specs.declared.reading.SlotRead.TheVariants as Read
use Rattle.xfs_views.proofs.Members.{Member}
use Rattle.xfs_scan.specs.declared.evidence.Evidence.{Evidence}
use Rattle.xfs_tree.specs.Reading.{Contents}
use Rattle.xfs_views.proofs.FileTests.{core_says}
use Rattle.xfs_volume.specs.declared.cores.Core.{Core}
use Rattle.xfs_volume.specs.declared.files.FileRec.{FileRec}
use Rattle.xfs_mend.specs.xfs_rebuild.Changes.{is_whole_slot}
use Rattle.xfs_mend.specs.xfs_rebuild.Rebuilds.{Ground}
use Rattle.xfs_mend.specs.xfs_rebuild.declared.names_due.NamesDue.{NamesDue}
use Rattle.xfs_mend.proofs.xfs_restored.InKept.{kept_read}
use Rattle.xfs_mend.proofs.xfs_restored.Readings.{HasData, attrs_have, bare_is, file_has, stated}
use Rattle.xfs_settled.specs.Gathered.{IsGathered}
use Rattle.xfs_settled.proofs.Found as Found

pub record IsWholeOf (v : Volume) (f : FileRec) (slot : List ℕ) : Type 0 where
  pub whole : is_whole_slot v f.ino slot ≡ true
  pub forkoff : field_of slot 82 1 ≡ f.core.forkoff
  pub low : f.core.forkoff ≤ 41

in_use_sealed : (v : Volume) (ino : ℕ) (slot : List ℕ) (core : Core) → slot_read v ino slot ≡ Read.InUse core → is_sealed (slot_seal v ino) slot ≡ true
unfolding slot_read
in_use_sealed v ino slot core is = by_seal (is_sealed (slot_seal v ino) slot) is
  where
    by_seal : (t : Bool) → (if not t then Read.Unsound else (if (stated_core slot).mode == 0 then Read.Free else used_read (stated_core slot) (unsupported (stated_core slot) slot))) ≡ Read.InUse core
        → t ≡ true
    by_seal true read = refl
    by_seal false read = absurd cc

module _ (v : Volume) (f : FileRec) (slot : List ℕ) (tree : Option (Contents Extent)) (attr_leaf link : Option (List ℕ)) where
  whole_of : (read : FileRead) (held : HasData v f.ino slot tree attr_leaf link read) → held.core ≡ f.core → IsWholeOf v f slot
  whole_of read held same =
      let forkoff : field_of slot 82 1 ≡ f.core.forkoff = ap (λ (c : Core). c.forkoff) (stated v f.ino slot held.core held.in_use ∙ same) in
      let inside = (core_says held.core held.keeps).inside in
      let own : held.core.forkoff ≡ f.core.forkoff = ap (λ (c : Core). c.forkoff) same in
      record {
        whole =
            and_from (is_sealed (slot_seal v f.ino) slot) (nat_le (field_of slot 82 1) 41) (in_use_sealed v f.ino slot held.core held.in_use)
            (le-leb (field_of slot 82 1) 41 (omega (arith, forkoff, inside, own)));
        forkoff = forkoff;
        low = omega (arith, inside, own);
      }

  file_whole : file_read v f.ino slot tree attr_leaf link ≡ Reads.File f → IsWholeOf v f slot
  file_whole reads =
      let held : HasData v f.ino slot tree attr_leaf link (Reads.File f) = file_has v f.ino slot tree attr_leaf link (Reads.File f) tt reads in
      let attrs = attrs_have v f.ino slot tree attr_leaf link held.core held.held f held.attrs in
      whole_of (Reads.File f) held (ap (λ (x : FileRec). x.core) attrs.is)

  bare_whole : file_read v f.ino slot tree attr_leaf link ≡ Reads.FileWithoutAttrs f → IsWholeOf v f slot
  bare_whole reads =
      let held : HasData v f.ino slot tree attr_leaf link (Reads.FileWithoutAttrs f) = file_has v f.ino slot tree attr_leaf link (Reads.FileWithoutAttrs f) tt reads in
      whole_of (Reads.FileWithoutAttrs f) held (ap (λ (x : FileRec). x.core) (bare_is v f.ino slot tree attr_leaf link held.core held.held f held.attrs))

read_whole : (v : Volume) (image : Image) (f : FileRec) → (reads_as v image f.ino ≡ Reads.File f) ⊎ (reads_as v image f.ino ≡ Reads.FileWithoutAttrs f) → IsWholeOf v f (slot_bytes v image f.ino)
unfolding reads_as
read_whole v image f (inl reads) = file_whole v f (slot_bytes v image f.ino) _ _ _ reads
read_whole v image f (inr reads) = bare_whole v f (slot_bytes v image f.ino) _ _ _ reads

module _ (g : Geometry) (s : Stamp) (image : Image) (e : Evidence) (on : Ground) (n : NamesDue) (has : IsGathered g s image e on n) where
  pub kept_whole : (f : FileRec) → Member f on.kept.files → IsWholeOf (volume_of g) f (slot_bytes (volume_of g) image f.ino)
  kept_whole f is = read_whole (volume_of g) image f (kept_read g image on.kept (Found.of_image g s image e on n has) f is).reads
