-- The data fork of a kept file stands in its slot as it did.
use Rattle.std.proofs.Common.{◌≡◌, ℕ, inl, inr, true, List, Option, Some, None, refl, sym, ap, ◌∙◌, subst}
use Rattle.std.specs.Prelude.{MatchOption}
use Rattle.std.specs.Option.{option_map}
use Rattle.xfs_disk.specs.Blocks.{Image, bytes_of_block}
use Rattle.xfs_disk.specs.declared.stamp.Stamp.{Stamp}
use Rattle.xfs_geom.specs.Volumes.{Volume, volume_of}
use Rattle.xfs_geom.specs.declared.geometry.Geometry.{Geometry}
use Rattle.xfs_inode.specs.Files.{is_core}
use Rattle.xfs_inode.specs.Named.{named_attr, named_link, named_top, slot_reads, tree_under}
use Rattle.xfs_inode.specs.Slots.{slot_read}
use Rattle.xfs_inode.specs.declared.files.FileRead.TheVariants as Reads
use Rattle.xfs_inode.specs.declared.reading.SlotRead.TheVariants as Read
use Rattle.xfs_image.specs.Slots.{reads_as, slot_bytes}
use Rattle.xfs_volume.specs.declared.cores.Core.{Core}
use Rattle.xfs_volume.specs.declared.files.FileRec.{FileRec}
use Rattle.xfs_views.proofs.Members.{Member}
use Rattle.xfs_render.specs.Slots.{DropsAttrs, SetsLinks}
use Rattle.xfs_salvage.specs.declared.found.Salvaged.{Salvaged}
use Rattle.xfs_rename.specs.xfs_request.Slots.{attrs_wanted, links_due, nlink_wanted, state_at}
use Rattle.xfs_rename.specs.xfs_request.declared.seen.SlotSeen.{SlotSeen}
use Rattle.xfs_restored.specs.Kept.{HasKept}
use Rattle.xfs_restored.proofs.Changes.{drops_same, links_forks}
use Rattle.xfs_restored.proofs.Forks.{HasSameFork}
use Rattle.xfs_restored.proofs.InKept.{kept_read}
use Rattle.xfs_restored.proofs.RereadSlots.{file_changes}
use Rattle.xfs_restored.proofs.Readings.{attrs_have, bare_is, file_has}

-- a slot has the core of the file that it reads as, which keeps the rules
pub record HasCore (v : Volume) (slot : List ℕ) (f : FileRec) : Type 0 where
  pub in_use : slot_read v f.ino slot ≡ Read.InUse f.core
  pub keeps : is_core f.core ≡ true

whole_core : (v : Volume) (image : Image) (slot : List ℕ) (f : FileRec) → slot_reads v image f.ino slot ≡ Reads.File f → HasCore v slot f
whole_core v image slot f reads =
    let tree = tree_under v image f.ino (named_top v f.ino slot) in
    let leaf = option_map (bytes_of_block image) (named_attr v f.ino slot) in
    let link = option_map (bytes_of_block image) (named_link v f.ino slot) in
    let is = file_has v f.ino slot tree leaf link (Reads.File f) tt reads in
    let same : is.core ≡ f.core = ap (λ (x : FileRec). x.core) (attrs_have v f.ino slot tree leaf link is.core is.held f is.attrs).is in
    record { in_use = is.in_use ∙ ap (λ (c : Core). Read.InUse c) same; keeps = subst (λ (c : Core). is_core c ≡ true) same is.keeps }

bare_core : (v : Volume) (image : Image) (slot : List ℕ) (f : FileRec) → slot_reads v image f.ino slot ≡ Reads.FileWithoutAttrs f → HasCore v slot f
bare_core v image slot f reads =
    let tree = tree_under v image f.ino (named_top v f.ino slot) in
    let leaf = option_map (bytes_of_block image) (named_attr v f.ino slot) in
    let link = option_map (bytes_of_block image) (named_link v f.ino slot) in
    let is = file_has v f.ino slot tree leaf link (Reads.FileWithoutAttrs f) tt reads in
    let same : is.core ≡ f.core = ap (λ (x : FileRec). x.core) (bare_is v f.ino slot tree leaf link is.core is.held f is.attrs) in
    record { in_use = is.in_use ∙ ap (λ (c : Core). Read.InUse c) same; keeps = subst (λ (c : Core). is_core c ≡ true) same is.keeps }

-- forks that are the same one after the other
then_same : (forkoff : ℕ) (old bare new : List ℕ) → HasSameFork forkoff old bare → HasSameFork forkoff bare new → HasSameFork forkoff old new
then_same forkoff old bare new one two = record {
  number = λ a w low high. two.number a w low high ∙ one.number a w low high;
  part = λ a w low high. two.part a w low high ∙ one.part a w low high;
}

equal_same : (forkoff : ℕ) (old new : List ℕ) → new ≡ old → HasSameFork forkoff old new
equal_same forkoff old new same = subst (λ (slot : List ℕ). HasSameFork forkoff old slot) (sym same) (record { number = λ a w low high. refl; part = λ a w low high. refl })

dropped_same : (v : Volume) (f : FileRec) (attrs : Option ℕ) (old bare : List ℕ) → slot_read v f.ino old ≡ Read.InUse f.core
    → MatchOption attrs (bare ≡ old) (λ n. DropsAttrs v f.ino n old bare) → HasSameFork f.core.forkoff old bare
dropped_same v f None old bare in_use same = equal_same f.core.forkoff old bare same
dropped_same v f (Some n) old bare in_use drops = drops_same v f.ino n old bare drops f.core in_use

linked_same : (v : Volume) (ino forkoff : ℕ) (nlink : Option ℕ) (old new : List ℕ) → MatchOption nlink (new ≡ old) (λ n. SetsLinks v ino n old new) → HasSameFork forkoff old new
linked_same v ino forkoff None old new same = equal_same forkoff old new same
linked_same v ino forkoff (Some n) old new sets =
    let forks = links_forks v ino n old new sets in
    record { number = λ a w low high. forks.number a w low; part = λ a w low high. forks.part a w low }

module _ (g : Geometry) (s : Stamp) (image now : Image) (kept : Salvaged) (seen : List SlotSeen) (has : HasKept g s image now kept seen) where
  pub file_core : (f : FileRec) → Member f kept.files → HasCore (volume_of g) (slot_bytes (volume_of g) image f.ino) f
  unfolding reads_as
  file_core f is =
      let v : Volume = volume_of g in
      elim (kept_read g image kept has.of f is).reads [
        | inl whole ↦ whole_core v image (slot_bytes v image f.ino) f whole
        | inr bare ↦ bare_core v image (slot_bytes v image f.ino) f bare
      ]

  pub fork_stays : (f : FileRec) → Member f kept.files → HasSameFork f.core.forkoff (slot_bytes (volume_of g) image f.ino) (slot_bytes (volume_of g) now f.ino)
  fork_stays f is =
      let v : Volume = volume_of g in
      let made = file_changes g s image now kept seen has f is in
      let core = file_core f is in
      then_same f.core.forkoff (slot_bytes v image f.ino) made.bare (slot_bytes v now f.ino)
      (dropped_same v f (attrs_wanted f (state_at seen f.ino)) (slot_bytes v image f.ino) made.bare core.in_use made.dropped)
      (linked_same v f.ino f.core.forkoff (nlink_wanted f (links_due g.rootino kept.files kept.entries f)) made.bare (slot_bytes v now f.ino) made.linked)
