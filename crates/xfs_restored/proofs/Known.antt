-- What is known of the slots of an image by its evidence is what they read as.
use Rattle.std.proofs.Common.{◌≡◌, ℕ, inl, inr, List, [], ◌∷◌, map, refl, sym, ap, ap₂, ◌∙◌}
use Rattle.xfs_word.specs.Field.{field_of}
use Rattle.xfs_disk.specs.Blocks.{Image}
use Rattle.xfs_disk.specs.Lists.{is_among}
use Rattle.xfs_geom.specs.Volumes.{Volume, volume_of}
use Rattle.xfs_geom.specs.declared.geometry.Geometry.{Geometry}
use Rattle.xfs_image.specs.Candidates.{candidates}
use Rattle.xfs_image.specs.Claims.{candidate_inodes}
use Rattle.xfs_image.specs.Slots.{slot_bytes}
use Rattle.xfs_views.proofs.Members.{Member}
use Rattle.xfs_rename.specs.xfs_slots.Facts.{slot_fact, slot_facts}
use Rattle.xfs_rename.specs.xfs_slots.Gathered.{bare_inodes}
use Rattle.xfs_rounds.specs.declared.facts.SlotReading.{SlotReading}
use Rattle.xfs_rounds.specs.declared.facts.SlotReading.TheVariants as Reading
use Rattle.xfs_rename.specs.xfs_scan.Evidence.{IsEvidence}
use Rattle.xfs_rename.specs.xfs_scan.declared.evidence.Evidence.{Evidence}
use Rattle.xfs_rename.specs.xfs_request.declared.seen.SlotSeen.{SlotSeen}
use Rattle.xfs_rename.specs.xfs_request.declared.seen.SlotState.{SlotState}
use Rattle.xfs_rename.specs.xfs_rebuild.Found.{seen_in_evidence}
use Rattle.xfs_rename.specs.xfs_rebuild.Seen as Seen
use Rattle.xfs_restored.specs.Kept.{all_slots_seen, slot_seen, state_by}
use Rattle.xfs_restored.proofs.KnownSlots.{known}

same_state : (bare : List ℕ) (ino : ℕ) (reading : SlotReading) → Seen.state_of_reading bare ino reading ≡ state_by (is_among bare ino) reading
same_state bare ino Reading.Free = refl
same_state bare ino Reading.InUse = refl
same_state bare ino Reading.Unsound = refl

module _ (v : Volume) (image : Image) where
  one_known : (ino : ℕ) → Member ino (candidate_inodes v image) → Seen.seen_of_fact (bare_inodes v image) ino (slot_fact v image ino) ≡ slot_seen v image ino
  one_known ino is =
      ap (λ (state : SlotState). record { ino = ino; state = state; lsn = field_of (slot_bytes v image ino) 112 8 })
      (same_state (bare_inodes v image) ino (slot_fact v image ino).reading ∙ sym (known v image ino is))

  all_known : (inos : List ℕ) → ((ino : ℕ) → Member ino inos → Member ino (candidate_inodes v image))
      → Seen.all_seen (bare_inodes v image) inos (map (slot_fact v image) inos) ≡ map (slot_seen v image) inos
  all_known [] each = refl
  all_known (ino ∷ inos) each =
      ap₂ (λ (slot : SlotSeen) (slots : List SlotSeen). slot ∷ slots) (one_known ino (each ino (inl refl))) (all_known inos (λ n is. each n (inr is)))

  slots_known : Seen.slots_seen v (candidates v image) (slot_facts v image) (bare_inodes v image) ≡ all_slots_seen v image
  unfolding Seen.slots_seen Seen.inodes_of_clusters slot_facts all_slots_seen candidate_inodes
  slots_known = all_known (candidate_inodes v image) (λ ino is. is)

pub evidence_known : (g : Geometry) (image : Image) (e : Evidence) → IsEvidence g image e → seen_in_evidence (volume_of g) e ≡ all_slots_seen (volume_of g) image
evidence_known g image e told = (λ i. Seen.slots_seen (volume_of g) (told.clusters i) (told.slots i) (told.bare i)) ∙ slots_known (volume_of g) image
