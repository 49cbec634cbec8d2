-- Two images in which a rebuild of one image was written are one, where no name changes.
use Rattle.std.proofs.Common.{◌≡◌, ℕ, List, [], length, get_or, refl, sym, ap, ◌∙◌, subst, arith}
use Rattle.xfs_disk.specs.Blocks.{Image, IsImage}
use Rattle.xfs_disk.specs.declared.stamp.Stamp.{Stamp}
use Rattle.xfs_geom.specs.Volumes.{volume_of}
use Rattle.xfs_geom.specs.declared.geometry.Geometry.{Geometry}
use Rattle.xfs_place.specs.declared.placed.Placed.{Placed}
use Rattle.xfs_place.specs.declared.wanted.Wanted.{Wanted}
use Rattle.xfs_mend.proofs.xfs_rebuild.Served.{slots_serve}
use Rattle.xfs_mend.specs.xfs_rebuild.Bytes.{file_lsns}
use Rattle.xfs_mend.specs.xfs_rebuild.Changes.{CanChangeAll}
use Rattle.xfs_mend.specs.xfs_rebuild.Rebuilds.{AreBytesOf, Ground, IsPlannedOn, IsRebuildOf, asked, slots_asked}
use Rattle.xfs_mend.specs.xfs_rebuild.declared.planning.Rebuilt.{Rebuilt}
use Rattle.xfs_render.specs.Clusters.{CanCluster}
use Rattle.xfs_render.specs.Objects.{blocks_of_asks, object_blocks}
use Rattle.xfs_render.specs.declared.bytes.Bytes.{Bytes}
use Rattle.xfs_render.specs.declared.wanted_slots.SlotWanted.{SlotWanted}
use Rattle.xfs_request.specs.Cycles.{kept_lsns}
use Rattle.xfs_request.specs.Requests.{volume_wanted}
use Rattle.xfs_mend.proofs.xfs_restored.Standing.{holds, others_stay}
use Rattle.xfs_mend.specs.xfs_restored.Rewriting.{IsRewritten}
use Rattle.xfs_scan.specs.Evidence.{IsEvidence}
use Rattle.xfs_scan.specs.declared.evidence.Evidence.{Evidence}
use Rattle.xfs_settled.proofs.Grounding.{bytes_one, ground_one}
use Rattle.xfs_settled.proofs.ImagesOnce.{CanSeal, CanServe, IsPut, IsSameWork, works_one}

-- no objects are built where no name changes
no_objects : (g : Geometry) (on : Ground) (p : Placed) → object_blocks (asked g on) p ≡ []
unfolding volume_wanted blocks_of_asks
no_objects g on p = refl

module _ (g : Geometry) (sector : List ℕ) (s : Stamp) (image now : Image) (on : Ground) (r : Rebuilt) (is : IsPlannedOn g sector s image on r) (new : IsRewritten g r image now) where
  put_of : IsPut (asked g on) is.planned.placed is.bytes r image now
  put_of = record {
    stands = is.planned.stands;
    plan = is.planned.plan;
    rendered = is.planned.rendered;
    holds = holds g sector s image now on r is new;
    others = others_stay g sector s image now on r is new;
    left = is.planned.left;
  }

-- what is wanted of slots can be made of the bytes at hand
bytes_serve : (g : Geometry) (sector : List ℕ) (s : Stamp) (image : Image) (on : Ground) (b : Bytes) → AreBytesOf g sector s image on b → CanServe (asked g on) b
unfolding volume_wanted
bytes_serve g sector s image on b made i low inner =
    let hand = made.at_hand in
    subst (λ (ws : List SlotWanted). CanCluster (volume_of g) ws (get_or b.places i 0) (get_or b.old i [])) (sym hand.slots')
    (slots_serve (volume_of g) s on.kept on.seen b.places b.old (subst (λ (ws : List SlotWanted). CanChangeAll (volume_of g) ws b.places b.old) hand.slots' hand.can) i low inner)

module _ (g : Geometry) (sector : List ℕ) (s : Stamp) (image now other : Image) (on : Ground) (r q : Rebuilt) (is : IsPlannedOn g sector s image on r) (new : IsRewritten g r image now)
    (whole : IsImage (length image) now) (js : IsPlannedOn g sector s image on q) (next : IsRewritten g q image other) (entire : IsImage (length image) other) where
  abbrev w : Wanted
  w = asked g on

  bytes_are : js.bytes ≡ is.bytes
  bytes_are =
      bytes_one g sector s on.kept.clusters (slots_asked g s on) image (kept_lsns (volume_of g) on.kept on.seen (file_lsns (volume_of g) image on.kept.files)) on.log js.bytes is.bytes
      js.made.at_hand js.made.read is.made.at_hand is.made.read

  second : IsPut w js.planned.placed is.bytes q image other
  second = subst (λ (b : Bytes). IsPut w js.planned.placed b q image other) bytes_are (put_of g sector s image other on q js next)

  seals : CanSeal (object_blocks w is.planned.placed) is.bytes.objects
  seals j d low = let none = ap length (no_objects g on is.planned.placed) in absurd (omega (arith, low, none))

  pub planned_images_one : IsSameWork r q now other
  planned_images_one =
      works_one w is.planned.placed js.planned.placed is.bytes r q (length image) image now other whole entire (put_of g sector s image now on r is new) second
      (no_objects g on js.planned.placed ∙ sym (no_objects g on is.planned.placed)) (bytes_serve g sector s image on is.bytes is.made) seals

-- whatever evidence each goes by
pub rebuilds_one : (g : Geometry) (sector : List ℕ) (s : Stamp) (image now other : Image) (e f : Evidence) (r q : Rebuilt)
    → IsEvidence g image e → IsRebuildOf g sector s image e r → IsRewritten g r image now → IsImage (length image) now
    → IsEvidence g image f → IsRebuildOf g sector s image f q → IsRewritten g q image other → IsImage (length image) other
    → IsSameWork r q now other
rebuilds_one g sector s image now other e f r q te ie new whole tf jf next entire =
    let same : jf.on ≡ ie.on = ground_one g image f e jf.on ie.on tf te jf.ground ie.ground in
    let planned : IsPlannedOn g sector s image ie.on q = subst (λ (on : Ground). IsPlannedOn g sector s image on q) same jf.planned in
    planned_images_one g sector s image now other ie.on r q ie.planned new whole planned next entire
