-- What an image gives a rebuild to go by is one, and so are the bytes at hand.
use Rattle.std.proofs.Common.{◌≡◌, ℕ, ◌++◌, List, [], ◌∷◌, refl, sym, ap, ◌∙◌}
use Rattle.std.specs.List.{concat}
use Rattle.xfs_collections.specs.Bank.{blocks_at}
use Rattle.xfs_disk.specs.Blocks.{Image}
use Rattle.xfs_disk.specs.declared.stamp.Stamp.{Stamp}
use Rattle.xfs_geom.specs.Volumes.{Volume, volume_of}
use Rattle.xfs_geom.specs.declared.geometry.Geometry.{Geometry}
use Rattle.xfs_groups.specs.Answers.{lists_of, reserved_lists}
use Rattle.xfs_groups.specs.declared.groups.GroupTrees.{GroupTrees}
use Rattle.xfs_log.specs.xfs_heads.declared.log_state.LogState.{LogState}
use Rattle.xfs_image.specs.Candidates.{candidates}
use Rattle.xfs_image.specs.Claims.{candidate_files}
use Rattle.xfs_image.specs.Directories.{dirs_read, entries_read}
use Rattle.xfs_image.specs.View.{log_of}
use Rattle.xfs_mend.specs.xfs_rebuild.Bytes.{AreAtHand, AreReadOf}
use Rattle.xfs_mend.specs.xfs_rebuild.Found.{IsKept, reserved_of}
use Rattle.xfs_mend.specs.xfs_rebuild.Rebuilds.{Ground, IsGround}
use Rattle.xfs_mend.specs.xfs_rebuild.Seen.{slots_seen}
use Rattle.xfs_render.specs.declared.bytes.Bytes.{Bytes}
use Rattle.xfs_render.specs.declared.wanted_slots.SlotWanted.{SlotWanted}
use Rattle.xfs_salvage.specs.Kept.{entries_of_kept, fresh_inodes, kept_clusters, kept_dirs, kept_files}
use Rattle.xfs_salvage.specs.declared.found.Salvaged.{Salvaged}
use Rattle.xfs_scan.specs.Evidence.{IsEvidence, dirs_seen, entries_seen, files_seen}
use Rattle.xfs_scan.specs.declared.evidence.Evidence.{Evidence}
use Rattle.xfs_slots.specs.Facts.{slot_facts}
use Rattle.xfs_slots.specs.Gathered.{bare_inodes}

-- the reserved blocks of all groups are their lists, one behind the other
joined_lists : (trees : List GroupTrees) → reserved_of trees ≡ concat (lists_of trees)
joined_lists [] = refl
joined_lists (t ∷ trees) = ap (λ (rest : List ℕ). t.reserved ++ rest) (joined_lists trees)

-- what is kept of the candidates of an image
abbrev kept_of : Volume → Image → Salvaged
kept_of v image = record {
  clusters = kept_clusters v (candidates v image) (candidate_files v image);
  files = kept_files v (candidates v image) (candidate_files v image);
  fresh = fresh_inodes v (candidates v image) (candidate_files v image);
  entries = entries_of_kept v (candidates v image) (candidate_files v image) (entries_read v image (candidate_files v image));
  dirs = kept_dirs v (candidates v image) (candidate_files v image) (dirs_read v image (candidate_files v image));
}

-- and what an image gives a rebuild to go by
abbrev ground_of : Volume → Image → Ground
ground_of v image = record {
  kept = kept_of v image;
  seen = slots_seen v (candidates v image) (slot_facts v image) (bare_inodes v image);
  reserved = concat (reserved_lists v image);
  log = log_of v image;
}

kept_is : (g : Geometry) (image : Image) (e : Evidence) (kept : Salvaged) → IsEvidence g image e → IsKept (volume_of g) e kept → kept ≡ kept_of (volume_of g) image
kept_is g image e kept told is =
    let v : Volume = volume_of g in
    let cs : e.clusters ≡ candidates v image = told.clusters in
    let fs : files_seen e.seen ≡ candidate_files v image = told.files in
    let es : entries_seen e.seen ≡ entries_read v image (candidate_files v image) = told.entries in
    let ds : dirs_seen e.seen ≡ dirs_read v image (candidate_files v image) = told.dirs in
    let clusters : kept.clusters ≡ (kept_of v image).clusters = is.clusters' ∙ (λ i. kept_clusters v (cs i) (fs i)) in
    let files : kept.files ≡ (kept_of v image).files = is.files' ∙ (λ i. kept_files v (cs i) (fs i)) in
    let fresh : kept.fresh ≡ (kept_of v image).fresh = is.fresh' ∙ (λ i. fresh_inodes v (cs i) (fs i)) in
    let entries : kept.entries ≡ (kept_of v image).entries = is.entries' ∙ (λ i. entries_of_kept v (cs i) (fs i) (es i)) in
    let dirs : kept.dirs ≡ (kept_of v image).dirs = is.dirs' ∙ (λ i. kept_dirs v (cs i) (fs i) (ds i)) in
    λ i. record { clusters = clusters i; files = files i; fresh = fresh i; entries = entries i; dirs = dirs i }

ground_is : (g : Geometry) (image : Image) (e : Evidence) (on : Ground) → IsEvidence g image e → IsGround (volume_of g) e on → on ≡ ground_of (volume_of g) image
ground_is g image e on told is =
    let v : Volume = volume_of g in
    let cs : e.clusters ≡ candidates v image = told.clusters in
    let ss : e.slots ≡ slot_facts v image = told.slots in
    let bs : e.bare ≡ bare_inodes v image = told.bare in
    let kept : on.kept ≡ kept_of v image = kept_is g image e on.kept told is.kept' in
    let seen : on.seen ≡ (ground_of v image).seen = is.seen' ∙ (λ i. slots_seen v (cs i) (ss i) (bs i)) in
    let reserved : on.reserved ≡ (ground_of v image).reserved = is.reserved' ∙ joined_lists e.trees ∙ ap (λ (ls : List (List ℕ)). concat ls) told.trees in
    let log : on.log ≡ log_of v image = is.log' ∙ told.log in
    λ i. record { kept = kept i; seen = seen i; reserved = reserved i; log = log i }

pub ground_one : (g : Geometry) (image : Image) (e f : Evidence) (on other : Ground) → IsEvidence g image e → IsEvidence g image f
    → IsGround (volume_of g) e on → IsGround (volume_of g) f other → on ≡ other
ground_one g image e f on other te tf first second = ground_is g image e on te first ∙ sym (ground_is g image f other tf second)

-- the bytes at hand, which are given by equations
pub bytes_one : (g : Geometry) (sector : List ℕ) (s : Stamp) (clusters : List ℕ) (slots : List SlotWanted) (image : Image) (lsns : List ℕ) (log : LogState) (b c : Bytes)
    → AreAtHand g sector s clusters slots b → AreReadOf image lsns log b → AreAtHand g sector s clusters slots c → AreReadOf image lsns log c → b ≡ c
bytes_one g sector s clusters slots image lsns log b c hb rb hc rc =
    let places : b.places ≡ c.places = hb.places' ∙ sym hc.places' in
    let sectors : b.sector ≡ c.sector = hb.sector' ∙ sym hc.sector' in
    let old : b.old ≡ c.old = rb.old' ∙ ap (blocks_at image) places ∙ sym rc.old' in
    let objects : b.objects ≡ c.objects = hb.objects' ∙ sym hc.objects' in
    let wanted : b.slots ≡ c.slots = hb.slots' ∙ sym hc.slots' in
    let cycle : b.cycle ≡ c.cycle = rb.cycle' ∙ sym rc.cycle' in
    let stamp : b.stamp ≡ c.stamp = hb.stamp' ∙ sym hc.stamp' in
    λ i. record { sector = sectors i; places = places i; old = old i; objects = objects i; slots = wanted i; cycle = cycle i; stamp = stamp i }
