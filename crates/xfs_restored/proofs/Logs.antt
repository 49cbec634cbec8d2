-- The groups, the superblocks and the log of a volume that was rebuilt.
use Rattle.std.proofs.Common.{◌≡◌, ℕ, ◌+◌, ◌*◌, ◌^◌, ◌≤◌, ◌<◌, true, List, Option, Ok, Some, None, refl, sym, ◌∙◌}
use Rattle.std.specs.Prelude.{MatchOption}
use Rattle.xfs_disk.specs.Blocks.{Image, bytes_of_block}
use Rattle.xfs_disk.specs.declared.stamp.Stamp.{Stamp}
use Rattle.xfs_geom.specs.Volumes.{volume_of}
use Rattle.xfs_geom.specs.declared.geometry.Geometry.{Geometry}
use Rattle.xfs_log.specs.xfs_heads.declared.log_state.LogState.{LogState}
use Rattle.xfs_log.specs.xfs_heads.declared.log_state.LogState.TheVariants.{Clean, Dirty}
use Rattle.xfs_image.specs.Consistent.{IsElected, backup_agrees}
use Rattle.xfs_image.specs.Groups.{groups_read}
use Rattle.xfs_image.specs.View.{counts_of, log_of}
use Rattle.xfs_render.specs.Plans.{planned}
use Rattle.xfs_rename.specs.xfs_scan.Evidence.{IsEvidence}
use Rattle.xfs_rename.specs.xfs_scan.declared.evidence.Evidence.{Evidence}
use Rattle.xfs_rename.specs.xfs_made.Groups.{due_groups}
use Rattle.xfs_views.proofs.LsnsStay.{log_stays}
use Rattle.xfs_rename.proofs.xfs_made.Groups.{groups_stand, log_stands}
use Rattle.xfs_rename.proofs.xfs_made.Supers.{backups_agree, counts_stand, primary_stands}
use Rattle.xfs_rename.specs.xfs_made.Standing.{IsStanding, agf_crc_at, agi_crc_at}
use Rattle.xfs_rename.specs.xfs_request.Chunks.{inodes_wanted}
use Rattle.xfs_rename.specs.xfs_request.Cycles.{due_cycle, kept_lsns}
use Rattle.xfs_rename.specs.xfs_request.Requests.{volume_wanted}
use Rattle.xfs_rename.proofs.xfs_made.OnceLists.{all_range}
use Rattle.xfs_rename.specs.xfs_rebuild.Bytes.{file_lsns}
use Rattle.xfs_rename.specs.xfs_rebuild.Rebuilds.{Ground, IsPlannedOn, IsRebuildOf, asked}
use Rattle.xfs_rename.specs.xfs_rebuild.declared.planning.Rebuilt.{Rebuilt}
use Rattle.xfs_restored.specs.Rewriting.{IsRewritten}
use Rattle.xfs_rename.specs.xfs_made.Unused.{IsOfLog}
use Rattle.xfs_restored.proofs.Placed.{log_left}
use Rattle.xfs_restored.proofs.Standing.{others_stay, stands}
use Rattle.xfs_restored.proofs.Staying.{off_list}

-- a log that is not to be blank was clean
was_clean : (log : LogState) (lsns : List ℕ) → due_cycle log lsns ≡ None → (head : ℕ) × (log ≡ Clean head)
was_clean (Clean head) lsns none = (head, refl)
was_clean Dirty lsns none = absurd cc

module _ (g : Geometry) (sector : List ℕ) (s : Stamp) (image now : Image) (on : Ground) (r : Rebuilt) (is : IsPlannedOn g sector s image on r) (new : IsRewritten g r image now) where
  standing : IsStanding (asked g on) is.planned.placed is.bytes is.planned.rendered.super now
  standing = stands g sector s image now on r is new

  pub groups_rebuilt : groups_read (volume_of g) now
      ≡ Ok (due_groups (volume_of g) (inodes_wanted (volume_of g) on.kept) is.planned.placed.groups (agf_crc_at (volume_of g) now) (agi_crc_at (volume_of g) now))
  unfolding volume_wanted
  groups_rebuilt = groups_stand (asked g on) is.planned.placed is.bytes is.planned.rendered.super now standing

  pub super_rebuilt : (elects : IsElected (volume_of g) now) × (elects.vote.place ≡ 0)
  unfolding volume_wanted
  super_rebuilt = primary_stands (asked g on) is.planned.placed is.bytes is.planned.rendered.super now standing

  pub backups_rebuilt : (ag : ℕ) → 1 ≤ ag → ag < g.agcount → backup_agrees (volume_of g) now ag ≡ true
  unfolding volume_wanted
  backups_rebuilt = backups_agree (asked g on) is.planned.placed is.bytes is.planned.rendered.super now standing

  pub counts_rebuilt : counts_of now ≡ is.planned.placed.counts
  counts_rebuilt = counts_stand (asked g on) is.planned.placed is.bytes is.planned.rendered.super now standing

  pub log_blank : (cycle : ℕ) → is.bytes.cycle ≡ Some cycle → log_of (volume_of g) now ≡ Clean (cycle * 2 ^ 32 + 2)
  unfolding volume_wanted
  log_blank cycle some = log_stands (asked g on) is.planned.placed is.bytes is.planned.rendered.super now cycle standing some

  pub log_same : is.bytes.cycle ≡ None → log_of (volume_of g) now ≡ log_of (volume_of g) image
  log_same none =
      log_stays (volume_of g) image now
      (all_range (λ block. bytes_of_block now block ≡ bytes_of_block image block) g.log g.logblocks
      (λ k low high.
      others_stay g sector s image now on r is new k
      (off_list (IsOfLog (volume_of g)) (planned is.planned.plan) k (log_left g sector s image on r is none) (record { from = low; below = high }))))

  pub log_clean : on.log ≡ log_of (volume_of g) image → (head : ℕ) × (log_of (volume_of g) now ≡ Clean head)
  log_clean known = by_cycle is.bytes.cycle refl
    where
      by_cycle : (cycle : Option ℕ) → is.bytes.cycle ≡ cycle → (head : ℕ) × (log_of (volume_of g) now ≡ Clean head)
      by_cycle (Some cycle) some = (cycle * 2 ^ 32 + 2, log_blank cycle some)
      by_cycle None none =
          let was = was_clean on.log (kept_lsns (volume_of g) on.kept on.seen (file_lsns (volume_of g) image on.kept.files)) (sym is.made.read.cycle' ∙ none) in
          (was.0, log_same none ∙ sym known ∙ was.1)

  log_at : on.log ≡ log_of (volume_of g) image → (o : Option ℕ) → is.bytes.cycle ≡ o
      → MatchOption o (log_of (volume_of g) now ≡ on.log) (λ cycle. log_of (volume_of g) now ≡ Clean (cycle * 2 ^ 32 + 2))
  log_at known None none = log_same none ∙ sym known
  log_at known (Some cycle) some = log_blank cycle some

  pub log_due : on.log ≡ log_of (volume_of g) image
      → MatchOption (due_cycle on.log (kept_lsns (volume_of g) on.kept on.seen (file_lsns (volume_of g) image on.kept.files))) (log_of (volume_of g) now ≡ on.log)
      (λ cycle. log_of (volume_of g) now ≡ Clean (cycle * 2 ^ 32 + 2))
  log_due known = log_at known (due_cycle on.log (kept_lsns (volume_of g) on.kept on.seen (file_lsns (volume_of g) image on.kept.files))) is.made.read.cycle'

pub evidence_log_clean : (g : Geometry) (sector : List ℕ) (s : Stamp) (image now : Image) (e : Evidence) (r : Rebuilt) → IsEvidence g image e
    → IsRebuildOf g sector s image e r → IsRewritten g r image now → (head : ℕ) × (log_of (volume_of g) now ≡ Clean head)
evidence_log_clean g sector s image now e r evidence is new = log_clean g sector s image now is.on r is.planned new (is.ground.log' ∙ evidence.log)

pub evidence_log_due : (g : Geometry) (sector : List ℕ) (s : Stamp) (image now : Image) (e : Evidence) (r : Rebuilt) → IsEvidence g image e
    → (is : IsRebuildOf g sector s image e r) → IsRewritten g r image now
    → MatchOption (due_cycle is.on.log (kept_lsns (volume_of g) is.on.kept is.on.seen (file_lsns (volume_of g) image is.on.kept.files))) (log_of (volume_of g) now ≡ is.on.log)
    (λ cycle. log_of (volume_of g) now ≡ Clean (cycle * 2 ^ 32 + 2))
evidence_log_due g sector s image now e r evidence is new = log_due g sector s image now is.on r is.planned new (is.ground.log' ∙ evidence.log)
