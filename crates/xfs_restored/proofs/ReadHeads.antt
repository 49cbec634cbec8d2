-- The groups, the superblocks and the log of a volume in which names were changed.
use Rattle.std.proofs.Common.{◌≡◌, ℕ, inl, inr, ◌+◌, ◌*◌, ◌^◌, ◌≤◌, ◌<◌, not, true, false, List, [], ◌++◌, length, map, Option, Ok, Some, None, sym, ap, ◌∙◌, subst, arith}
use Rattle.std.specs.Prelude.{MatchOption}
use Rattle.std.specs.List.{All}
use Rattle.std.proofs.lemmas.Bool.{false≢true}
use Rattle.std.proofs.lemmas.List.{append_assoc}
use Rattle.std.proofs.lemmas.List.Elements.{All-append, All-filter, All-nil, All-same, All-weaker}
use Rattle.std.proofs.lemmas.List.Sorted.{All-permutation}
use Rattle.xfs_disk.specs.Blocks.{Image, bytes_of_block}
use Rattle.xfs_disk.specs.declared.stamp.Stamp.{Stamp}
use Rattle.xfs_geom.specs.Conversions.{is_fixed}
use Rattle.xfs_geom.specs.Runs.{covers}
use Rattle.xfs_geom.specs.Volumes.{Volume, volume_of}
use Rattle.xfs_geom.specs.declared.geometry.Geometry.{Geometry}
use Rattle.xfs_geom.specs.declared.records.Run.{Run}
use Rattle.xfs_log.specs.xfs_heads.declared.log_state.LogState.TheVariants.{Clean}
use Rattle.xfs_image.specs.Consistent.{IsElected, backup_agrees}
use Rattle.xfs_image.specs.Groups.{groups_read}
use Rattle.xfs_image.specs.View.{counts_of, log_of}
use Rattle.xfs_place.specs.Pool.{is_taken}
use Rattle.xfs_place.specs.Wanted.{kept_runs}
use Rattle.xfs_place.specs.declared.placed.Placed.{Placed}
use Rattle.xfs_place.specs.declared.wanted.Wanted.{Wanted}
use Rattle.xfs_views.proofs.Members.{any_member, map_member}
use Rattle.xfs_render.specs.Drafts.{row_places}
use Rattle.xfs_render.specs.Plans.{HoldsPlan, planned}
use Rattle.xfs_render.specs.Rendering.{blocks_in_place, kept_blocks, log_places}
use Rattle.xfs_render.specs.declared.bytes.Bytes.{Bytes}
use Rattle.xfs_render.specs.declared.plan.Plan.{Plan}
use Rattle.xfs_render.specs.declared.wanted_slots.SlotWanted.{SlotWanted}
use Rattle.xfs_rename.specs.xfs_scan.declared.evidence.Evidence.{Evidence}
use Rattle.xfs_rename.specs.xfs_made.Groups.{due_groups}
use Rattle.xfs_views.proofs.LsnsStay.{log_stays}
use Rattle.xfs_rename.proofs.xfs_made.Groups.{groups_stand, log_stands}
use Rattle.xfs_rename.proofs.xfs_made.Supers.{backups_agree, counts_stand, primary_stands}
use Rattle.xfs_rename.specs.xfs_made.Standing.{IsStanding, agf_crc_at, agi_crc_at}
use Rattle.xfs_rename.specs.xfs_request.Chunks.{inodes_wanted}
use Rattle.xfs_rename.specs.xfs_request.Cycles.{due_cycle}
use Rattle.xfs_rename.proofs.xfs_made.OnceLists.{all_range}
use Rattle.xfs_salvage.specs.Kept.{run_of_cluster}
use Rattle.xfs_salvage.specs.declared.found.Salvaged.{Salvaged}
use Rattle.xfs_rename.specs.xfs_rebuild.Places.{old_places}
use Rattle.xfs_rename.specs.xfs_rebuild.declared.names_due.NamesDue.{NamesDue}
use Rattle.xfs_rename.specs.xfs_made.Unused.{IsFreshFor, IsHeadOrKept, IsOfLog}
use Rattle.xfs_restored.proofs.Kept.{places_used}
use Rattle.xfs_rename.proofs.xfs_made.PlansApart.{head_off_log, log_fixed, plans_fresh, taken_right, taken_unfixed}
use Rattle.xfs_restored.proofs.Standing.{same_size}
use Rattle.xfs_restored.proofs.Staying.{off_list}
use Rattle.xfs_restored.specs.Logs.{IsLogDue, numbers_kept}
use Rattle.xfs_rename.specs.Lost.{lost_due}
use Rattle.xfs_rename.specs.Objects.{wanted_with}
use Rattle.xfs_rename.specs.Renames.{placed_forks, renamed_slots, renamed_wanted}
use Rattle.xfs_rename.specs.Settled.{settled}
use Rattle.xfs_rename.specs.declared.planning.Renamed.{Renamed}
use Rattle.xfs_restored.proofs.DueSlots.{cluster_clear, stands}
use Rattle.xfs_restored.proofs.HeldPlans.{others_stay, renamed_holds}
use Rattle.xfs_restored.specs.Relinking.{IsRelinked}
use Rattle.xfs_restored.proofs.CyclesDue.{cycle_due}

module _ (g : Geometry) (sector : List ℕ) (s : Stamp) (image now : Image) (e : Evidence) (n : NamesDue) (r : Renamed) (has : IsRelinked g sector s image now e n r) where
  abbrev v : Volume
  v = volume_of g

  abbrev asked : Wanted
  asked = renamed_wanted g n has.is.w has.is.built

  abbrev p : Placed
  p = has.is.placed

  abbrev b : Bytes
  b = has.is.bytes

  abbrev plan : Plan
  plan = has.is.left.plan

  abbrev after : Salvaged
  after = settled n (lost_due g n) has.is.w

  abbrev due : List SlotWanted
  due = renamed_slots g s n has.is.w (placed_forks g n has.is.w has.is.built p)

  pub plan_held : HoldsPlan now plan
  plan_held = renamed_holds g sector s image n r has.is now has.new

  pub large : g.dblocks ≤ length now
  large = let same = same_size g r.rebuilt image now has.new in let enough = has.new.enough in omega (arith, same, enough)

  pub standing : IsStanding asked p b has.is.left.rendered.super now
  standing = stands g sector s image now n r has.is plan_held large

  pub groups_due : groups_read v now ≡ Ok (due_groups v (inodes_wanted v after) p.groups (agf_crc_at v now) (agi_crc_at v now))
  unfolding wanted_with
  groups_due = groups_stand asked p b has.is.left.rendered.super now standing

  pub super_due : (elects : IsElected v now) × (elects.vote.place ≡ 0)
  unfolding wanted_with
  super_due = primary_stands asked p b has.is.left.rendered.super now standing

  pub backups_due : (ag : ℕ) → 1 ≤ ag → ag < g.agcount → backup_agrees v now ag ≡ true
  unfolding wanted_with
  backups_due = backups_agree asked p b has.is.left.rendered.super now standing

  pub counts_due : counts_of now ≡ p.counts
  counts_due = counts_stand asked p b has.is.left.rendered.super now standing

  -- the log stays where it is not to be blank
  abbrev Off : ℕ → Type 0
  Off block = IsOfLog v block → ⊥

  run_unfixed : (block : ℕ) → is_taken (asked.new ++ p.runs) block ≡ true → is_fixed v block ≡ false
  unfolding wanted_with
  run_unfixed block taken =
      taken_unfixed v (kept_runs asked ++ p.runs) block has.is.stands.apart.clear
      (subst (λ (rs : List Run). is_taken rs block ≡ true) (sym (append_assoc asked.taken asked.new p.runs)) (taken_right asked.taken (asked.new ++ p.runs) block taken))

  fresh_off : (block : ℕ) → IsFreshFor asked p block → Off block
  unfolding wanted_with
  fresh_off block (inl unused) log = false≢true (sym unused.unfixed ∙ log_fixed v block log)
  fresh_off block (inr taken) log = false≢true (sym (run_unfixed block taken) ∙ log_fixed v block log)

  cluster_off : (block : ℕ) → IsHeadOrKept v (map run_of_cluster after.clusters) block → Off block
  unfolding is_taken
  cluster_off block (inl head) log = head_off_log g block head log
  cluster_off block (inr taken) log =
      let one = any_member (covers block) (map run_of_cluster after.clusters) taken in
      let of = map_member run_of_cluster one.0 after.clusters one.1 in
      let clear = cluster_clear g sector s image now n r has.is plan_held large of.0 of.1 in
      false≢true (sym (clear block (subst (λ (run : Run). covers block run ≡ true) (sym of.2) one.2)) ∙ log_fixed v block log)

  places_off : All Off b.places
  places_off =
      subst (All Off) (sym (ap (λ (x : Bytes). x.places) has.is.made.with_objects ∙ has.is.made.at_hand.places'))
      (All-weaker (IsHeadOrKept v (map run_of_cluster after.clusters)) Off cluster_off (old_places v after.clusters due) (places_used v after.clusters due))

  log_off : b.cycle ≡ None → All Off (planned plan)
  log_off none =
      All-append Off (row_places plan.fresh) (row_places plan.in_place)
      (All-weaker (IsFreshFor asked p) Off fresh_off (row_places plan.fresh) (plans_fresh asked p b plan has.is.stands has.is.left.rendered))
      (All-permutation Off (blocks_in_place asked b) (row_places plan.in_place) has.is.left.rendered.in_place
      (All-append Off (kept_blocks asked b) (log_places asked b.cycle) (All-filter (λ place. not (is_taken asked.new place)) Off b.places places_off)
      (All-same Off (log_places asked b.cycle) [] (ap (log_places asked) none) (All-nil Off))))

  log_same : b.cycle ≡ None → log_of v now ≡ log_of v image
  log_same none =
      log_stays v image now
      (all_range (λ block. bytes_of_block now block ≡ bytes_of_block image block) g.log g.logblocks
      (λ k low high. others_stay g sector s image n r has.is now has.new k (off_list (IsOfLog v) (planned plan) k (log_off none) (record { from = low; below = high }))))

  log_blank : (cycle : ℕ) → b.cycle ≡ Some cycle → log_of v now ≡ Clean (cycle * 2 ^ 32 + 2)
  unfolding wanted_with
  log_blank cycle some = log_stands asked p b has.is.left.rendered.super now cycle standing some

  -- it was the log of the image
  log_known : n.log ≡ log_of v image
  log_known = has.due.log' ∙ has.ground.log' ∙ has.evidence.log

  log_at : (o : Option ℕ) → b.cycle ≡ o → MatchOption o (log_of v now ≡ n.log) (λ cycle. log_of v now ≡ Clean (cycle * 2 ^ 32 + 2))
  log_at None none = log_same none ∙ sym log_known
  log_at (Some cycle) some = log_blank cycle some

  pub log_due : IsLogDue n.log (numbers_kept v image after n.seen) (log_of v now)
  log_due = log_at (due_cycle n.log (numbers_kept v image after n.seen)) (cycle_due g sector s image n r has.is)
