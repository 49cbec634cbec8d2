-- The blocks that a staying file claims are as they were, and no new run has one of them.
use Rattle.std.proofs.Common.{◌≡◌, inl, inr, ℕ, Bool, true, false, ◌+◌, ◌≤◌, List, [], ◌∷◌, map, sym, ap, ◌∙◌, subst, refl, arith}
use Rattle.std.specs.List.{All, flat_map, list_any}
use Rattle.std.proofs.lemmas.Bool.{false≢true, or_parts}
use Rattle.std.proofs.lemmas.List.Elements.{All-weaker}
use Rattle.xfs_disk.specs.Blocks.{Image}
use Rattle.xfs_disk.specs.declared.stamp.Stamp.{Stamp}
use Rattle.xfs_geom.specs.Conversions.{is_fixed}
use Rattle.xfs_geom.specs.Runs.{covers, runs_on}
use Rattle.xfs_geom.specs.Volumes.{Volume, volume_of}
use Rattle.xfs_geom.specs.declared.geometry.Geometry.{Geometry}
use Rattle.xfs_geom.specs.declared.records.Run.{Run}
use Rattle.xfs_image.specs.Claims.{claims}
use Rattle.xfs_space.specs.Owners.{file_runs}
use Rattle.xfs_volume.specs.declared.files.FileRec.{FileRec}
use Rattle.xfs_place.specs.Pool.{is_taken}
use Rattle.xfs_place.specs.Wanted.{IsOffFixed, kept_runs}
use Rattle.xfs_place.specs.declared.wanted.Wanted.{Wanted}
use Rattle.xfs_views.proofs.Claimed.{same_claims}
use Rattle.xfs_views.proofs.Counted.{any_on, flat_on, on_both}
use Rattle.xfs_views.proofs.Members.{Member, any_member, map_member, member_any, member_map}
use Rattle.xfs_render.proofs.TreePlaces.{all_left}
use Rattle.xfs_render.specs.Plans.{planned}
use Rattle.xfs_render.specs.declared.bytes.Bytes.{Bytes}
use Rattle.xfs_render.specs.declared.wanted_slots.SlotWanted.{SlotWanted}
use Rattle.xfs_salvage.specs.Kept.{run_of_cluster}
use Rattle.xfs_views.specs.SameFiles.{HasSameClaims}
use Rattle.xfs_rename.specs.xfs_rebuild.Places.{old_places}
use Rattle.xfs_rename.specs.xfs_rebuild.declared.names_due.NamesDue.{NamesDue}
use Rattle.xfs_rename.proofs.xfs_made.Counting.{taken_on, untaken_on}
use Rattle.xfs_restored.proofs.Kept.{places_used}
use Rattle.xfs_rename.proofs.xfs_made.PlansApart.{head_fixed, kept_off, taken_unfixed}
use Rattle.xfs_restored.proofs.Staying.{off_list}
use Rattle.xfs_restored.specs.Rewriting.{IsRewritten}
use Rattle.xfs_rename.specs.xfs_made.Unused.{IsHeadOrKept}
use Rattle.xfs_rename.specs.Lost.{lost_due}
use Rattle.xfs_rename.specs.Objects.{wanted_with}
use Rattle.xfs_rename.specs.Renames.{IsRenamed, old_files, placed_forks, renamed_slots, renamed_wanted}
use Rattle.xfs_rename.specs.Settled.{settled}
use Rattle.xfs_rename.specs.declared.planning.Renamed.{Renamed}
use Rattle.xfs_restored.proofs.DueSlots.{numbers_either}
use Rattle.xfs_restored.proofs.HeldPlans.{others_stay}
use Rattle.xfs_restored.proofs.RebuiltSlots.{AreOff}

-- runs have each block that they have
taken_some : (rs : List Run) (block : ℕ) → 1 ≤ runs_on rs block → is_taken rs block ≡ true
taken_some rs block some = by_case (is_taken rs block) refl
  where
    by_case : (t : Bool) → is_taken rs block ≡ t → is_taken rs block ≡ true
    by_case true is = is
    by_case false is = absurd (omega (arith, some, untaken_on rs block is))

none_off : (rs : List Run) (block : ℕ) → list_any (covers block) rs ≡ false → AreOff rs block
none_off [] block none = tt
none_off (r ∷ rs) block none = let parts = or_parts (covers block r) (list_any (covers block) rs) none in (parts.0, none_off rs block parts.1)

runs_off : (rs : List Run) (block : ℕ) → runs_on rs block ≡ 0 → AreOff rs block
unfolding is_taken
runs_off rs block none = none_off rs block (by_case (is_taken rs block) refl)
  where
    by_case : (t : Bool) → is_taken rs block ≡ t → is_taken rs block ≡ false
    by_case true is = absurd (omega (arith, none, taken_on rs block is))
    by_case false is = is

module _ (g : Geometry) (sector : List ℕ) (s : Stamp) (image : Image) (n : NamesDue) (r : Renamed) (is : IsRenamed g sector s image n r) where
  abbrev v : Volume
  v = volume_of g

  abbrev asked : Wanted
  asked = renamed_wanted g n is.w is.built

  abbrev clusters : List ℕ
  clusters = (settled n (lost_due g n) is.w).clusters

  abbrev due : List SlotWanted
  due = renamed_slots g s n is.w (placed_forks g n is.w is.built is.placed)

  abbrev claimed : List Run
  claimed = flat_map (file_runs v) (old_files n is.w)

  clear : All (IsOffFixed v) (kept_runs asked)
  unfolding wanted_with
  clear = all_left (IsOffFixed v) (kept_runs asked) is.placed.runs is.stands.apart.clear

  -- how often a block is had
  pub counted : (b : ℕ) → runs_on (map run_of_cluster n.clusters) b + runs_on claimed b + runs_on (map run_of_cluster (lost_due g n).added) b + runs_on is.placed.runs b ≤ 1
  unfolding wanted_with
  counted b =
      let most = is.stands.apart.apart.once b in
      let one = on_both (kept_runs asked) is.placed.runs b in
      let two = on_both asked.taken asked.new b in
      let three = on_both (map run_of_cluster n.clusters) claimed b in
      omega (arith, most, one, two, three)

  kept_counted : (b : ℕ) → runs_on (kept_runs asked) b ≡ runs_on (map run_of_cluster n.clusters) b + runs_on claimed b + runs_on (map run_of_cluster (lost_due g n).added) b
  unfolding wanted_with
  kept_counted b =
      let two = on_both asked.taken asked.new b in
      let three = on_both (map run_of_cluster n.clusters) claimed b in
      omega (arith, two, three)

  -- a block of a cluster
  pub run_taken : (c b : ℕ) (cs : List ℕ) → Member c cs → covers b (run_of_cluster c) ≡ true → 1 ≤ runs_on (map run_of_cluster cs) b
  unfolding is_taken
  run_taken c b cs has covered = taken_on (map run_of_cluster cs) b (member_any (covers b) (run_of_cluster c) (map run_of_cluster cs) (member_map run_of_cluster c cs has) covered)

  cluster_counted : (b : ℕ) → is_taken (map run_of_cluster clusters) b ≡ true → 1 ≤ runs_on (map run_of_cluster n.clusters) b + runs_on (map run_of_cluster (lost_due g n).added) b
  unfolding is_taken
  cluster_counted b taken =
      let one = any_member (covers b) (map run_of_cluster clusters) taken in
      let from = map_member run_of_cluster one.0 clusters one.1 in
      let covered : covers b (run_of_cluster from.0) ≡ true = subst (λ (x : Run). covers b x ≡ true) (sym from.2) one.2 in
      elim (numbers_either from.0 (lost_due g n).added n.clusters from.1) [
        | inl new ↦ let some = run_taken from.0 b (lost_due g n).added new covered in omega (arith, some)
        | inr old ↦ let some = run_taken from.0 b n.clusters old covered in omega (arith, some)
      ]

  module _ (f : FileRec) (among : Member f (old_files n is.w)) where
    some_claimed : (block : ℕ) → claims v f block ≡ true → 1 ≤ runs_on claimed block
    some_claimed block has = flat_on (file_runs v) f (old_files n is.w) block among (any_on (file_runs v f) block (sym (same_claims v f block) ∙ has))

    claimed_taken : (block : ℕ) → claims v f block ≡ true → is_taken (kept_runs asked) block ≡ true
    claimed_taken block has =
        let some = some_claimed block has in
        let all = kept_counted block in
        taken_some (kept_runs asked) block (omega (arith, some, all))

    places_off : (block : ℕ) → claims v f block ≡ true → (at : ℕ) → IsHeadOrKept v (map run_of_cluster clusters) at → at ≡ block → ⊥
    places_off block has at (inl head) same =
        false≢true (sym (taken_unfixed v (kept_runs asked) block clear (claimed_taken block has)) ∙ subst (λ (m : ℕ). is_fixed v m ≡ true) same (head_fixed v at head))
    places_off block has at (inr kept) same =
        let own = cluster_counted block (subst (λ (m : ℕ). is_taken (map run_of_cluster clusters) m ≡ true) same kept) in
        let some = some_claimed block has in
        let most = counted block in
        omega (arith, own, some, most)

    unplanned : (block : ℕ) → claims v f block ≡ true → All (λ at. at ≡ block → ⊥) (planned is.left.plan)
    unfolding wanted_with
    unplanned block has =
        kept_off asked is.placed is.bytes is.left.plan is.stands is.left.rendered block (claimed_taken block has)
        (subst (All (λ at. at ≡ block → ⊥)) (sym (ap (λ (b : Bytes). b.places) is.made.with_objects ∙ is.made.at_hand.places'))
        (All-weaker (IsHeadOrKept v (map run_of_cluster clusters)) (λ at. at ≡ block → ⊥) (places_off block has) (old_places v clusters due) (places_used v clusters due)))

    pub claims_stay : (now : Image) → IsRewritten g r.rebuilt image now → HasSameClaims (volume_of g) image now f
    claims_stay now new block has =
        others_stay g sector s image n r is now new block (off_list (λ at. at ≡ block) (planned is.left.plan) block (unplanned block has) refl)

    pub runs_apart : (block : ℕ) → claims (volume_of g) f block ≡ true → AreOff is.placed.runs block
    runs_apart block has =
        let some = some_claimed block has in
        let most = counted block in
        runs_off is.placed.runs block (omega (arith, some, most))
