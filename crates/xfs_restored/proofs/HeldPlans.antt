-- No block of a plan in which names change stands twice, all lie in the volume, and an image in which it was written holds it.
use Rattle.std.proofs.Common.{◌≡◌, inl, inr, ℕ, Bool, true, false, not, ◌+◌, ◌*◌, ◌/◌, ◌≤◌, ◌<◌, nat_lt, if◌then◌else◌, List, [], ◌∷◌, ◌++◌, length, map, refl, sym, ap, ap₂, ◌∙◌, subst, arith}
use Rattle.std.specs.List.{All, AllByRecursion, flat_map}
use Rattle.std.proofs.lemmas.List.Elements.{All-append, All-filter, All-from_recursion, All-weaker, recursion_from_All}
use Rattle.std.proofs.lemmas.List.Sorted.{All-permutation}
use Rattle.std.proofs.lemmas.List.Sums.{sum_by-append}
use Rattle.std.proofs.lemmas.Nat.{div-add-mod'}
use Rattle.xfs_disk.specs.Blocks.{Image, bytes_of_block}
use Rattle.xfs_disk.specs.declared.stamp.Stamp.{Stamp}
use Rattle.xfs_geom.specs.Conversions.{group_length}
use Rattle.xfs_geom.specs.Runs.{covers, runs_on}
use Rattle.xfs_geom.specs.Volumes.{Volume, volume_of}
use Rattle.xfs_geom.specs.declared.geometry.Geometry.{Geometry}
use Rattle.xfs_geom.specs.declared.records.Run.{Run}
use Rattle.xfs_space.specs.Owners.{file_runs}
use Rattle.xfs_space.proofs.RecordedMaps.{group_inside}
use Rattle.xfs_place.proofs.Ordered.{on_first}
use Rattle.xfs_place.specs.Choice.{one_if}
use Rattle.xfs_place.specs.Claims.{ClaimedOnce, IsClaimedRun}
use Rattle.xfs_place.specs.Pool.{IsRunOf, is_listed, is_taken}
use Rattle.xfs_place.specs.Wanted.{IsOffFixed, kept_runs}
use Rattle.xfs_place.specs.declared.wanted.Wanted.{Wanted}
use Rattle.xfs_views.proofs.Members.{Member, all_members, any_member, map_member, member_all, member_any, member_either, member_left, member_map, member_right}
use Rattle.xfs_render.proofs.ObjectSteps.{blocks_low, places_low}
use Rattle.xfs_render.specs.Drafts.{HoldsRows, row_places}
use Rattle.xfs_render.specs.Objects.{asks_with_kind, object_blocks, object_places}
use Rattle.xfs_render.specs.Plans.{HoldsPlan, IsOnce, plan_rows, planned}
use Rattle.xfs_render.specs.Rendering.{blocks_in_place, fresh_blocks, kept_blocks, log_places, new_blocks, tree_blocks}
use Rattle.xfs_render.specs.declared.bytes.Bytes.{Bytes}
use Rattle.xfs_render.specs.declared.plan.Plan.{Plan}
use Rattle.xfs_render.specs.declared.wanted_slots.SlotWanted.{SlotWanted}
use Rattle.xfs_salvage.specs.Kept.{run_of_cluster}
use Rattle.xfs_rename.specs.xfs_rebuild.Differing.{left_to_write}
use Rattle.xfs_rename.specs.xfs_rebuild.Places.{old_places}
use Rattle.xfs_rename.specs.xfs_rebuild.Rebuilds.{IsLeft}
use Rattle.xfs_rename.specs.xfs_rebuild.declared.names_due.NamesDue.{NamesDue}
use Rattle.xfs_rename.specs.xfs_rebuild.declared.planning.Rebuilt.{Rebuilt}
use Rattle.xfs_restored.proofs.Kept.{places_apart, places_used}
use Rattle.xfs_rename.proofs.xfs_made.PlansApart.{all_of_log, plans_apart, trees}
use Rattle.xfs_restored.proofs.RowsWritten.{both_left}
use Rattle.xfs_restored.proofs.Standing.{plan_beside, plan_held}
use Rattle.xfs_restored.specs.Rewriting.{IsRewritten}
use Rattle.xfs_rename.specs.xfs_made.Unused.{AreHeadsOrKept, IsHeadOrKept, IsOfLog}
use Rattle.xfs_writing.specs.Writing.{writes_of_rows, written}
use Rattle.xfs_writing.specs.declared.rows.Row.{Row}
use Rattle.xfs_rename.specs.Lost.{lost_due}
use Rattle.xfs_rename.specs.Objects.{wanted_with}
use Rattle.xfs_rename.specs.Renames.{IsRenamed, placed_forks, renamed_slots, renamed_wanted}
use Rattle.xfs_rename.specs.Settled.{settled, staying_files, with_number_in_order, with_numbers}
use Rattle.xfs_rename.specs.declared.planning.Renamed.{Renamed}
use Rattle.xfs_restored.proofs.DueSlots.{numbers_either}

-- clusters that are put among others have the blocks of both
number_on : (x : ℕ) (ys : List ℕ) (b : ℕ) → runs_on (map run_of_cluster (with_number_in_order x ys)) b ≡ one_if (covers b (run_of_cluster x)) + runs_on (map run_of_cluster ys) b
number_on x [] b = on_first (run_of_cluster x) [] b
number_on x (y ∷ ys) b = by_test (nat_lt y x) (number_on x ys b)
  where
    by_test : (t : Bool) → runs_on (map run_of_cluster (with_number_in_order x ys)) b ≡ one_if (covers b (run_of_cluster x)) + runs_on (map run_of_cluster ys) b
        → runs_on (map run_of_cluster (if t then y ∷ with_number_in_order x ys else x ∷ y ∷ ys)) b ≡ one_if (covers b (run_of_cluster x)) + runs_on (map run_of_cluster (y ∷ ys)) b
    by_test true rest =
        let first = on_first (run_of_cluster y) (map run_of_cluster (with_number_in_order x ys)) b in
        let other = on_first (run_of_cluster y) (map run_of_cluster ys) b in
        omega (arith, rest, first, other)
    by_test false rest = on_first (run_of_cluster x) (map run_of_cluster (y ∷ ys)) b

numbers_on : (xs ys : List ℕ) (b : ℕ) → runs_on (map run_of_cluster (with_numbers xs ys)) b ≡ runs_on (map run_of_cluster xs) b + runs_on (map run_of_cluster ys) b
numbers_on [] ys b = omega arith
numbers_on (x ∷ xs) ys b =
    let rest = numbers_on xs (with_number_in_order x ys) b in
    let one = number_on x ys b in
    let first = on_first (run_of_cluster x) (map run_of_cluster xs) b in
    omega (arith, rest, one, first)

on_two : (xs ys : List Run) (b : ℕ) → runs_on (xs ++ ys) b ≡ runs_on xs b + runs_on ys b
on_two xs ys b = sum_by-append (λ (r : Run). if covers b r then 1 else 0) xs ys

-- the log lies in the volume
log_inside : (g : Geometry) (block : ℕ) → IsOfLog (volume_of g) block → block < g.dblocks
log_inside g block is =
    let whole = div-add-mod' g.log g.agblocks in
    let inside = g.shape.log_inside.inside in
    let ends : g.log / g.agblocks * g.agblocks + group_length (volume_of g) (g.log / g.agblocks) ≤ g.dblocks =
    group_inside (volume_of g) (g.log / g.agblocks) g.shape.log_inside.group g.shape.groups.last in
    let below = is.below in
    omega (arith, whole, inside, ends, below)

-- what is left of a plan to write
left_written : (image : Image) (plan : Plan) (r : Rebuilt) → IsLeft image plan r
    → written (writes_of_rows r.bank (r.fresh ++ r.in_place)) image ≡ written (writes_of_rows plan.bank (left_to_write plan.bank image (plan_rows plan))) image
left_written image plan r left =
    ap₂ (λ (bank : Image) (rows : List Row). written (writes_of_rows bank rows) image) left.bank'
    (ap₂ (λ (a b : List Row). a ++ b) left.fresh' left.in_place' ∙ both_left plan.bank image plan)

module _ (g : Geometry) (sector : List ℕ) (s : Stamp) (image : Image) (n : NamesDue) (r : Renamed) (is : IsRenamed g sector s image n r) where
  abbrev v : Volume
  v = volume_of g

  abbrev asked : Wanted
  asked = renamed_wanted g n is.w is.built

  abbrev plan : Plan
  plan = is.left.plan

  abbrev clusters : List ℕ
  clusters = (settled n (lost_due g n) is.w).clusters

  abbrev due : List SlotWanted
  due = renamed_slots g s n is.w (placed_forks g n is.w is.built is.placed)

  abbrev claimed : List Run
  claimed = flat_map (file_runs v) (staying_files is.w.rebuilt n.fresh n.files)

  abbrev rearranged : List Run
  rearranged = map run_of_cluster clusters ++ claimed

  -- what is kept, with the clusters in another order
  member_kept : (run : Run) → Member run rearranged → Member run (kept_runs asked)
  unfolding wanted_with
  member_kept run has = elim (member_either run (map run_of_cluster clusters) claimed has) [
    | inl of_cluster ↦
        let one = map_member run_of_cluster run clusters of_cluster in
        subst (λ (x : Run). Member x (kept_runs asked)) one.2
        (elim (numbers_either one.0 (lost_due g n).added n.clusters one.1) [
          | inl new ↦ member_right (run_of_cluster one.0) asked.taken (map run_of_cluster (lost_due g n).added) (member_map run_of_cluster one.0 (lost_due g n).added new)
          | inr old ↦ member_left (run_of_cluster one.0) asked.taken asked.new (member_left (run_of_cluster one.0) (map run_of_cluster n.clusters) claimed (member_map run_of_cluster one.0 n.clusters old))
        ])
    | inr of_file ↦ member_left run asked.taken asked.new (member_right run (map run_of_cluster n.clusters) claimed of_file)
  ]

  clear_kept : AllByRecursion (IsOffFixed v) (kept_runs asked ++ is.placed.runs)
  unfolding wanted_with
  clear_kept = recursion_from_All (IsOffFixed v) (kept_runs asked ++ is.placed.runs) is.stands.apart.clear

  clear : All (IsOffFixed v) rearranged
  clear =
      All-from_recursion (IsOffFixed v) rearranged
      (all_members (IsOffFixed v) rearranged
      (λ run has. member_all (IsOffFixed v) run (kept_runs asked ++ is.placed.runs) clear_kept (member_left run (kept_runs asked) is.placed.runs (member_kept run has))))

  apart : ClaimedOnce rearranged
  unfolding wanted_with
  apart = record {
    once = λ b.
        let most = is.stands.apart.apart.once b in
        let one = on_two (kept_runs asked) is.placed.runs b in
        let two = on_two asked.taken asked.new b in
        let three = on_two (map run_of_cluster n.clusters) claimed b in
        let four = on_two (map run_of_cluster clusters) claimed b in
        let five = numbers_on (lost_due g n).added n.clusters b in
        omega (arith, most, one, two, three, four, five);
  }

  places_are : is.bytes.places ≡ old_places v clusters due
  places_are = ap (λ (b : Bytes). b.places) is.made.with_objects ∙ is.made.at_hand.places'

  widen : (block : ℕ) → IsHeadOrKept v (map run_of_cluster clusters) block → IsHeadOrKept v (kept_runs asked) block
  unfolding is_taken
  widen block (inl head) = inl head
  widen block (inr taken) =
      let one = any_member (covers block) (map run_of_cluster clusters) taken in
      inr (member_any (covers block) one.0 (kept_runs asked) (member_kept one.0 (member_left one.0 (map run_of_cluster clusters) claimed one.1)) one.2)

  places_fit : AreHeadsOrKept v (kept_runs asked) is.bytes.places
  places_fit =
      subst (AreHeadsOrKept v (kept_runs asked)) (sym places_are)
      (record {
        once = (places_apart g clusters rearranged claimed refl clear apart due).once;
        each = All-weaker (IsHeadOrKept v (map run_of_cluster clusters)) (IsHeadOrKept v (kept_runs asked)) widen (old_places v clusters due) (places_used v clusters due);
      })

  pub plan_once : IsOnce (planned plan)
  unfolding wanted_with
  plan_once = plans_apart asked is.placed is.bytes plan is.stands is.left.rendered places_fit

  -- inside the volume
  abbrev Low : ℕ → Type 0
  Low block = block < g.dblocks

  places_inside : All Low is.bytes.places
  places_inside = subst (All Low) (sym (ap (λ (b : Bytes). b.places) is.made.with_objects)) is.made.at_hand.inside

  runs_inside : All (IsRunOf g.dblocks) is.placed.runs
  unfolding wanted_with
  runs_inside =
      All-from_recursion (IsRunOf g.dblocks) is.placed.runs
      (all_members (IsRunOf g.dblocks) is.placed.runs
      (λ run has.
      let claim = member_all (IsClaimedRun g.dblocks) run (kept_runs asked ++ is.placed.runs)
      (recursion_from_All (IsClaimedRun g.dblocks) (kept_runs asked ++ is.placed.runs) is.stands.apart.each) (member_right run (kept_runs asked) is.placed.runs has) in
      (claim.some, claim.inside)))

  trees_inside : All Low (tree_blocks is.placed)
  unfolding wanted_with
  trees_inside = (trees asked is.placed is.stands).inside

  fresh_inside : All Low (fresh_blocks asked is.placed is.bytes)
  fresh_inside =
      All-append Low (tree_blocks is.placed) (object_places asked is.placed ++ new_blocks asked is.bytes) trees_inside
      (All-append Low (object_places asked is.placed) (new_blocks asked is.bytes)
      (places_low g.dblocks (object_blocks asked is.placed) (blocks_low g.dblocks (asks_with_kind asked.objects) is.placed.cuts is.placed.runs runs_inside))
      (All-filter (is_taken asked.new) Low is.bytes.places places_inside))

  in_place_inside : All Low (blocks_in_place asked is.bytes)
  unfolding wanted_with
  in_place_inside =
      All-append Low (kept_blocks asked is.bytes) (log_places asked is.bytes.cycle) (All-filter (λ place. not (is_taken asked.new place)) Low is.bytes.places places_inside)
      (All-weaker (IsOfLog v) Low (log_inside g) (log_places asked is.bytes.cycle) (all_of_log asked is.bytes.cycle))

  pub plan_inside : All Low (planned plan)
  plan_inside =
      All-append Low (row_places plan.fresh) (row_places plan.in_place)
      (All-permutation Low (fresh_blocks asked is.placed is.bytes) (row_places plan.fresh) is.left.rendered.fresh fresh_inside)
      (All-permutation Low (blocks_in_place asked is.bytes) (row_places plan.in_place) is.left.rendered.in_place in_place_inside)

  -- the image in which it was written
  module _ (now : Image) (new : IsRewritten g r.rebuilt image now) where
    now_is : now ≡ written (writes_of_rows plan.bank (left_to_write plan.bank image (plan_rows plan))) image
    now_is = new.is ∙ left_written image plan r.rebuilt is.left.left

    in_image : All (λ block. block < length image) (planned plan)
    in_image = All-weaker Low (λ block. block < length image) (λ block low. let enough = new.enough in omega (arith, low, enough)) (planned plan) plan_inside

    pub renamed_holds : HoldsPlan now plan
    renamed_holds = record { each = subst (HoldsRows (plan_rows plan) plan.bank) (sym now_is) (plan_held image plan plan_once in_image) }

    pub others_stay : (block : ℕ) → is_listed (planned plan) block ≡ false → bytes_of_block now block ≡ bytes_of_block image block
    others_stay block out = ap (λ (j : Image). bytes_of_block j block) now_is ∙ plan_beside image plan block out
