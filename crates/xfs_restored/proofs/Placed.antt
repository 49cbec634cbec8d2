-- Which blocks a rebuild plans: each once, the first ones of those that nothing had, the others in place, and none that a kept file
-- claims.
use Rattle.std.proofs.Common.{◌≡◌, ℕ, ◌+◌, ◌*◌, ◌/◌, ◌≤◌, ◌<◌, inl, inr, Bool, true, false, not, List, [], ◌∷◌, ◌++◌, map, filter, Option, None, append-nil, refl, sym, ap, ◌∙◌, subst, arith}
use Rattle.std.specs.List.{All, flat_map}
use Rattle.std.proofs.lemmas.Bool.{false_from_ne_true, false≢true}
use Rattle.std.proofs.lemmas.List.Elements.{All-append, All-filter, All-from_recursion, All-nil, All-same, All-weaker, recursion_from_All}
use Rattle.std.proofs.lemmas.List.Sorted.{All-permutation}
use Rattle.std.proofs.lemmas.Nat.{div-add-mod'}
use Rattle.xfs_disk.specs.Blocks.{Image}
use Rattle.xfs_disk.specs.declared.stamp.Stamp.{Stamp}
use Rattle.xfs_geom.specs.Conversions.{group_length, is_fixed}
use Rattle.xfs_geom.specs.Runs.{runs_on}
use Rattle.xfs_geom.specs.Volumes.{Volume, volume_of}
use Rattle.xfs_geom.specs.declared.geometry.Geometry.{Geometry}
use Rattle.xfs_geom.specs.declared.records.Run.{Run}
use Rattle.xfs_image.specs.Claims.{claims}
use Rattle.xfs_image.specs.Slots.{cluster_blocks}
use Rattle.xfs_volume.specs.declared.files.FileRec.{FileRec}
use Rattle.xfs_space.specs.Owners.{file_runs}
use Rattle.xfs_space.proofs.RecordedMaps.{group_inside}
use Rattle.xfs_place.specs.Claims.{ClaimedOnce, IsClaimedRun}
use Rattle.xfs_place.specs.Pool.{is_taken}
use Rattle.xfs_place.specs.Wanted.{IsOffFixed, kept_runs}
use Rattle.xfs_place.specs.declared.placed.Placed.{Placed}
use Rattle.xfs_place.specs.declared.wanted.Wanted.{Wanted}
use Rattle.xfs_views.proofs.Claimed.{same_claims}
use Rattle.xfs_views.proofs.Counted.{any_on, flat_on, on_both}
use Rattle.xfs_views.proofs.Members.{Member, all_members, member_all, member_left, member_map, row_member}
use Rattle.xfs_render.proofs.TreePlaces.{all_left}
use Rattle.xfs_render.specs.Drafts.{row_places}
use Rattle.xfs_render.specs.Objects.{blocks_of_asks, object_places}
use Rattle.xfs_render.specs.Plans.{IsOnce, planned}
use Rattle.xfs_render.specs.Rendering.{blocks_in_place, fresh_blocks, is_head, kept_blocks, log_places, new_blocks, tree_blocks}
use Rattle.xfs_render.specs.declared.bytes.Bytes.{Bytes}
use Rattle.xfs_render.specs.declared.plan.Plan.{Plan}
use Rattle.xfs_salvage.specs.Kept.{run_of_cluster, taken_of}
use Rattle.xfs_rename.specs.xfs_request.Requests.{volume_wanted}
use Rattle.xfs_rename.specs.xfs_rebuild.Places.{has_wanted}
use Rattle.xfs_rename.specs.xfs_rebuild.Rebuilds.{Ground, IsPlannedOn, asked, slots_asked}
use Rattle.xfs_rename.specs.xfs_rebuild.declared.planning.Rebuilt.{Rebuilt}
use Rattle.xfs_rename.specs.xfs_made.Unused.{AreHeadsOrKept, IsHeadOrKept, IsOfLog, IsUnusedBlock}
use Rattle.xfs_restored.specs.InPlace.{IsInPlace}
use Rattle.xfs_rename.proofs.xfs_made.Counting.{taken_on, untaken_on}
use Rattle.xfs_restored.proofs.Kept.{cluster_taken_of, places_apart, places_used, unwanted_off}
use Rattle.xfs_rename.proofs.xfs_made.PlansApart.{all_of_log, head_fixed, head_off_log, kept_off, log_fixed, plans_apart, taken_left, taken_right, taken_unfixed, trees, untaken_both}
use Rattle.xfs_rename.proofs.xfs_made.TreesApart.{AreBehind}

none_new : (xs : List ℕ) → filter (is_taken []) xs ≡ []
unfolding is_taken
none_new [] = refl
none_new (x ∷ xs) = none_new xs

-- the log lies in the volume
log_inside : (g : Geometry) (block : ℕ) → IsOfLog (volume_of g) block → block < g.dblocks
log_inside g block is =
    let whole = div-add-mod' g.log g.agblocks in
    let inside = g.shape.log_inside.inside in
    let ends : g.log / g.agblocks * g.agblocks + group_length (volume_of g) (g.log / g.agblocks) ≤ g.dblocks =
    group_inside (volume_of g) (g.log / g.agblocks) g.shape.log_inside.group g.shape.groups.last in
    let below = is.below in
    omega (arith, whole, inside, ends, below)

-- a run has each block that some runs have
taken_some : (rs : List Run) (block : ℕ) → 1 ≤ runs_on rs block → is_taken rs block ≡ true
taken_some rs block some = by_case (is_taken rs block) refl
  where
    by_case : (t : Bool) → is_taken rs block ≡ t → is_taken rs block ≡ true
    by_case true is = is
    by_case false is = absurd (omega (arith, some, untaken_on rs block is))

-- what a file claims is of its runs
claimed_on : (v : Volume) (files : List FileRec) (f : FileRec) (block : ℕ) → Member f files → claims v f block ≡ true → 1 ≤ runs_on (flat_map (file_runs v) files) block
claimed_on v files f block is claimed = flat_on (file_runs v) f files block is (any_on (file_runs v f) block (sym (same_claims v f block) ∙ claimed))

module _ (g : Geometry) (sector : List ℕ) (s : Stamp) (image : Image) (on : Ground) (r : Rebuilt) (is : IsPlannedOn g sector s image on r) where
  abbrev v : Volume
  v = volume_of g

  abbrev w : Wanted
  w = asked g on

  abbrev b : Bytes
  b = is.bytes

  abbrev p : Placed
  p = is.planned.placed

  abbrev plan : Plan
  plan = is.planned.plan

  abbrev clusters : List Run
  clusters = map run_of_cluster on.kept.clusters

  abbrev claimed : List Run
  claimed = flat_map (file_runs v) on.kept.files

  abbrev taken : List Run
  taken = taken_of v on.kept.clusters on.kept.files

  kept_is : kept_runs w ≡ taken
  unfolding volume_wanted
  kept_is = append-nil taken

  clear : All (IsOffFixed v) taken
  unfolding volume_wanted
  clear = subst (All (IsOffFixed v)) kept_is (all_left (IsOffFixed v) (kept_runs w) p.runs is.planned.stands.apart.clear)

  lie : All (IsClaimedRun g.dblocks) taken
  unfolding volume_wanted
  lie = subst (All (IsClaimedRun g.dblocks)) kept_is (all_left (IsClaimedRun g.dblocks) (kept_runs w) p.runs is.planned.stands.apart.each)

  apart : ClaimedOnce taken
  apart = record {
    once = λ block.
        let same : runs_on (kept_runs w) block ≡ runs_on taken block = ap (λ (rs : List Run). runs_on rs block) kept_is in
        omega (arith, same, on_both (kept_runs w) p.runs block, is.planned.stands.apart.apart.once block);
  }

  places_fit : AreHeadsOrKept v taken b.places
  places_fit = subst (AreHeadsOrKept v taken) (sym is.made.at_hand.places') (places_apart g on.kept.clusters taken claimed refl clear apart (slots_asked g s on))

  pub blocks_once : IsOnce (planned plan)
  unfolding volume_wanted
  blocks_once = plans_apart w p b plan is.planned.stands is.planned.rendered (subst (λ (rs : List Run). AreHeadsOrKept v rs b.places) (sym kept_is) places_fit)

  -- the first blocks of the plan are those of trees
  no_objects : object_places w p ≡ []
  unfolding volume_wanted blocks_of_asks
  no_objects = refl

  no_new : new_blocks w b ≡ []
  unfolding volume_wanted
  no_new = none_new b.places

  fresh_all : (P : ℕ → Type 0) → All P (tree_blocks p) → All P (row_places plan.fresh)
  fresh_all P each =
      All-permutation P (fresh_blocks w p b) (row_places plan.fresh) is.planned.rendered.fresh
      (All-append P (tree_blocks p) (object_places w p ++ new_blocks w b) each
      (All-append P (object_places w p) (new_blocks w b) (All-same P (object_places w p) [] no_objects (All-nil P)) (All-same P (new_blocks w b) [] no_new (All-nil P))))

  in_place_all : (P : ℕ → Type 0) → All P b.places → All P (log_places w b.cycle) → All P (row_places plan.in_place)
  in_place_all P each log =
      All-permutation P (blocks_in_place w b) (row_places plan.in_place) is.planned.rendered.in_place
      (All-append P (kept_blocks w b) (log_places w b.cycle) (All-filter (λ place. not (is_taken w.new place)) P b.places each) log)

  behind : AreBehind v (kept_runs w ++ p.runs) on.reserved (0 * g.agblocks) (tree_blocks p)
  unfolding volume_wanted
  behind = trees w p is.planned.stands

  unused : (block : ℕ) → IsUnusedBlock v (kept_runs w ++ p.runs) on.reserved block → IsUnusedBlock v taken on.reserved block
  unused block free = record {
    unfixed = free.unfixed;
    untaken = subst (λ (rs : List Run). is_taken rs block ≡ false) kept_is (untaken_both (kept_runs w) p.runs block free.untaken).0;
    unreserved = free.unreserved;
  }

  trees_unused : All (IsUnusedBlock v taken on.reserved) (tree_blocks p)
  trees_unused = All-weaker (IsUnusedBlock v (kept_runs w ++ p.runs) on.reserved) (IsUnusedBlock v taken on.reserved) unused (tree_blocks p) behind.unused

  pub fresh_unused : All (IsUnusedBlock v taken on.reserved) (row_places plan.fresh)
  fresh_unused = fresh_all (IsUnusedBlock v taken on.reserved) trees_unused

  -- those in place
  places_at : All (IsHeadOrKept v clusters) b.places
  places_at = subst (All (IsHeadOrKept v clusters)) (sym is.made.at_hand.places') (places_used v on.kept.clusters (slots_asked g s on))

  log_at : All (IsOfLog v) (log_places w b.cycle)
  unfolding volume_wanted
  log_at = all_of_log w b.cycle

  pub in_place : All (IsInPlace v on.kept.clusters) (row_places plan.in_place)
  in_place =
      in_place_all (IsInPlace v on.kept.clusters)
      (All-weaker (IsHeadOrKept v clusters) (IsInPlace v on.kept.clusters) (λ block at. inl at) b.places places_at)
      (All-weaker (IsOfLog v) (IsInPlace v on.kept.clusters) (λ block at. inr at) (log_places w b.cycle) log_at)

  planned_all : (P : ℕ → Type 0) → All P (tree_blocks p) → All P b.places → All P (log_places w b.cycle) → All P (planned plan)
  planned_all P first each log = All-append P (row_places plan.fresh) (row_places plan.in_place) (fresh_all P first) (in_place_all P each log)

  -- the log stays where it is not to be blank
  place_off_log : (block : ℕ) → IsHeadOrKept v taken block → IsOfLog v block → ⊥
  place_off_log block (inl head) log = head_off_log g block head log
  place_off_log block (inr kept) log = false≢true (sym (taken_unfixed v taken block clear kept) ∙ log_fixed v block log)

  no_log : (cycle : Option ℕ) → cycle ≡ None → log_places w cycle ≡ []
  no_log cycle none = ap (log_places w) none

  pub log_left : b.cycle ≡ None → All (λ block. IsOfLog v block → ⊥) (planned plan)
  log_left none =
      let P : ℕ → Type 0 = λ block. IsOfLog v block → ⊥ in
      planned_all P
      (All-weaker (IsUnusedBlock v taken on.reserved) P (λ block free log. false≢true (sym free.unfixed ∙ log_fixed v block log)) (tree_blocks p) trees_unused)
      (All-weaker (IsHeadOrKept v taken) P place_off_log b.places places_fit.each)
      (All-same P (log_places w b.cycle) [] (no_log b.cycle none) (All-nil P))

  pub all_inside : All (λ block. block < g.dblocks) (planned plan)
  all_inside =
      planned_all (λ block. block < g.dblocks) behind.inside is.made.at_hand.inside
      (All-weaker (IsOfLog v) (λ block. block < g.dblocks) (log_inside g) (log_places w b.cycle) log_at)

  -- the blocks of a kept cluster
  module _ (cluster block : ℕ) (among : Member cluster on.kept.clusters) (has : Member block (cluster_blocks cluster)) where
    block_taken : is_taken taken block ≡ true
    block_taken = taken_left clusters claimed block (cluster_taken_of on.kept.clusters cluster block among has)

    block_unfixed : is_fixed v block ≡ false
    block_unfixed = taken_unfixed v taken block clear block_taken

    pub cluster_no_head : is_head v block ≡ false
    cluster_no_head = false_from_ne_true (is_head v block) (λ head. false≢true (sym block_unfixed ∙ head_fixed v block head))

    pub cluster_inside : block < g.dblocks
    cluster_inside =
        let claim = member_all (IsClaimedRun g.dblocks) (run_of_cluster cluster) taken (recursion_from_All (IsClaimedRun g.dblocks) taken lie)
        (member_left (run_of_cluster cluster) clusters claimed (member_map run_of_cluster cluster on.kept.clusters among)) in
        let row = row_member block cluster 4 has in
        let ends = claim.inside in
        let high = row.high in
        omega (arith, ends, high)

    -- it is planned only where something is wanted of it
    pub unwanted_unplanned : has_wanted v (slots_asked g s on) block ≡ false → All (λ at. at ≡ block → ⊥) (planned plan)
    unwanted_unplanned none =
        kept_off w p b plan is.planned.stands is.planned.rendered block (subst (λ (rs : List Run). is_taken rs block ≡ true) (sym kept_is) block_taken)
        (subst (All (λ at. at ≡ block → ⊥)) (sym is.made.at_hand.places') (unwanted_off v on.kept.clusters (slots_asked g s on) block cluster_no_head none))

  -- no kept file claims one
  module _ (f : FileRec) (among : Member f on.kept.files) where
    claimed_taken : (block : ℕ) → claims v f block ≡ true → is_taken taken block ≡ true
    claimed_taken block has = taken_right clusters claimed block (taken_some claimed block (claimed_on v on.kept.files f block among has))

    pub claimed_unfixed : (block : ℕ) → claims v f block ≡ true → is_fixed v block ≡ false
    claimed_unfixed block has = taken_unfixed v taken block clear (claimed_taken block has)

    fixed_free : (block : ℕ) → is_fixed v block ≡ true → claims v f block ≡ false
    fixed_free block fixed =
        false_from_ne_true (claims v f block) (λ has. false≢true (sym (taken_unfixed v taken block clear (claimed_taken block has)) ∙ fixed))

    place_free : (block : ℕ) → IsHeadOrKept v clusters block → claims v f block ≡ false
    place_free block (inl head) = fixed_free block (head_fixed v block head)
    place_free block (inr kept) =
        false_from_ne_true (claims v f block) (λ has.
        absurd (omega (arith, taken_on clusters block kept, claimed_on v on.kept.files f block among has, on_both clusters claimed block, apart.once block)))

    file_free : All (λ block. claims v f block ≡ false) (planned plan)
    file_free =
        let P : ℕ → Type 0 = λ block. claims v f block ≡ false in
        planned_all P
        (All-weaker (IsUnusedBlock v taken on.reserved) P
        (λ block free. false_from_ne_true (claims v f block) (λ has. false≢true (sym free.untaken ∙ claimed_taken block has))) (tree_blocks p) trees_unused)
        (All-weaker (IsHeadOrKept v clusters) P place_free b.places places_at)
        (All-weaker (IsOfLog v) P (λ block log. fixed_free block (log_fixed v block log)) (log_places w b.cycle) log_at)

  pub files_free : All (λ (f : FileRec). All (λ block. claims v f block ≡ false) (planned plan)) on.kept.files
  files_free =
      let P : FileRec → Type 0 = λ f. All (λ block. claims v f block ≡ false) (planned plan) in
      All-from_recursion P on.kept.files (all_members P on.kept.files file_free)
