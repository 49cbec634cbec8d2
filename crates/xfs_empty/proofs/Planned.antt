-- All planned blocks of an empty volume lie in it.
use Rattle.std.proofs.Common.{◌≡◌, ◌≢◌, ℕ, zero, suc, ◌+◌, ◌-◌, ◌*◌, ◌/◌, ◌%◌, ◌≤◌, ◌<◌, Bool, true, false, not, ◌==◌, List, [], ◌∷◌, ◌++◌, length, get_or, Option, Some, None, cond, arith, refl, subst}
use Rattle.std.specs.List.{All, flat_map, range_with_len}
use Rattle.std.proofs.Math.Nat.{mul-le-mul_right}
use Rattle.std.proofs.lemmas.Bool.{eqb-false, ltb-true}
use Rattle.std.proofs.lemmas.List.{get_or_default}
use Rattle.std.proofs.lemmas.List.Elements.{All-append, All-filter}
use Rattle.std.proofs.lemmas.List.FromFn.{get_or-range_with_len, length-range_with_len}
use Rattle.std.proofs.lemmas.List.Sorted.{All-permutation}
use Rattle.std.proofs.lemmas.Nat.{div-add-mod'}
use Rattle.xfs_geom.proofs.Votes.{left}
use Rattle.xfs_geom.specs.Shape.{HasGroups, HasLog}
use Rattle.xfs_geom.specs.Volumes.{Volume}
use Rattle.xfs_geom.specs.declared.geometry.Geometry.{Geometry}
use Rattle.xfs_geom.specs.declared.records.InoRec.{InoRec}
use Rattle.xfs_place.specs.Pool.{is_taken}
use Rattle.xfs_place.specs.declared.placed.GroupPlaced.{GroupPlaced}
use Rattle.xfs_place.specs.declared.placed.Placed.{Placed}
use Rattle.xfs_place.specs.declared.wanted.Wanted.{Wanted}
use Rattle.xfs_render.specs.Groups.{CanPack, IsSoundGroup, tree_places}
use Rattle.xfs_render.proofs.ObjectSteps.{blocks_low, places_low}
use Rattle.xfs_render.specs.Drafts.{row_places}
use Rattle.xfs_render.specs.Objects.{asks_with_kind, object_blocks, object_places}
use Rattle.xfs_render.specs.Plans.{planned}
use Rattle.xfs_render.specs.Rendering.{IsReady, IsRendered, blocks_in_place, fresh_blocks, group_placed, wanted_inodes, kept_blocks, log_places, new_blocks, no_group, tree_blocks, volume}
use Rattle.xfs_render.specs.Trees.{group_tree_places}
use Rattle.xfs_render.specs.declared.bytes.Bytes.{Bytes}
use Rattle.xfs_render.specs.declared.plan.Plan.{Plan}
use Rattle.xfs_tree.specs.Rules.{is_of_root_cluster}
use Rattle.xfs_tree.specs.Shape.{Shape}

-- a block that can be one of a tree of a group lies in the volume
held_low : {R K : Type 0} (s : Shape R K) (v : Volume) (records : List R) (places : List ℕ) → CanPack s v records places
    → All (λ place. place < v.dblocks) places
held_low s v records places can = λ k d low.
    let held = can.held k d low in
    ltb-true _ _ (left _ _ (left _ _ (left _ (not (is_of_root_cluster v (get_or places k d))) held)))

group_low : (v : Volume) (ag : ℕ) (inodes : List InoRec) (p : GroupPlaced) → IsSoundGroup v ag inodes p → All (λ place. place < v.dblocks) (group_tree_places p)
group_low v ag inodes p sound =
    let P : ℕ → Type 0 = λ place. place < v.dblocks in
    All-append P _ (tree_places p 4)
    (All-append P _ (tree_places p 3)
    (All-append P _ (tree_places p 2)
    (All-append P (tree_places p 0) (tree_places p 1) (held_low _ v _ _ sound.bno) (held_low _ v _ _ sound.cnt))
    (held_low _ v _ _ sound.ino))
    (held_low _ v _ _ sound.fino))
    (held_low _ v _ _ sound.rmap)

-- what holds of what each item gives
all_flat : {X : Type 0} (P : ℕ → Type 0) (f : X → List ℕ) (xs : List X) → ((k : ℕ) (d : X) → k < length xs → All P (f (get_or xs k d)))
    → All P (flat_map f xs)
all_flat P f [] each = λ k d low. absurd (omega (arith, low))
all_flat P f (x ∷ xs) each =
    All-append P (f x) (flat_map f xs) (each zero x (omega arith)) (all_flat P f xs (λ k d low. each (suc k) d (omega (arith, low))))

trees_low : (w : Wanted) (p : Placed) (b : Bytes) → IsReady w p b → All (λ place. place < w.geometry.dblocks) (tree_blocks p)
trees_low w p b ready =
    all_flat (λ place. place < w.geometry.dblocks) group_tree_places p.groups (λ k d low.
    let inside : k < w.geometry.agcount = omega (arith, ready.groups, low) in
    let same : get_or p.groups k no_group ≡ get_or p.groups k d = get_or_default p.groups k no_group d low in
    subst (λ (q : GroupPlaced). All (λ place. place < w.geometry.dblocks) (group_tree_places q)) same
    (group_low (volume w) k (wanted_inodes w k) (group_placed p k) (ready.sound k inside)))

-- so do the blocks of objects
objects_low : (w : Wanted) (p : Placed) (b : Bytes) → IsReady w p b → All (λ place. place < w.geometry.dblocks) (object_places w p)
objects_low w p b ready = places_low w.geometry.dblocks (object_blocks w p) (blocks_low w.geometry.dblocks (asks_with_kind w.objects) p.cuts p.runs ready.runs)

-- the log ends in the volume
log_ends : (d w n log l : ℕ) → HasGroups d w n → HasLog d w n log l → log + l ≤ d
log_ends d w n log l groups has = by_case (log / w + 1 == n) refl has.inside
  where
    whole : log / w * w + log % w ≡ log
    whole = div-add-mod' log w

    by_case : (r : Bool) → (log / w + 1 == n) ≡ r → log % w + l ≤ cond r (d - log / w * w) w → log + l ≤ d
    by_case true is inside = omega (arith, whole, has.large, inside)
    by_case false is inside =
        let other : log / w + 1 ≢ n = eqb-false _ _ is in
        let low : log / w + 1 ≤ n - 1 = omega (arith, has.group) in
        let most : (log / w + 1) * w ≤ (n - 1) * w = mul-le-mul_right w low in
        omega (arith, whole, groups.last, most, inside, has.large)

log_low : (g : Geometry) → All (λ place. place < g.dblocks) (range_with_len g.log g.logblocks)
log_low g = λ k d low.
    let few : k < g.logblocks = omega (arith, length-range_with_len g.log g.logblocks, low) in
    let at : get_or (range_with_len g.log g.logblocks) k d ≡ g.log + k = get_or-range_with_len g.log g.logblocks k d few in
    let end : g.log + g.logblocks ≤ g.dblocks = log_ends g.dblocks g.agblocks g.agcount g.log g.logblocks g.shape.groups g.shape.log_inside in
    omega (arith, at, few, end)

-- the log where it is to be blank, and nothing where it stays
blank_low : (w : Wanted) (cycle : Option ℕ) → All (λ place. place < w.geometry.dblocks) (log_places w cycle)
blank_low w None = λ k d low. absurd (omega (arith, low))
blank_low w (Some cycle) = log_low w.geometry

-- all of them
pub planned_low : (w : Wanted) (p : Placed) (b : Bytes) (plan : Plan) → IsReady w p b → IsRendered w p b plan
    → All (λ place. place < w.geometry.dblocks) (planned plan)
planned_low w p b plan ready rendered =
    let P : ℕ → Type 0 = λ place. place < w.geometry.dblocks in
    All-append P (row_places plan.fresh) (row_places plan.in_place)
    (All-permutation P (fresh_blocks w p b) (row_places plan.fresh) rendered.fresh
    (All-append P (tree_blocks p) (object_places w p ++ new_blocks w b) (trees_low w p b ready)
    (All-append P (object_places w p) (new_blocks w b) (objects_low w p b ready) (All-filter (is_taken w.new) P b.places ready.inside))))
    (All-permutation P (blocks_in_place w b) (row_places plan.in_place) rendered.in_place
    (All-append P (kept_blocks w b) (log_places w b.cycle) (All-filter (λ place. not (is_taken w.new place)) P b.places ready.inside)
    (blank_low w b.cycle)))
