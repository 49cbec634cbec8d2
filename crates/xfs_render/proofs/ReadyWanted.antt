-- What a request keeps once it is placed.
use Rattle.std.proofs.Common.{◌≡◌, ℕ, ◌+◌, ◌^◌, ◌<◌, ◌≤◌, ◌||◌, Bool, true, List, [], ◌∷◌, ◌++◌, ◌∙◌, length, get_or, ap, arith}
use Rattle.std.specs.List.{All, list_any}
use Rattle.std.proofs.lemmas.List.Elements.{All-from_get_or, All-weaker}
use Rattle.std.proofs.lemmas.List.Folds.{list_any-append}
use Rattle.xfs_geom.specs.Conversions.{group_length}
use Rattle.xfs_geom.specs.Runs.{covers}
use Rattle.xfs_geom.specs.Shape.{HasGroups}
use Rattle.xfs_geom.specs.Volumes.{Volume, volume_of}
use Rattle.xfs_geom.specs.declared.records.Run.{Run}
use Rattle.xfs_place.specs.Claims.{IsClaimedRun}
use Rattle.xfs_place.specs.Pool.{IsRunOf, is_taken}
use Rattle.xfs_place.specs.Wanted.{CanBeKept, kept_runs}
use Rattle.xfs_place.specs.declared.wanted.GroupInodes.{GroupInodes}
use Rattle.xfs_place.specs.declared.wanted.Wanted.{Wanted}
use Rattle.xfs_render.specs.Readiness.{IsWritable}
use Rattle.xfs_render.specs.Rendering.{wanted_inodes, volume}
use Rattle.xfs_render.proofs.LawfulChunks.{chunks_few}
use Rattle.xfs_render.proofs.ReadyGroups.{length_small}
use Rattle.xfs_render.proofs.TreePlaces.{all_left, all_right}

-- what is kept lies in the volume, new chunks and runs of objects among it
claimed_inside : (d : ℕ) (runs : List Run) → All (IsClaimedRun d) runs → All (IsRunOf d) runs
claimed_inside d runs all = All-weaker (IsClaimedRun d) (IsRunOf d) (λ r claim. (claim.some, claim.inside)) runs all

pub new_inside : (w : Wanted) (runs : List Run) → CanBeKept (volume w) (kept_runs w ++ runs) → All (IsRunOf w.geometry.dblocks) w.new
new_inside w runs are =
    claimed_inside w.geometry.dblocks w.new
    (all_right (IsClaimedRun w.geometry.dblocks) w.taken w.new (all_left (IsClaimedRun w.geometry.dblocks) (kept_runs w) runs are.each))

pub runs_inside : (w : Wanted) (runs : List Run) → CanBeKept (volume w) (kept_runs w ++ runs) → All (IsRunOf w.geometry.dblocks) runs
runs_inside w runs are = claimed_inside w.geometry.dblocks runs (all_right (IsClaimedRun w.geometry.dblocks) (kept_runs w) runs are.each)

-- a block that is taken is taken beside others too
pub taken_left : (xs ys : List Run) (block : ℕ) → is_taken xs block ≡ true → is_taken (xs ++ ys) block ≡ true
unfolding is_taken
taken_left xs ys block is = list_any-append (covers block) xs ys ∙ ap (λ (t : Bool). t || list_any (covers block) ys) is

pub few_chunks : (w : Wanted) → HasGroups w.geometry.dblocks w.geometry.agblocks w.geometry.agcount → IsWritable w → All (λ (group : GroupInodes). length group.records < 2 ^ 32) w.inodes
few_chunks w groups writable =
    All-from_get_or (λ (group : GroupInodes). length group.records < 2 ^ 32) w.inodes (record { records = [] }) (λ ag low.
    let there : ag < w.geometry.agcount = omega (arith, low, writable.inodes) in
    let few = chunks_few 0x4941_4233 (volume w) ag (wanted_inodes w ag) (writable.chunks ag there) in
    omega (arith, few, length_small (volume w) ag groups there))
