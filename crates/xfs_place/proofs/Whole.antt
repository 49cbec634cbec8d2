-- All that a request names stands, from the runs of its objects and the trees of its groups.
use Rattle.std.proofs.Common.{◌≡◌, ℕ, ◌≤◌, ◌++◌, List, length, take, drop, Result, Ok, sym, ◌∙◌, ap, subst, arith}
use Rattle.std.proofs.lemmas.List.{length-take, take-append-drop}
use Rattle.xfs_geom.specs.Volumes.{volume_of}
use Rattle.xfs_geom.specs.declared.records.Run.{Run}
use Rattle.xfs_place.specs.declared.faults.Unplaced.{Unplaced}
use Rattle.xfs_place.specs.declared.placed.GroupPlaced.{GroupPlaced}
use Rattle.xfs_place.specs.declared.placed.Placed.{Placed}
use Rattle.xfs_place.specs.declared.wanted.Wanted.{Wanted}
use Rattle.xfs_place.specs.Counts.{placed_counts}
use Rattle.xfs_place.specs.Kept.{AreWantedKept, IsPlacedAs}
use Rattle.xfs_place.specs.Objects.{ServeAsks, asks_of}
use Rattle.xfs_place.specs.Standing.{AreOfPool}
use Rattle.xfs_place.specs.Wanted.{ArePlaced, CanBeKept, kept_runs}

-- what is kept is the front of all
pub kept_inside : (w : Wanted) (all : List Run) (after : List ℕ) (first : ℕ) → first ≡ length (kept_runs w) → AreWantedKept w all after → first ≤ length all
kept_inside w all after first is told =
    let long : length (take (length (kept_runs w)) all) ≡ length (kept_runs w) = ap length told.behind in
    let least = length-take (length (kept_runs w)) all in
    omega (arith, long, least, is)

-- the runs behind it are those of the objects
pub all_stands : (w : Wanted) (all : List Run) (after : List ℕ) (first : ℕ) (runs : List Run) (groups : List GroupPlaced) (placed : Placed) → first ≡ length (kept_runs w) → AreWantedKept w all after → runs ≡ drop first all
    → placed.runs ≡ runs → placed.cuts ≡ after → placed.groups ≡ groups → placed.counts ≡ placed_counts w.inodes groups
    → ArePlaced (volume_of w.geometry) all w.reserved w.inodes w.geometry.agcount groups → AreOfPool (volume_of w.geometry) all w.reserved w.inodes w.geometry.agcount groups → IsPlacedAs w placed
all_stands w all after first runs groups placed first_is told runs_are same_runs same_cuts same_groups same_counts stand of_pool =
    let old = kept_runs w in
    let v = volume_of w.geometry in
    let back : placed.runs ≡ drop (length old) all = same_runs ∙ runs_are ∙ ap (λ (n : ℕ). drop n all) first_is in
    let whole : old ++ placed.runs ≡ all = ap (λ (rs : List Run). old ++ rs) back ∙ ap (λ (rs : List Run). rs ++ drop (length old) all) (sym told.behind) ∙ take-append-drop (length old) all in
    record {
      runs = told.placed ∙ ap (λ (rs : List Run). let r : Result (List Run) Unplaced = Ok rs in r) (sym whole);
      cuts = subst (λ (ns : List ℕ). ServeAsks (asks_of w.objects) ns placed.runs) (sym same_cuts) (subst (ServeAsks (asks_of w.objects) after) (sym back) told.cuts);
      groups = subst (λ (gs : List GroupPlaced). ArePlaced v (old ++ placed.runs) w.reserved w.inodes w.geometry.agcount gs) (sym same_groups)
          (subst (λ (rs : List Run). ArePlaced v rs w.reserved w.inodes w.geometry.agcount groups) (sym whole) stand);
      apart = subst (CanBeKept v) (sym whole) told.kept;
      pool = subst (λ (gs : List GroupPlaced). AreOfPool v (old ++ placed.runs) w.reserved w.inodes w.geometry.agcount gs) (sym same_groups)
          (subst (λ (rs : List Run). AreOfPool v rs w.reserved w.inodes w.geometry.agcount groups) (sym whole) of_pool);
      counts = same_counts ∙ ap (placed_counts w.inodes) (sym same_groups);
    }
