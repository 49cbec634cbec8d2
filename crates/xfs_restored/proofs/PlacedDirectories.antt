-- The runs of directories that were placed are extents of files.
use Rattle.std.proofs.Common.{◌≡◌, ℕ, zero, suc, Bool, true, false, ◌+◌, ◌/◌, ◌≤◌, if◌then◌else◌, List, [], ◌∷◌, ◌++◌, length, take, drop, sym, ◌∙◌, subst, arith}
use Rattle.std.specs.List.{AllByRecursion}
use Rattle.std.proofs.lemmas.List.Elements.{recursion_from_All}
use Rattle.std.proofs.lemmas.List.Sums.{sum_by-append, sum_by-take-drop}
use Rattle.xfs_disk.specs.Blocks.{Image}
use Rattle.xfs_geom.specs.Runs.{covers, runs_on}
use Rattle.xfs_geom.specs.Volumes.{Volume, volume_of}
use Rattle.xfs_geom.specs.declared.geometry.Geometry.{Geometry}
use Rattle.xfs_geom.specs.declared.records.Run.{Run}
use Rattle.xfs_dirindex.specs.Mapped.{OffsetsAscend}
use Rattle.xfs_rename.specs.xfs_empty.Planning.{StandsFor}
use Rattle.xfs_names.specs.declared.building.BuiltDirectory.{BuiltDirectory}
use Rattle.xfs_names.specs.declared.records.WantedNames.{WantedNames}
use Rattle.xfs_place.specs.Claims.{ClaimedOnce, IsClaimedRun}
use Rattle.xfs_place.specs.Wanted.{CanBeKept, IsOffFixed, kept_runs}
use Rattle.xfs_names.specs.Built.{fork_room}
use Rattle.xfs_place.specs.declared.placed.Placed.{Placed}
use Rattle.xfs_place.specs.declared.wanted.Wanted.{Wanted}
use Rattle.xfs_render.specs.declared.bytes.Bytes.{Bytes}
use Rattle.xfs_rename.specs.xfs_rebuild.declared.names_due.NamesDue.{NamesDue}
use Rattle.xfs_rename.specs.xfs_built.Asks.{stands_in_blocks}
use Rattle.xfs_rename.specs.Objects.{wanted_with}
use Rattle.xfs_rename.specs.Renames.{renamed_wanted}
use Rattle.xfs_rename.specs.xfs_changes.Rooms.{fork_rooms}
use Rattle.xfs_rename.specs.xfs_built.Directories.{BuiltRuns, HasOwnCounts, StandsInRuns, StandsIn, asks_of_built, built_runs, runs_of_built, with_runs}
use Rattle.xfs_rename.specs.xfs_built.Pieces.{IsLowRun, IsPlacedRun}
use Rattle.xfs_restored.specs.Reading.{HasFileExtents}
use Rattle.xfs_restored.specs.Renamed.{HoldsBuilt}
use Rattle.xfs_restored.proofs.FewRuns.{all_few}
use Rattle.xfs_restored.proofs.Placing.{all_fit, blocks_counted, file_blocks_ascend, runs_are_extents}
use Rattle.xfs_restored.proofs.Planned.{all_of_both, all_runs, all_stand, sized_all}

all_take : {X : Type 0} (P : X → Type 0) (k : ℕ) (xs : List X) → AllByRecursion P xs → AllByRecursion P (take k xs)
all_take P zero xs all = tt
all_take P (suc k) [] all = tt
all_take P (suc k) (x ∷ xs) all = (all.0, all_take P k xs all.1)

all_drop : {X : Type 0} (P : X → Type 0) (k : ℕ) (xs : List X) → AllByRecursion P xs → AllByRecursion P (drop k xs)
all_drop P zero xs all = all
all_drop P (suc k) [] all = tt
all_drop P (suc k) (x ∷ xs) all = all_drop P k xs all.1

all_back : {X : Type 0} (P : X → Type 0) (xs ys : List X) → AllByRecursion P (xs ++ ys) → AllByRecursion P ys
all_back P [] ys all = all
all_back P (x ∷ xs) ys all = all_back P xs ys all.1

-- runs that claim blocks without a fixed use, each block once
abbrev IsClear : Volume → Run → Type 0
IsClear v r = (IsClaimedRun v.dblocks r) × (IsOffFixed v r)

record AreClear (v : Volume) (runs : List Run) : Type 0 where
  each : AllByRecursion (IsClear v) runs
  once : ClaimedOnce runs

count_parts : (runs : List Run) (k b : ℕ) → runs_on (take k runs) b + runs_on (drop k runs) b ≡ runs_on runs b
count_parts runs k b = sum_by-take-drop (λ (r : Run). if covers b r then 1 else 0) runs k

clear_take : (v : Volume) (k : ℕ) (runs : List Run) → AreClear v runs → AreClear v (take k runs)
clear_take v k runs is = record {
  each = all_take (IsClear v) k runs is.each;
  once = record { once = λ b. let parts = count_parts runs k b in let most = is.once.once b in omega (arith, parts, most) };
}

clear_drop : (v : Volume) (k : ℕ) (runs : List Run) → AreClear v runs → AreClear v (drop k runs)
clear_drop v k runs is = record {
  each = all_drop (IsClear v) k runs is.each;
  once = record { once = λ b. let parts = count_parts runs k b in let most = is.once.once b in omega (arith, parts, most) };
}

-- so are those of each directory
clear_if : (v : Volume) (t : Bool) (b : BuiltDirectory) (mine : List Run) (some none : List BuiltRuns) → AreClear v mine → AreClear v []
    → AllByRecursion (λ (p : BuiltRuns). AreClear v p.runs) some → AllByRecursion (λ (p : BuiltRuns). AreClear v p.runs) none
    → AllByRecursion (λ (p : BuiltRuns). AreClear v p.runs) (if t then built_runs b mine ∷ some else built_runs b [] ∷ none)
clear_if v true b mine some none own empty first second = (own, first)
clear_if v false b mine some none own empty first second = (empty, second)

all_clear : (v : Volume) (built : List BuiltDirectory) (cuts : List ℕ) (runs : List Run) → AreClear v runs → AllByRecursion (λ (p : BuiltRuns). AreClear v p.runs) (with_runs built cuts runs)
unfolding with_runs
all_clear v [] cuts runs is = tt
all_clear v (b ∷ bs) cuts runs is =
    clear_if v (stands_in_blocks b) b (take (runs_of_built b cuts) runs) (with_runs bs (drop (asks_of_built b) cuts) (drop (runs_of_built b cuts) runs)) (with_runs bs cuts runs)
    (clear_take v (runs_of_built b cuts) runs is) (clear_take v 0 runs is)
    (all_clear v bs (drop (asks_of_built b) cuts) (drop (runs_of_built b cuts) runs) (clear_drop v (runs_of_built b cuts) runs is)) (all_clear v bs cuts runs is)

-- what is placed beside what is kept
all_both : (v : Volume) (runs : List Run) → AllByRecursion (IsClaimedRun v.dblocks) runs → AllByRecursion (IsOffFixed v) runs → AllByRecursion (IsClear v) runs
all_both v [] first second = tt
all_both v (r ∷ runs) first second = ((first.0, second.0), all_both v runs first.1 second.1)

clear_behind : (v : Volume) (kept runs : List Run) → CanBeKept v (kept ++ runs) → AreClear v runs
clear_behind v kept runs can = record {
  each =
      all_both v runs (all_back (IsClaimedRun v.dblocks) kept runs (recursion_from_All (IsClaimedRun v.dblocks) (kept ++ runs) can.each))
      (all_back (IsOffFixed v) kept runs (recursion_from_All (IsOffFixed v) (kept ++ runs) can.clear));
  once = record {
    once = λ b.
        let parts : runs_on (kept ++ runs) b ≡ runs_on kept b + runs_on runs b = sum_by-append (λ (r : Run). if covers b r then 1 else 0) kept runs in
        let most = can.apart.once b in
        omega (arith, parts, most);
  };
}

all_placed : (v : Volume) (runs : List Run) → AllByRecursion (IsClear v) runs → AllByRecursion IsLowRun runs → AllByRecursion (IsPlacedRun v) runs
all_placed v [] clear low = tt
all_placed v (r ∷ runs) clear low = (
  record { some = clear.0.0.some; inside = clear.0.0.inside; clear = clear.0.1; low = low.0 },
  all_placed v runs clear.1 low.1,
)

one_extents : (g : Geometry) (image : Image) (p : BuiltRuns) → HasOwnCounts p.directory → AreClear (volume_of g) p.runs → StandsIn (volume_of g) image p.directory p.runs → HasFileExtents (volume_of g) p
one_extents g image p sized clear at =
    let v : Volume = volume_of g in
    let placed = all_placed v p.runs clear.each at.low' in
    let few_data = sized.data' in
    let few_index = sized.index' in
    record {
      extents' =
          runs_are_extents g p.runs placed clear.once
          (subst (OffsetsAscend 0) (sym at.offsets')
          (file_blocks_ascend p.directory.image.data_blocks p.directory.image.index_blocks p.directory.image.free_blocks (omega (arith, few_data)) (omega (arith, few_index))));
      fit = all_fit g p.runs placed;
      count = blocks_counted v p.runs ∙ (at.count ∙ sized.count);
    }

pub all_extents : (g : Geometry) (n : NamesDue) (w : WantedNames) (built : List BuiltDirectory) (p : Placed) (b : Bytes) (image : Image) → HoldsBuilt g n w built p b image
    → StandsFor (renamed_wanted g n w built) p → AllByRecursion (λ (d : BuiltRuns). stands_in_blocks d.directory ≡ true → HasFileExtents (volume_of g) d) (with_runs built p.cuts p.runs)
unfolding wanted_with
all_extents g n w built p b image is stands =
    let v : Volume = volume_of g in
    let ds : List BuiltRuns = with_runs built p.cuts p.runs in
    let clear : AllByRecursion (λ (d : BuiltRuns). AreClear v d.runs) ds = all_clear v built p.cuts p.runs (clear_behind v (kept_runs (renamed_wanted g n w built)) p.runs stands.apart) in
    let sized : AllByRecursion (λ (d : BuiltRuns). HasOwnCounts d.directory) ds = all_runs HasOwnCounts built p.cuts p.runs (sized_all g n w built p b image is) in
    all_of_both (StandsInRuns v image) (λ (d : BuiltRuns). (HasOwnCounts d.directory) × (AreClear v d.runs)) (λ (d : BuiltRuns). stands_in_blocks d.directory ≡ true → HasFileExtents v d)
    (λ d at both some. one_extents g image d both.0 both.1 (at some)) ds (all_stand g n w built p b image is)
    (all_of_both (λ (d : BuiltRuns). HasOwnCounts d.directory) (λ (d : BuiltRuns). AreClear v d.runs) (λ (d : BuiltRuns). (HasOwnCounts d.directory) × (AreClear v d.runs)) (λ d one two. (one, two)) ds sized clear)

some_blocks : (v : Volume) (runs : List Run) → AllByRecursion (IsClear v) runs → AllByRecursion (λ (r : Run). 1 ≤ r.count) runs
some_blocks v [] all = tt
some_blocks v (r ∷ runs) all = (all.0.0.some, some_blocks v runs all.1)

-- each has at most as many runs as its fork has room for extents
pub few_extents : (g : Geometry) (n : NamesDue) (w : WantedNames) (built : List BuiltDirectory) (p : Placed) (b : Bytes) (image : Image) → HoldsBuilt g n w built p b image
    → StandsFor (renamed_wanted g n w built) p
    → AllByRecursion (λ (d : BuiltRuns). stands_in_blocks d.directory ≡ true → length d.runs ≤ fork_room (fork_rooms w.rebuilt n.files) d.directory.ino / 16) (with_runs built p.cuts p.runs)
unfolding wanted_with
few_extents g n w built p b image is stands =
    let asked : Wanted = renamed_wanted g n w built in
    all_few (volume_of g) asked.reserved asked.from asked.spared_from asked.takes_spared (fork_rooms w.rebuilt n.files) built p.cuts (kept_runs asked) p.runs
    (sized_all g n w built p b image is) (some_blocks (volume_of g) p.runs (clear_behind (volume_of g) (kept_runs asked) p.runs stands.apart).each) is.cuts stands.runs'
