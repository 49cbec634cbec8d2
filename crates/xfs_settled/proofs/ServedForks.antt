-- Directories that are built anew find the runs that were placed for them.
use Rattle.std.proofs.Common.{◌≡◌, ℕ, Bool, true, false, ◌+◌, ◌-◌, ◌^◌, ◌≤◌, ◌<◌, if◌then◌else◌, List, [], ◌∷◌, ◌++◌, length, map, filter, take, drop, sym, ap, ◌∙◌, subst, arith}
use Rattle.std.specs.List.{AllByRecursion}
use Rattle.std.proofs.lemmas.Bool.{false≢true}
use Rattle.std.proofs.lemmas.List.{drop-drop, length-drop, take-append-drop}
use Rattle.std.proofs.lemmas.List.Elements.{recursion_from_All}
use Rattle.std.proofs.lemmas.List.Sums.{sum_by-cons}
use Rattle.xfs_empty.specs.Planning.{StandsFor}
use Rattle.xfs_geom.specs.declared.geometry.Geometry.{Geometry}
use Rattle.xfs_geom.specs.declared.records.Run.{Run}
use Rattle.xfs_names.specs.Built.{CanBeBuilt, IsBuiltAsWanted}
use Rattle.xfs_names.specs.declared.building.BuiltDirectory.{BuiltDirectory}
use Rattle.xfs_names.specs.declared.building.ForkRoom.{ForkRoom}
use Rattle.xfs_names.specs.declared.records.WantedNames.{WantedNames}
use Rattle.xfs_place.specs.Claims.{IsClaimedRun}
use Rattle.xfs_place.specs.Objects.{ServeAsks, asks_of}
use Rattle.xfs_place.specs.Wanted.{kept_runs}
use Rattle.xfs_place.specs.declared.placed.Placed.{Placed}
use Rattle.xfs_place.specs.declared.wanted.Object.{Object}
use Rattle.xfs_place.specs.declared.wanted.RunAsk.{RunAsk}
use Rattle.xfs_mend.specs.xfs_rebuild.declared.names_due.NamesDue.{NamesDue}
use Rattle.xfs_built.specs.Asks.{asks_for, object_of, objects_of, stands_in_blocks}
use Rattle.xfs_mend.specs.xfs_rename.Objects.{wanted_with}
use Rattle.xfs_mend.specs.xfs_rename.Renames.{AreBuilt, renamed_wanted}
use Rattle.xfs_changes.specs.Rooms.{fork_rooms}
use Rattle.xfs_built.proofs.Fronts.{all_append, front_is}
use Rattle.xfs_mend.proofs.xfs_restored.Planned.{all_of_both}
use Rattle.xfs_built.proofs.Sized.{built_sized}
use Rattle.xfs_built.proofs.Standing.{asks_plain}
use Rattle.xfs_built.specs.Directories.{HasOwnCounts, asks_of_built, runs_of_built}
use Rattle.xfs_built.specs.Pieces.{IsFrontOfAsks, IsLowRun, taken}
use Rattle.xfs_settled.specs.Served.{AreServed, IsServed}

low_numbers : (built : List BuiltDirectory) → AllByRecursion (λ (d : ℕ). d < 2 ^ 32) (map (λ (b : BuiltDirectory). b.ino) built) → AllByRecursion (λ (b : BuiltDirectory). b.ino < 2 ^ 32) built
low_numbers [] all = tt
low_numbers (b ∷ bs) all = (all.0, low_numbers bs all.1)

pub all_sized : (g : Geometry) (n : NamesDue) (w : WantedNames) (built : List BuiltDirectory) → AreBuilt g n w built → CanBeBuilt w → AllByRecursion HasOwnCounts built
all_sized g n w built are can =
    let rooms : List ForkRoom = fork_rooms w.rebuilt n.files in
    all_of_both (IsBuiltAsWanted w rooms) (λ (d : BuiltDirectory). d.ino < 2 ^ 32) HasOwnCounts (λ d wanted low. built_sized w rooms d can low wanted) built
    (recursion_from_All (IsBuiltAsWanted w rooms) built are.each)
    (low_numbers built (subst (AllByRecursion (λ (d : ℕ). d < 2 ^ 32)) (sym are.numbers) (recursion_from_All (λ (d : ℕ). d < 2 ^ 32) w.rebuilt can.rebuilt_low)))

-- the first of some asks find their cuts and runs, and the others those behind them
record IsFront (front rest : List RunAsk) (cuts : List ℕ) (runs : List Run) : Type 0 where
  cuts' : length front ≤ length cuts
  runs' : taken front cuts ≤ length runs
  rest' : ServeAsks rest (drop (length front) cuts) (drop (taken front cuts) runs)

front_served : (front rest : List RunAsk) (cuts : List ℕ) (runs : List Run) → ServeAsks (front ++ rest) cuts runs → IsFront front rest cuts runs
front_served [] rest cuts runs serve = record { cuts' = omega arith; runs' = omega arith; rest' = serve }
front_served (a ∷ front) rest [] runs serve = absurd serve
front_served (a ∷ front) rest (n ∷ cuts) runs serve =
    let behind = front_served front rest cuts (drop n runs) serve.2 in
    let m : ℕ = taken front cuts in
    let count : taken (a ∷ front) (n ∷ cuts) ≡ n + m = sum_by-cons (λ (c : ℕ). c) n (take (length front) cuts) in
    let tail : drop m (drop n runs) ≡ drop (taken (a ∷ front) (n ∷ cuts)) runs = drop-drop m n runs ∙ ap (λ (k : ℕ). drop k runs) (sym count) in
    let long : length (drop n runs) ≡ length runs - n = length-drop n runs in
    let few = serve.0 in
    let few_cuts = behind.cuts' in
    let few_runs = behind.runs' in
    record {
      cuts' = omega (arith, few_cuts);
      runs' = omega (arith, count, long, few, few_runs);
      rest' = subst (λ (rs : List Run). ServeAsks rest (drop (length front) cuts) rs) tail behind.rest';
    }

abbrev objects_if : Bool → List ForkRoom → BuiltDirectory → List BuiltDirectory → List Object
objects_if t rooms b bs = map (object_of rooms) (if t then b ∷ filter stands_in_blocks bs else filter stands_in_blocks bs)

if_served : (rooms : List ForkRoom) (b : BuiltDirectory) (bs : List BuiltDirectory) (cuts : List ℕ) (runs : List Run)
    → ((cs : List ℕ) (rs : List Run) → ServeAsks (asks_of (objects_of rooms bs)) cs rs → AreServed bs cs rs) → (t : Bool)
    → ServeAsks (asks_of (objects_if t rooms b bs)) cuts runs
    → (t ≡ true → IsServed b cuts runs) × AreServed bs (if t then drop (asks_of_built b) cuts else cuts) (if t then drop (runs_of_built b cuts) runs else runs)
if_served rooms b bs cuts runs next true serve =
    let front = front_served (asks_for b.ino b.image) (asks_of (objects_of rooms bs)) cuts runs serve in
    (λ some. record { cuts' = front.cuts'; runs' = front.runs' }, next (drop (asks_of_built b) cuts) (drop (runs_of_built b cuts) runs) front.rest')
if_served rooms b bs cuts runs next false serve = (λ some. absurd (false≢true some), next cuts runs serve)

pub all_served : (rooms : List ForkRoom) (built : List BuiltDirectory) (cuts : List ℕ) (runs : List Run) → ServeAsks (asks_of (objects_of rooms built)) cuts runs → AreServed built cuts runs
all_served rooms [] cuts runs serve = tt
all_served rooms (b ∷ bs) cuts runs serve = if_served rooms b bs cuts runs (all_served rooms bs) (stands_in_blocks b) serve

-- runs that serve asks are low
no_cuts : (cuts : List ℕ) (runs : List Run) → ServeAsks [] cuts runs → runs ≡ []
no_cuts [] runs serve = serve
no_cuts (n ∷ cuts) runs serve = absurd serve

if_low : (rooms : List ForkRoom) (b : BuiltDirectory) (bs : List BuiltDirectory) (cuts : List ℕ) (runs : List Run) → HasOwnCounts b
    → ((cs : List ℕ) (rs : List Run) → ServeAsks (asks_of (objects_of rooms bs)) cs rs → AllByRecursion IsLowRun rs) → (t : Bool)
    → ServeAsks (asks_of (objects_if t rooms b bs)) cuts runs → AllByRecursion IsLowRun runs
if_low rooms b bs cuts runs sized next true serve =
    let front : IsFrontOfAsks b.ino (asks_for b.ino b.image) (asks_of (objects_of rooms bs)) [] cuts runs =
    front_is b.ino (asks_for b.ino b.image) (asks_of (objects_of rooms bs)) [] cuts runs sized.low (asks_plain b sized) serve in
    subst (AllByRecursion IsLowRun) (take-append-drop (runs_of_built b cuts) runs)
    (all_append IsLowRun (take (runs_of_built b cuts) runs) (drop (runs_of_built b cuts) runs) front.low' (next (drop (asks_of_built b) cuts) (drop (runs_of_built b cuts) runs) front.rest'))
if_low rooms b bs cuts runs sized next false serve = next cuts runs serve

pub all_low : (rooms : List ForkRoom) (built : List BuiltDirectory) (cuts : List ℕ) (runs : List Run) → AllByRecursion HasOwnCounts built
    → ServeAsks (asks_of (objects_of rooms built)) cuts runs → AllByRecursion IsLowRun runs
all_low rooms [] cuts runs sized serve = subst (AllByRecursion IsLowRun) (sym (no_cuts cuts runs serve)) tt
all_low rooms (b ∷ bs) cuts runs sized serve = if_low rooms b bs cuts runs sized.0 (λ cs rs is. all_low rooms bs cs rs sized.1 is) (stands_in_blocks b) serve

-- they start in the volume
pub all_back : {X : Type 0} (P : X → Type 0) (xs ys : List X) → AllByRecursion P (xs ++ ys) → AllByRecursion P ys
all_back P [] ys all = all
all_back P (x ∷ xs) ys all = all_back P xs ys all.1

starts : (top : ℕ) (runs : List Run) → AllByRecursion (IsClaimedRun top) runs → AllByRecursion (λ (r : Run). r.start < top) runs
starts top [] all = tt
starts top (r ∷ runs) all = (let some = all.0.some in let end = all.0.inside in omega (arith, some, end), starts top runs all.1)

pub all_inside : (g : Geometry) (n : NamesDue) (w : WantedNames) (built : List BuiltDirectory) (p : Placed) → StandsFor (renamed_wanted g n w built) p
    → AllByRecursion (λ (r : Run). r.start < g.dblocks) p.runs
unfolding wanted_with
all_inside g n w built p stands =
    let kept : List Run = kept_runs (renamed_wanted g n w built) in
    starts g.dblocks p.runs
    (all_back (IsClaimedRun g.dblocks) kept p.runs (recursion_from_All (IsClaimedRun g.dblocks) (kept ++ p.runs) stands.apart.each))
