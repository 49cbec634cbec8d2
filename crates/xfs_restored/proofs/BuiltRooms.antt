-- What is known of each directory that is built anew: its fork fits, and what holds of all new runs holds of its own.
use Rattle.std.proofs.Common.{◌≡◌, inl, inr, ℕ, zero, suc, Bool, true, false, cond, ◌*◌, ◌/◌, ◌≤◌, if◌then◌else◌, List, [], ◌∷◌, length, map, take, drop, refl, sym, ap, ◌∙◌, arith}
use Rattle.std.specs.List.{AllByRecursion, filter}
use Rattle.std.proofs.lemmas.Bool.{ne_eqb}
use Rattle.std.proofs.lemmas.List.Elements.{recursion_from_All}
use Rattle.xfs_disk.specs.Blocks.{Image}
use Rattle.xfs_disk.specs.declared.stamp.Stamp.{Stamp}
use Rattle.xfs_geom.specs.Volumes.{Volume, volume_of}
use Rattle.xfs_geom.specs.declared.geometry.Geometry.{Geometry}
use Rattle.xfs_geom.specs.declared.records.Run.{Run}
use Rattle.xfs_names.specs.Built.{IsBuiltAsWanted, fork_room}
use Rattle.xfs_names.specs.declared.building.BuiltDirectory.{BuiltDirectory}
use Rattle.xfs_names.specs.declared.building.ForkRoom.{ForkRoom}
use Rattle.xfs_views.proofs.Members.{Member, member_all}
use Rattle.xfs_volume.specs.declared.files.FileRec.{FileRec}
use Rattle.xfs_rename.specs.xfs_rebuild.declared.names_due.NamesDue.{NamesDue}
use Rattle.xfs_restored.specs.Rewriting.{IsRewritten}
use Rattle.xfs_rename.specs.xfs_built.Asks.{stands_in_blocks}
use Rattle.xfs_rename.specs.Renames.{IsRenamed}
use Rattle.xfs_rename.specs.xfs_changes.Rooms.{fork_rooms, has_attributes_behind, room_before_attributes}
use Rattle.xfs_rename.specs.declared.planning.Renamed.{Renamed}
use Rattle.xfs_rename.specs.xfs_built.Directories.{BuiltRuns, HasOwnCounts, asks_of_built, built_runs, runs_of_built, with_runs}
use Rattle.xfs_restored.specs.Reading.{HasFileExtents}
use Rattle.xfs_restored.specs.Renamed.{HoldsBuilt}
use Rattle.xfs_restored.proofs.HeldPlans.{renamed_holds}
use Rattle.xfs_restored.proofs.PlacedDirectories.{all_extents, few_extents}
use Rattle.xfs_restored.proofs.Planned.{all_runs, holds_built, sized_all}
use Rattle.xfs_restored.proofs.ShortRoom.{short_fits}
use Rattle.xfs_restored.proofs.RebuiltSlots.{IsBuiltFor}

-- what holds of all runs holds of those of each directory
all_take : {X : Type 0} (P : X → Type 0) (k : ℕ) (xs : List X) → AllByRecursion P xs → AllByRecursion P (take k xs)
all_take P zero xs all = tt
all_take P (suc k) [] all = tt
all_take P (suc k) (x ∷ xs) all = (all.0, all_take P k xs all.1)

all_drop : {X : Type 0} (P : X → Type 0) (k : ℕ) (xs : List X) → AllByRecursion P xs → AllByRecursion P (drop k xs)
all_drop P zero xs all = all
all_drop P (suc k) [] all = tt
all_drop P (suc k) (x ∷ xs) all = all_drop P k xs all.1

module _ (P : Run → Type 0) where
  abbrev Own : BuiltRuns → Type 0
  Own d = AllByRecursion P d.runs

  own_if : (t : Bool) (b : BuiltDirectory) (mine : List Run) (some none : List BuiltRuns) → AllByRecursion P mine → AllByRecursion Own some → AllByRecursion Own none
      → AllByRecursion Own (if t then built_runs b mine ∷ some else built_runs b [] ∷ none)
  own_if true b mine some none own first second = (own, first)
  own_if false b mine some none own first second = (tt, second)

  pub all_own : (built : List BuiltDirectory) (cuts : List ℕ) (runs : List Run) → AllByRecursion P runs → AllByRecursion Own (with_runs built cuts runs)
  unfolding with_runs
  all_own [] cuts runs all = tt
  all_own (b ∷ bs) cuts runs all =
      own_if (stands_in_blocks b) b (take (runs_of_built b cuts) runs) (with_runs bs (drop (asks_of_built b) cuts) (drop (runs_of_built b cuts) runs)) (with_runs bs cuts runs)
      (all_take P (runs_of_built b cuts) runs all)
      (all_own bs (drop (asks_of_built b) cuts) (drop (runs_of_built b cuts) runs) (all_drop P (runs_of_built b cuts) runs all)) (all_own bs cuts runs all)

-- a directory of which no file has the number has all the room behind the core of its slot
pub whole_room : (rebuilt : List ℕ) (files : List FileRec) (ino : ℕ) → ((x : FileRec) → Member x files → ino ≡ x.ino → ⊥) → fork_room (fork_rooms rebuilt files) ino ≡ 336
whole_room rebuilt [] ino none = refl
whole_room rebuilt (f ∷ fs) ino none = by_test (has_attributes_behind rebuilt f) (whole_room rebuilt fs ino (λ x is. none x (inr is)))
  where
    by_test : (t : Bool) → fork_room (fork_rooms rebuilt fs) ino ≡ 336
        → fork_room (map room_before_attributes (cond t (f ∷ filter (has_attributes_behind rebuilt) fs) (filter (has_attributes_behind rebuilt) fs))) ino ≡ 336
    by_test true rest =
        ap (λ (t : Bool). if t then 8 * f.core.forkoff else fork_room (fork_rooms rebuilt fs) ino) (ne_eqb f.ino ino (λ same. none f (inl refl) (sym same))) ∙ rest
    by_test false rest = rest

module _ (g : Geometry) (sector : List ℕ) (s : Stamp) (image now : Image) (n : NamesDue) (r : Renamed) (is : IsRenamed g sector s image n r) (new : IsRewritten g r.rebuilt image now) where
  abbrev built : List BuiltRuns
  built = with_runs is.built is.placed.cuts is.placed.runs

  abbrev rooms : List ForkRoom
  rooms = fork_rooms is.w.rebuilt n.files

  holds : HoldsBuilt g n is.w is.built is.placed is.bytes now
  holds = holds_built g sector s image n r is is.buildable is.cuts now (renamed_holds g sector s image n r is now new)

  pub built_for : (d : BuiltRuns) → Member d built → IsBuiltFor (volume_of g) (fork_room (fork_rooms is.w.rebuilt n.files) d.directory.ino) d
  built_for d among =
      let v : Volume = volume_of g in
      let Sized : BuiltRuns → Type 0 = λ d. HasOwnCounts d.directory in
      let Placed' : BuiltRuns → Type 0 = λ d. stands_in_blocks d.directory ≡ true → HasFileExtents v d in
      let Few : BuiltRuns → Type 0 = λ d. stands_in_blocks d.directory ≡ true → length d.runs ≤ fork_room rooms d.directory.ino / 16 in
      let Wanted' : BuiltRuns → Type 0 = λ d. IsBuiltAsWanted is.w rooms d.directory in
      let sized = member_all Sized d built (all_runs HasOwnCounts is.built is.placed.cuts is.placed.runs (sized_all g n is.w is.built is.placed is.bytes now holds)) among in
      let wanted = member_all Wanted' d built
      (all_runs (IsBuiltAsWanted is.w rooms) is.built is.placed.cuts is.placed.runs (recursion_from_All (IsBuiltAsWanted is.w rooms) is.built is.names.each)) among in
      record {
        data' = sized.data';
        extents' = member_all Placed' d built (all_extents g n is.w is.built is.placed is.bytes now holds is.stands) among;
        few = λ yes. let most = member_all Few d built (few_extents g n is.w is.built is.placed is.bytes now holds is.stands) among yes in omega (arith, most);
        short' = λ no. short_fits is.w rooms d.directory wanted no;
      }
