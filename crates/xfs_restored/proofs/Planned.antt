-- The directories of a plan stand in an image that holds it, and read as they are wanted.
use Rattle.std.proofs.Common.{inl, inr, ℕ, Bool, true, false, ◌^◌, ◌<◌, if◌then◌else◌, List, [], ◌∷◌, length, map, take, drop, sym, ap, subst, arith}
use Rattle.std.specs.List.{AllByRecursion}
use Rattle.std.proofs.lemmas.Bool.{cases_Bool}
use Rattle.std.proofs.lemmas.List.Elements.{recursion_from_All}
use Rattle.xfs_disk.specs.Blocks.{Image}
use Rattle.xfs_disk.specs.declared.stamp.Stamp.{Stamp}
use Rattle.xfs_geom.specs.Volumes.{Volume, volume_of}
use Rattle.xfs_geom.specs.declared.geometry.Geometry.{Geometry}
use Rattle.xfs_geom.specs.declared.records.Run.{Run}
use Rattle.xfs_names.specs.Built.{CanBeBuilt, IsBuiltAsWanted}
use Rattle.xfs_names.specs.declared.building.BuiltDirectory.{BuiltDirectory}
use Rattle.xfs_names.specs.declared.building.ForkRoom.{ForkRoom}
use Rattle.xfs_names.specs.declared.records.WantedNames.{WantedNames}
use Rattle.xfs_place.specs.Objects.{ServeAsks, asks_of}
use Rattle.xfs_place.specs.declared.placed.Placed.{Placed}
use Rattle.xfs_render.specs.Objects.{HasObjects, asks_with_kind, blocks_of_asks}
use Rattle.xfs_render.specs.Plans.{HoldsPlan}
use Rattle.xfs_render.specs.declared.bytes.Bytes.{Bytes}
use Rattle.xfs_rename.specs.xfs_rebuild.declared.names_due.NamesDue.{NamesDue}
use Rattle.xfs_rename.specs.xfs_built.Asks.{objects_of, stands_in_blocks}
use Rattle.xfs_rename.specs.Objects.{wanted_with}
use Rattle.xfs_rename.specs.Renames.{IsRenamed, renamed_wanted}
use Rattle.xfs_rename.specs.xfs_changes.Rooms.{fork_rooms}
use Rattle.xfs_rename.specs.declared.planning.Renamed.{Renamed}
use Rattle.xfs_rename.specs.xfs_built.Directories.{BuiltRuns, HasOwnCounts, StandsInRuns, ReadsSo, asks_of_built, built_runs, runs_of_built, with_runs}
use Rattle.xfs_restored.specs.Renamed.{HoldsBuilt}
use Rattle.xfs_rename.proofs.xfs_built.Sized.{built_sized}
use Rattle.xfs_rename.proofs.xfs_built.Standing.{directories_stand}
use Rattle.xfs_rename.proofs.xfs_built.Whole.{reads_now, short_reads_now}

-- what a plan says of directories, in an image that holds it
pub holds_built : (g : Geometry) (sector : List ℕ) (s : Stamp) (image : Image) (n : NamesDue) (r : Renamed) (is : IsRenamed g sector s image n r) → CanBeBuilt is.w
    → ServeAsks (asks_of (renamed_wanted g n is.w is.built).objects) is.placed.cuts is.placed.runs → (now : Image) → HoldsPlan now is.left.plan
    → HoldsBuilt g n is.w is.built is.placed is.bytes now
unfolding wanted_with
holds_built g sector s image n r is can cuts now holds = record {
  names = is.names;
  can = can;
  cuts = cuts;
  objects' = ap (λ (b : Bytes). b.objects) is.made.with_objects;
  held = (is.left.rendered.reads now holds).objects;
}

-- what holds of all directories, holds of them with their runs
if_runs : (P : BuiltDirectory → Type 0) (t : Bool) (b : BuiltDirectory) (mine : List Run) (some none : List BuiltRuns) → P b
    → AllByRecursion (λ (p : BuiltRuns). P p.directory) some → AllByRecursion (λ (p : BuiltRuns). P p.directory) none
    → AllByRecursion (λ (p : BuiltRuns). P p.directory) (if t then built_runs b mine ∷ some else built_runs b [] ∷ none)
if_runs P true b mine some none one first second = (one, first)
if_runs P false b mine some none one first second = (one, second)

pub all_runs : (P : BuiltDirectory → Type 0) (built : List BuiltDirectory) (cuts : List ℕ) (runs : List Run) → AllByRecursion P built
    → AllByRecursion (λ (p : BuiltRuns). P p.directory) (with_runs built cuts runs)
unfolding with_runs
all_runs P [] cuts runs all = tt
all_runs P (b ∷ bs) cuts runs all =
    if_runs P (stands_in_blocks b) b (take (runs_of_built b cuts) runs) (with_runs bs (drop (asks_of_built b) cuts) (drop (runs_of_built b cuts) runs)) (with_runs bs cuts runs) all.0
    (all_runs P bs (drop (asks_of_built b) cuts) (drop (runs_of_built b cuts) runs) all.1) (all_runs P bs cuts runs all.1)

pub all_of_both : {X : Type 0} (P Q R : X → Type 0) → ((x : X) → P x → Q x → R x) → (xs : List X) → AllByRecursion P xs → AllByRecursion Q xs → AllByRecursion R xs
all_of_both P Q R from [] first second = tt
all_of_both P Q R from (x ∷ xs) first second = (from x first.0 second.0, all_of_both P Q R from xs first.1 second.1)

low_numbers : (built : List BuiltDirectory) → AllByRecursion (λ (d : ℕ). d < 2 ^ 32) (map (λ (b : BuiltDirectory). b.ino) built) → AllByRecursion (λ (b : BuiltDirectory). b.ino < 2 ^ 32) built
low_numbers [] all = tt
low_numbers (b ∷ bs) all = (all.0, low_numbers bs all.1)

module _ (g : Geometry) (n : NamesDue) (w : WantedNames) (built : List BuiltDirectory) (p : Placed) (b : Bytes) (image : Image) (is : HoldsBuilt g n w built p b image) where
  abbrev rooms : List ForkRoom
  rooms = fork_rooms w.rebuilt n.files

  abbrev v : Volume
  v = volume_of g

  wanted_all : AllByRecursion (IsBuiltAsWanted w rooms) built
  wanted_all = recursion_from_All (IsBuiltAsWanted w rooms) built is.names.each

  low_all : AllByRecursion (λ (d : BuiltDirectory). d.ino < 2 ^ 32) built
  low_all =
      low_numbers built
      (subst (AllByRecursion (λ (d : ℕ). d < 2 ^ 32)) (sym is.names.numbers) (recursion_from_All (λ (d : ℕ). d < 2 ^ 32) w.rebuilt is.can.rebuilt_low))

  pub sized_all : AllByRecursion HasOwnCounts built
  sized_all =
      all_of_both (IsBuiltAsWanted w rooms) (λ (d : BuiltDirectory). d.ino < 2 ^ 32) HasOwnCounts (λ d wanted low. built_sized w rooms d is.can low wanted) built wanted_all low_all

  pub all_stand : AllByRecursion (StandsInRuns v image) (with_runs built p.cuts p.runs)
  unfolding wanted_with
  all_stand =
      directories_stand v image rooms built p.cuts p.runs sized_all is.cuts
      (subst (λ (bytes : Image). HasObjects v (blocks_of_asks (asks_with_kind (objects_of rooms built)) p.cuts p.runs) bytes (length (blocks_of_asks (asks_with_kind (objects_of rooms built)) p.cuts p.runs)) image)
      is.objects' is.held)

  one_reads : (d : BuiltRuns) → (StandsInRuns v image d) × (HasOwnCounts d.directory) → IsBuiltAsWanted w rooms d.directory → ReadsSo v image w d
  one_reads d both wanted f file =
      elim (cases_Bool (stands_in_blocks d.directory)) [
        | inl blocks ↦
            let large = g.shape.groups.large in
            reads_now v image w rooms d.directory d.runs f (omega (arith, large)) g.shape.addresses.enough is.can wanted both.1 blocks (both.0 blocks) (file.blocks blocks)
        | inr short ↦ short_reads_now v image w rooms d.directory f wanted short (file.short short)
      ]

  pub all_read : AllByRecursion (ReadsSo v image w) (with_runs built p.cuts p.runs)
  all_read =
      all_of_both (λ (d : BuiltRuns). (StandsInRuns v image d) × (HasOwnCounts d.directory)) (λ (d : BuiltRuns). IsBuiltAsWanted w rooms d.directory) (ReadsSo v image w) one_reads
      (with_runs built p.cuts p.runs)
      (all_of_both (StandsInRuns v image) (λ (d : BuiltRuns). HasOwnCounts d.directory) (λ (d : BuiltRuns). (StandsInRuns v image d) × (HasOwnCounts d.directory)) (λ d stands sized. (stands, sized))
      (with_runs built p.cuts p.runs) all_stand (all_runs HasOwnCounts built p.cuts p.runs sized_all))
      (all_runs (IsBuiltAsWanted w rooms) built p.cuts p.runs wanted_all)
