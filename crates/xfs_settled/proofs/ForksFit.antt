-- The forks of directories that are built anew fit the rooms that are told of them.
use Rattle.std.proofs.Common.{◌≡◌, inl, ℕ, Bool, true, false, ◌*◌, ◌/◌, ◌^◌, ◌≤◌, ◌<◌, ◌==◌, nat_le, nat_lt, if◌then◌else◌, List, [], ◌∷◌, length, filter, take, drop, Option, Some, None, refl, sym, ap, ◌∙◌, subst, arith}
use Rattle.std.specs.List.{AllByRecursion}
use Rattle.std.proofs.lemmas.Bool.{and_from, eq-eqb, eqb-true, le-leb, lt-ltb}
use Rattle.std.proofs.lemmas.List.Elements.{recursion_from_All}
use Rattle.xfs_disk.specs.Lists.{is_among}
use Rattle.xfs_empty.specs.Planning.{StandsFor}
use Rattle.xfs_geom.specs.Volumes.{Volume, volume_of}
use Rattle.xfs_geom.specs.declared.geometry.Geometry.{Geometry}
use Rattle.xfs_geom.specs.declared.records.Run.{Run}
use Rattle.xfs_inode.specs.Slots.{fork_bytes}
use Rattle.xfs_inodebuild.specs.declared.forks.ForkWanted.{ForkWanted}
use Rattle.xfs_names.specs.Built.{CanBeBuilt, IsBuiltAsWanted, fork_room}
use Rattle.xfs_names.specs.declared.building.BuiltDirectory.{BuiltDirectory}
use Rattle.xfs_names.specs.declared.building.ForkRoom.{ForkRoom}
use Rattle.xfs_names.specs.declared.records.WantedNames.{WantedNames}
use Rattle.xfs_place.specs.Claims.{IsClaimedRun}
use Rattle.xfs_place.specs.Objects.{ServeAsks, asks_of}
use Rattle.xfs_place.specs.Wanted.{kept_runs}
use Rattle.xfs_place.specs.declared.placed.Placed.{Placed}
use Rattle.xfs_place.specs.declared.wanted.Wanted.{Wanted}
use Rattle.xfs_views.proofs.Members.{Member, all_members, filter_member, member_all, member_any, member_map}
use Rattle.xfs_volume.specs.declared.files.FileRec.{FileRec}
use Rattle.xfs_mend.specs.xfs_rebuild.Changes.{can_fork}
use Rattle.xfs_mend.specs.xfs_rebuild.declared.names_due.NamesDue.{NamesDue}
use Rattle.xfs_changes.specs.Forks.{attribute_blocks_at, extents_fork, fork_listed, forks_of, short_fork}
use Rattle.xfs_built.specs.Asks.{stands_in_blocks}
use Rattle.xfs_mend.specs.xfs_rename.Objects.{wanted_with}
use Rattle.xfs_mend.specs.xfs_rename.Renames.{AreBuilt, old_files, placed_forks, renamed_wanted}
use Rattle.xfs_changes.specs.Rooms.{fork_rooms}
use Rattle.xfs_changes.specs.Slots.{first_fork, fork_at}
use Rattle.xfs_changes.specs.declared.forks.DirectoryFork.{DirectoryFork}
use Rattle.xfs_mend.proofs.xfs_restored.BuiltRooms.{all_own}
use Rattle.xfs_mend.proofs.xfs_restored.Extents.{run_fits, runs_long}
use Rattle.xfs_mend.proofs.xfs_restored.FewRuns.{all_few}
use Rattle.xfs_mend.proofs.xfs_restored.Planned.{all_of_both, all_runs}
use Rattle.xfs_mend.proofs.xfs_restored.ShortRoom.{short_fits}
use Rattle.xfs_built.specs.Directories.{BuiltRuns, FitsExtent, HasOwnCounts, asks_of_built, built_runs, runs_of_built, with_runs}
use Rattle.xfs_built.specs.Pieces.{IsLowRun}
use Rattle.xfs_settled.proofs.ServedForks.{all_back, all_inside, all_low, all_sized}

-- a directory whose runs, or whose short form, its fork has room for
record IsRoomy (v : Volume) (w : WantedNames) (rooms : List ForkRoom) (d : BuiltRuns) : Type 0 where
  few : stands_in_blocks d.directory ≡ true → length d.runs ≤ fork_room rooms d.directory.ino / 16
  fit : AllByRecursion (FitsExtent v) d.runs
  wanted : IsBuiltAsWanted w rooms d.directory
  among : is_among w.rebuilt d.directory.ino ≡ true

record IsFitting (w : WantedNames) (rooms : List ForkRoom) (d : DirectoryFork) : Type 0 where
  few : 16 * d.fork.nextents ≤ fork_room rooms d.ino
  short : length d.fork.bytes ≤ fork_room rooms d.ino
  among : is_among w.rebuilt d.ino ≡ true

module _ (v : Volume) (w : WantedNames) (rooms : List ForkRoom) (files : List FileRec) where
  abbrev Fit : List BuiltDirectory → List ℕ → List Run → Type 0
  Fit bs cs rs = AllByRecursion (IsRoomy v w rooms) (with_runs bs cs rs) → AllByRecursion (IsFitting w rooms) (forks_of v files bs cs rs)

  one_fits : (b : BuiltDirectory) (bs : List BuiltDirectory) (cuts : List ℕ) (runs : List Run) → Fit bs (drop (asks_of_built b) cuts) (drop (runs_of_built b cuts) runs) → Fit bs cuts runs
      → (t : Bool) → stands_in_blocks b ≡ t
      → AllByRecursion (IsRoomy v w rooms)
      (if t then built_runs b (take (runs_of_built b cuts) runs) ∷ with_runs bs (drop (asks_of_built b) cuts) (drop (runs_of_built b cuts) runs) else built_runs b [] ∷ with_runs bs cuts runs)
      → AllByRecursion (IsFitting w rooms)
      (if t then fork_listed v files b (extents_fork v (attribute_blocks_at files b.ino) (take (runs_of_built b cuts) runs) b) ∷ forks_of v files bs (drop (asks_of_built b) cuts) (drop (runs_of_built b cuts) runs)
      else fork_listed v files b (short_fork (attribute_blocks_at files b.ino) b) ∷ forks_of v files bs cuts runs)
  one_fits b bs cuts runs next same true is all =
      let most = all.0.few is in
      let long = runs_long v (take (runs_of_built b cuts) runs) all.0.fit in
      (record { few = omega (arith, most); short = omega (arith, most, long); among = all.0.among }, next all.1)
  one_fits b bs cuts runs next same false is all =
      (record { few = omega arith; short = short_fits w rooms b all.0.wanted is; among = all.0.among }, same all.1)

  all_fit : (bs : List BuiltDirectory) (cuts : List ℕ) (runs : List Run) → Fit bs cuts runs
  unfolding with_runs forks_of
  all_fit [] cuts runs all = tt
  all_fit (b ∷ bs) cuts runs all =
      one_fits b bs cuts runs (all_fit bs (drop (asks_of_built b) cuts) (drop (runs_of_built b cuts) runs)) (all_fit bs cuts runs) (stands_in_blocks b) refl all

first_is : (fork : ForkWanted) (xs : List DirectoryFork) → first_fork xs ≡ Some fork → (d : DirectoryFork) × Member d xs × (d.fork ≡ fork)
first_is fork [] is = absurd cc
first_is fork (x ∷ xs) is = let same : x.fork ≡ fork = cc in (x, inl refl, same)

runs_fit : (g : Geometry) (runs : List Run) → AllByRecursion IsLowRun runs → AllByRecursion (λ (r : Run). r.start < g.dblocks) runs → AllByRecursion (FitsExtent (volume_of g)) runs
runs_fit g [] low inside = tt
runs_fit g (r ∷ runs) low inside = (let room = low.0.room in run_fits g r (omega (arith, room)) inside.0 low.0.few, runs_fit g runs low.1 inside.1)

some_blocks : (top : ℕ) (runs : List Run) → AllByRecursion (IsClaimedRun top) runs → AllByRecursion (λ (r : Run). 1 ≤ r.count) runs
some_blocks top [] all = tt
some_blocks top (r ∷ runs) all = (all.0.some, some_blocks top runs all.1)

module _ (g : Geometry) (n : NamesDue) (w : WantedNames) (built : List BuiltDirectory) (p : Placed) (are : AreBuilt g n w built) (can : CanBeBuilt w)
    (stands : StandsFor (renamed_wanted g n w built) p) (serve : ServeAsks (asks_of (renamed_wanted g n w built).objects) p.cuts p.runs) where
  abbrev v : Volume
  v = volume_of g

  abbrev rooms : List ForkRoom
  rooms = fork_rooms w.rebuilt n.files

  abbrev ds : List BuiltRuns
  ds = with_runs built p.cuts p.runs

  sized : AllByRecursion HasOwnCounts built
  sized = all_sized g n w built are can

  are_few : AllByRecursion (λ (d : BuiltRuns). stands_in_blocks d.directory ≡ true → length d.runs ≤ fork_room rooms d.directory.ino / 16) ds
  unfolding wanted_with
  are_few =
      let asked : Wanted = renamed_wanted g n w built in
      all_few v asked.reserved asked.from asked.spared_from asked.takes_spared rooms built p.cuts (kept_runs asked) p.runs sized
      (some_blocks g.dblocks p.runs
      (all_back (IsClaimedRun g.dblocks) (kept_runs asked) p.runs (recursion_from_All (IsClaimedRun g.dblocks) _ stands.apart.each)))
      serve stands.runs'

  all_low' : AllByRecursion IsLowRun p.runs
  unfolding wanted_with
  all_low' = all_low rooms built p.cuts p.runs sized serve

  are_fit : AllByRecursion (λ (d : BuiltRuns). AllByRecursion (FitsExtent v) d.runs) ds
  are_fit = all_own (FitsExtent v) built p.cuts p.runs (runs_fit g p.runs all_low' (all_inside g n w built p stands))

  listed : (b : BuiltDirectory) → Member b built → is_among w.rebuilt b.ino ≡ true
  listed b is =
      member_any (λ (m : ℕ). m == b.ino) b.ino w.rebuilt (subst (λ (ns : List ℕ). Member b.ino ns) are.numbers (member_map (λ (x : BuiltDirectory). x.ino) b built is)) (eq-eqb b.ino b.ino refl)

  abbrev IsOwn : BuiltDirectory → Type 0
  IsOwn b = (IsBuiltAsWanted w rooms b) × (is_among w.rebuilt b.ino ≡ true)

  own : AllByRecursion (λ (d : BuiltRuns). IsOwn d.directory) ds
  own =
      all_runs IsOwn built p.cuts p.runs
      (all_of_both (IsBuiltAsWanted w rooms) (λ (b : BuiltDirectory). is_among w.rebuilt b.ino ≡ true) IsOwn (λ b one two. (one, two)) built
      (recursion_from_All (IsBuiltAsWanted w rooms) built are.each) (all_members (λ (b : BuiltDirectory). is_among w.rebuilt b.ino ≡ true) built listed))

  roomy : AllByRecursion (IsRoomy v w rooms) ds
  roomy =
      all_of_both (λ (d : BuiltRuns). stands_in_blocks d.directory ≡ true → length d.runs ≤ fork_room rooms d.directory.ino / 16)
      (λ (d : BuiltRuns). (AllByRecursion (FitsExtent v) d.runs) × (IsOwn d.directory)) (IsRoomy v w rooms)
      (λ d few both. record { few = few; fit = both.0; wanted = both.1.0; among = both.1.1 }) ds are_few
      (all_of_both (λ (d : BuiltRuns). AllByRecursion (FitsExtent v) d.runs) (λ (d : BuiltRuns). IsOwn d.directory)
      (λ (d : BuiltRuns). (AllByRecursion (FitsExtent v) d.runs) × (IsOwn d.directory)) (λ d one two. (one, two)) ds are_fit own)

  forks_fit : AllByRecursion (IsFitting w rooms) (placed_forks g n w built p)
  forks_fit = all_fit v w rooms (old_files n w) built p.cuts p.runs roomy

  -- a fork fits where there is room
  pub fork_fits : (m ino : ℕ) → (is_among w.rebuilt ino ≡ true → fork_room rooms ino ≤ fork_bytes m) → fork_bytes m ≤ 336 → can_fork m (fork_at (placed_forks g n w built p) ino) ≡ true
  fork_fits m ino room most = by_fork (fork_at (placed_forks g n w built p) ino) refl
    where
      by_fork : (fork : Option ForkWanted) → fork_at (placed_forks g n w built p) ino ≡ fork → can_fork m fork ≡ true
      by_fork None is = refl
      by_fork (Some fork) is =
          let first = first_is fork (filter (λ (d : DirectoryFork). d.ino == ino) (placed_forks g n w built p)) is in
          let there = filter_member (λ (d : DirectoryFork). d.ino == ino) first.0 (placed_forks g n w built p) first.1 in
          let number : first.0.ino ≡ ino = eqb-true first.0.ino ino there.1 in
          let fits = member_all (IsFitting w rooms) first.0 (placed_forks g n w built p) forks_fit there.0 in
          let enough = room (ap (is_among w.rebuilt) (sym number) ∙ fits.among) in
          let same : fork_room rooms first.0.ino ≡ fork_room rooms ino = ap (fork_room rooms) number in
          let few = fits.few in
          let short = fits.short in
          subst (λ (x : ForkWanted). can_fork m (Some x) ≡ true) first.2
          (and_from (nat_lt first.0.fork.nextents (2 ^ 32)) (nat_le (length first.0.fork.bytes) (fork_bytes m))
          (lt-ltb first.0.fork.nextents (2 ^ 32) (omega (arith, few, same, enough, most))) (le-leb (length first.0.fork.bytes) (fork_bytes m) (omega (arith, short, same, enough))))
