-- Two images in which a rebuild of one image was written are one, where names change.
use Rattle.std.proofs.Common.{◌≡◌, ℕ, ◌<◌, ◌^◌, List, [], ◌∷◌, map, length, get_or, sym, ap, ◌∙◌, subst}
use Rattle.std.specs.List.{AllByRecursion}
use Rattle.std.proofs.lemmas.List.Elements.{recursion_from_All}
use Rattle.xfs_disk.specs.Blocks.{Image, IsImage}
use Rattle.xfs_disk.specs.declared.stamp.Stamp.{Stamp}
use Rattle.xfs_empty.specs.Planning.{StandsFor}
use Rattle.xfs_geom.specs.Volumes.{volume_of}
use Rattle.xfs_geom.specs.declared.geometry.Geometry.{Geometry}
use Rattle.xfs_geom.specs.declared.records.Run.{Run}
use Rattle.xfs_names.specs.Built.{CanBeBuilt, IsBuiltAsWanted}
use Rattle.xfs_names.specs.declared.building.BuiltDirectory.{BuiltDirectory}
use Rattle.xfs_names.specs.declared.building.ForkRoom.{ForkRoom}
use Rattle.xfs_names.specs.declared.records.WantedNames.{WantedNames}
use Rattle.xfs_place.specs.Objects.{ServeAsks, asks_of}
use Rattle.xfs_place.specs.declared.placed.Placed.{Placed}
use Rattle.xfs_place.specs.declared.wanted.Wanted.{Wanted}
use Rattle.xfs_mend.specs.xfs_rebuild.Bytes.{AreAtHand}
use Rattle.xfs_mend.specs.xfs_rebuild.Changes.{CanChangeAll}
use Rattle.xfs_mend.specs.xfs_rebuild.Rebuilds.{AreNamesDue, Ground, slots_asked}
use Rattle.xfs_mend.specs.xfs_rebuild.declared.names_due.NamesDue.{NamesDue}
use Rattle.xfs_changes.specs.Forks.{forks_of}
use Rattle.xfs_mend.specs.xfs_rename.Lost.{lost_due}
use Rattle.xfs_built.specs.Asks.{blocks_of_built}
use Rattle.xfs_mend.specs.xfs_rename.Objects.{wanted_with}
use Rattle.xfs_mend.specs.xfs_rename.Renames.{AreBuilt, AreRenamedBytes, IsRenamed, lsns_due, old_files, placed_forks, renamed_slots, renamed_wanted}
use Rattle.xfs_changes.specs.Rooms.{fork_rooms}
use Rattle.xfs_mend.specs.xfs_rename.Settled.{settled}
use Rattle.xfs_changes.specs.declared.forks.DirectoryFork.{DirectoryFork}
use Rattle.xfs_mend.specs.xfs_rename.declared.planning.Renamed.{Renamed}
use Rattle.xfs_render.proofs.ReadyObjects.{objects_counted}
use Rattle.xfs_render.specs.Clusters.{CanCluster}
use Rattle.xfs_render.specs.Objects.{asks_with_kind, blocks_of_asks, object_blocks}
use Rattle.xfs_render.specs.declared.bytes.Bytes.{Bytes}
use Rattle.xfs_render.specs.declared.wanted_slots.SlotWanted.{SlotWanted}
use Rattle.xfs_mend.proofs.xfs_restored.HeldPlans.{others_stay, renamed_holds}
use Rattle.xfs_built.proofs.Sized.{built_sized}
use Rattle.xfs_built.specs.Directories.{HasOwnCounts}
use Rattle.xfs_mend.specs.xfs_restored.Relinking.{IsRelinked}
use Rattle.xfs_mend.specs.xfs_restored.Rewriting.{IsRewritten}
use Rattle.xfs_scan.specs.declared.evidence.Evidence.{Evidence}
use Rattle.xfs_settled.proofs.BuiltOnce.{AreAlike, blocks_alike, blocks_counted, built_alike, built_sealed, forks_alike, objects_alike}
use Rattle.xfs_settled.proofs.Grounding.{bytes_one, ground_one}
use Rattle.xfs_settled.proofs.ImagesOnce.{CanSeal, CanServe, IsPut, IsSameWork, works_one}
use Rattle.xfs_settled.proofs.NamesOnce.{cuts_one, due_one, names_one, placed_some}
use Rattle.xfs_mend.proofs.xfs_rename.RenamedSlots.{renamed_serve}
use Rattle.xfs_settled.proofs.ObjectKinds.{objects_seal}
use Rattle.xfs_settled.proofs.PlacedOnce.{placed_runs_one}

-- what was written of a plan in which names change, with the names that are wanted
record IsWritten (g : Geometry) (sector : List ℕ) (s : Stamp) (image : Image) (n : NamesDue) (w : WantedNames) (built : List BuiltDirectory) (p : Placed) (b : Bytes) (r : Renamed) (now : Image) : Type 0 where
  names : AreBuilt g n w built
  can : CanBeBuilt w
  cuts : ServeAsks (asks_of (renamed_wanted g n w built).objects) p.cuts p.runs
  made : AreRenamedBytes g sector s image n w built p b
  put : IsPut (renamed_wanted g n w built) p b r.rebuilt image now

written_of : (g : Geometry) (sector : List ℕ) (s : Stamp) (image now : Image) (n : NamesDue) (r : Renamed) (is : IsRenamed g sector s image n r) → IsRewritten g r.rebuilt image now
    → IsWritten g sector s image n is.w is.built is.placed is.bytes r now
written_of g sector s image now n r is new = record {
  names = is.names;
  can = is.buildable;
  cuts = is.cuts;
  made = is.made;
  put = record {
    stands = is.stands;
    plan = is.left.plan;
    rendered = is.left.rendered;
    holds = renamed_holds g sector s image n r is now new;
    others = others_stay g sector s image n r is now new;
    left = is.left.left;
  };
}

-- directories with low numbers have few blocks
all_sized : (w : WantedNames) (rooms : List ForkRoom) (built : List BuiltDirectory) → CanBeBuilt w → AllByRecursion (λ (d : ℕ). d < 2 ^ 32) (map (λ (b : BuiltDirectory). b.ino) built)
    → AllByRecursion (IsBuiltAsWanted w rooms) built → AllByRecursion HasOwnCounts built
all_sized w rooms [] can low all = tt
all_sized w rooms (b ∷ bs) can low all = (built_sized w rooms b can low.0 all.0, all_sized w rooms bs can low.1 all.1)

module _ (g : Geometry) (sector : List ℕ) (s : Stamp) (image now other : Image) (on : Ground) (n : NamesDue) (asked : n.slots ≡ slots_asked g s on) (w : WantedNames) (bs cs : List BuiltDirectory) (p q : Placed) (x y : Bytes) (r t : Renamed)
    (a : IsWritten g sector s image n w bs p x r now) (c : IsWritten g sector s image n w cs q y t other) (whole : IsImage (length image) now) (entire : IsImage (length image) other) where
  abbrev rooms : List ForkRoom
  rooms = fork_rooms w.rebuilt n.files

  abbrev wanted : Wanted
  wanted = renamed_wanted g n w bs

  alike : AreAlike cs bs
  alike = built_alike w rooms cs bs (c.names.numbers ∙ sym a.names.numbers) c.names.each a.names.each

  wanted_same : renamed_wanted g n w cs ≡ wanted
  wanted_same = ap (wanted_with g n (lost_due g n) w) (objects_alike rooms cs bs alike)

  second_stands : StandsFor wanted q
  second_stands = subst (λ (v : Wanted). StandsFor v q) wanted_same c.put.stands

  second_cuts : ServeAsks (asks_of wanted.objects) q.cuts q.runs
  second_cuts = subst (λ (v : Wanted). ServeAsks (asks_of v.objects) q.cuts q.runs) wanted_same c.cuts

  runs_same : q.runs ≡ p.runs
  runs_same = sym (placed_runs_one wanted p q a.put.stands second_stands)

  cuts_same : q.cuts ≡ p.cuts
  cuts_same =
      cuts_one (asks_of wanted.objects) q.cuts p.cuts p.runs (placed_some wanted p a.put.stands)
      (subst (λ (rs : List Run). ServeAsks (asks_of wanted.objects) q.cuts rs) runs_same second_cuts) a.cuts

  blocks_same : object_blocks wanted q ≡ object_blocks wanted p
  blocks_same = λ i. blocks_of_asks (asks_with_kind wanted.objects) (cuts_same i) (runs_same i)

  forks_same : placed_forks g n w cs q ≡ placed_forks g n w bs p
  forks_same =
      forks_alike (volume_of g) (old_files n w) cs bs alike q.cuts q.runs
      ∙ (λ i. forks_of (volume_of g) (old_files n w) bs (cuts_same i) (runs_same i))

  abbrev slots : List SlotWanted
  slots = renamed_slots g s n w (placed_forks g n w bs p)

  read_same : c.made.read ≡ a.made.read
  read_same =
      let kept = settled n (lost_due g n) w in
      bytes_one g sector s kept.clusters slots image (lsns_due g image kept n.seen) n.log c.made.read a.made.read
      (subst (λ (fs : List DirectoryFork). AreAtHand g sector s kept.clusters (renamed_slots g s n w fs) c.made.read) forks_same c.made.at_hand) c.made.reads
      a.made.at_hand a.made.reads

  bytes_same : y ≡ x
  bytes_same =
      let built = blocks_alike cs bs alike in
      c.made.with_objects ∙ (λ i. record (read_same i) { objects = built i }) ∙ sym a.made.with_objects

  second_put : IsPut wanted q x t.rebuilt image other
  second_put = subst (λ (b : Bytes). IsPut wanted q b t.rebuilt image other) bytes_same (subst (λ (v : Wanted). IsPut v q y t.rebuilt image other) wanted_same c.put)

  read_serves : CanServe wanted (record a.made.read { objects = blocks_of_built bs })
  unfolding wanted_with
  read_serves i low inner =
      let b : Bytes = a.made.read in
      let hand = a.made.at_hand in
      subst (λ (ws : List SlotWanted). CanCluster (volume_of g) ws (get_or b.places i 0) (get_or b.old i [])) (sym hand.slots')
      (renamed_serve g s on n asked (lost_due g n) (old_files n w) (placed_forks g n w bs p) w.links b.places b.old
      (subst (λ (ws : List SlotWanted). CanChangeAll (volume_of g) ws b.places b.old) hand.slots' hand.can) i low inner)

  serves : CanServe wanted x
  serves = subst (λ (b : Bytes). CanServe wanted b) (sym a.made.with_objects) read_serves

  sized : AllByRecursion HasOwnCounts bs
  sized =
      all_sized w rooms bs a.can
      (subst (AllByRecursion (λ (d : ℕ). d < 2 ^ 32)) (sym a.names.numbers) (recursion_from_All (λ (d : ℕ). d < 2 ^ 32) w.rebuilt a.can.rebuilt_low))
      (recursion_from_All (IsBuiltAsWanted w rooms) bs a.names.each)

  objects_are : x.objects ≡ blocks_of_built bs
  objects_are = ap (λ (b : Bytes). b.objects) a.made.with_objects

  seals : CanSeal (object_blocks wanted p) x.objects
  unfolding wanted_with
  seals =
      let many : length (blocks_of_built bs) ≡ length (object_blocks wanted p) =
      blocks_counted rooms bs sized ∙ sym (objects_counted wanted.objects p.cuts p.runs a.cuts) in
      subst (CanSeal (object_blocks wanted p)) (sym objects_are)
      (objects_seal rooms bs p.cuts p.runs (blocks_of_built bs) many (built_sealed w rooms bs a.names.each))

  named_images_one : IsSameWork r.rebuilt t.rebuilt now other
  named_images_one = works_one wanted p q x r.rebuilt t.rebuilt (length image) image now other whole entire a.put second_put blocks_same serves seals

-- by what both go by
pub renamings_one : (g : Geometry) (sector : List ℕ) (s : Stamp) (image now other : Image) (on : Ground) (n m : NamesDue) (r q : Renamed) → AreNamesDue g s on n → AreNamesDue g s on m
    → IsRenamed g sector s image n r → IsRenamed g sector s image m q → IsRewritten g r.rebuilt image now → IsRewritten g q.rebuilt image other
    → IsImage (length image) now → IsImage (length image) other → IsSameWork r.rebuilt q.rebuilt now other
renamings_one g sector s image now other on n m r q dn dm is other_is new next whole entire =
    let due_same : m ≡ n = due_one g s on m n dm dn in
    let js : IsRenamed g sector s image n q = subst (λ (x : NamesDue). IsRenamed g sector s image x q) due_same other_is in
    let names_same : js.w ≡ is.w = names_one g n (lost_due g n) js.w is.w js.names.wanted is.names.wanted in
    named_images_one g sector s image now other on n dn.slots' is.w is.built js.built is.placed js.placed is.bytes js.bytes r q
    (written_of g sector s image now n r is new)
    (subst (λ (w : WantedNames). IsWritten g sector s image n w js.built js.placed js.bytes q other) names_same (written_of g sector s image other n q js next)) whole entire

-- whatever evidence each goes by
pub relinked_one : (g : Geometry) (sector : List ℕ) (s : Stamp) (image now other : Image) (e f : Evidence) (n m : NamesDue) (r q : Renamed)
    → IsRelinked g sector s image now e n r → IsImage (length image) now → IsRelinked g sector s image other f m q → IsImage (length image) other
    → IsSameWork r.rebuilt q.rebuilt now other
relinked_one g sector s image now other e f n m r q a whole c entire =
    let on_same : c.on ≡ a.on = ground_one g image f e c.on a.on c.evidence a.evidence c.ground a.ground in
    renamings_one g sector s image now other a.on n m r q a.due (subst (λ (on : Ground). AreNamesDue g s on m) on_same c.due) a.is c.is a.new c.new whole entire
