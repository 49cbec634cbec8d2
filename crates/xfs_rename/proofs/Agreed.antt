-- What is asked, made and planned once names are settled.
use Rattle.std.proofs.Common.{◌≡◌, ℕ, ◌+◌, ◌^◌, ◌≤◌, ◌<◌, ◌⊎◌, inl, inr, List, [], length, map, get_or, Option, Result, Ok, Err, sym, subst, ap, ◌∙◌, arith}
use Rattle.std.specs.Prelude.{IfErr, IfOk}
use Rattle.std.specs.List.{All}
use Rattle.std.specs.List.Sorted.{IsNonDecreasingBy}
use Rattle.std.specs.Option.{ForSome}
use Rattle.xfs_disk.specs.Blocks.{Image}
use Rattle.xfs_disk.specs.declared.stamp.Stamp.{Stamp}
use Rattle.xfs_geom.specs.Volumes.{stated_volume, volume_of}
use Rattle.xfs_geom.specs.Writing.{IsAcceptedSector}
use Rattle.xfs_geom.specs.declared.geometry.Geometry.{Geometry}
use Rattle.xfs_log.specs.xfs_heads.declared.log_state.LogState.{LogState}
use Rattle.xfs_changes.specs.xfs_empty.Planning.{StandsFor}
use Rattle.xfs_naming.specs.Naming.{NumbersAscend}
use Rattle.xfs_names.specs.declared.building.BuiltDirectory.{BuiltDirectory}
use Rattle.xfs_place.specs.Objects.{ServeAsks, asks_of}
use Rattle.xfs_place.specs.Wanted.{CanBeKept, FindsNoRoom, kept_runs}
use Rattle.xfs_place.specs.declared.faults.PlaceFault.{PlaceFault}
use Rattle.xfs_place.specs.declared.faults.PlaceFault.TheVariants as place_fault
use Rattle.xfs_place.specs.declared.faults.Unplaced.{Unplaced}
use Rattle.xfs_place.specs.declared.placed.Placed.{Placed}
use Rattle.xfs_place.specs.declared.wanted.Object.{Object}
use Rattle.xfs_place.specs.declared.wanted.Wanted.{Wanted}
use Rattle.xfs_render.specs.Clusters.{CanCluster}
use Rattle.xfs_render.specs.Readiness.{HasBytes, IsWritable}
use Rattle.xfs_render.specs.declared.bytes.Bytes.{Bytes}
use Rattle.xfs_render.specs.declared.wanted_slots.SlotWanted.{SlotWanted}
use Rattle.xfs_rebuild.specs.xfs_request.declared.seen.SlotSeen.{SlotSeen}
use Rattle.xfs_salvage.specs.declared.found.Salvaged.{Salvaged}
use Rattle.xfs_volume.specs.declared.files.FileRec.{FileRec}
use Rattle.xfs_rebuild.specs.Bytes.{AreAtHand, AreReadOf}
use Rattle.xfs_rebuild.specs.Changes.{CanChangeAll}
use Rattle.xfs_rebuild.specs.Rebuilds.{HasNamesDue, IsRenderedLeft}
use Rattle.xfs_rebuild.specs.Refusals.{HasRebuildCause, IsReadRefused, IsRebuildCause}
use Rattle.xfs_rebuild.specs.declared.faults.RebuildFault.{RebuildFault}
use Rattle.xfs_rebuild.specs.declared.faults.RebuildFault.TheVariants as faults
use Rattle.xfs_rebuild.specs.declared.names_due.NamesDue.{NamesDue}
use Rattle.xfs_rebuild.specs.declared.planning.Rebuilt.{Rebuilt}
use Rattle.xfs_changes.specs.Forks.{forks_of}
use Rattle.xfs_rename.specs.Lost.{lost_due}
use Rattle.xfs_changes.specs.xfs_built.Asks.{blocks_of_built, objects_of}
use Rattle.xfs_rename.specs.Objects.{wanted_with}
use Rattle.xfs_rename.specs.Renames.{IsRenamed, IsRenameRefused, IsRoomFault, IsSettling, cleared_beside, lsns_due, old_files, placed_forks, renamed_slots, renamed_wanted}
use Rattle.xfs_changes.specs.Rooms.{fork_rooms}
use Rattle.xfs_rename.specs.Settled.{settled}
use Rattle.xfs_changes.specs.Slots.{changes_of, with_changes}
use Rattle.xfs_changes.specs.declared.lost_found.Lost.{Lost}
use Rattle.xfs_rename.specs.declared.settling.Settling.{Settling}
use Rattle.xfs_rename.proofs.AskedRuns.{blocks_built, objects_asked, objects_owned}
use Rattle.xfs_rename.proofs.InTurn.{built_in_order, clusters_in_order, clusters_lie, staying_in_order}
use Rattle.xfs_rename.proofs.NewClusters.{IsOneOrNone, added_is}
use Rattle.xfs_rename.proofs.RenamedSlots.{renamed_serve}
use Rattle.xfs_rename.proofs.Renderable.{wanted_written}
use Rattle.xfs_rename.proofs.HeldRuns.{wanted_stands}

pub adds_one : (g : Geometry) (n : NamesDue) (t : Settling) → IsSettling g n t → IsOneOrNone g n t.lost.added
adds_one g n t is = subst (λ (l : Lost). IsOneOrNone g n l.added) (sym is.lost') (added_is g n)

module _ (g : Geometry) (s : Stamp) (n : NamesDue) (has : HasNamesDue g s n) (t : Settling) (is : IsSettling g n t) where
  abbrev objects_due : List Object
  objects_due = objects_of t.rooms t.built

  abbrev asked_of : Wanted
  asked_of = wanted_with g n t.lost t.names objects_due

  abbrev slots_due : Placed → List SlotWanted
  slots_due p =
      with_changes (changes_of (volume_of g) s t.lost (old_files n t.names) (forks_of (volume_of g) (old_files n t.names) t.built p.cuts p.runs) t.names.links) n.slots

  low_numbers : All (λ (d : ℕ). d < 2 ^ 32) (map (λ (b : BuiltDirectory). b.ino) t.built)
  low_numbers = subst (All (λ (d : ℕ). d < 2 ^ 32)) (sym is.built'.numbers) is.can'.rebuilt_low

  asked_written : IsWritable asked_of
  asked_written =
      let few = is.can'.few in
      wanted_written g s n has t.lost (adds_one g n t is) t.names objects_due
      (objects_asked t.names (fork_rooms t.names.rebuilt n.files) few t.rooms t.built low_numbers is.built'.each)
      (objects_owned t.names (fork_rooms t.names.rebuilt n.files) few t.rooms t.built low_numbers is.built'.each)

  asked_stands : CanBeKept (volume_of asked_of.geometry) (kept_runs asked_of)
  unfolding wanted_with
  asked_stands = wanted_stands g s n t.lost t.names objects_due has (adds_one g n t is)

  module _ (wanted : Wanted) (same : wanted ≡ asked_of) where
    pub agreed_stands : CanBeKept (volume_of wanted.geometry) (kept_runs wanted)
    agreed_stands = subst (λ (w : Wanted). CanBeKept (volume_of w.geometry) (kept_runs w)) (sym same) asked_stands

    pub agreed_written : IsWritable wanted
    agreed_written = subst IsWritable (sym same) asked_written

    pub agreed_fits : (old size : ℕ) → size ≡ old → g.dblocks ≤ old → wanted.geometry.dblocks ≤ size
    unfolding wanted_with
    agreed_fits old size is' fits =
        subst (λ (m : ℕ). wanted.geometry.dblocks ≤ m) (sym is') (subst (λ (w : Wanted). w.geometry.dblocks ≤ old) (sym same) fits)

  -- what is kept stands in its order
  module _ (kept : Salvaged) (all : kept ≡ settled n t.lost t.names) where
    pub agreed_files : IsNonDecreasingBy (λ (f : FileRec). f.ino) kept.files
    agreed_files = subst (λ (k : Salvaged). IsNonDecreasingBy (λ (f : FileRec). f.ino) k.files) (sym all) (staying_in_order g s n has t.names.rebuilt)

    pub agreed_clusters : NumbersAscend 0 kept.clusters
    agreed_clusters = subst (λ (k : Salvaged). NumbersAscend 0 k.clusters) (sym all) (clusters_in_order g s n has t.lost.added (adds_one g n t is))

    pub agreed_lie : All (λ (c : ℕ). c + 4 ≤ g.dblocks) kept.clusters
    agreed_lie = subst (λ (k : Salvaged). All (λ (c : ℕ). c + 4 ≤ g.dblocks) k.clusters) (sym all) (clusters_lie g s n has t.lost.added (adds_one g n t is))

  pub agreed_built : IsNonDecreasingBy (λ (b : BuiltDirectory). b.ino) t.built
  agreed_built = built_in_order t.built t.names.rebuilt is.built'.numbers is.ascend

  -- what is then wanted of slots
  pub agreed_slots : (kept : Salvaged) (p : Placed) (slots view : List SlotWanted) → kept ≡ settled n t.lost t.names
      → slots ≡ with_changes (changes_of (volume_of g) s t.lost kept.files (forks_of (volume_of g) kept.files t.built p.cuts p.runs) t.names.links) view
      → view ≡ n.slots → slots ≡ slots_due p
  agreed_slots kept p slots view all made before =
      made ∙ (λ i. with_changes (changes_of (volume_of g) s t.lost (all i).files (forks_of (volume_of g) (all i).files t.built p.cuts p.runs) t.names.links) (before i))

  -- the bytes that are at hand serve what is asked
  asked_bytes : (sector : List ℕ) (kept : Salvaged) (slots : List SlotWanted) (p : Placed) (b : Bytes) → slots ≡ slots_due p → IsNonDecreasingBy (λ (w : SlotWanted). w.ino) slots
      → IsAcceptedSector sector → volume_of g ≡ stated_volume sector → AreAtHand g sector s kept.clusters slots b → HasBytes asked_of (record b { objects = blocks_of_built t.built })
  unfolding wanted_with
  asked_bytes sector kept slots p b of order accepted states hand = record {
    accepted = subst IsAcceptedSector (sym hand.sector') accepted;
    states = ap stated_volume hand.sector' ∙ sym states;
    objects = blocks_built t.names (fork_rooms t.names.rebuilt n.files) is.can'.few t.rooms t.built is.built'.each;
    old = hand.many;
    inside = hand.inside;
    order = subst (IsNonDecreasingBy (λ (w : SlotWanted). w.ino)) (sym hand.slots') order;
    slots = λ i low inner.
        subst (λ (ws : List SlotWanted). CanCluster (volume_of g) ws (get_or b.places i 0) (get_or b.old i [])) (sym (hand.slots' ∙ of))
        (renamed_serve g s has.on n has.due.slots' t.lost (old_files n t.names) (forks_of (volume_of g) (old_files n t.names) t.built p.cuts p.runs) t.names.links b.places b.old
        (subst (λ (ws : List SlotWanted). CanChangeAll (volume_of g) ws b.places b.old) (hand.slots' ∙ of) hand.can) i low inner);
    cycle = hand.few;
  }

  pub agreed_bytes : (sector : List ℕ) (wanted : Wanted) (kept : Salvaged) (slots : List SlotWanted) (p : Placed) (b whole : Bytes) → wanted ≡ asked_of → slots ≡ slots_due p
      → IsNonDecreasingBy (λ (w : SlotWanted). w.ino) slots → IsAcceptedSector sector → volume_of g ≡ stated_volume sector → AreAtHand g sector s kept.clusters slots b
      → whole ≡ record b { objects = blocks_of_built t.built } → HasBytes wanted whole
  agreed_bytes sector wanted kept slots p b whole same of order accepted states hand joined =
      subst (λ (w : Wanted). HasBytes w whole) (sym same)
      (subst (λ (x : Bytes). HasBytes asked_of x) (sym joined) (asked_bytes sector kept slots p b of order accepted states hand))

  -- what is planned
  asked_is : asked_of ≡ renamed_wanted g n t.names t.built
  asked_is = λ i. wanted_with g n (is.lost' i) t.names (objects_of (is.rooms' i) t.built)

  module _ (sector : List ℕ) (wanted : Wanted) (kept : Salvaged) (slots : List SlotWanted) (seen : List SlotSeen) (log : LogState) (p : Placed) (b whole : Bytes)
      (same : wanted ≡ asked_of) (all : kept ≡ settled n t.lost t.names) (of : slots ≡ slots_due p) (known : seen ≡ n.seen) (state : log ≡ n.log)
      (hand : AreAtHand g sector s kept.clusters slots b) (joined : whole ≡ record b { objects = blocks_of_built t.built }) (stands : StandsFor wanted p)
      (served : ServeAsks (asks_of wanted.objects) p.cuts p.runs) where
    wanted_is : wanted ≡ renamed_wanted g n t.names t.built
    wanted_is = same ∙ asked_is

    kept_is : kept ≡ settled n (lost_due g n) t.names
    kept_is = all ∙ ap (λ (l : Lost). settled n l t.names) is.lost'

    slots_are : slots ≡ renamed_slots g s n t.names (placed_forks g n t.names t.built p)
    slots_are = of ∙ ap (λ (l : Lost). with_changes (changes_of (volume_of g) s l (old_files n t.names) (placed_forks g n t.names t.built p) t.names.links) n.slots) is.lost'

    renamed_is : (image : Image) (r : Rebuilt) → AreReadOf image (lsns_due g image kept seen) log b → IsRenderedLeft wanted p whole image r → r.kept ≡ length t.names.links
        → r.cleared ≡ cleared_beside t.lost n.slots → IsRenamed g sector s image n (record { rebuilt = r; orphans = t.orphans })
    renamed_is image r read left many freed = record {
      found = is.found;
      w = t.names;
      built = t.built;
      names = is.built';
      buildable = is.can';
      ascend = is.ascend;
      placed = p;
      stands = subst (λ (w : Wanted). StandsFor w p) wanted_is stands;
      cuts = subst (λ (w : Wanted). ServeAsks (asks_of w.objects) p.cuts p.runs) wanted_is served;
      bytes = whole;
      made = record {
        read = b;
        at_hand = subst (λ (ws : List SlotWanted). AreAtHand g sector s (settled n (lost_due g n) t.names).clusters ws b) slots_are
            (subst (λ (k : Salvaged). AreAtHand g sector s k.clusters slots b) kept_is hand);
        reads = subst (λ (k : Salvaged). AreReadOf image (lsns_due g image k n.seen) n.log b) kept_is
            (subst (λ (x : List SlotSeen). AreReadOf image (lsns_due g image kept x) n.log b) known (subst (λ (x : LogState). AreReadOf image (lsns_due g image kept seen) x b) state read));
        with_objects = joined;
      };
      left = subst (λ (w : Wanted). IsRenderedLeft w p whole image r) wanted_is left;
      count = many;
      freed = freed ∙ ap (λ (l : Lost). cleared_beside l n.slots) is.lost';
      orphans' = is.orphans';
    }

    pub all_renamed : (count cleared : ℕ) (held later : Option Image) (result : Result Rebuilt RebuildFault) → count ≡ length t.names.links → cleared ≡ cleared_beside t.lost n.slots
        → ForSome held (λ image. AreReadOf image (lsns_due g image kept seen) log b) → later ≡ held → IfOk result (λ r. ForSome later (λ image. IsRenderedLeft wanted p whole image r))
        → IfOk result (λ (r : Rebuilt). r.kept ≡ count) → IfOk result (λ (r : Rebuilt). r.cleared ≡ cleared)
        → IfOk result (λ r. ForSome held (λ image. IsRenamed g sector s image n (record { rebuilt = r; orphans = t.orphans })))
    all_renamed count cleared held later (Ok r) many freed read as_before left kept' cleared' = λ image told.
        renamed_is image r (read image told) (left image (as_before ∙ told)) (kept' ∙ many) (cleared' ∙ freed)
    all_renamed count cleared held later (Err fault) many freed read as_before left kept' cleared' = left

  -- why nothing is planned
  pub placed_refused : (wanted : Wanted) (what : Unplaced) → wanted ≡ asked_of → FindsNoRoom wanted what → IsRenameRefused g n (faults.NoRoom what)
  placed_refused wanted what same finds =
      inr (record { found = is.found; w = t.names; built = t.built; names = is.built'; finds = subst (λ (w : Wanted). FindsNoRoom w what) (same ∙ asked_is) finds })

pub room_refused : (g : Geometry) (s : Stamp) (n : NamesDue) (has : HasNamesDue g s n) (t : Settling) (is : IsSettling g n t) (wanted : Wanted) (fault : PlaceFault) (what same : Unplaced)
    → wanted ≡ wanted_with g n t.lost t.names (objects_of t.rooms t.built) → fault ≡ place_fault.NoRoom what → same ≡ what
    → (fault ≡ place_fault.NoMemory) ⊎ ((w : Unplaced) × (fault ≡ place_fault.NoRoom w) × FindsNoRoom wanted w) → IsRenameRefused g n (faults.NoRoom same)
room_refused g s n has t is wanted fault what same asked named equal why = elim why [
  | inl none ↦ absurd (other (sym named ∙ none))
  | inr some ↦
      subst (λ (u : Unplaced). IsRenameRefused g n (faults.NoRoom u)) (sym (one (sym named ∙ some.1)) ∙ sym equal)
      (placed_refused g s n has t is wanted some.0 asked some.2)
]
  where
    other : place_fault.NoRoom what ≡ place_fault.NoMemory → ⊥
    other e = absurd cc

    one : {u : Unplaced} → place_fault.NoRoom what ≡ place_fault.NoRoom u → what ≡ u
    one e = cc

-- a count that was raised further
pub cause_on : {A : Type 0} (first before now : ℕ) (result : Result A RebuildFault) → first ≤ before → HasRebuildCause before now result → HasRebuildCause first now result
cause_on first before now (Ok x) up cause = omega (arith, up, cause)
cause_on first before now (Err (faults.Names due)) up cause = omega (arith, up, cause)
cause_on first before now (Err (faults.NoRoom what)) up cause = omega (arith, up, cause)
cause_on first before now (Err faults.ReadFault) up cause =
    let one = cause.0 in
    let two = cause.1 in
    (omega (arith, up, one), omega (arith, up, one, two))
cause_on first before now (Err faults.NoMemory) up cause = omega (arith, up, cause)

-- a count that stays has not fallen; and the cause where room is wanting, or memory
pub no_later : (a : ℕ) → a ≤ a
no_later a = omega arith

pub room_cause : (a : ℕ) (fault : RebuildFault) → IsRoomFault fault → IsRebuildCause a a fault
room_cause a (faults.Names due) is = absurd is
room_cause a (faults.NoRoom what) is = no_later a
room_cause a faults.ReadFault is = absurd is
room_cause a faults.NoMemory is = no_later a

pub fault_refused : (g : Geometry) (n : NamesDue) (fault : RebuildFault) → IsReadRefused fault → IsRenameRefused g n fault
fault_refused g n (faults.Names due) is = absurd is
fault_refused g n (faults.NoRoom what) is = absurd is
fault_refused g n faults.ReadFault is = tt
fault_refused g n faults.NoMemory is = tt

pub all_refused : {A : Type 0} (g : Geometry) (n : NamesDue) (result : Result A RebuildFault) → IfErr result IsReadRefused → IfErr result (IsRenameRefused g n)
all_refused g n (Ok x) is = is
all_refused g n (Err fault) is = fault_refused g n fault is
