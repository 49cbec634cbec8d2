-- What holds of all that is known of a volume in which a name has to change.
use Rattle.std.proofs.Common.{◌≡◌, ℕ, Bool, true, false, ◌+◌, ◌≤◌, ◌<◌, nat_lt, if◌then◌else◌, List, [], ◌∷◌, ◌++◌, refl, sym, subst, ap}
use Rattle.std.specs.List.{All}
use Rattle.std.specs.List.Sorted.{IsNonDecreasingBy}
use Rattle.std.proofs.lemmas.List.{append-nil}
use Rattle.std.proofs.lemmas.List.Elements.{All-cons, All-head, All-map, All-nil, All-tail}
use Rattle.xfs_disk.specs.declared.stamp.Stamp.{Stamp}
use Rattle.xfs_geom.specs.Volumes.{Volume, volume_of}
use Rattle.xfs_geom.specs.declared.geometry.Geometry.{Geometry}
use Rattle.xfs_geom.specs.declared.records.Run.{Run}
use Rattle.xfs_naming.specs.Naming.{NumbersAscend, numbers_of}
use Rattle.xfs_space.specs.Parts.{HasLawfulForks}
use Rattle.xfs_volume.specs.declared.cores.Core.{Core}
use Rattle.xfs_volume.specs.declared.files.FileRec.{FileRec}
use Rattle.xfs_place.specs.Claims.{IsClaimedRun}
use Rattle.xfs_place.specs.Pool.{IsRunOf}
use Rattle.xfs_place.specs.Wanted.{CanBeKept, kept_runs}
use Rattle.xfs_place.specs.declared.wanted.Wanted.{Wanted}
use Rattle.xfs_render.specs.Readiness.{IsWritable}
use Rattle.xfs_render.specs.declared.wanted_slots.SlotBase.{SlotBase}
use Rattle.xfs_render.specs.declared.wanted_slots.SlotBase.TheVariants as Base
use Rattle.xfs_render.specs.declared.wanted_slots.SlotWanted.{SlotWanted}
use Rattle.xfs_scan.specs.declared.evidence.Evidence.{Evidence}
use Rattle.xfs_salvage.specs.declared.found.Salvaged.{Salvaged}
use Rattle.xfs_request.specs.Requests.{volume_wanted}
use Rattle.xfs_rebuild.specs.Names.{due_files, linked_file, linked_files, made_files, made_of, new_file, with_made_file, with_made_files, with_nlink}
use Rattle.xfs_rebuild.specs.Rebuilds.{HasNamesDue, asked, slots_asked}
use Rattle.xfs_rebuild.specs.Refusals.{IsRefused}
use Rattle.xfs_rebuild.specs.declared.faults.RebuildFault.TheVariants as faults
use Rattle.xfs_rebuild.specs.declared.names_due.NamesDue.{NamesDue}
use Rattle.xfs_rebuild.proofs.Grounds.{can_stand, can_write, clusters_found, forks_found, lie, slots_up}

-- what holds of a file and of files holds of them together
module _ (P : FileRec → Type 0) where
  with_one : (f : FileRec) (files : List FileRec) → P f → All P files → All P (with_made_file f files)
  with_one f [] is each = All-cons P f [] is each
  with_one f (other ∷ files) is each = by_case (nat_lt other.ino f.ino) (with_one f files is (All-tail P other files each))
    where
      by_case : (t : Bool) → All P (with_made_file f files) → All P (if t then other ∷ with_made_file f files else f ∷ other ∷ files)
      by_case true rest = All-cons P other (with_made_file f files) (All-head P other files each) rest
      by_case false rest = All-cons P f (other ∷ files) is each

  with_all : (made files : List FileRec) → All P made → All P files → All P (with_made_files made files)
  with_all [] files new each = each
  with_all (f ∷ made) files new each = with_all made (with_made_file f files) (All-tail P f made new) (with_one f files (All-head P f made new) each)

  all_made : ((ino : ℕ) (core : Core) → P (new_file ino core)) → (slots : List SlotWanted) → All P (made_files slots)
  all_made new [] = All-nil P
  all_made new (w ∷ ws) = by_base w.base (all_made new ws)
    where
      by_base : (base : SlotBase) → All P (made_files ws) → All P (made_of w.ino base ++ made_files ws)
      by_base Base.Kept rest = rest
      by_base Base.Free rest = rest
      by_base (Base.Fresh core) rest = All-cons P (new_file w.ino core) (made_files ws) (new w.ino core) rest

  pub all_due : (root : ℕ) (kept : Salvaged) (slots : List SlotWanted) → ((ino : ℕ) (core : Core) → P (new_file ino core)) → ((f : FileRec) (nlink : ℕ) → P f → P (with_nlink f nlink))
      → All P kept.files → All P (due_files root kept slots)
  unfolding due_files
  all_due root kept slots new linked each =
      with_all (made_files slots) (linked_files root kept) (all_made new slots)
      (All-map P (linked_file root kept) kept.files (each_linked kept.files each))
    where
      each_linked : (files : List FileRec) → All P files → All (λ (f : FileRec). P (linked_file root kept f)) files
      each_linked [] all = All-nil (λ (f : FileRec). P (linked_file root kept f))
      each_linked (f ∷ fs) all =
          All-cons (λ (x : FileRec). P (linked_file root kept x)) f fs (linked f _ (All-head P f fs all)) (each_linked fs (All-tail P f fs all))

new_lawful : (v : Volume) (ino : ℕ) (core : Core) → HasLawfulForks v (new_file ino core)
new_lawful v ino core = record { extents = refl; attr_extents = refl; tree = All-nil (λ block. block < v.dblocks) }

still_lawful : (v : Volume) (f : FileRec) (nlink : ℕ) → HasLawfulForks v f → HasLawfulForks v (with_nlink f nlink)
still_lawful v f nlink is = record { extents = is.extents; attr_extents = is.attr_extents; tree = is.tree }

claimed_runs : (top : ℕ) (runs : List Run) → All (IsClaimedRun top) runs → All (IsRunOf top) runs
claimed_runs top [] each = All-nil (IsRunOf top)
claimed_runs top (r ∷ rs) each =
    let first = All-head (IsClaimedRun top) r rs each in
    All-cons (IsRunOf top) r rs (first.some, first.inside) (claimed_runs top rs (All-tail (IsClaimedRun top) r rs each))

-- nothing is new yet in what is asked
none_new : (g : Geometry) (kept : Salvaged) (reserved : List ℕ) → kept_runs (volume_wanted g kept reserved) ≡ (volume_wanted g kept reserved).taken
unfolding volume_wanted
none_new g kept reserved = append-nil _

-- a refusal that says it
pub refused_has : (g : Geometry) (s : Stamp) (e : Evidence) (n : NamesDue) → IsRefused g s e (faults.Names n) → HasNamesDue g s n
refused_has g s e n is = record { on = is.0; named = is.2; due = is.3; found = is.4 }

module _ (g : Geometry) (s : Stamp) (n : NamesDue) (has : HasNamesDue g s n) where
  pub known_files_ascend : NumbersAscend 0 (numbers_of n.files)
  known_files_ascend = has.due.named.files_ascend

  pub known_forks : All (HasLawfulForks (volume_of g)) n.files
  known_forks =
      subst (All (HasLawfulForks (volume_of g))) (sym has.due.files')
      (all_due (HasLawfulForks (volume_of g)) g.rootino has.on.kept (slots_asked g s has.on) (new_lawful (volume_of g)) (still_lawful (volume_of g))
      (forks_found (volume_of g) has.on.kept has.found))

  pub known_clusters_ascend : NumbersAscend 0 n.clusters
  known_clusters_ascend = subst (NumbersAscend 0) (sym has.due.clusters') (clusters_found (volume_of g) has.on.kept has.found)

  pub known_clusters_lie : All (λ cluster. cluster + 4 ≤ g.dblocks) n.clusters
  known_clusters_lie = subst (All (λ cluster. cluster + 4 ≤ g.dblocks)) (sym has.due.clusters') (lie g has.on.kept has.found has.on.reserved)

  pub known_slots_ascend : IsNonDecreasingBy (λ (w : SlotWanted). w.ino) n.slots
  known_slots_ascend = subst (IsNonDecreasingBy (λ (w : SlotWanted). w.ino)) (sym has.due.slots') (slots_up g s has.on has.found)

  pub known_geometry : n.wanted.geometry ≡ g
  unfolding volume_wanted
  known_geometry = ap (λ (w : Wanted). w.geometry) has.due.wanted'

  pub known_stand : CanBeKept (volume_of g) (kept_runs n.wanted)
  known_stand = subst (λ (w : Wanted). CanBeKept (volume_of g) (kept_runs w)) (sym has.due.wanted') (can_stand g has.on.kept has.found has.on.reserved)

  pub known_writable : IsWritable n.wanted
  known_writable = subst IsWritable (sym has.due.wanted') (can_write g has.on.kept has.found has.on.reserved)

  pub known_taken : All (IsRunOf g.dblocks) n.wanted.taken
  known_taken =
      subst (λ (w : Wanted). All (IsRunOf g.dblocks) w.taken) (sym has.due.wanted')
      (claimed_runs g.dblocks (asked g has.on).taken
      (subst (All (IsClaimedRun g.dblocks)) (none_new g has.on.kept has.on.reserved) (can_stand g has.on.kept has.found has.on.reserved).each))
