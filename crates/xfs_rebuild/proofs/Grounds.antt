-- What is kept of clusters and files that can claim their blocks can be asked for, placed and rendered.
use Rattle.std.proofs.Common.{◌≡◌, ℕ, ◌+◌, ◌<◌, ◌≤◌, ◌^◌, List, [], ◌∷◌, length, get_or, sym, subst, ap, ◌∙◌, arith}
use Rattle.std.specs.List.{All}
use Rattle.std.specs.List.Sorted.{IsNonDecreasingBy}
use Rattle.xfs_disk.specs.declared.stamp.Stamp.{Stamp}
use Rattle.xfs_geom.specs.Volumes.{Volume, stated_volume, volume_of}
use Rattle.xfs_geom.specs.Writing.{IsAcceptedSector}
use Rattle.xfs_geom.specs.declared.geometry.Geometry.{Geometry}
use Rattle.xfs_laws.proofs.Roots.{root_low}
use Rattle.xfs_naming.proofs.Order.{Rises, rises_by}
use Rattle.xfs_naming.specs.Naming.{NumbersAscend, numbers_of}
use Rattle.xfs_space.specs.Parts.{HasLawfulForks}
use Rattle.xfs_volume.specs.declared.files.FileRec.{FileRec}
use Rattle.xfs_place.specs.Wanted.{CanBeKept, kept_runs}
use Rattle.xfs_place.specs.declared.wanted.Wanted.{Wanted}
use Rattle.xfs_render.specs.Clusters.{CanCluster}
use Rattle.xfs_render.specs.Readiness.{HasBytes, IsWritable}
use Rattle.xfs_render.specs.declared.bytes.Bytes.{Bytes}
use Rattle.xfs_render.specs.declared.wanted_slots.SlotWanted.{SlotWanted}
use Rattle.xfs_salvage.specs.declared.found.Salvaged.{Salvaged}
use Rattle.xfs_made.proofs.Ordered.{clusters_of_volume_ascend, files_have_forks, files_of_volume_ascend}
use Rattle.xfs_request.specs.Requests.{volume_wanted}
use Rattle.xfs_made.proofs.Spaced.{slots_in_order}
use Rattle.xfs_made.proofs.Writable.{can_be_kept, writable}
use Rattle.xfs_rebuild.specs.Bytes.{AreAtHand}
use Rattle.xfs_rebuild.specs.Changes.{CanChangeAll}
use Rattle.xfs_rebuild.specs.Rebuilds.{Ground, IsFound, asked, slots_asked}
use Rattle.xfs_rebuild.proofs.Placed.{clusters_lie}
use Rattle.xfs_rebuild.proofs.Served.{slots_serve}

-- numbers that ascend stand in their order
ascend_rise : (low least : ℕ) (xs : List ℕ) → least ≤ low → NumbersAscend low xs → Rises least xs
ascend_rise low least [] le up = tt
ascend_rise low least (x ∷ xs) le up = (omega (arith, le, up.0), ascend_rise (x + 1) x xs (omega arith) up.1)

pub in_order : (files : List FileRec) → NumbersAscend 0 (numbers_of files) → IsNonDecreasingBy (λ (f : FileRec). f.ino) files
in_order files up = rises_by (λ (f : FileRec). f.ino) 0 files (ascend_rise 0 0 (numbers_of files) (omega arith) up)

module _ (v : Volume) (kept : Salvaged) (f : IsFound v kept) where
  pub files_found : NumbersAscend 0 (numbers_of kept.files)
  files_found = subst (λ (fs : List FileRec). NumbersAscend 0 (numbers_of fs)) (sym f.is.files') (files_of_volume_ascend v f.clusters f.files f.can)

  pub clusters_found : NumbersAscend 0 kept.clusters
  clusters_found = subst (NumbersAscend 0) (sym f.is.clusters') (clusters_of_volume_ascend v f.clusters f.files)

  pub forks_found : All (HasLawfulForks v) kept.files
  forks_found = subst (All (HasLawfulForks v)) (sym f.is.files') (files_have_forks v f.clusters f.files f.can)

pub low_root : (g : Geometry) → g.rootino < 2 ^ 32
low_root v =
    let some : 1 ≤ 2 ^ v.agblklog = omega (arith, v.shape.addresses.enough, v.shape.groups.large) in
    root_low v.agcount v.agblocks (2 ^ v.agblklog) v.dblocks v.rootino v.shape.groups.two v.shape.groups.last v.shape.groups.small v.shape.addresses.least some v.shape.root.group

module _ (g : Geometry) (kept : Salvaged) (f : IsFound (volume_of g) kept) where
  pub can_stand : (reserved : List ℕ) → CanBeKept (volume_of g) (kept_runs (volume_wanted g kept reserved))
  can_stand reserved = can_be_kept g f.clusters f.files kept reserved f.can f.is

  pub can_write : (reserved : List ℕ) → IsWritable (volume_wanted g kept reserved)
  can_write reserved = writable g f.clusters f.files kept reserved f.can f.is

  pub lie : (reserved : List ℕ) → All (λ cluster. cluster + 4 ≤ g.dblocks) kept.clusters
  lie reserved = clusters_lie g kept reserved (can_stand reserved)

-- the slots that are asked stand by number
pub slots_up : (g : Geometry) (s : Stamp) (on : Ground) → IsFound (volume_of g) on.kept → IsNonDecreasingBy (λ (w : SlotWanted). w.ino) (slots_asked g s on)
slots_up g s on f = slots_in_order g s f.clusters f.files on.kept on.seen f.can f.is

-- the bytes that are at hand serve what is asked
pub has_bytes : (g : Geometry) (sector : List ℕ) (s : Stamp) (on : Ground) (b : Bytes) → IsAcceptedSector sector → volume_of g ≡ stated_volume sector
    → IsFound (volume_of g) on.kept → AreAtHand g sector s on.kept.clusters (slots_asked g s on) b → HasBytes (asked g on) b
unfolding volume_wanted
has_bytes g sector s on b accepted states f hand = record {
  accepted = subst IsAcceptedSector (sym hand.sector') accepted;
  states = ap stated_volume hand.sector' ∙ sym states;
  objects = ap length hand.objects';
  old = hand.many;
  inside = hand.inside;
  order = subst (IsNonDecreasingBy (λ (w : SlotWanted). w.ino)) (sym hand.slots') (slots_up g s on f);
  slots = λ i low inner.
      subst (λ (ws : List SlotWanted). CanCluster (volume_of g) ws (get_or b.places i 0) (get_or b.old i [])) (sym hand.slots')
      (slots_serve (volume_of g) s on.kept on.seen b.places b.old (subst (λ (ws : List SlotWanted). CanChangeAll (volume_of g) ws b.places b.old) hand.slots' hand.can) i low inner);
  cycle = hand.few;
}

-- what was asked, from what it goes by
module _ (g : Geometry) (s : Stamp) (on : Ground) (wanted : Wanted) (slots : List SlotWanted) (f : IsFound (volume_of g) on.kept)
    (same : wanted ≡ asked g on) (of : slots ≡ slots_asked g s on) where
  pub slots_rise : IsNonDecreasingBy (λ (w : SlotWanted). w.ino) slots
  slots_rise = subst (IsNonDecreasingBy (λ (w : SlotWanted). w.ino)) (sym of) (slots_up g s on f)

  pub wanted_stands : CanBeKept (volume_of wanted.geometry) (kept_runs wanted)
  unfolding volume_wanted
  wanted_stands = subst (λ (w : Wanted). CanBeKept (volume_of w.geometry) (kept_runs w)) (sym same) (can_stand g on.kept f on.reserved)

  pub wanted_written : IsWritable wanted
  wanted_written = subst IsWritable (sym same) (can_write g on.kept f on.reserved)

  pub wanted_fits : (old size : ℕ) → size ≡ old → g.dblocks ≤ old → wanted.geometry.dblocks ≤ size
  unfolding volume_wanted
  wanted_fits old size is fits =
      subst (λ (n : ℕ). wanted.geometry.dblocks ≤ n) (sym is) (subst (λ (w : Wanted). w.geometry.dblocks ≤ old) (sym same) fits)

  pub wanted_bytes : (sector : List ℕ) (b : Bytes) → IsAcceptedSector sector → volume_of g ≡ stated_volume sector → AreAtHand g sector s on.kept.clusters slots b → HasBytes wanted b
  wanted_bytes sector b accepted states hand =
      subst (λ (w : Wanted). HasBytes w b) (sym same)
      (has_bytes g sector s on b accepted states f (subst (λ (ws : List SlotWanted). AreAtHand g sector s on.kept.clusters ws b) of hand))
