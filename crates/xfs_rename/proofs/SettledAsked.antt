-- What is asked of the settled volume, from its parts.
use Rattle.std.proofs.Common.{◌≡◌, ℕ, true, List, [], ◌++◌, map, sym, subst, ap, ◌∙◌}
use Rattle.std.specs.List.{All}
use Rattle.std.specs.List.Sorted.{IsNonDecreasingBy}
use Rattle.xfs_disk.specs.declared.stamp.Stamp.{Stamp}
use Rattle.xfs_geom.specs.Volumes.{volume_of}
use Rattle.xfs_geom.specs.declared.geometry.Geometry.{Geometry}
use Rattle.xfs_geom.specs.declared.records.Run.{Run}
use Rattle.xfs_naming.specs.Naming.{NumbersAscend}
use Rattle.xfs_names.specs.declared.building.ForkRoom.{ForkRoom}
use Rattle.xfs_place.specs.declared.wanted.GroupInodes.{GroupInodes}
use Rattle.xfs_place.specs.declared.wanted.Object.{Object}
use Rattle.xfs_rebuild.specs.xfs_request.Chunks.{inodes_wanted}
use Rattle.xfs_salvage.specs.Kept.{run_of_cluster, taken_of}
use Rattle.xfs_salvage.specs.declared.found.Salvaged.{Salvaged}
use Rattle.xfs_space.specs.Parts.{HasLawfulForks}
use Rattle.xfs_volume.specs.declared.files.FileRec.{FileRec}
use Rattle.xfs_rebuild.specs.Rebuilds.{HasNamesDue}
use Rattle.xfs_rebuild.specs.declared.names_due.NamesDue.{NamesDue}
use Rattle.xfs_rebuild.proofs.Known.{known_files_ascend}
use Rattle.xfs_changes.specs.xfs_built.Asks.{objects_of}
use Rattle.xfs_rename.specs.Objects.{asked_with, wanted_with, with_added}
use Rattle.xfs_rename.specs.Renames.{IsSettling}
use Rattle.xfs_rename.specs.Settled.{fresh_with, settled, staying_files, with_numbers}
use Rattle.xfs_changes.specs.Replaced.{replaced_blocks}
use Rattle.xfs_changes.specs.declared.lost_found.Lost.{Lost}
use Rattle.xfs_rename.specs.declared.settling.Settling.{Settling}
use Rattle.xfs_rename.proofs.Agreed.{adds_one}
use Rattle.xfs_rename.proofs.InTurn.{clusters_in_order, rooms_in_order, staying_forks, staying_in_order}

-- what is kept of equal parts
pub parted_kept : (n : NamesDue) (rebuilt clusters fresh : List ℕ) (files : List FileRec) (l : Lost) (kept : Salvaged) → clusters ≡ n.clusters → files ≡ n.files → fresh ≡ n.fresh
    → kept ≡ record { clusters = clusters; files = staying_files rebuilt fresh files; fresh = fresh_with l fresh; entries = []; dirs = [] }
    → kept ≡ record { clusters = n.clusters; files = staying_files rebuilt n.fresh n.files; fresh = fresh_with l n.fresh; entries = []; dirs = [] }
parted_kept n rebuilt clusters fresh files l kept a b c is =
    is ∙ (λ i. record { clusters = a i; files = staying_files rebuilt (c i) (b i); fresh = fresh_with l (c i); entries = []; dirs = [] })

module _ (g : Geometry) (s : Stamp) (n : NamesDue) (has : HasNamesDue g s n) (t : Settling) (is : IsSettling g n t) where
  abbrev first_kept : Salvaged
  first_kept = record { clusters = n.clusters; files = staying_files t.names.rebuilt n.fresh n.files; fresh = fresh_with t.lost n.fresh; entries = []; dirs = [] }

  module _ (rebuilt : List ℕ) (view : rebuilt ≡ t.names.rebuilt) (kept : Salvaged)
      (first : kept ≡ record { clusters = n.clusters; files = staying_files rebuilt n.fresh n.files; fresh = fresh_with t.lost n.fresh; entries = []; dirs = [] }) where
    pub first_is : kept ≡ first_kept
    first_is = first ∙ ap (λ (ns : List ℕ). record { clusters = n.clusters; files = staying_files ns n.fresh n.files; fresh = fresh_with t.lost n.fresh; entries = []; dirs = [] }) view

    pub first_forks : All (HasLawfulForks (volume_of g)) kept.files
    first_forks = subst (λ (k : Salvaged). All (HasLawfulForks (volume_of g)) k.files) (sym first_is) (staying_forks g s n has t.names.rebuilt)

    module _ (added : List ℕ) (adds : added ≡ t.lost.added) (all : Salvaged) (more : all ≡ record kept { clusters = with_numbers added kept.clusters }) where
      pub settled_is : all ≡ settled n t.lost t.names
      settled_is = more ∙ (λ i. record (first_is i) { clusters = with_numbers (adds i) (first_is i).clusters })

      pub settled_files : IsNonDecreasingBy (λ (f : FileRec). f.ino) all.files
      settled_files = subst (λ (k : Salvaged). IsNonDecreasingBy (λ (f : FileRec). f.ino) k.files) (sym settled_is) (staying_in_order g s n has t.names.rebuilt)

      pub settled_clusters : NumbersAscend 0 all.clusters
      settled_clusters = subst (λ (k : Salvaged). NumbersAscend 0 k.clusters) (sym settled_is) (clusters_in_order g s n has t.lost.added (adds_one g n t is))

    -- what is asked of it
    pub asked_is : (reserved : List ℕ) → reserved ≡ n.wanted.reserved ++ replaced_blocks (volume_of g) rebuilt n.files
        → asked_with g t (taken_of (volume_of g) kept.clusters kept.files) reserved (with_added t.lost.added kept) ≡ wanted_with g n t.lost t.names (objects_of t.rooms t.built)
    unfolding wanted_with
    asked_is reserved d = λ i. asked_with g t
        (taken_of (volume_of g) (first_is i).clusters (first_is i).files)
        ((d ∙ ap (λ (ns : List ℕ). n.wanted.reserved ++ replaced_blocks (volume_of g) ns n.files) view) i)
        (with_added t.lost.added (first_is i))

  pub rooms_rise : (rooms : List ForkRoom) → rooms ≡ t.rooms → IsNonDecreasingBy (λ (r : ForkRoom). r.ino) rooms
  rooms_rise rooms view =
      subst (IsNonDecreasingBy (λ (r : ForkRoom). r.ino)) (sym (view ∙ is.rooms')) (rooms_in_order t.names.rebuilt n.files (known_files_ascend g s n has))
