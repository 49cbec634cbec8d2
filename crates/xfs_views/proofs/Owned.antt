-- In a view that breaks no law no block has two owners.
use Rattle.std.proofs.Common.{◌≡◌, ◌<◌, ◌^◌, ◌++◌, List, None, arith}
use Rattle.std.specs.List.{All}
use Rattle.xfs_disk.specs.Blocks.{Image}
use Rattle.xfs_geom.specs.Volumes.{Volume, volume_of}
use Rattle.xfs_geom.specs.declared.geometry.Geometry.{Geometry}
use Rattle.xfs_geom.specs.declared.records.Run.{Run}
use Rattle.xfs_volume.specs.Laws.{first_broken}
use Rattle.xfs_volume.specs.declared.catalogs.Catalog.{Catalog}
use Rattle.xfs_volume.specs.declared.files.FileRec.{FileRec}
use Rattle.xfs_volume.specs.declared.groups.GroupRec.{GroupRec}
use Rattle.xfs_laws.specs.xfs_space.Owners.{owned_runs}
use Rattle.xfs_laws.specs.xfs_space.Sorted.{IsOwned}
use Rattle.xfs_laws.specs.xfs_space.SpaceLaws.{free_laws, owner_laws, recorded_runs, sharing_laws, space_laws}
use Rattle.xfs_laws.proofs.xfs_space.GoodRuns.{good_all, owned_of}
use Rattle.xfs_laws.proofs.xfs_space.Moved.{kept_once}
use Rattle.xfs_laws.proofs.xfs_space.Shared.{none_outside}
use Rattle.xfs_laws.specs.xfs_naming.Naming.{naming_laws}
use Rattle.xfs_laws.proofs.xfs_naming.Kept.{kept_front}
use Rattle.xfs_laws.specs.Counting.{log_laws}
use Rattle.xfs_laws.specs.Lawful.{IsCatalog, broken_law, counting_laws}
use Rattle.xfs_image.specs.Files.{AreFilesRead, inodes_of}
use Rattle.xfs_image.specs.View.{catalog_of}
use Rattle.xfs_views.proofs.Places.{files_small}
use Rattle.xfs_views.proofs.Spaces.{IsOnce}

-- the first laws of those that a catalog keeps
space_kept : (c : Catalog) → broken_law c ≡ None → first_broken (space_laws (volume_of c.geometry) c.groups c.files) ≡ None
unfolding broken_law
space_kept c none =
    kept_front (space_laws (volume_of c.geometry) c.groups c.files)
    (counting_laws c ++ (naming_laws c.geometry.rootino c.files c.entries c.dirs ++ log_laws c.groups c.log c.lsns)) none

sharing_kept : (v : Volume) (gs : List GroupRec) (fs : List FileRec) → first_broken (space_laws v gs fs) ≡ None → first_broken (sharing_laws v (owned_runs v gs fs)) ≡ None
unfolding space_laws
sharing_kept v gs fs none =
    let runs = owned_runs v gs fs in
    kept_front (sharing_laws v runs) (free_laws v runs 0 gs)
    (kept_front (sharing_laws v runs ++ free_laws v runs 0 gs) (owner_laws v (recorded_runs v.agblocks 0 gs) runs) none)

pub owned_once : (g : Geometry) (image : Image) (groups : List GroupRec) (files : List FileRec) → AreFilesRead (volume_of g) image (inodes_of (volume_of g) groups) files
    → IsCatalog (catalog_of g image groups files) → broken_law (catalog_of g image groups files) ≡ None → IsOnce g groups files
owned_once g image groups files read is none =
    let v : Volume = volume_of g in
    let runs : List Run = owned_runs v groups files in
    let low : All (λ (f : FileRec). f.ino < 2 ^ 60) files = files_small g image groups files is.groups read in
    let owned : All (IsOwned v) runs =
    owned_of v runs (good_all g groups files is.count is.groups is.files (λ k d inside. let few = low k d inside in omega (arith, few))) in
    record {
      count = is.count;
      are = is.groups;
      once = kept_once v runs owned (sharing_kept v groups files (space_kept (catalog_of g image groups files) none));
      none = λ b past. none_outside v runs b owned past;
    }
