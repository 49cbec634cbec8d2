-- What a consistent image says: groups and files in which no block has two owners, the owners are those that are recorded, and the
-- root is a file.
use Rattle.std.proofs.Common.{◌≡◌, ◌^◌, ◌<◌, List, ◌++◌, sym, ◌∙◌, ap, subst, arith, None}
use Rattle.std.specs.List.{All, Any}
use Rattle.xfs_disk.specs.Blocks.{Image}
use Rattle.xfs_geom.specs.Volumes.{Volume, volume_of}
use Rattle.xfs_geom.specs.declared.geometry.Geometry.{Geometry}
use Rattle.xfs_volume.specs.Laws.{first_broken}
use Rattle.xfs_volume.specs.declared.catalogs.Catalog.{Catalog}
use Rattle.xfs_volume.specs.declared.files.FileRec.{FileRec}
use Rattle.xfs_volume.specs.declared.groups.GroupRec.{GroupRec}
use Rattle.xfs_laws.specs.xfs_space.Owners.{owned_runs}
use Rattle.xfs_laws.specs.xfs_space.Sorted.{IsOwned}
use Rattle.xfs_laws.specs.xfs_space.SpaceLaws.{free_laws, owner_laws, recorded_runs, sharing_laws, space_laws}
use Rattle.xfs_laws.proofs.xfs_space.GoodRuns.{good_all, owned_of}
use Rattle.xfs_laws.proofs.xfs_space.Moved.{kept_once}
use Rattle.xfs_laws.proofs.xfs_space.Shared.{none_outside}
use Rattle.xfs_laws.specs.xfs_naming.Lawful.{IsDirectory}
use Rattle.xfs_laws.specs.xfs_naming.Naming.{naming_laws}
use Rattle.xfs_laws.proofs.xfs_naming.Kept.{kept_behind, kept_front}
use Rattle.xfs_laws.proofs.xfs_naming.Worded.{lawful_names}
use Rattle.xfs_laws.specs.Counting.{log_laws}
use Rattle.xfs_laws.specs.Lawful.{IsCatalog, broken_law, counting_laws, laws_of}
use Rattle.xfs_image.proofs.GroupReads.{all_have_parts}
use Rattle.xfs_image.proofs.Views.{files_read_so, view_of}
use Rattle.xfs_image.specs.Consistent.{IsConsistent}
use Rattle.xfs_image.specs.Files.{AreFilesRead, inodes_of}
use Rattle.xfs_image.specs.GroupParts.{AreGroupsRead}
use Rattle.xfs_image.specs.View.{catalog_of}
use Rattle.xfs_views.proofs.Catalogs.{view_is}
use Rattle.xfs_views.proofs.Places.{files_small}
use Rattle.xfs_views.proofs.Spaces.{IsOnce}

pub record IsLawfulView (g : Geometry) (image : Image) (groups : List GroupRec) (files : List FileRec) : Type 0 where
  pub groups_read : AreGroupsRead (volume_of g) image 0 groups
  pub files_read : AreFilesRead (volume_of g) image (inodes_of (volume_of g) groups) files
  pub space : IsOnce g groups files
  pub owned : All (IsOwned (volume_of g)) (owned_runs (volume_of g) groups files)
  pub low : All (λ (f : FileRec). f.ino < 2 ^ 60) files
  pub owners : first_broken (owner_laws (volume_of g) (recorded_runs g.agblocks 0 groups) (owned_runs (volume_of g) groups files)) ≡ None
  pub root : Any (λ (f : FileRec). (f.ino ≡ g.rootino) × IsDirectory f) files

-- what no broken law says, of the groups and files of a catalog
no_law : (c : Catalog) → broken_law c ≡ None → first_broken (laws_of c) ≡ None
unfolding broken_law
no_law c none = none

space_kept : (c : Catalog) → broken_law c ≡ None → first_broken (space_laws (volume_of c.geometry) c.groups c.files) ≡ None
space_kept c none =
    kept_front (space_laws (volume_of c.geometry) c.groups c.files)
    (counting_laws c ++ (naming_laws c.geometry.rootino c.files c.entries c.dirs ++ log_laws c.groups c.log c.lsns)) (no_law c none)

names_kept : (c : Catalog) → broken_law c ≡ None → first_broken (naming_laws c.geometry.rootino c.files c.entries c.dirs) ≡ None
names_kept c none =
    kept_front (naming_laws c.geometry.rootino c.files c.entries c.dirs) (log_laws c.groups c.log c.lsns)
    (kept_behind (counting_laws c) (naming_laws c.geometry.rootino c.files c.entries c.dirs ++ log_laws c.groups c.log c.lsns)
    (kept_behind (space_laws (volume_of c.geometry) c.groups c.files)
    (counting_laws c ++ (naming_laws c.geometry.rootino c.files c.entries c.dirs ++ log_laws c.groups c.log c.lsns)) (no_law c none)))

sharing_kept : (v : Volume) (gs : List GroupRec) (fs : List FileRec) → first_broken (space_laws v gs fs) ≡ None → first_broken (sharing_laws v (owned_runs v gs fs)) ≡ None
unfolding space_laws
sharing_kept v gs fs none =
    let runs = owned_runs v gs fs in
    kept_front (sharing_laws v runs) (free_laws v runs 0 gs)
    (kept_front (sharing_laws v runs ++ free_laws v runs 0 gs) (owner_laws v (recorded_runs v.agblocks 0 gs) runs) none)

owners_kept : (v : Volume) (gs : List GroupRec) (fs : List FileRec) → first_broken (space_laws v gs fs) ≡ None
    → first_broken (owner_laws v (recorded_runs v.agblocks 0 gs) (owned_runs v gs fs)) ≡ None
unfolding space_laws
owners_kept v gs fs none =
    let runs = owned_runs v gs fs in
    kept_behind (sharing_laws v runs ++ free_laws v runs 0 gs) (owner_laws v (recorded_runs v.agblocks 0 gs) runs) none

from_parts : (g : Geometry) (image : Image) (groups : List GroupRec) (files : List FileRec) → AreGroupsRead (volume_of g) image 0 groups
    → AreFilesRead (volume_of g) image (inodes_of (volume_of g) groups) files → IsCatalog (catalog_of g image groups files) → broken_law (catalog_of g image groups files) ≡ None
    → IsLawfulView g image groups files
from_parts g image groups files groups_read files_read is none =
    let v : Volume = volume_of g in
    let c : Catalog = catalog_of g image groups files in
    let low : All (λ (f : FileRec). f.ino < 2 ^ 60) files = files_small g image groups files is.groups files_read in
    let owned : All (IsOwned v) (owned_runs v groups files) =
    owned_of v (owned_runs v groups files) (good_all g groups files is.count is.groups is.files (λ k d inside. let few = low k d inside in omega (arith, few))) in
    let space = space_kept c none in
    record {
      groups_read = groups_read;
      files_read = files_read;
      space = record {
        count = is.count;
        are = is.groups;
        once = kept_once v (owned_runs v groups files) owned (sharing_kept v groups files space);
        none = λ b past. none_outside v (owned_runs v groups files) b owned past;
      };
      owned = owned;
      low = low;
      owners = owners_kept v groups files space;
      root = (lawful_names c.geometry.rootino c.files c.entries c.dirs is.names (names_kept c none)).places.root_directory;
    }

pub record Lawful (g : Geometry) (image : Image) (c : Catalog) : Type 0 where
  pub groups : List GroupRec
  pub files : List FileRec
  pub says : c ≡ catalog_of g image groups files
  pub is : IsLawfulView g image groups files

pub lawful_view : (g : Geometry) (image : Image) (is : IsConsistent broken_law g image) → Lawful g image is.catalog
lawful_view g image is =
    let v : Volume = volume_of g in
    let read = view_of g image is.catalog is.reads in
    let parts = all_have_parts v image read.groups read.groups_read in
    record {
      groups = read.groups;
      files = read.files;
      says = read.catalog;
      is = from_parts g image read.groups read.files parts.0 (files_read_so v image read.groups read.files read.files_read)
          (subst IsCatalog read.catalog (view_is g image is.catalog is.reads))
          (ap broken_law (sym read.catalog) ∙ is.lawful);
    }
