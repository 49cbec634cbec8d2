-- What a view says is a catalog.
use Rattle.std.proofs.Common.{◌≡◌, Ok, ap, sym, subst}
use Rattle.xfs_disk.specs.Blocks.{Image}
use Rattle.xfs_geom.specs.Volumes.{volume_of}
use Rattle.xfs_geom.specs.declared.geometry.Geometry.{Geometry}
use Rattle.xfs_volume.specs.declared.catalogs.Catalog.{Catalog}
use Rattle.xfs_laws.specs.Lawful.{IsCatalog}
use Rattle.xfs_image.proofs.GroupReads.{all_have_parts}
use Rattle.xfs_image.proofs.Views.{files_read_so, view_of}
use Rattle.xfs_image.specs.View.{IsRead, catalog_of, view}
use Rattle.xfs_views.proofs.Files.{files_are}
use Rattle.xfs_views.proofs.Groups.{groups_are}
use Rattle.xfs_views.proofs.Lsns.{lsns_in}
use Rattle.xfs_views.proofs.Names.{each_directory, entries_grouped}
use Rattle.xfs_views.proofs.Numbers.{numbers_ascend}

read_is : (g : Geometry) (image : Image) (c : Catalog) (is : IsRead g image c) → IsCatalog (catalog_of g image is.groups is.files)
read_is g image c is =
    let read = all_have_parts (volume_of g) image is.groups is.groups_read in
    let groups = groups_are (volume_of g) image 0 is.groups read.0 in
    let slots = files_read_so (volume_of g) image is.groups is.files is.files_read in
    let files = files_are (volume_of g) image _ is.files slots in
    record {
      count = read.1;
      groups = groups;
      files = files;
      names = record {
        files_ascend = numbers_ascend g image is.groups is.files read.1 groups slots;
        directories = each_directory (volume_of g) image is.files;
        grouped = entries_grouped (volume_of g) image is.files;
      };
      lsns = lsns_in g image is.groups is.files read.1 groups files;
    }

pub view_is : (g : Geometry) (image : Image) (c : Catalog) → view g image ≡ Ok c → IsCatalog c
view_is g image c reads =
    let is = view_of g image c reads in
    subst IsCatalog (sym is.catalog) (read_is g image c is)

pub view_has : (g : Geometry) (image : Image) (c : Catalog) → view g image ≡ Ok c → c.geometry ≡ g
view_has g image c reads = ap (λ (all : Catalog). all.geometry) (view_of g image c reads).catalog
