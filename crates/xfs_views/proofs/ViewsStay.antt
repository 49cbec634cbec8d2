-- A view that breaks no law is that of each image that differs in backup superblocks alone.
use Rattle.std.proofs.Common.{◌≡◌, ℕ, List, Result, Ok, None, sym, ap, ◌∙◌, subst, arith}
use Rattle.std.specs.List.{All}
use Rattle.std.proofs.lemmas.List.Elements.{All-from_recursion}
use Rattle.xfs_disk.specs.Blocks.{Image}
use Rattle.xfs_word.specs.Field.{field_of}
use Rattle.xfs_geom.specs.Volumes.{Volume, volume_of}
use Rattle.xfs_geom.specs.declared.geometry.Geometry.{Geometry}
use Rattle.xfs_geom.specs.declared.records.Counts.{Counts}
use Rattle.xfs_volume.specs.Names.{is_directory}
use Rattle.xfs_volume.specs.declared.catalogs.Catalog.{Catalog}
use Rattle.xfs_volume.specs.declared.files.FileRec.{FileRec}
use Rattle.xfs_volume.specs.declared.groups.GroupRec.{GroupRec}
use Rattle.xfs_laws.specs.Lawful.{IsCatalog, broken_law}
use Rattle.xfs_image.proofs.GroupReads.{all_have_parts}
use Rattle.xfs_image.proofs.Views.{files_read_so, view_of}
use Rattle.xfs_image.specs.Directories.{directories, dirs_read, entries_read}
use Rattle.xfs_image.specs.Files.{AreFilesRead, files_read, inodes_of}
use Rattle.xfs_image.specs.GroupParts.{AreGroupsRead}
use Rattle.xfs_image.specs.Groups.{groups_read}
use Rattle.xfs_image.specs.View.{catalog_of, counts_of, if_read, log_of, view}
use Rattle.xfs_image.specs.Lsns.{lsns_read}
use Rattle.xfs_image.specs.declared.findings.Finding.{Finding}
use Rattle.xfs_views.proofs.Catalogs.{view_is}
use Rattle.xfs_views.proofs.Members.{Member, all_members, filter_member}
use Rattle.xfs_views.proofs.Places.{file_inode}
use Rattle.xfs_views.proofs.Spaces.{IsOnce}
use Rattle.xfs_views.specs.Backups.{DifferInBackups}
use Rattle.xfs_views.specs.SameFiles.{HasSameClaims, HasSameSlot}
use Rattle.xfs_views.proofs.DirectoriesStay.{all_dirs_stay, all_entries_stay}
use Rattle.xfs_views.proofs.FilesKept.{all_files_stay}
use Rattle.xfs_views.proofs.GroupsStay.{groups_stay}
use Rattle.xfs_views.proofs.LsnsStay.{log_kept, lsns_kept}
use Rattle.xfs_views.proofs.Owned.{owned_once}
use Rattle.xfs_views.proofs.PlacesStay.{places_stand}
use Rattle.xfs_views.proofs.SlotsStay.{claims_same, slot_same}
use Rattle.xfs_views.proofs.Unfixed.{first_same, groups_same, log_same}

abbrev ok : Catalog → Result Catalog Finding
ok c = Ok c

-- the counters in the bytes of the first block
abbrev counts_in : List ℕ → Counts
counts_in bytes = record { icount = field_of bytes 128 8; ifree = field_of bytes 136 8; fdblocks = field_of bytes 144 8 }

module _ (g : Geometry) (image now : Image) (differ : DifferInBackups (volume_of g) image now) (groups : List GroupRec) (files : List FileRec) (space : IsOnce g groups files)
    (read_groups : AreGroupsRead (volume_of g) image 0 groups) (read_files : AreFilesRead (volume_of g) image (inodes_of (volume_of g) groups) files) where
  directory_is : (f : FileRec) → Member f (directories files) → Member f files
  unfolding directories
  directory_is f is = (filter_member is_directory f files is).0

  -- all slots of the view hold the same bytes, and so do all claims of its files
  slots_same : All (HasSameSlot (volume_of g) image now) (inodes_of (volume_of g) groups)
  slots_same =
      let v : Volume = volume_of g in
      All-from_recursion (HasSameSlot v image now) (inodes_of v groups)
      (all_members (HasSameSlot v image now) (inodes_of v groups) (slot_same g image now differ groups files space))

  all_claims_same : All (HasSameClaims (volume_of g) image now) files
  all_claims_same =
      All-from_recursion (HasSameClaims (volume_of g) image now) files
      (all_members (HasSameClaims (volume_of g) image now) files (claims_same g image now differ groups files space))

  directory_slots : All (λ (f : FileRec). HasSameSlot (volume_of g) image now f.ino) (directories files)
  directory_slots =
      let v : Volume = volume_of g in
      All-from_recursion (λ (f : FileRec). HasSameSlot v image now f.ino) (directories files)
      (all_members (λ (f : FileRec). HasSameSlot v image now f.ino) (directories files)
      (λ f is. slot_same g image now differ groups files space f.ino (file_inode v image f (inodes_of v groups) files read_files (directory_is f is)).0))

  directory_claims : All (HasSameClaims (volume_of g) image now) (directories files)
  directory_claims =
      All-from_recursion (HasSameClaims (volume_of g) image now) (directories files)
      (all_members (HasSameClaims (volume_of g) image now) (directories files) (λ f is. claims_same g image now differ groups files space f (directory_is f is)))

  counts_kept : counts_of now ≡ counts_of image
  counts_kept = ap counts_in (first_same g image now differ)

  catalog_kept : catalog_of g now groups files ≡ catalog_of g image groups files
  catalog_kept =
      let v : Volume = volume_of g in
      let entries : entries_read v now files ≡ entries_read v image files = all_entries_stay v image now files directory_slots directory_claims in
      let dirs : dirs_read v now files ≡ dirs_read v image files = all_dirs_stay v image now files directory_slots directory_claims in
      let log : log_of v now ≡ log_of v image = log_kept v image now (log_same g image now differ) in
      let lsns : lsns_read v now groups files ≡ lsns_read v image groups files =
      lsns_kept v image now groups files (places_stand g image now differ groups files space read_groups) in
      λ i. record {
        geometry = g;
        groups = groups;
        files = files;
        entries = entries i;
        dirs = dirs i;
        counts = counts_kept i;
        log = log i;
        lsns = lsns i;
      }

  view_kept : groups_read (volume_of g) image ≡ Ok groups → files_read (volume_of g) image groups ≡ Ok files → view g now ≡ Ok (catalog_of g image groups files)
  unfolding view
  view_kept reads read =
      let v : Volume = volume_of g in
      let count = space.count in
      let all : groups_read v now ≡ Ok groups = groups_stay v image now groups reads (groups_same g image now differ 0 groups read_groups (omega (arith, count))) in
      let files_now : files_read v now groups ≡ Ok files = all_files_stay v image now groups files read slots_same all_claims_same in
      ap (λ (r : Result (List GroupRec) Finding). if_read r (λ gs. if_read (files_read v now gs) (λ fs. Ok (catalog_of g now gs fs)))) all
      ∙ ap (λ (r : Result (List FileRec) Finding). if_read r (λ fs. Ok (catalog_of g now groups fs))) files_now
      ∙ ap (λ (c : Catalog). ok c) catalog_kept

pub views_stay : (g : Geometry) (image now : Image) (c : Catalog) → view g image ≡ Ok c → broken_law c ≡ None → DifferInBackups (volume_of g) image now → view g now ≡ Ok c
views_stay g image now c reads lawful differ =
    let v : Volume = volume_of g in
    let is = view_of g image c reads in
    let parts = all_have_parts v image is.groups is.groups_read in
    let slots = files_read_so v image is.groups is.files is.files_read in
    let space : IsOnce g is.groups is.files =
    owned_once g image is.groups is.files slots (subst IsCatalog is.catalog (view_is g image c reads)) (ap broken_law (sym is.catalog) ∙ lawful) in
    view_kept g image now differ is.groups is.files space parts.0 slots is.groups_read is.files_read ∙ ap (λ (x : Catalog). ok x) (sym is.catalog)
