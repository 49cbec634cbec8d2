-- What the whole image says, from its groups and its files.
use Rattle.std.proofs.Common.{◌≡◌, ℕ, List, Ok, Err, sym, ap, ap₂, ◌∙◌}
use Rattle.xfs_disk.specs.Blocks.{Image}
use Rattle.xfs_geom.specs.Volumes.{Volume, volume_of}
use Rattle.xfs_geom.specs.declared.geometry.Geometry.{Geometry}
use Rattle.xfs_volume.specs.declared.files.FileRec.{FileRec}
use Rattle.xfs_volume.specs.declared.groups.GroupRec.{GroupRec}
use Rattle.xfs_image.specs.declared.findings.Finding.{Finding}
use Rattle.xfs_image.specs.Files.{clusters_of, files_at, files_read, inodes_of}
use Rattle.xfs_image.specs.Groups.{groups_read}
use Rattle.std.specs.List.{flat_map}
use Rattle.xfs_image.specs.Slots.{cluster_inodes}
use Rattle.xfs_slots.specs.Gathered.{Gathered, files_if, gathered}
use Rattle.xfs_slots.proofs.Gathering.{files_read_so}
use Rattle.xfs_image.specs.View.{catalog_of, counts_of, if_read, log_of, view}
use Rattle.xfs_image.specs.Directories.{dirs_read, entries_read}
use Rattle.xfs_image.specs.Lsns.{lsns_read}
use Rattle.xfs_geom.specs.declared.records.Counts.{Counts}
use Rattle.xfs_log.specs.xfs_heads.declared.log_state.LogState.{LogState}
use Rattle.xfs_dirdata.specs.declared.records.EntryRec.{EntryRec}
use Rattle.xfs_volume.specs.declared.directories.DirRec.{DirRec}
use Rattle.xfs_volume.specs.declared.catalogs.BlockLsn.{BlockLsn}

pub group_missing : (g : Geometry) (image : Image) (found : Finding) → Err found ≡ groups_read (volume_of g) image → Err found ≡ view g image
unfolding view
group_missing g image found is =
    ap (λ read. if_read read (λ groups. if_read (files_read (volume_of g) image groups) (λ files. Ok (catalog_of g image groups files)))) is

pub file_missing : (g : Geometry) (image : Image) (groups : List GroupRec) (found : Finding) → groups_read (volume_of g) image ≡ Ok groups
    → files_read (volume_of g) image groups ≡ Err found → Err found ≡ view g image
unfolding view
file_missing g image groups found read missing =
    sym (ap (λ read. if_read read (λ groups. if_read (files_read (volume_of g) image groups) (λ files. Ok (catalog_of g image groups files)))) read
    ∙ ap (λ read. if_read read (λ files. Ok (catalog_of g image groups files))) missing)

pub all_read : (g : Geometry) (image : Image) (groups : List GroupRec) (files : List FileRec) → groups_read (volume_of g) image ≡ Ok groups
    → files_read (volume_of g) image groups ≡ Ok files → Ok (catalog_of g image groups files) ≡ view g image
unfolding view
all_read g image groups files read held =
    sym (ap (λ read. if_read read (λ groups. if_read (files_read (volume_of g) image groups) (λ files. Ok (catalog_of g image groups files)))) read
    ∙ ap (λ read. if_read read (λ files. Ok (catalog_of g image groups files))) held)

-- the files of the clusters of all chunks
pub files_held : (v : Volume) (image : Image) (groups : List GroupRec) (clusters : List ℕ) (held : Gathered) → clusters ≡ clusters_of v groups
    → held ≡ gathered v image (flat_map (cluster_inodes v) clusters) → files_read v image groups ≡ files_if held.unread held.files
unfolding files_read inodes_of
files_held v image groups clusters held same all =
    ap (λ (firsts : List ℕ). files_at v image (flat_map (cluster_inodes v) firsts)) (sym same)
    ∙ files_read_so v image (flat_map (cluster_inodes v) clusters)
    ∙ ap (λ (g : Gathered). files_if g.unread g.files) (sym all)

-- a catalog whose parts are those of the image
pub catalog_is : (g : Geometry) (image : Image) (groups : List GroupRec) (files held : List FileRec) (entries : List EntryRec) (dirs : List DirRec) (counts : Counts) (log : LogState) (lsns : List BlockLsn)
    → held ≡ files → entries ≡ entries_read (volume_of g) image files → dirs ≡ dirs_read (volume_of g) image files → counts ≡ counts_of image → log ≡ log_of (volume_of g) image
    → lsns ≡ lsns_read (volume_of g) image groups files
    → record { geometry = g; groups = groups; files = held; entries = entries; dirs = dirs; counts = counts; log = log; lsns = lsns } ≡ catalog_of g image groups files
catalog_is g image groups files held entries dirs counts log lsns files_are entries_are dirs_are counts_are log_is lsns_are =
    ap₂ (λ (fs : List FileRec) (es : List EntryRec). record { geometry = g; groups = groups; files = fs; entries = es; dirs = dirs; counts = counts; log = log; lsns = lsns }) files_are entries_are
    ∙ ap₂ (λ (ds : List DirRec) (cs : Counts). record { geometry = g; groups = groups; files = files; entries = entries_read (volume_of g) image files; dirs = ds; counts = cs; log = log; lsns = lsns }) dirs_are counts_are
    ∙ ap₂ (λ (l : LogState) (ls : List BlockLsn). record { geometry = g; groups = groups; files = files; entries = entries_read (volume_of g) image files; dirs = dirs_read (volume_of g) image files; counts = counts_of image; log = l; lsns = ls }) log_is lsns_are
