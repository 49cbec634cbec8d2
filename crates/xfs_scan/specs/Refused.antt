-- The volumes that are refused: those with too many inodes, extents or entries, and those with a file whose features are not
-- supported.
use Rattle.std.specs.Prelude.{ℕ, ◌+◌, ◌^◌, length, nat_lt, if◌then◌else◌, Option, Some, None}
use Rattle.std.specs.List.{sum_by}
use Rattle.xfs_disk.specs.Blocks.{Image}
use Rattle.xfs_geom.specs.Volumes.{Volume}
use Rattle.xfs_volume.specs.declared.files.FileRec.{FileRec}
use Rattle.xfs_image.specs.Claims.{candidate_inodes, entry_count, total_extents, inode_count}
use Rattle.xfs_slots.specs.Gathered.{first_feature}
use Rattle.xfs_scan.specs.declared.faults.ScanFault.{ScanFault}
use Rattle.xfs_scan.specs.declared.faults.ScanFault.TheVariants as faults
use Rattle.xfs_slots.specs.declared.inodes.InodeFeature.{InodeFeature}
use Rattle.xfs_slots.specs.declared.inodes.Inodes.{Inodes}

-- the extents of both forks of a file
abbrev pub extents_of : FileRec → ℕ
extents_of = λ (f : FileRec). length f.extents + length f.rest.attr_extents

-- a count above its limit is refused, else what comes later
abbrev pub unless_more : ℕ → ℕ → ℕ → Option ScanFault → Option ScanFault
unless_more limit what count later = if nat_lt limit count then Some (faults.TooLarge what count) else later

abbrev pub feature_refused : Option InodeFeature → Option ScanFault
feature_refused None = None
feature_refused (Some f) = Some (faults.UnsupportedFile f.ino f.what)

-- more than 2^23 extents of candidate files, more than 2^23 entries of candidate directories, or else a candidate inode with a
-- feature that is not supported
unfoldable pub refused_late : Volume → Image → Option ScanFault
refused_late v image =
    unless_more (2 ^ 23) 2 (total_extents v image) (
    unless_more (2 ^ 23) 3 (entry_count v image) (
    feature_refused (first_feature v image (candidate_inodes v image))))

-- the same of what the slots of the candidates give
abbrev pub late_in : Inodes → Option ScanFault
late_in inodes =
    unless_more (2 ^ 23) 2 (sum_by extents_of inodes.files.items) (
    unless_more (2 ^ 23) 3 (length inodes.entries.items) (
    feature_refused inodes.feature))

-- the first cause for which a volume is refused: more than 2^21 inodes in candidate clusters, or else one of those
unfoldable pub refused : Volume → Image → Option ScanFault
refused v image = unless_more (2 ^ 21) 1 (inode_count v image) (refused_late v image)
