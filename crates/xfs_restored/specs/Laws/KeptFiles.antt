-- Laws about the files of a rebuilt volume. Each function does nothing; its contract is the laws.
use Rattle.std.specs.Prelude.{◌≡◌, ℕ, List, Ok}
use Rattle.std.specs.List.{flat_map}
use Rattle.xfs_disk.specs.Blocks.{Image}
use Rattle.xfs_disk.specs.declared.stamp.Stamp.{Stamp}
use Rattle.xfs_geom.specs.Volumes.{volume_of}
use Rattle.xfs_geom.specs.declared.geometry.Geometry.{Geometry}
use Rattle.xfs_image.specs.Candidates.{candidates}
use Rattle.xfs_image.specs.Claims.{candidate_files}
use Rattle.xfs_image.specs.Files.{clusters_of, files_read, inodes_of}
use Rattle.xfs_laws.specs.Counting.{is_used}
use Rattle.xfs_space.specs.Owners.{file_runs}
use Rattle.xfs_volume.specs.declared.groups.GroupRec.{GroupRec}
use Rattle.xfs_place.specs.declared.placed.GroupPlaced.{GroupPlaced}
use Rattle.xfs_rename.specs.xfs_made.Groups.{due_groups}
use Rattle.xfs_salvage.specs.declared.found.Salvaged.{Salvaged}
use Rattle.xfs_rename.specs.xfs_request.Chunks.{is_inode_used}
use Rattle.xfs_rename.specs.xfs_request.Requests.{volume_wanted}
use Rattle.xfs_rename.specs.xfs_request.declared.seen.SlotSeen.{SlotSeen}
use Rattle.xfs_rename.specs.xfs_made.Handed.{IsKeptOf}
use Rattle.xfs_restored.specs.DueFiles.{kept_inodes, rebuilt_files, stated_crc}
use Rattle.xfs_restored.specs.Kept.{HasKept}

-- The clusters of the chunks that are asked for what is kept of an image are the kept ones, however the rest is placed
-- (`clusters`), so their inodes are those of the kept clusters (`inodes`).
abbrev pub RewrittenChunksAreKeptClusters : Type 0
RewrittenChunksAreKeptClusters = (g : Geometry) (image : Image) (kept : Salvaged) (reserved : List ℕ) (groups : List GroupPlaced) (agf_crc agi_crc : ℕ → ℕ)
    → IsKeptOf (volume_of g) (candidates (volume_of g) image) (candidate_files (volume_of g) image) kept
    → clusters_of (volume_of g) (due_groups (volume_of g) (volume_wanted g kept reserved).inodes groups agf_crc agi_crc) ≡ kept.clusters

-- of the same, `inodes`
abbrev pub RewrittenChunksAreKeptInodes : Type 0
RewrittenChunksAreKeptInodes = (g : Geometry) (image : Image) (kept : Salvaged) (reserved : List ℕ) (groups : List GroupPlaced) (agf_crc agi_crc : ℕ → ℕ)
    → IsKeptOf (volume_of g) (candidates (volume_of g) image) (candidate_files (volume_of g) image) kept
    → inodes_of (volume_of g) (due_groups (volume_of g) (volume_wanted g kept reserved).inodes groups agf_crc agi_crc) ≡ kept_inodes (volume_of g) kept

-- Where the inodes of the chunks are those of the kept clusters, the files that read are the due ones: the kept files and those
-- that are made anew, by number.
abbrev pub RewrittenFilesRead : Type 0
RewrittenFilesRead = (g : Geometry) (s : Stamp) (image now : Image) (kept : Salvaged) (seen : List SlotSeen) (groups : List GroupRec) → HasKept g s image now kept seen
    → inodes_of (volume_of g) groups ≡ kept_inodes (volume_of g) kept
    → files_read (volume_of g) now groups ≡ Ok (rebuilt_files (volume_of g) s kept seen (stated_crc (volume_of g) now))

-- The rebuilt files own just the blocks that the kept files own (`runs`), and have the numbers of these and of those that are made anew
-- (`used`).
abbrev pub RebuiltFilesOwnWhatIsKeptRuns : Type 0
RebuiltFilesOwnWhatIsKeptRuns = (g : Geometry) (s : Stamp) (kept : Salvaged) (seen : List SlotSeen) (crc : ℕ → ℕ)
    → flat_map (file_runs (volume_of g)) (rebuilt_files (volume_of g) s kept seen crc) ≡ flat_map (file_runs (volume_of g)) kept.files

-- of the same, `used`
abbrev pub RebuiltFilesOwnWhatIsKeptUsed : Type 0
RebuiltFilesOwnWhatIsKeptUsed = (g : Geometry) (s : Stamp) (kept : Salvaged) (seen : List SlotSeen) (crc : ℕ → ℕ) (ino : ℕ)
    → is_used (rebuilt_files (volume_of g) s kept seen crc) ino ≡ is_inode_used kept ino
