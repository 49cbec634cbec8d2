-- A law about the directories of a rebuilt volume. The function does nothing; its contract is the laws.
use Rattle.std.specs.Prelude.{◌≡◌, ℕ, List}
use Rattle.xfs_disk.specs.Blocks.{Image}
use Rattle.xfs_disk.specs.declared.stamp.Stamp.{Stamp}
use Rattle.xfs_geom.specs.Volumes.{volume_of}
use Rattle.xfs_geom.specs.declared.geometry.Geometry.{Geometry}
use Rattle.xfs_image.specs.Candidates.{candidates}
use Rattle.xfs_image.specs.Claims.{candidate_files}
use Rattle.xfs_image.specs.Directories.{dirs_read, entries_read}
use Rattle.xfs_salvage.specs.Kept.{entries_of_kept, kept_dirs}
use Rattle.xfs_salvage.specs.declared.found.Salvaged.{Salvaged}
use Rattle.xfs_rename.specs.xfs_request.declared.seen.SlotSeen.{SlotSeen}
use Rattle.xfs_restored.specs.DueFiles.{rebuilt_dirs, rebuilt_files}
use Rattle.xfs_restored.specs.Kept.{HasKept}

-- The entries of the due files are those that are kept of the image (`entries`), and so are the directories, but for a root that is
-- made anew, which is whole, without entries, and its own parent (`dirs`).
abbrev pub RewrittenDirectoriesReadEntries : Type 0
RewrittenDirectoriesReadEntries = (g : Geometry) (s : Stamp) (image now : Image) (kept : Salvaged) (seen : List SlotSeen) (crc : ℕ → ℕ) → HasKept g s image now kept seen
    → kept.entries ≡ entries_of_kept (volume_of g) (candidates (volume_of g) image) (candidate_files (volume_of g) image) (entries_read (volume_of g) image (candidate_files (volume_of g) image))
    → entries_read (volume_of g) now (rebuilt_files (volume_of g) s kept seen crc) ≡ kept.entries

-- of the same, `dirs`
abbrev pub RewrittenDirectoriesReadDirs : Type 0
RewrittenDirectoriesReadDirs = (g : Geometry) (s : Stamp) (image now : Image) (kept : Salvaged) (seen : List SlotSeen) (crc : ℕ → ℕ) → HasKept g s image now kept seen
    → kept.dirs ≡ kept_dirs (volume_of g) (candidates (volume_of g) image) (candidate_files (volume_of g) image) (dirs_read (volume_of g) image (candidate_files (volume_of g) image))
    → dirs_read (volume_of g) now (rebuilt_files (volume_of g) s kept seen crc) ≡ rebuilt_dirs g.rootino kept
