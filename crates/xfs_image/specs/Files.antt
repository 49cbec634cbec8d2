-- The files of a volume: what the slots of the recorded chunks read as (chapters "AG Inode Management" and "On-disk Inode").
use Rattle.std.specs.Prelude.{◌≡◌, ◌⊎◌, ℕ, ◌+◌, List, [], ◌∷◌, ◌++◌, Result, Ok, Err}
use Rattle.std.specs.List.{flat_map}
use Rattle.xfs_disk.specs.Blocks.{Image}
use Rattle.xfs_geom.specs.Volumes.{Volume}
use Rattle.xfs_inode.specs.declared.files.FileRead.{FileRead}
use Rattle.xfs_inode.specs.declared.files.FileRead.TheVariants as Reads
use Rattle.xfs_volume.specs.declared.files.FileRec.{FileRec}
use Rattle.xfs_volume.specs.declared.groups.GroupRec.{GroupRec}
use Rattle.xfs_image.specs.declared.findings.Finding.{Finding}
use Rattle.xfs_image.specs.declared.findings.Finding.TheVariants as Found
use Rattle.xfs_image.specs.Clusters.{chunk_clusters}
use Rattle.xfs_image.specs.Slots.{reads_as, cluster_inodes}

-- the clusters of the chunks of some groups, from one on
abbrev pub clusters_from : Volume → ℕ → List GroupRec → List ℕ
clusters_from v ag [] = []
clusters_from v ag (g ∷ gs) = chunk_clusters v ag g.ino ++ clusters_from v (ag + 1) gs

-- the clusters of all chunks of a volume, by block
unfoldable pub clusters_of : Volume → List GroupRec → List ℕ
clusters_of v groups = clusters_from v 0 groups

-- the inodes of all chunks of a volume, by number
unfoldable pub inodes_of : Volume → List GroupRec → List ℕ
inodes_of v groups = flat_map (cluster_inodes v) (clusters_of v groups)

-- a free slot has no file, a file with its attributes is one, and all else is found at the inode
abbrev pub with_file_read : ℕ → FileRead → Result (List FileRec) Finding → Result (List FileRec) Finding
with_file_read ino Reads.Free rest = rest
with_file_read ino (Reads.File file) (Ok rest) = Ok (file ∷ rest)
with_file_read ino (Reads.File file) (Err found) = Err found
with_file_read ino (Reads.FileWithoutAttrs file) rest = Err (Found.Part 9 ino)
with_file_read ino (Reads.Unsupported what) rest = Err (Found.Part 9 ino)
with_file_read ino Reads.Unsound rest = Err (Found.Part 9 ino)

-- the files among some inodes, in order; or the first inode that is neither free nor a file
abbrev pub files_at : Volume → Image → List ℕ → Result (List FileRec) Finding
files_at v image [] = Ok []
files_at v image (ino ∷ inos) = with_file_read ino (reads_as v image ino) (files_at v image inos)

-- all files of a volume, by number
unfoldable pub files_read : Volume → Image → List GroupRec → Result (List FileRec) Finding
files_read v image groups = files_at v image (inodes_of v groups)

-- each of these slots is free or that of a file with its attributes, and these are the files
abbrev pub AreFilesRead : Volume → Image → List ℕ → List FileRec → Type 0
AreFilesRead v image [] files = files ≡ []
AreFilesRead v image (ino ∷ inos) files =
    ((reads_as v image ino ≡ Reads.Free) × AreFilesRead v image inos files)
    ⊎ ((file : FileRec) × (rest : List FileRec) × (reads_as v image ino ≡ Reads.File file) × (files ≡ file ∷ rest) × AreFilesRead v image inos rest)
