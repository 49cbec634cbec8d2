-- The numbers of the inodes of a new volume: the root, the two system inodes, and behind them the other files by their places, chunk by
-- chunk (chapter "AG Inode Management").
use Rattle.std.specs.Prelude.{ℕ, ◌+◌, ◌-◌, ◌/◌, ◌%◌, ◌==◌, min, if◌then◌else◌, List, slice_index_or}
use Rattle.xfs_geom.specs.Conversions.{inode_of}
use Rattle.xfs_geom.specs.Volumes.{Volume}

-- how many chunks so many files have, with the two system inodes
abbrev pub chunk_count : ℕ → ℕ
chunk_count files = (files + 2 + 63) / 64

-- how many chunks are asked for behind the first; a volume has never more of them
abbrev pub further_chunks : ℕ → ℕ
further_chunks files = min (chunk_count files - 1) 0xffff_ffff

-- inode j of all chunks, which begin at these blocks
abbrev pub inode_at : Volume → List ℕ → ℕ → ℕ
inode_at v starts j = inode_of v (slice_index_or starts (j / 64) 0 + j % 64 / 8) (j % 8)

-- which inode of all chunks the file at a place has: the root the first, the system inodes stand behind it
abbrev pub index_of_place : ℕ → ℕ
index_of_place k = if k == 0 then 0 else k + 2

-- the number of the file at a place
abbrev pub number_of : Volume → List ℕ → ℕ → ℕ
number_of v starts k = inode_at v starts (index_of_place k)
