-- A small volume, for worked examples: two groups of 1024 blocks, the log from block 1030 on, the root inode 128.
use Rattle.std.specs.Prelude.{ℕ, ◌^◌, ◌-◌, true, false, List, [], ◌∷◌, replicate}
use Rattle.xfs_word.specs.declared.extents.Extent.{Extent}
use Rattle.xfs_geom.specs.Volumes.{Volume}
use Rattle.xfs_geom.specs.declared.records.InoRec.{InoRec}
use Rattle.xfs_geom.specs.declared.records.RmapRec.{RmapRec}
use Rattle.xfs_image.specs.Lsns.{LsnPlace}

abbrev pub small_example : Volume
small_example = record {
  dblocks = 2048;
  agblocks = 1024;
  agcount = 2;
  agblklog = 10;
  log = 1030;
  logblocks = 512;
  rootino = 128;
  logsectlog = 0;
  uuid = replicate 16 0;
}

-- the chunk of inodes 128 to 191 with a mask of missing ones
abbrev pub chunk : ℕ → InoRec
chunk holemask = record { startino = 128; holemask = holemask; count = 64; freecount = 61; free = 0 }

-- blocks of a group that are given to the clusters
abbrev pub given : ℕ → ℕ → RmapRec
given start count = record { start = start; count = count; owner = 2 ^ 64 - 7; offset_word = 0 }

-- blocks 24 and 25 as blocks 1 and 2 of a file, blocks 26 and 27 as its blocks 4 and 5, which are not written yet
abbrev pub extents : List Extent
extents = record { offset = 1; start = 24; count = 2; unwritten = false } ∷ record { offset = 4; start = 26; count = 2; unwritten = true } ∷ []

abbrev pub lsn_place : ℕ → ℕ → LsnPlace
lsn_place block byte = record { block = block; byte = byte }
