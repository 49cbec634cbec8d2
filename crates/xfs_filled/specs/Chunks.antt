-- The chunks of inodes of a new volume, and what they leave free (chapter "AG Inode Management").
use Rattle.std.specs.Prelude.{ℕ, true, ◌+◌, ◌-◌, ◌*◌, ◌/◌, ◌%◌, ◌^◌, ◌==◌, min, List, [], ◌∷◌, length, map, take, slice_index_or}
use Rattle.std.specs.List.{filter, range_with_len}
use Rattle.xfs_geom.specs.Volumes.{Volume, volume_of}
use Rattle.xfs_geom.specs.declared.geometry.Geometry.{Geometry}
use Rattle.xfs_geom.specs.declared.records.InoRec.{InoRec}
use Rattle.xfs_geom.specs.declared.records.Run.{Run}
use Rattle.xfs_place.specs.Chunks.{asked_rooms}
use Rattle.xfs_place.specs.Pool.{is_pool}
use Rattle.xfs_place.specs.Sparing.{spared_of}
use Rattle.xfs_place.specs.declared.chunk_search.ChunkAsk.{ChunkAsk}
use Rattle.xfs_place.specs.declared.faults.Unplaced.TheVariants.{Chunk}
use Rattle.xfs_place.specs.declared.wanted.GroupInodes.{GroupInodes}
use Rattle.xfs_filled.specs.Numbers.{further_chunks}

-- the blocks of a chunk from a block on
abbrev pub chunk_at : ℕ → Run
chunk_at start = record { start = start; count = 8; owner = 2 ^ 64 - 7; offset_word = 0 }

-- of each group the AG block from which on its blocks are spared for trees: by the pool as it is before anything is placed
abbrev pub spared_list : Geometry → List ℕ
spared_list g = map (spared_of (volume_of g) (is_pool (volume_of g) [] []) true) (range_with_len 0 g.agcount)

-- the chunks behind the first that so many files ask for
abbrev pub further_ask : Geometry → ℕ → ChunkAsk
further_ask g files = record {
  geometry = g;
  taken = chunk_at 16 ∷ [];
  reserved = [];
  size = 8;
  from = 24;
  spared_from = spared_list g;
  count = further_chunks files;
  what = Chunk;
}

-- the first blocks of all chunks: the first at block 16, the others on the lowest blocks that serve
unfoldable pub chunk_starts : Geometry → ℕ → List ℕ
chunk_starts g files = 16 ∷ take (further_chunks files) (asked_rooms (further_ask g files))

-- how many inodes of chunk c are in use, and which are free: those behind them
abbrev pub used_in_chunk : ℕ → ℕ → ℕ
used_in_chunk files c = min 64 (files + 2 - 64 * c)

abbrev pub chunk_record : Volume → ℕ → List ℕ → ℕ → InoRec
chunk_record v files starts c = record {
  startino = slice_index_or starts c 0 % v.agblocks * 8;
  holemask = 0;
  count = 64;
  freecount = 64 - used_in_chunk files c;
  free = 2 ^ 64 - 2 ^ used_in_chunk files c;
}

-- the records of the chunks of a group, and of all groups
abbrev pub chunks_of_group : Volume → ℕ → List ℕ → ℕ → List InoRec
chunks_of_group v files starts ag =
    map (chunk_record v files starts) (filter (λ c. slice_index_or starts c 0 / v.agblocks == ag) (range_with_len 0 (length starts)))

abbrev pub inodes_of_group : Volume → ℕ → List ℕ → ℕ → GroupInodes
inodes_of_group v files starts ag = record { records = chunks_of_group v files starts ag }

abbrev pub inodes_filled : Geometry → ℕ → List ℕ → List GroupInodes
inodes_filled g files starts = map (inodes_of_group (volume_of g) files starts) (range_with_len 0 g.agcount)
