-- Where a chunk of inodes can stand (chapter "AG Inode Management").
use Rattle.std.specs.Prelude.{ℕ, Bool, ◌+◌, ◌*◌, ◌/◌, ◌&&◌, nat_le, List, map}
use Rattle.std.specs.List.{filter, flat_map, list_all, range_with_len}
use Rattle.xfs_geom.specs.Volumes.{Volume, volume_of}
use Rattle.xfs_geom.specs.Conversions.{group_length}
use Rattle.xfs_place.specs.Pool.{is_pool_unspared}
use Rattle.xfs_place.specs.declared.chunk_search.ChunkAsk.{ChunkAsk}

-- size blocks from AG block at on lie behind the first eight of a group of so many blocks, from AG block `from` on, and before the end of its last
-- whole eight
abbrev pub lies_in_chunks : ℕ → ℕ → ℕ → ℕ → Bool
lies_in_chunks length size from at = nat_le 8 at && nat_le from at && nat_le (at + size) (length / 8 * 8)

module _ (v : Volume) (pool : ℕ → Bool) (size from : ℕ) where
  -- the blocks of number i among those of size blocks of a group can be a chunk: they lie where chunks may stand, and are all of the
  -- pool
  unfoldable pub is_room : ℕ → ℕ → Bool
  is_room ag i = lies_in_chunks (group_length v ag) size from (i * size) && list_all pool (range_with_len (ag * v.agblocks + i * size) size)

  -- the first blocks of the chunks among the first n of a group, ascending
  unfoldable pub rooms_below : ℕ → ℕ → List ℕ
  rooms_below ag n = map (λ i. ag * v.agblocks + i * size) (filter (is_room ag) (range_with_len 0 n))

  -- those of a group
  abbrev pub rooms_of : ℕ → List ℕ
  rooms_of ag = rooms_below ag (group_length v ag / size)

  -- those of the volume
  unfoldable pub rooms : List ℕ
  rooms = flat_map rooms_of (range_with_len 0 v.agcount)

-- the blocks that a request leaves to chunks, and the chunks that it can have
abbrev pub asked_pool : ChunkAsk → ℕ → Bool
asked_pool ask = is_pool_unspared (volume_of ask.geometry) ask.taken ask.reserved ask.spared_from

abbrev pub asked_rooms : ChunkAsk → List ℕ
asked_rooms ask = rooms (volume_of ask.geometry) (asked_pool ask) ask.size ask.from
