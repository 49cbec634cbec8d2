-- What is placed in a new volume with files, and what its blocks are made of.
use Rattle.std.specs.Prelude.{ℕ, false, List, [], ◌++◌, length, map, replicate, Some}
use Rattle.std.specs.List.{flat_map, range_with_len}
use Rattle.xfs_disk.specs.declared.stamp.Stamp.{Stamp}
use Rattle.xfs_geom.specs.Volumes.{volume_of}
use Rattle.xfs_geom.specs.declared.geometry.Geometry.{Geometry}
use Rattle.xfs_geom.specs.declared.records.Run.{Run}
use Rattle.xfs_place.specs.declared.wanted.Wanted.{Wanted}
use Rattle.xfs_render.specs.declared.bytes.Bytes.{Bytes}
use Rattle.xfs_empty.specs.Bytes.{header_places}
use Rattle.xfs_proto.specs.declared.protofile.ProtoNode.{ProtoNode}
use Rattle.xfs_filled.specs.Chunks.{inodes_filled, chunk_at, chunk_starts, spared_list}
use Rattle.xfs_filled.specs.Contents.{all_blocks}
use Rattle.xfs_filled.specs.Objects.{all_objects}
use Rattle.xfs_filled.specs.Slots.{all_slots}

-- what is placed in a volume whose chunks begin at these blocks
abbrev pub wanted_by_chunks : Geometry → List ℕ → List ProtoNode → List (List ℕ) → Wanted
wanted_by_chunks g starts ns contents = record {
  geometry = g;
  taken = [];
  new = map chunk_at starts;
  reserved = [];
  from = 24;
  spared_from = spared_list g;
  takes_spared = false;
  objects = all_objects (volume_of g) starts ns contents;
  inodes = inodes_filled g (length ns) starts;
}

-- what is placed in a volume with these files
abbrev pub filled_wanted : Geometry → List ProtoNode → List (List ℕ) → Wanted
filled_wanted g ns contents = wanted_by_chunks g (chunk_starts g (length ns)) ns contents

-- the first blocks of the groups, and behind them the blocks of the chunks
abbrev pub blocks_of_chunks : List ℕ → List ℕ
blocks_of_chunks starts = flat_map (λ start. range_with_len start 8) starts

abbrev pub filled_places : Geometry → List ℕ → List ℕ
filled_places g starts = header_places g.agblocks g.agcount ++ blocks_of_chunks starts

-- blocks that were zeros, the blocks of the objects, the slots of the chunks with what stands in these runs, and a blank log of cycle 1
abbrev pub bytes_with : Geometry → List ℕ → Stamp → List ℕ → List ProtoNode → List (List ℕ) → List Run → Bytes
bytes_with g sector s starts ns contents runs = record {
  sector = sector;
  places = filled_places g starts;
  old = replicate (length (filled_places g starts)) (replicate 4096 0);
  objects = all_blocks (volume_of g) starts ns contents;
  slots = all_slots (volume_of g) s starts ns contents runs;
  cycle = Some 1;
  stamp = s;
}

abbrev pub filled_bytes : Geometry → List ℕ → Stamp → List ProtoNode → List (List ℕ) → List Run → Bytes
filled_bytes g sector s ns contents runs = bytes_with g sector s (chunk_starts g (length ns)) ns contents runs
