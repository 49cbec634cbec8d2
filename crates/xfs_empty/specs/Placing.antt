-- What is placed in an empty volume (chapters "AG Inode Management" and "Reverse-Mapping B+tree").
use Rattle.std.specs.Prelude.{ℕ, false, ◌-◌, ◌^◌, ◌==◌, if◌then◌else◌, List, [], ◌∷◌, map}
use Rattle.std.specs.List.{range_with_len}
use Rattle.xfs_geom.specs.declared.geometry.Geometry.{Geometry}
use Rattle.xfs_geom.specs.declared.records.InoRec.{InoRec}
use Rattle.xfs_geom.specs.declared.records.Run.{Run}
use Rattle.xfs_place.specs.declared.wanted.GroupInodes.{GroupInodes}
use Rattle.xfs_place.specs.declared.wanted.Wanted.{Wanted}

-- the first chunk of inodes, 128 to 191 at blocks 16 to 23, of which three are in use
abbrev pub first_chunk : InoRec
first_chunk = record { startino = 128; holemask = 0; count = 64; freecount = 61; free = 0xffff_ffff_ffff_fff8 }

abbrev pub chunk_run : Run
chunk_run = record { start = 16; count = 8; owner = 2 ^ 64 - 7; offset_word = 0 }

-- the records of inodes of a group: the first group has the first chunk, the others have none
abbrev pub chunks_of : ℕ → List InoRec
chunks_of ag = if ag == 0 then first_chunk ∷ [] else []

abbrev pub group_inodes : ℕ → GroupInodes
group_inodes ag = record { records = chunks_of ag }

abbrev pub all_inodes : ℕ → List GroupInodes
all_inodes agcount = map group_inodes (range_with_len 0 agcount)

-- no object, and the first chunk
abbrev pub empty_wanted : Geometry → Wanted
empty_wanted g = record {
  geometry = g;
  taken = [];
  new = chunk_run ∷ [];
  reserved = [];
  from = 24;
  spared_from = [];
  takes_spared = false;
  objects = [];
  inodes = all_inodes g.agcount;
}
