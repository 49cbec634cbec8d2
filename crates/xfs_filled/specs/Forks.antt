-- The data forks of the inodes of a new volume (chapters "On-disk Inode" and "Data Extents").
use Rattle.std.specs.Prelude.{ℕ, false, ◌≤◌, ◌+◌, ◌-◌, ◌*◌, ◌/◌, ◌^◌, ◌==◌, min, nat_le, if◌then◌else◌, List, [], length, map, Option, Some, None}
use Rattle.std.specs.List.{filter, flat_map, range_with_len, sum_by}
use Rattle.xfs_dirdata.specs.Bytes.{big_endian}
use Rattle.xfs_geom.specs.Conversions.{address_of}
use Rattle.xfs_geom.specs.Volumes.{Volume}
use Rattle.xfs_geom.specs.declared.records.Run.{Run}
use Rattle.xfs_inodebuild.specs.declared.forks.ForkWanted.{ForkWanted}
use Rattle.xfs_kinds.specs.OffsetWords.{offset_in_fork}
use Rattle.xfs_place.specs.Objects.{most_extent_blocks}
use Rattle.xfs_word.specs.Extent.{packed}
use Rattle.xfs_word.specs.declared.extents.Extent.{Extent}
use Rattle.xfs_proto.specs.declared.protofile.ProtoKind.{ProtoKind}
use Rattle.xfs_proto.specs.declared.protofile.ProtoKind.TheVariants as Kind
use Rattle.xfs_filled.specs.Directories.{fresh_fork_bytes}
use Rattle.xfs_filled.specs.declared.directories.MadeDirectory.{MadeDirectory}

-- the offsets of a run fit an extent
pub record HasOffset (r : Run) : Type 0 where
  pub fits : offset_in_fork r.offset_word + r.count ≤ 2 ^ 54

-- extent i of a run: extents have at most 2^21 - 1 blocks
abbrev pub extent_of_piece : Volume → Run → ℕ → Extent
extent_of_piece v r i = record {
  offset = offset_in_fork r.offset_word + i * most_extent_blocks;
  start = address_of v (r.start + i * most_extent_blocks);
  count = min most_extent_blocks (r.count - i * most_extent_blocks);
  unwritten = false;
}

-- the extents of a run, and of all runs of an inode, in order
abbrev pub extents_of_run : Volume → Run → List Extent
extents_of_run v r = map (extent_of_piece v r) (range_with_len 0 ((r.count + (most_extent_blocks - 1)) / most_extent_blocks))

abbrev pub owned_by : ℕ → List Run → List Run
owned_by ino runs = filter (λ (r : Run). r.owner == ino) runs

abbrev pub extents_of_owner : Volume → ℕ → List Run → List Extent
extents_of_owner v ino runs = flat_map (extents_of_run v) (owned_by ino runs)

abbrev pub local_fork : List ℕ → ForkWanted
local_fork bytes = record { format = 1; size = length bytes; nblocks = 0; nextents = 0; bytes = bytes }

-- the extents of a file of so many bytes
abbrev pub extent_fork : ℕ → List Extent → ForkWanted
extent_fork size extents = record {
  format = 2;
  size = size;
  nblocks = sum_by (λ (e : Extent). e.count) extents;
  nextents = length extents;
  bytes = flat_map packed extents;
}

-- what stands in the fork of a file without content
abbrev pub device_fork : List ℕ → ForkWanted
device_fork bytes = record { format = 0; size = 0; nblocks = 0; nextents = 0; bytes = bytes }

abbrev pub device_bytes : ℕ → ℕ → List ℕ
device_bytes major minor = big_endian 4 (major * 2 ^ 18 + minor)

-- a directory has blocks where it has data blocks, else the short form
abbrev pub directory_fork : Option MadeDirectory → List Extent → ForkWanted
directory_fork None extents = device_fork []
directory_fork (Some d) extents = if d.data_blocks == 0 then local_fork d.short else extent_fork (4096 * d.data_blocks) extents

abbrev pub target_fork : List ℕ → List Extent → ForkWanted
target_fork target extents = if nat_le (length target) fresh_fork_bytes then local_fork target else extent_fork (length target) extents

-- the fork of a file by its kind, with this directory, these bytes and extents
abbrev pub fork_of_kind : ProtoKind → Option MadeDirectory → List ℕ → List Extent → ForkWanted
fork_of_kind (Kind.Regular name line) made content extents = extent_fork (length content) extents
fork_of_kind Kind.Directory made content extents = directory_fork made extents
fork_of_kind (Kind.Link target) made content extents = target_fork target extents
fork_of_kind (Kind.Block major minor) made content extents = device_fork (device_bytes major minor)
fork_of_kind (Kind.Character major minor) made content extents = device_fork (device_bytes major minor)
fork_of_kind Kind.Pipe made content extents = device_fork []
