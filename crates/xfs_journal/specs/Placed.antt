-- Places of log sequence numbers, as they are listed and read.
use Rattle.std.specs.Prelude.{◌≡◌, ℕ, ◌+◌, ◌*◌, ◌<◌, ◌≤◌, List, ◌++◌, length, map, replicate, take, Option, Some, None, ⊤}
use Rattle.std.specs.List.{flat_map, range_with_len}
use Rattle.xfs_word.specs.Field.{field_of, part_of}
use Rattle.xfs_tree.specs.Blocks.{each_of}
use Rattle.xfs_log.specs.Log.{no_sector, seen_of}
use Rattle.xfs_log.specs.declared.sectors.SectorSeen.{SectorSeen}
use Rattle.xfs_word.specs.declared.extents.Extent.{Extent}
use Rattle.xfs_disk.specs.Blocks.{Image, bytes_of_block}
use Rattle.xfs_geom.specs.Volumes.{Volume}
use Rattle.xfs_image.specs.Lsns.{LsnPlace, cluster_places, dir_byte, extent_places}
use Rattle.xfs_journal.specs.declared.extents.Owner.{Owner}
use Rattle.xfs_journal.specs.declared.extents.Owner.TheVariants as owners
use Rattle.xfs_journal.specs.declared.places.LsnPosition.{LsnPosition}
use Rattle.xfs_journal.specs.declared.seen.SeenLog.{SeenLog}

abbrev pub lsn_place_of : LsnPosition → LsnPlace
lsn_place_of p = record { block = p.block; byte = p.byte }

abbrev pub listed : List LsnPosition → List LsnPlace
listed places = map lsn_place_of places

-- the number lies in the block
abbrev pub IsInBlock : LsnPosition → Type 0
IsInBlock p = p.byte + 8 ≤ 4096

-- where a block of a fork has its number
abbrev pub byte_of : Owner → ℕ → ℕ
byte_of owners.Directory offset = dir_byte offset
byte_of owners.Link offset = 48
byte_of owners.Attributes offset = 24

abbrev pub fork_places : Volume → Owner → List Extent → List LsnPlace
fork_places v owner extents = flat_map (extent_places v (byte_of owner)) extents

-- the block that is held has these bytes in the image
abbrev pub HoldsBlock : Image → Option ℕ → List ℕ → Type 0
HoldsBlock image None bytes = ⊤
HoldsBlock image (Some block) bytes = bytes_of_block image block ≡ bytes

-- the number that stands at a place
abbrev pub number_at : Image → LsnPlace → ℕ
number_at image p = field_of (bytes_of_block image p.block) p.byte 8

-- these are the numbers of the first slots of clusters, as many as there are
abbrev pub AreFirstNumbers : Image → List ℕ → List ℕ → Type 0
AreFirstNumbers image clusters numbers = numbers ≡ take (length numbers) (map (number_at image) (flat_map cluster_places clusters))

-- what is seen of a sector of a block
abbrev pub seen_in : List ℕ → ℕ → SectorSeen
seen_in block sector = seen_of (part_of block (512 * sector) 512)

-- what is seen of the sectors of so many blocks that stand one behind the other, from block k on
abbrev pub seen_in_blocks : List ℕ → ℕ → ℕ → List SectorSeen
seen_in_blocks bytes k count = flat_map (λ k. each_of 8 (seen_in (part_of bytes (k * 4096) 4096))) (range_with_len k count)

-- the sectors that were seen of a log: those that are listed, and behind them so many of zeros
abbrev pub sectors_of : SeenLog → List SectorSeen
sectors_of log = log.seen.items ++ replicate log.zeros no_sector

-- zeros are counted behind 512 sectors alone
abbrev pub IsListed : SeenLog → Type 0
IsListed log = length log.seen.items < 512 → log.zeros ≡ 0
