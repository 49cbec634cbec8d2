-- When a log is clean (chapter "Journaling Log"). Which logs count as clean is a choice of this project.
use Rattle.std.specs.Prelude.{◌≡◌, ℕ, ◌+◌, ◌-◌, ◌*◌, ◌/◌, ◌%◌, ◌^◌, ◌⊎◌, Bool, true, false, not, ◌&&◌, ◌||◌, ◌==◌, nat_le, nat_lt, min, if◌then◌else◌, List, [], ◌∷◌, ◌++◌, length, take, drop, replicate, slice_index_or, Option, Some, None, IsTrue}
use Rattle.std.specs.List.{list_all, prefix_len}
use Rattle.std.specs.Int.RustNames.{bit_and}
use Rattle.xfs_heads.specs.xfs_geom.Features.{or_else}
use Rattle.xfs_word.specs.Field.{field_of}
use Rattle.xfs_log.specs.declared.sectors.SectorSeen.{SectorSeen}
use Rattle.xfs_heads.specs.declared.log_state.LogState.{LogState}
use Rattle.xfs_heads.specs.declared.log_state.LogState.TheVariants.{Clean, Dirty}

-- a sector begins a record where its first number is the magic number of a record's header
abbrev pub is_header : List ℕ → Bool
is_header sector = field_of sector 0 4 == 0xfeed_babe

-- the header sectors of a record: where its version has bit 1 set, one for each 32768 bytes of its buffer
unfoldable pub sectors_of_header : ℕ → ℕ → ℕ
sectors_of_header version size = if not (bit_and version 2 == 0) && nat_lt 32768 size then (size + 32767) / 32768 else 1

-- what a header says: it has its cycle behind the magic number
abbrev pub header_seen : List ℕ → SectorSeen
header_seen sector = record {
  cycle = field_of sector 4 4;
  header = true;
  header_sectors = sectors_of_header (field_of sector 8 4) (field_of sector 320 4);
  len = field_of sector 12 4;
  single = field_of sector 40 4 == 1;
  flag = field_of sector 9 1;
}

-- what any other sector says: it has its cycle at its start
abbrev pub data_seen : List ℕ → SectorSeen
data_seen sector = record { cycle = field_of sector 0 4; header = false; header_sectors = 0; len = 0; single = false; flag = field_of sector 9 1 }

-- what of a sector says whether the log is clean
unfoldable pub seen_of : List ℕ → SectorSeen
seen_of sector = if is_header sector then header_seen sector else data_seen sector

-- the data sectors of a record
unfoldable pub data_sectors : SectorSeen → ℕ
data_sectors header = (header.len + 511) / 512

-- a record's data begins with an unmount record where the first data sector has bit 5 of its flags set
unfoldable pub has_unmount_flag : SectorSeen → Bool
has_unmount_flag sector = not (bit_and sector.flag 0x20 == 0)

-- a sector that was never written
abbrev pub is_unwritten_sector : SectorSeen → Bool
is_unwritten_sector sector = sector.cycle == 0 && not sector.header

-- a sector of this cycle
abbrev pub is_of_cycle : ℕ → SectorSeen → Bool
is_of_cycle cycle sector = sector.cycle == cycle

-- the cycle of the first sector
abbrev pub first_cycle : List SectorSeen → ℕ
first_cycle [] = 0
first_cycle (sector ∷ sectors) = sector.cycle

-- what stands at no place of a log
abbrev pub no_sector : SectorSeen
no_sector = record { cycle = 0; header = false; header_sectors = 0; len = 0; single = false; flag = 0 }

-- the sectors of a log, so many, of which the first are these and all others zeros
unfoldable pub all_sectors : List SectorSeen → ℕ → List SectorSeen
all_sectors seen sectors = seen ++ replicate (sectors - length seen) no_sector

-- the sector at a place of the log
abbrev pub sector_at : List SectorSeen → ℕ → SectorSeen
sector_at seen place = slice_index_or seen place no_sector

-- the place one further
abbrev pub one_further : Option ℕ → Bool → Option ℕ
one_further (Some place) first = Some (place + 1)
one_further None first = if first then Some 0 else None

-- the place of the last header
unfoldable pub last_header : List SectorSeen → Option ℕ
last_header [] = None
last_header (sector ∷ sectors) = one_further (last_header sectors) sector.header

-- the place of the nearest header, going back from the sector before this one and around the start
unfoldable pub nearest_header : List SectorSeen → ℕ → Option ℕ
nearest_header seen head = or_else (last_header (take head seen)) (last_header seen)

-- the record that a header begins is an unmount record alone: it has one operation, and the first of its data sectors the
-- flag
unfoldable pub is_unmount : List SectorSeen → ℕ → Bool
is_unmount seen start =
    (sector_at seen start).single
    && not ((sector_at seen start).len == 0)
    && has_unmount_flag (sector_at seen ((start + (sector_at seen start).header_sectors) % length seen))

-- the sectors of the record that a header begins
abbrev pub record_sectors : SectorSeen → ℕ
record_sectors header = header.header_sectors + data_sectors header

-- the record that a header begins ends before this sector, going around
unfoldable pub ends_at : List SectorSeen → ℕ → ℕ → Bool
ends_at seen start head = (start + record_sectors (sector_at seen start)) % length seen == head % length seen

-- the record of this header, where there is one, is an unmount record alone and ends before this sector
abbrev pub is_last : List SectorSeen → ℕ → Option ℕ → Bool
is_last seen head None = false
is_last seen head (Some start) = is_unmount seen start && ends_at seen start head

-- the last record before this sector is an unmount record alone and ends there
abbrev pub ends_in_unmount : List SectorSeen → ℕ → Bool
ends_in_unmount seen head = is_last seen head (nearest_header seen head)

-- the first sectors, so many, have this cycle and all others the one before it, and there ends an unmount record alone
unfoldable pub is_unmounted : List SectorSeen → ℕ → ℕ → Bool
is_unmounted seen cycle head =
    nat_le 1 cycle
    && nat_le 1 head
    && nat_le head (length seen)
    && list_all (is_of_cycle cycle) (take head seen)
    && list_all (is_of_cycle (cycle - 1)) (drop head seen)
    && ends_in_unmount seen head

-- the place, where there is one, is the first
abbrev pub is_at_start : Option ℕ → Bool
is_at_start None = false
is_at_start (Some place) = place == 0

-- the first sectors, so many, are an unmount record alone, with one header
unfoldable pub is_record : List SectorSeen → ℕ → Bool
is_record seen head = is_at_start (last_header (take head seen)) && record_sectors (sector_at seen 0) == head && is_unmount seen 0

-- the first sectors, so many, have this cycle, those behind them up to sector 512 were never written, and all others have
-- the cycle before it
unfoldable pub has_cleared_cycles : List SectorSeen → ℕ → ℕ → Bool
has_cleared_cycles seen cycle head =
    list_all (is_of_cycle cycle) (take head seen)
    && list_all is_unwritten_sector (take (512 - head) (drop head seen))
    && list_all (is_of_cycle (cycle - 1)) (drop 512 seen)

-- the tools of XFS cleared the log: they write 512 sectors at once, of which the first, so many, are an unmount record
unfoldable pub is_cleared : List SectorSeen → ℕ → ℕ → Bool
is_cleared seen cycle head =
    nat_le 512 (length seen)
    && nat_le 2 cycle
    && nat_le 1 head
    && nat_lt head 512
    && has_cleared_cycles seen cycle head
    && is_record seen head

-- the number of a head at a sector of this cycle; behind the last sector the next cycle begins
unfoldable pub head_number : ℕ → ℕ → ℕ → ℕ
head_number cycle head sectors = min (2 ^ 64 - 1) (if head == sectors then (cycle + 1) * 2 ^ 32 else cycle * 2 ^ 32 + head)

-- the record before this sector of this cycle is the last of the log and unmounts the volume
abbrev pub HasHead : List SectorSeen → ℕ → ℕ → Type 0
HasHead seen cycle head = IsTrue (is_unmounted seen cycle head) ⊎ IsTrue (is_cleared seen cycle head)

-- the log is clean, and this is the number of its head
abbrev pub IsHead : List SectorSeen → ℕ → Type 0
IsHead seen number =
    (IsTrue (list_all is_unwritten_sector seen) × (number ≡ 2 ^ 32))
    ⊎ ((cycle head : ℕ) × HasHead seen cycle head × (number ≡ head_number cycle head (length seen)))

-- how many sectors from the start on have the cycle of the first
abbrev pub front : List SectorSeen → ℕ
front seen = prefix_len (is_of_cycle (first_cycle seen)) seen

-- no two of the cases hold at once, and each holds of one cycle and one sector alone
pub record IsAlone (seen : List SectorSeen) : Type 0 where
  pub written : (cycle head : ℕ) → HasHead seen cycle head → list_all is_unwritten_sector seen ≡ false
  pub apart : (cycle head other place : ℕ) → IsTrue (is_unmounted seen cycle head) → is_cleared seen other place ≡ false
  pub cycle : (cycle head : ℕ) → HasHead seen cycle head → cycle ≡ first_cycle seen
  pub place : (cycle head : ℕ) → HasHead seen cycle head → head ≡ front seen

-- whether a log is clean, and where its head is
unfoldable pub state_of : List SectorSeen → LogState
state_of seen =
    if list_all is_unwritten_sector seen then Clean (2 ^ 32)
    else if is_unmounted seen (first_cycle seen) (front seen) || is_cleared seen (first_cycle seen) (front seen)
    then Clean (head_number (first_cycle seen) (front seen) (length seen))
    else Dirty
