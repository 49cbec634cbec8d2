-- A blank log: an unmount record of one cycle at its start, and nothing else (chapter "Journaling Log").
use Rattle.std.specs.Prelude.{◌≡◌, ℕ, zero, suc, ◌-◌, ◌*◌, ◌^◌, true, false, List, map}
use Rattle.std.specs.List.{range_with_len}
use Rattle.xfs_word.specs.Field.{field_of, part_of, IsZero}
use Rattle.xfs_log.specs.declared.sectors.SectorSeen.{SectorSeen}

-- the header of a blank log's record, in the cycle of this number, with zeros beside its fields
pub record IsBlankHeader (number : ℕ) (uuid sector : List ℕ) : Type 0 where
  pub magicno : field_of sector 0 4 ≡ 0xfeed_babe
  pub cycle : field_of sector 4 4 ≡ number
  pub version : field_of sector 8 4 ≡ 2
  pub len : field_of sector 12 4 ≡ 512
  pub lsn : field_of sector 16 8 ≡ number * 2 ^ 32
  pub tail_lsn : field_of sector 24 8 ≡ number * 2 ^ 32
  pub crc : field_of sector 32 4 ≡ 0
  pub prev_block : field_of sector 36 4 ≡ 2 ^ 32 - 1
  pub num_logops : field_of sector 40 4 ≡ 1
  pub cycle_data : field_of sector 44 4 ≡ 0xb0c0_d0d0
  pub zero_behind_cycle_data : IsZero sector 48 252
  pub fmt : field_of sector 300 4 ≡ 1
  pub fs_uuid : part_of sector 304 16 ≡ uuid
  pub size : field_of sector 320 4 ≡ 32768
  pub zero_behind_size : IsZero sector 324 188

-- the data sector of a blank log's record: its operation of 8 bytes, with the cycle in place of the transaction, and zeros
pub record IsBlankData (cycle : ℕ) (sector : List ℕ) : Type 0 where
  pub transaction : field_of sector 0 4 ≡ cycle
  pub len : field_of sector 4 4 ≡ 8
  pub operation : field_of sector 8 4 ≡ 0xaa20_0000
  pub magic : field_of sector 12 4 ≡ 0x6e55_0000
  pub zero_behind : IsZero sector 16 496

-- any other sector of a blank log: the cycle before, and zeros
pub record IsBlankRest (cycle : ℕ) (sector : List ℕ) : Type 0 where
  pub before : field_of sector 0 4 ≡ cycle - 1
  pub zero_behind : IsZero sector 4 508

-- the sector of a blank log at a place
abbrev pub IsBlank : ℕ → ℕ → List ℕ → List ℕ → Type 0
IsBlank cycle zero uuid sector = IsBlankHeader cycle uuid sector
IsBlank cycle (suc zero) uuid sector = IsBlankData cycle sector
IsBlank cycle (suc (suc place)) uuid sector = IsBlankRest cycle sector

-- what the sector of a blank log at a place says
abbrev pub blank_seen : ℕ → ℕ → SectorSeen
blank_seen cycle zero = record { cycle = cycle; header = true; header_sectors = 1; len = 512; single = true; flag = 0 }
blank_seen cycle (suc zero) = record { cycle = cycle; header = false; header_sectors = 0; len = 0; single = false; flag = 0x20 }
blank_seen cycle (suc (suc place)) = record { cycle = cycle - 1; header = false; header_sectors = 0; len = 0; single = false; flag = 0 }

-- what so many sectors of a blank log say
unfoldable pub blank_log : ℕ → ℕ → List SectorSeen
blank_log cycle sectors = map (blank_seen cycle) (range_with_len 0 sectors)
