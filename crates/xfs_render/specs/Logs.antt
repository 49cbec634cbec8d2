-- A log that is blank in an image (chapter "Journaling Log").
use Rattle.std.specs.Prelude.{◌≡◌, ℕ, ◌+◌, ◌-◌, ◌*◌, ◌^◌, ◌≤◌, ◌<◌, List, map}
use Rattle.std.specs.List.{flat_map, range_with_len}
use Rattle.xfs_word.specs.Field.{part_of}
use Rattle.xfs_disk.specs.Blocks.{Image, bytes_of_block}
use Rattle.xfs_geom.specs.Volumes.{Volume}
use Rattle.xfs_log.specs.BlankLog.{IsBlank, blank_seen}
use Rattle.xfs_log.specs.Log.{seen_of, state_of}
use Rattle.xfs_log.specs.Sectors.{log_sectors}
use Rattle.xfs_log.specs.xfs_heads.declared.log_state.LogState.TheVariants.{Clean}
use Rattle.xfs_tree.specs.Blocks.{each_of}
use Rattle.xfs_render.specs.Drafts.{Adds, HoldsDraft, last_block}
use Rattle.xfs_render.specs.declared.draft.Draft.{Draft}

-- one of the eight sectors of a block
abbrev pub sector_of : List ℕ → ℕ → List ℕ
sector_of block k = part_of block (512 * k) 512

-- the sector is that of a blank log at its place
pub record IsBlankAt (cycle : ℕ) (uuid : List ℕ) (place : ℕ) (sector : List ℕ) : Type 0 where
  pub blank : IsBlank cycle place uuid sector
  pub seen : seen_of sector ≡ blank_seen cycle place

-- the eight sectors of a block of the log are
pub record IsBlankBlock (cycle : ℕ) (uuid : List ℕ) (number : ℕ) (block : List ℕ) : Type 0 where
  pub each : (k : ℕ) → k < 8 → IsBlankAt cycle uuid (8 * number + k) (sector_of block k)

-- the log is blank, and so it is clean
pub record IsBlankLog (v : Volume) (cycle : ℕ) (image : Image) : Type 0 where
  pub blank : (i : ℕ) → i < v.logblocks → IsBlankBlock cycle v.uuid i (bytes_of_block image (v.log + i))
  pub clean : state_of (map seen_of (log_sectors v image)) ≡ Clean (cycle * 2 ^ 32 + 2)

-- those behind its second block, up to block n, were put down
pub record AddsRest (v : Volume) (cycle n : ℕ) (old new : Draft) : Type 0 where
  pub adds : Adds old new (range_with_len (v.log + 2) (n - 2)) 0
  pub reads : (image : Image) → HoldsDraft image new → (i : ℕ) → 2 ≤ i → i < n → IsBlankBlock cycle v.uuid i (bytes_of_block image (v.log + i))
  pub last : last_block new.bank ≡ last_block old.bank

-- the blocks of a blank log were put down: the bank has the first two, and all others are as the second is
pub record AddsLog (v : Volume) (cycle : ℕ) (old new : Draft) : Type 0 where
  pub adds : Adds old new (range_with_len v.log v.logblocks) 2
  pub reads : (image : Image) → HoldsDraft image new → IsBlankLog v cycle image
