-- The bytes of a file, with zeros behind them up to the end of a block.
use Rattle.std.specs.Prelude.{◌≡◌, ℕ, ◌/◌, ◌^◌, ◌≤◌, ◌<◌, List, length, take}
use Rattle.xfs_disk.specs.Memory.{blocks_of_bytes}
use Rattle.xfs_filled.specs.Contents.{content_blocks}

-- so many bytes of a file stand in front, and all are its blocks
pub record IsPadded (size : ℕ) (whole : List ℕ) : Type 0 where
  pub inside : size ≤ length whole
  pub few : size < 2 ^ 63
  pub blocks : blocks_of_bytes (length whole / 4096) whole ≡ content_blocks (take size whole)
