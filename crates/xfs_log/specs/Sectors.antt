-- The sectors of a block, and those of the log (chapter "Journaling Log").
use Rattle.std.specs.Prelude.{ℕ, ◌*◌, List, map}
use Rattle.std.specs.List.{flat_map, range_with_len}
use Rattle.xfs_word.specs.Field.{part_of}
use Rattle.xfs_disk.specs.Blocks.{Image, bytes_of_block}
use Rattle.xfs_heads.specs.xfs_geom.Volumes.{Volume}

-- one of the eight sectors of 512 bytes of a block
abbrev pub sector_in : Image → ℕ → ℕ → List ℕ
sector_in image block sector = part_of (bytes_of_block image block) (512 * sector) 512

-- all sectors of the log, in order
abbrev pub log_sectors : Volume → Image → List (List ℕ)
log_sectors v image = flat_map (λ block. map (sector_in image block) (range_with_len 0 8)) (range_with_len v.log v.logblocks)
