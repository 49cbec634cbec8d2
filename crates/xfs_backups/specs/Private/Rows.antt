-- The blocks of backups that are to be written.
use Rattle.std.specs.Prelude.{ℕ, List, map}
use Rattle.std.specs.List.{filter, range_with_len}
use Rattle.xfs_disk.specs.Blocks.{Image}
use Rattle.xfs_backups.specs.Backups.{disagrees, start_of}

-- the blocks at which those of n groups begin, from a group on, whose backup does not agree with the primary
abbrev pub disagreeing_places : List ℕ → Image → ℕ → ℕ → List ℕ
disagreeing_places primary image group n = map (start_of primary) (filter (disagrees primary image) (range_with_len group n))
