-- The uses of some blocks of a volume.
use Rattle.std.specs.Prelude.{ℕ, ◌+◌, ◌≤◌, List, length}
use Rattle.xfs_geom.specs.Volumes.{Volume}
use Rattle.xfs_geom.specs.declared.records.Run.{Run}
use Rattle.xfs_place.specs.declared.windows.Window.{Window}
use Rattle.xfs_place.specs.Pool.{Shows, use_of}

-- each block that is listed has the use that it has in the volume
pub record IsWindow (v : Volume) (runs : List Run) (reserved : List ℕ) (w : Window) : Type 0 where
  pub shows : Shows w.uses.items (length w.uses.items) (λ b. use_of v runs reserved (w.from + b))

-- so many blocks from a block on are listed
pub record HasBlocks (w : Window) (start count : ℕ) : Type 0 where
  pub from' : w.from ≤ start
  pub end : start + count ≤ w.from + length w.uses.items
