-- A law about blank logs. The function does nothing; its contract is the law.
use Rattle.std.specs.Prelude.{◌≡◌, ℕ, ◌+◌, ◌<◌}
use Rattle.xfs_disk.specs.Blocks.{Image, bytes_of_block}
use Rattle.xfs_geom.specs.Volumes.{Volume}
use Rattle.xfs_render.specs.Logs.{IsBlankLog}
use Rattle.xfs_settled.specs.Sectors.{AreSized}

-- Two images whose logs are blank, in one cycle, have the same blocks there.
abbrev pub BlankLogsAreOne : Type 0
BlankLogsAreOne = (v : Volume) (cycle : ℕ) (a b : Image) → IsBlankLog v cycle a → IsBlankLog v cycle b → (i : ℕ) → i < v.logblocks
    → AreSized 4096 (bytes_of_block a (v.log + i)) → AreSized 4096 (bytes_of_block b (v.log + i)) → bytes_of_block a (v.log + i) ≡ bytes_of_block b (v.log + i)
