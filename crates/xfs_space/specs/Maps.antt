-- Maps of owners: runs in order, of which no two have a block in common.
use Rattle.std.specs.Prelude.{ℕ, ◌+◌, ◌^◌, ◌≤◌, ◌<◌, ◌≡◌, ◌≢◌, List}
use Rattle.std.specs.List.{All}
use Rattle.xfs_geom.specs.declared.records.Run.{Run}
use Rattle.xfs_kinds.specs.MergedRuns.{held_at}
use Rattle.xfs_kinds.specs.OffsetWords.{offset_in_fork}
use Rattle.xfs_volume.specs.declared.findings.Law.{Law}
use Rattle.xfs_space.specs.SpaceLaws.{owner_at}
use Rattle.xfs_space.specs.Sorted.{Follow}

-- some blocks with small numbers, an owner and an offset word that eight bytes hold, at offsets that a fork can have
pub record IsMapped (r : Run) : Type 0 where
  pub some : 1 ≤ r.count
  pub end : r.start + r.count < 2 ^ 63
  pub owner : r.owner < 2 ^ 64
  pub offset : r.offset_word < 2 ^ 64
  pub fork : offset_in_fork r.offset_word + r.count ≤ 2 ^ 54

pub record AreMapped (runs : List Run) : Type 0 where
  pub each : All IsMapped runs
  pub follow : Follow 0 runs

-- two maps give each block the same owner and offset word
abbrev pub AreAlike : List Run → List Run → Type 0
AreAlike xs ys = (block : ℕ) → held_at xs block ≡ held_at ys block

-- the block is the first to which two maps give different owners or offset words
pub record IsFirstDifference (xs ys : List Run) (block : ℕ) : Type 0 where
  pub differs : held_at xs block ≢ held_at ys block
  pub least : (before : ℕ) → before < block → held_at xs before ≡ held_at ys before

-- the law is what the third law says of that block
pub record IsFirstUnlike (xs ys : List Run) (law : Law) : Type 0 where
  pub first : IsFirstDifference xs ys law.place
  pub is : law ≡ owner_at xs ys law.place
