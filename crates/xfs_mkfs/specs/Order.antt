-- The blocks of a plan in the order in which they are written.
use Rattle.std.specs.Prelude.{List, ◌++◌, take, drop}
use Rattle.std.specs.List.Sorted.{IsNonDecreasingBy, IsPermutation}
use Rattle.xfs_render.specs.Plans.{plan_rows}
use Rattle.xfs_render.specs.declared.plan.Plan.{Plan}
use Rattle.xfs_writing.specs.Writing.{Writes, writes_of_rows}
use Rattle.xfs_writing.specs.declared.rows.Row.{Row}

-- all blocks of a plan in ascending order
pub record AreRowsOfPlan (plan : Plan) (rows : List Row) : Type 0 where
  pub all : IsPermutation (plan_rows plan) rows
  pub ascend : IsNonDecreasingBy (λ (r : Row). r.at) rows

-- all rows but the first, which are written first
abbrev pub first_part : List Row → List Row
first_part rows = drop 1 rows

-- the first row, which is written last
abbrev pub last_part : List Row → List Row
last_part rows = take 1 rows

-- what is written of these rows, in the order of writing
abbrev pub all_writes : Plan → List Row → Writes
all_writes plan rows = writes_of_rows plan.bank (first_part rows ++ last_part rows)
