-- What is put down, in the order in which it is to be written.
use Rattle.std.specs.Prelude.{◌≡◌, ℕ, ◌≤◌, ◌==◌, List, ◌++◌, take, drop, count_by}
use Rattle.std.specs.List.Sorted.{IsPermutation, IsStrictlyIncreasing}
use Rattle.xfs_disk.specs.Blocks.{Image}
use Rattle.xfs_writing.specs.declared.rows.Row.{Row}
use Rattle.xfs_render.specs.Drafts.{AreInBank, HoldsDraft, HoldsRows, row_places}
use Rattle.xfs_render.specs.declared.draft.Draft.{Draft}
use Rattle.xfs_render.specs.declared.plan.Plan.{Plan}

-- all rows of a plan, and the numbers of all its blocks
abbrev pub plan_rows : Plan → List Row
plan_rows plan = plan.fresh ++ plan.in_place

abbrev pub planned : Plan → List ℕ
planned plan = row_places plan.fresh ++ row_places plan.in_place

-- the image has the blocks of a plan at their places
pub record HoldsPlan (image : Image) (plan : Plan) : Type 0 where
  pub each : HoldsRows (plan_rows plan) plan.bank image

-- no number stands twice in the list
pub record IsOnce (places : List ℕ) : Type 0 where
  pub each : (place : ℕ) → count_by (λ other. other == place) places ≤ 1

-- the blocks of a draft in ascending order, the first so many and then the others, with the bytes that they had
pub record IsArranged (draft : Draft) (first : ℕ) (plan : Plan) : Type 0 where
  pub fresh' : IsPermutation (row_places (take first draft.rows.items)) (row_places plan.fresh)
  pub in_place' : IsPermutation (row_places (drop first draft.rows.items)) (row_places plan.in_place)
  pub bank' : plan.bank ≡ draft.bank
  pub inside : AreInBank (plan_rows plan) plan.bank
  pub fresh_ascend : IsOnce (row_places (take first draft.rows.items)) → IsStrictlyIncreasing (row_places plan.fresh)
  pub in_place_ascend : IsOnce (row_places (drop first draft.rows.items)) → IsStrictlyIncreasing (row_places plan.in_place)
  pub apart : IsOnce (row_places (take first draft.rows.items) ++ row_places (drop first draft.rows.items)) → IsOnce (planned plan)
  pub held : (image : Image) → HoldsPlan image plan → HoldsDraft image draft
