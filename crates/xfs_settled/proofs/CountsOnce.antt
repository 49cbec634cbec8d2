-- How many blocks are written of a plan is given by the image before and the image after.
use Rattle.std.proofs.Common.{◌≡◌, ℕ, ◌+◌, ◌++◌, Bool, not, cond, List, [], ◌∷◌, get_or, length, refl, sym, ap, ap₂, ◌∙◌, arith}
use Rattle.std.specs.List.{count_by}
use Rattle.std.specs.Str.{bytes_eq}
use Rattle.std.proofs.lemmas.List.{length-append}
use Rattle.std.proofs.lemmas.List.Elements.{All-head, All-tail}
use Rattle.std.proofs.lemmas.List.Sorted.{sum_by-IsPermutation}
use Rattle.std.proofs.lemmas.List.Sums.{length-filter, sum_by-append, sum_by-cons}
use Rattle.xfs_disk.specs.Blocks.{Image, bytes_of_block}
use Rattle.xfs_place.specs.declared.placed.Placed.{Placed}
use Rattle.xfs_place.specs.declared.wanted.Wanted.{Wanted}
use Rattle.xfs_mend.specs.xfs_rebuild.Differing.{differs, left_to_write}
use Rattle.xfs_mend.specs.xfs_rebuild.Rebuilds.{IsLeft}
use Rattle.xfs_mend.specs.xfs_rebuild.declared.planning.Rebuilt.{Rebuilt}
use Rattle.xfs_render.specs.Drafts.{HoldsRows, row_places}
use Rattle.xfs_render.specs.Plans.{HoldsPlan, plan_rows, planned}
use Rattle.xfs_render.specs.Rendering.{IsRendered, blocks_in_place, fresh_blocks}
use Rattle.xfs_render.specs.declared.bytes.Bytes.{Bytes}
use Rattle.xfs_render.specs.declared.plan.Plan.{Plan}
use Rattle.xfs_mend.proofs.xfs_restored.RowsWritten.{both_left, planned_is}
use Rattle.xfs_writing.specs.declared.rows.Row.{Row}

-- all blocks that are planned
abbrev pub all_blocks : Wanted → Placed → Bytes → List ℕ
all_blocks w p b = fresh_blocks w p b ++ blocks_in_place w b

-- a block is not as it was
abbrev pub is_changed : Image → Image → ℕ → Bool
is_changed before now k = not (bytes_eq (bytes_of_block before k) (bytes_of_block now k))

-- how many blocks a rebuild writes
abbrev pub blocks_written : Rebuilt → ℕ
blocks_written r = length r.fresh + length r.in_place

module _ (before now : Image) where
  rows_counted : (bank : Image) (rows : List Row) → HoldsRows rows bank now → count_by (differs bank before) rows ≡ count_by (is_changed before now) (row_places rows)
  rows_counted bank [] held = refl
  rows_counted bank (r ∷ rows) held =
      let Holds : Row → Type 0 = λ (x : Row). bytes_of_block now x.at ≡ get_or bank x.index [] in
      let here : differs bank before r ≡ is_changed before now r.at = ap (λ (bytes : List ℕ). not (bytes_eq (bytes_of_block before r.at) bytes)) (sym (All-head Holds r rows held)) in
      let first = sum_by-cons (λ (x : Row). cond (differs bank before x) 1 0) r rows in
      let second = sum_by-cons (λ (k : ℕ). cond (is_changed before now k) 1 0) r.at (row_places rows) in
      let one : ◌≡◌ {A = ℕ} (cond (differs bank before r) 1 0) (cond (is_changed before now r.at) 1 0) = ap (λ (t : Bool). cond t 1 0) here in
      let rest = rows_counted bank rows (All-tail Holds r rows held) in
      omega (arith, first, second, one, rest)

  pub written_counted : (w : Wanted) (p : Placed) (b : Bytes) (plan : Plan) (r : Rebuilt) → IsRendered w p b plan → IsLeft before plan r → HoldsPlan now plan
      → blocks_written r ≡ count_by (is_changed before now) (all_blocks w p b)
  written_counted w p b plan r is left holds =
      let test : ℕ → ℕ = λ k. cond (is_changed before now k) 1 0 in
      let rows : r.fresh ++ r.in_place ≡ left_to_write plan.bank before (plan_rows plan) =
      ap₂ (λ (x y : List Row). x ++ y) left.fresh' left.in_place' ∙ both_left plan.bank before plan in
      let long : length (r.fresh ++ r.in_place) ≡ blocks_written r = length-append r.fresh r.in_place in
      let many : length (left_to_write plan.bank before (plan_rows plan)) ≡ count_by (is_changed before now) (row_places (plan_rows plan)) =
      length-filter (differs plan.bank before) (plan_rows plan) ∙ rows_counted plan.bank (plan_rows plan) holds.each in
      let places : count_by (is_changed before now) (row_places (plan_rows plan)) ≡ count_by (is_changed before now) (planned plan) =
      ap (λ (xs : List ℕ). count_by (is_changed before now) xs) (sym (planned_is plan)) in
      let parts = sum_by-append test (row_places plan.fresh) (row_places plan.in_place) in
      let all = sum_by-append test (fresh_blocks w p b) (blocks_in_place w b) in
      let fresh = sum_by-IsPermutation test (fresh_blocks w p b) (row_places plan.fresh) is.fresh in
      let in_place = sum_by-IsPermutation test (blocks_in_place w b) (row_places plan.in_place) is.in_place in
      omega (arith, ap length rows, long, many, places, parts, all, fresh, in_place)
