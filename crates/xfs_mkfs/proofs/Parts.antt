-- The two parts in which the rows of a plan are written.
use Rattle.std.proofs.Common.{◌≡◌, ℕ, ◌+◌, ◌≤◌, ◌⊎◌, inl, inr, List, [], ◌∷◌, ◌++◌, length, Option, Some, refl, sym, ap, ap₂, ◌∙◌, subst, arith}
use Rattle.std.specs.List.{All}
use Rattle.std.proofs.lemmas.List.Elements.{All-drop, All-take}
use Rattle.std.proofs.lemmas.List.Sorted.{length_permutation}
use Rattle.xfs_disk.specs.Counts.{raised_times}
use Rattle.xfs_disk.specs.Blocks.{Image}
use Rattle.xfs_render.specs.Plans.{plan_rows, planned}
use Rattle.xfs_render.specs.declared.plan.Plan.{Plan}
use Rattle.xfs_writing.specs.Stopped.{IsStopped}
use Rattle.xfs_writing.specs.Writing.{IsPartly, written, writes_of_rows}
use Rattle.xfs_writing.specs.declared.rows.Row.{Row}
use Rattle.xfs_mkfs.proofs.Rows.{count_plan}
use Rattle.xfs_mkfs.specs.Order.{AreRowsOfPlan, first_part, last_part}
use Rattle.xfs_mkfs.specs.Putting.{IsPut, IsPutPartly, IsPutStopped}

pub count_rows : (rows : List Row) → length (first_part rows) + length (last_part rows) ≡ length rows
count_rows [] = refl
count_rows (r ∷ rows) = omega arith

module _ (plan : Plan) (rows first last : List Row) (are : AreRowsOfPlan plan rows) (one : first ≡ first_part rows) (two : last ≡ last_part rows) where
  -- each block of the plan is in one of them
  pub count_parts : length first + length last ≡ length (planned plan)
  count_parts =
      let both : length first + length last ≡ length (first_part rows) + length (last_part rows) = ap₂ (λ (a b : List Row). length a + length b) one two in
      let same : length rows ≡ length (plan_rows plan) = length_permutation (plan_rows plan) rows are.all in
      omega (arith, both, same, count_rows rows, count_plan plan)

  pub all_first : (P : Row → Type 0) → All P rows → All P first
  all_first P all = subst (λ (rs : List Row). All P rs) (sym one) (All-drop P 1 rows all)

  pub all_last : (P : Row → Type 0) → All P rows → All P last
  all_last P all = subst (λ (rs : List Row). All P rs) (sym two) (All-take P 1 rows all)

  pub put_all : (image : Image) (now : Option Image) → now ≡ Some (written (writes_of_rows plan.bank (first ++ last)) image) → IsPut plan image now
  put_all image now held = record {
    rows = rows;
    order = are;
    held = held ∙ ap₂ (λ (a b : List Row). Some (written (writes_of_rows plan.bank (a ++ b)) image)) one two;
  }

  pub put_partly : (image : Image) (n : ℕ) (now : Option Image) → IsPartly (writes_of_rows plan.bank (first ++ last)) image n now → IsPutPartly plan image n now
  put_partly image n now partly = record {
    rows = rows;
    order = are;
    partly =
        subst (λ (a : List Row). IsPartly (writes_of_rows plan.bank (a ++ last_part rows)) image n now) one
        (subst (λ (b : List Row). IsPartly (writes_of_rows plan.bank (first ++ b)) image n now) two partly);
  }

  pub put_stopped : (image stopped : Image) → IsStopped (writes_of_rows plan.bank first) (writes_of_rows plan.bank last) image stopped → IsPutStopped plan image stopped
  put_stopped image stopped parts = record {
    rows = rows;
    order = are;
    parts =
        subst (λ (a : List Row). IsStopped (writes_of_rows plan.bank a) (writes_of_rows plan.bank (last_part rows)) image stopped) one
        (subst (λ (b : List Row). IsStopped (writes_of_rows plan.bank first) (writes_of_rows plan.bank b) image stopped) two parts);
  }

  pub stopped_put : (image stopped : Image) (Before : Type 0) → Before ⊎ IsStopped (writes_of_rows plan.bank first) (writes_of_rows plan.bank last) image stopped
      → Before ⊎ IsPutStopped plan image stopped
  stopped_put image stopped Before (inl was) = inl was
  stopped_put image stopped Before (inr parts) = inr (put_stopped image stopped parts)

  pub counts_all : (before now : ℕ) → now ≡ raised_times (length first + length last) before → now ≡ raised_times (length (planned plan)) before
  counts_all before now counted = counted ∙ ap (λ (n : ℕ). raised_times n before) count_parts

  pub most_planned : (n : ℕ) → n ≤ length first + length last → n ≤ length (planned plan)
  most_planned n most = omega (arith, most, count_parts)
