-- The image of a volume that was rebuilt holds the plan, and what was rendered stands in it.
use Rattle.std.proofs.Common.{◌≡◌, ℕ, ◌<◌, false, List, ◌++◌, length, get_or, sym, ap, ap₂, ◌∙◌, subst, arith}
use Rattle.std.specs.List.{All}
use Rattle.xfs_disk.specs.Blocks.{Image, bytes_of_block}
use Rattle.xfs_disk.specs.declared.stamp.Stamp.{Stamp}
use Rattle.xfs_geom.specs.Volumes.{volume_of}
use Rattle.xfs_geom.specs.declared.geometry.Geometry.{Geometry}
use Rattle.xfs_place.specs.Pool.{is_listed}
use Rattle.xfs_render.specs.Drafts.{HoldsRows, row_places}
use Rattle.xfs_render.specs.Plans.{HoldsPlan, IsOnce, plan_rows, planned}
use Rattle.xfs_render.specs.declared.plan.Plan.{Plan}
use Rattle.xfs_rename.specs.xfs_made.Standing.{HasHeads, IsStanding}
use Rattle.xfs_rename.specs.xfs_request.Requests.{volume_wanted}
use Rattle.xfs_writing.specs.Writing.{writes_of_rows, written}
use Rattle.xfs_writing.specs.declared.rows.Row.{Row}
use Rattle.xfs_rename.proofs.xfs_made.OnceLists.{counted}
use Rattle.xfs_rename.specs.xfs_rebuild.Differing.{differs, left_to_write}
use Rattle.xfs_rename.specs.xfs_rebuild.Rebuilds.{Ground, IsLeft, IsPlannedOn, asked, slots_asked}
use Rattle.xfs_rename.specs.xfs_rebuild.declared.planning.Rebuilt.{Rebuilt}
use Rattle.xfs_restored.specs.Rewriting.{IsRewritten}
use Rattle.xfs_rename.proofs.xfs_made.Counting.{unlisted}
use Rattle.xfs_restored.proofs.Kept.{head_place}
use Rattle.xfs_restored.proofs.Placed.{all_inside, blocks_once}
use Rattle.xfs_restored.proofs.RowsWritten.{both_left, equal_left, left_count, left_once, length_written, planned_is, rows_beside, rows_held, rows_of}

-- as large as it was
pub same_size : (g : Geometry) (r : Rebuilt) (image now : Image) → IsRewritten g r image now → length now ≡ length image
same_size g r image now is = ap length is.is ∙ length_written (writes_of_rows r.bank (r.fresh ++ r.in_place)) image

-- what is left of a plan to write
rows_left : (image : Image) (plan : Plan) (r : Rebuilt) → IsLeft image plan r → r.fresh ++ r.in_place ≡ left_to_write plan.bank image (plan_rows plan)
rows_left image plan r left = ap₂ (λ (a b : List Row). a ++ b) left.fresh' left.in_place' ∙ both_left plan.bank image plan

written_left : (image : Image) (plan : Plan) (r : Rebuilt) → IsLeft image plan r
    → written (writes_of_rows r.bank (r.fresh ++ r.in_place)) image ≡ written (writes_of_rows plan.bank (left_to_write plan.bank image (plan_rows plan))) image
written_left image plan r left =
    ap₂ (λ (bank : Image) (rows : List Row). written (writes_of_rows bank rows) image) left.bank' (rows_left image plan r left)

pub left_over_once : (image : Image) (plan : Plan) (r : Rebuilt) → IsLeft image plan r → IsOnce (planned plan) → IsOnce (row_places (r.fresh ++ r.in_place))
left_over_once image plan r left once =
    subst (λ (rows : List Row). IsOnce (row_places rows)) (sym (rows_left image plan r left))
    (left_once (differs plan.bank image) (plan_rows plan) (subst IsOnce (planned_is plan) once))

-- a plan is held, of which what differs was written
pub plan_held : (image : Image) (plan : Plan) → IsOnce (planned plan) → All (λ block. block < length image) (planned plan)
    → HoldsRows (plan_rows plan) plan.bank (written (writes_of_rows plan.bank (left_to_write plan.bank image (plan_rows plan))) image)
plan_held image plan once inside =
    rows_held plan.bank (differs plan.bank image) (plan_rows plan) image (subst IsOnce (planned_is plan) once)
    (rows_of (λ at. at < length image) (plan_rows plan) (subst (All (λ at. at < length image)) (planned_is plan) inside))
    (equal_left plan.bank image (plan_rows plan))

pub plan_beside : (image : Image) (plan : Plan) (block : ℕ) → is_listed (planned plan) block ≡ false
    → bytes_of_block (written (writes_of_rows plan.bank (left_to_write plan.bank image (plan_rows plan))) image) block ≡ bytes_of_block image block
plan_beside image plan block out =
    let few = left_count (differs plan.bank image) (plan_rows plan) block in
    let none : counted block (planned plan) ≡ 0 = unlisted (planned plan) block out in
    let same : counted block (planned plan) ≡ counted block (row_places (plan_rows plan)) = ap (counted block) (planned_is plan) in
    rows_beside plan.bank (left_to_write plan.bank image (plan_rows plan)) image block (omega (arith, few, none, same))

module _ (g : Geometry) (sector : List ℕ) (s : Stamp) (image now : Image) (on : Ground) (r : Rebuilt) (is : IsPlannedOn g sector s image on r) (new : IsRewritten g r image now) where
  now_is : now ≡ written (writes_of_rows is.planned.plan.bank (left_to_write is.planned.plan.bank image (plan_rows is.planned.plan))) image
  now_is = new.is ∙ written_left image is.planned.plan r is.planned.left

  inside : All (λ block. block < length image) (planned is.planned.plan)
  inside = λ k d low. let here = all_inside g sector s image on r is k d low in omega (arith, here, new.enough)

  pub holds : HoldsPlan now is.planned.plan
  holds = record {
    each =
        subst (HoldsRows (plan_rows is.planned.plan) is.planned.plan.bank) (sym now_is)
        (plan_held image is.planned.plan (blocks_once g sector s image on r is) inside);
  }

  pub others_stay : (block : ℕ) → is_listed (planned is.planned.plan) block ≡ false → bytes_of_block now block ≡ bytes_of_block image block
  others_stay block out = ap (λ (j : Image). bytes_of_block j block) now_is ∙ plan_beside image is.planned.plan block out

  heads : HasHeads (asked g on) is.bytes
  unfolding volume_wanted
  heads ag low =
      let at = head_place (volume_of g) on.kept.clusters (slots_asked g s on) ag low in (
        ag,
        subst (λ (ps : List ℕ). ag < length ps) (sym is.made.at_hand.places') at.0,
        ap (λ (ps : List ℕ). get_or ps ag 0) is.made.at_hand.places' ∙ at.1,
      )

  pub stands : IsStanding (asked g on) is.planned.placed is.bytes is.planned.rendered.super now
  unfolding volume_wanted
  stands = record {
    volume' = is.planned.rendered.reads now holds;
    due = is.planned.rendered.due;
    heads = heads;
    size = let same = same_size g r image now new in omega (arith, same, new.enough);
  }

pub left_rows_once : (g : Geometry) (sector : List ℕ) (s : Stamp) (image : Image) (on : Ground) (r : Rebuilt) → IsPlannedOn g sector s image on r → IsOnce (row_places (r.fresh ++ r.in_place))
left_rows_once g sector s image on r is = left_over_once image is.planned.plan r is.planned.left (blocks_once g sector s image on r is)
