-- An image in which rows were written, but for some that it held already, holds all of them.
use Rattle.std.proofs.Common.{◌≡◌, ℕ, ◌≤◌, ◌<◌, ◌==◌, Bool, true, false, not, cond, List, [], ◌∷◌, ◌++◌, length, get_or, set, filter, refl, sym, ap, ◌∙◌, subst, arith}
use Rattle.std.specs.List.{All}
use Rattle.std.specs.Str.{bytes_eq}
use Rattle.std.proofs.lemmas.Bool.{eq-eqb}
use Rattle.std.proofs.lemmas.List.{get_or-set_other, get_or-set_same, length-set, map-append}
use Rattle.std.proofs.lemmas.List.Elements.{All-cons, All-head, All-nil, All-tail, filter-append}
use Rattle.std.proofs.lemmas.Slice.Eq.{bytes_eq-Decides}
use Rattle.xfs_disk.specs.Blocks.{Image, bytes_of_block}
use Rattle.xfs_render.specs.Drafts.{HoldsRows, row_places}
use Rattle.xfs_render.specs.Plans.{IsOnce, plan_rows, planned}
use Rattle.xfs_render.specs.declared.plan.Plan.{Plan}
use Rattle.xfs_writing.specs.Writing.{Writes, writes_of_rows, written}
use Rattle.xfs_writing.specs.declared.rows.Row.{Row}
use Rattle.xfs_rename.proofs.xfs_made.OnceLists.{counted}
use Rattle.xfs_rename.specs.xfs_rebuild.Differing.{differs, left_to_write}
use Rattle.xfs_rename.proofs.xfs_made.Counting.{counted_cons, once_rest, one_if}

-- as many blocks as before
pub length_written : (writes : Writes) (image : Image) → length (written writes image) ≡ length image
length_written [] image = refl
length_written (w ∷ writes) image = length_written writes (set image w.0 w.1) ∙ length-set image w.0 w.1

-- rows of which some are left out have each place at most as often
pub left_count : (test : Row → Bool) (rows : List Row) (at : ℕ) → counted at (row_places (filter test rows)) ≤ counted at (row_places rows)
left_count test [] at = omega arith
left_count test (r ∷ rows) at = by_case (test r) (left_count test rows at)
  where
    by_case : (t : Bool) → counted at (row_places (filter test rows)) ≤ counted at (row_places rows)
        → counted at (row_places (cond t (r ∷ filter test rows) (filter test rows))) ≤ counted at (row_places (r ∷ rows))
    by_case true rest = omega (arith, rest, counted_cons at r.at (row_places (filter test rows)), counted_cons at r.at (row_places rows))
    by_case false rest = omega (arith, rest, counted_cons at r.at (row_places rows))

pub left_once : (test : Row → Bool) (rows : List Row) → IsOnce (row_places rows) → IsOnce (row_places (filter test rows))
left_once test rows once = record { each = λ at. let few = left_count test rows at in let most = once.each at in omega (arith, few, most) }

-- a place that is counted nowhere is none of the rows
differ : (a b : ℕ) → one_if (a == b) ≡ 0 → b ≡ a → ⊥
differ a b none same = let one : one_if (a == b) ≡ 1 = ap one_if (eq-eqb a b (sym same)) in absurd (omega (arith, none, one))

none_at : (rows : List Row) (at : ℕ) → counted at (row_places rows) ≡ 0 → All (λ (r : Row). one_if (r.at == at) ≡ 0) rows
none_at [] at none = All-nil (λ (r : Row). one_if (r.at == at) ≡ 0)
none_at (r ∷ rows) at none =
    let sum = counted_cons at r.at (row_places rows) in
    All-cons (λ (q : Row). one_if (q.at == at) ≡ 0) r rows (omega (arith, sum, none)) (none_at rows at (omega (arith, sum, none)))

-- a block stays that no row has
pub rows_beside : (bank : Image) (rows : List Row) (image : Image) (at : ℕ) → counted at (row_places rows) ≡ 0
    → bytes_of_block (written (writes_of_rows bank rows) image) at ≡ bytes_of_block image at
rows_beside bank [] image at none = refl
rows_beside bank (r ∷ rows) image at none =
    let sum = counted_cons at r.at (row_places rows) in
    rows_beside bank rows (set image r.at (get_or bank r.index [])) at (omega (arith, sum, none))
    ∙ get_or-set_other image r.at at (get_or bank r.index []) [] (differ r.at at (omega (arith, sum, none)))

-- the image has the bytes of the rows that are left out
abbrev HoldsLeft : Image → Image → (Row → Bool) → List Row → Type 0
HoldsLeft image bank test rows = All (λ (r : Row). test r ≡ false → bytes_of_block image r.at ≡ get_or bank r.index []) rows

abbrev AreInside : Image → List Row → Type 0
AreInside image rows = All (λ (r : Row). r.at < length image) rows

pub rows_held : (bank : Image) (test : Row → Bool) (rows : List Row) (image : Image) → IsOnce (row_places rows) → AreInside image rows → HoldsLeft image bank test rows
    → HoldsRows rows bank (written (writes_of_rows bank (filter test rows)) image)
rows_held bank test [] image once inside left = All-nil (λ (r : Row). bytes_of_block image r.at ≡ get_or bank r.index [])
rows_held bank test (r ∷ rows) image once inside left = by_case (test r) refl (rows_held bank test rows)
  where
    none : counted r.at (row_places rows) ≡ 0
    none =
        let sum = counted_cons r.at r.at (row_places rows) in
        let one : one_if (r.at == r.at) ≡ 1 = ap one_if (eq-eqb r.at r.at refl) in
        omega (arith, sum, one, once.each r.at)

    none_left : counted r.at (row_places (filter test rows)) ≡ 0
    none_left = omega (arith, none, left_count test rows r.at)

    by_case : (t : Bool) → test r ≡ t
        → ((j : Image) → IsOnce (row_places rows) → AreInside j rows → HoldsLeft j bank test rows → HoldsRows rows bank (written (writes_of_rows bank (filter test rows)) j))
        → HoldsRows (r ∷ rows) bank (written (writes_of_rows bank (cond t (r ∷ filter test rows) (filter test rows))) image)
    by_case true is rest =
        let j : Image = set image r.at (get_or bank r.index []) in
        let apart = none_at rows r.at none in
        let first : bytes_of_block j r.at ≡ get_or bank r.index [] = get_or-set_same image r.at (get_or bank r.index []) [] (All-head (λ (q : Row). q.at < length image) r rows inside) in
        All-cons (λ (q : Row). bytes_of_block (written (writes_of_rows bank (filter test rows)) j) q.at ≡ get_or bank q.index []) r rows (rows_beside bank (filter test rows) j r.at none_left ∙ first)
        (rest j (once_rest r.at (row_places rows) once)
        (λ k d low. subst (λ (n : ℕ). (get_or rows k d).at < n) (sym (length-set image r.at (get_or bank r.index []))) (All-tail (λ (q : Row). q.at < length image) r rows inside k d low))
        (λ k d low off.
        let q : Row = get_or rows k d in
        get_or-set_other image r.at q.at (get_or bank r.index []) [] (λ same. differ q.at r.at (apart k d low) (sym same))
        ∙ All-tail (λ (o : Row). test o ≡ false → bytes_of_block image o.at ≡ get_or bank o.index []) r rows left k d low off))
    by_case false is rest =
        All-cons (λ (q : Row). bytes_of_block (written (writes_of_rows bank (filter test rows)) image) q.at ≡ get_or bank q.index []) r rows
        (rows_beside bank (filter test rows) image r.at none_left ∙ All-head (λ (o : Row). test o ≡ false → bytes_of_block image o.at ≡ get_or bank o.index []) r rows left is)
        (rest image (once_rest r.at (row_places rows) once) (All-tail (λ (q : Row). q.at < length image) r rows inside)
        (All-tail (λ (o : Row). test o ≡ false → bytes_of_block image o.at ≡ get_or bank o.index []) r rows left))

-- what does not differ is equal
not_differing : (a b : List ℕ) → not (bytes_eq a b) ≡ false → a ≡ b
not_differing a b same = (bytes_eq-Decides a b).0 (turned (bytes_eq a b) same)
  where
    turned : (t : Bool) → not t ≡ false → t ≡ true
    turned true e = refl
    turned false e = sym e

pub equal_left : (bank image : Image) (rows : List Row) → HoldsLeft image bank (differs bank image) rows
equal_left bank image rows = λ k d low same. not_differing (bytes_of_block image (get_or rows k d).at) (get_or bank (get_or rows k d).index []) same

-- the places of a plan are those of its rows
pub planned_is : (plan : Plan) → planned plan ≡ row_places (plan_rows plan)
planned_is plan = sym (map-append (λ (r : Row). r.at) plan.fresh plan.in_place)

pub both_left : (bank image : Image) (plan : Plan) → left_to_write bank image plan.fresh ++ left_to_write bank image plan.in_place ≡ left_to_write bank image (plan_rows plan)
both_left bank image plan = sym (filter-append (differs bank image) plan.fresh plan.in_place)

-- what holds of all places holds of the rows
pub rows_of : (P : ℕ → Type 0) (rows : List Row) → All P (row_places rows) → All (λ (r : Row). P r.at) rows
rows_of P [] all = All-nil (λ (r : Row). P r.at)
rows_of P (r ∷ rows) all = All-cons (λ (q : Row). P q.at) r rows (All-head P r.at (row_places rows) all) (rows_of P rows (All-tail P r.at (row_places rows) all))
