-- An image holds the blocks of a plan once they were written, where no block is planned twice.
use Rattle.std.proofs.Common.{◌≡◌, ℕ, zero, suc, ◌<◌, ◌≤◌, ◌==◌, Bool, if◌then◌else◌, List, [], ◌∷◌, ◌++◌, length, map, get_or, set, refl, sym, ap, ◌∙◌, subst, arith}
use Rattle.std.specs.Prelude.{count_by, drop, take}
use Rattle.std.specs.List.{All, Contains, sum_by}
use Rattle.std.specs.List.Sorted.{IsPermutation}
use Rattle.std.proofs.lemmas.Bool.{eq-eqb}
use Rattle.std.proofs.lemmas.List.{get_or-map, get_or_default, get_or-set_other, get_or-set_same, length-map, length-set, take-append-drop}
use Rattle.std.proofs.lemmas.List.Sorted.{Contains-permutation, IsPermutation-append_comm, IsPermutation-trans, sum_by-IsPermutation}
use Rattle.std.proofs.lemmas.List.Sums.{sum_by-cons}
use Rattle.xfs_disk.specs.Blocks.{Image, bytes_of_block}
use Rattle.xfs_render.specs.Drafts.{HoldsRows, row_places}
use Rattle.xfs_render.specs.Plans.{HoldsPlan, IsOnce, plan_rows, planned}
use Rattle.xfs_render.specs.declared.plan.Plan.{Plan}
use Rattle.xfs_mkfs.proofs.Rows.{count_plan, planned_is, row_at}
use Rattle.xfs_writing.specs.Writing.{Writes, write_of, written}
use Rattle.xfs_writing.specs.declared.rows.Row.{Row}
use Rattle.xfs_mkfs.specs.Order.{AreRowsOfPlan, all_writes, first_part, last_part}

abbrev pub one_if : Bool → ℕ
one_if t = if t then 1 else 0

-- how many writes are at a block
abbrev count_at : ℕ → Writes → ℕ
count_at at writes = sum_by (λ (w : ℕ × List ℕ). one_if (w.0 == at)) writes

is_one : (a b : ℕ) → a ≡ b → one_if (a == b) ≡ 1
is_one a b same = ap one_if (eq-eqb a b same)

differs : (a b : ℕ) → one_if (a == b) ≡ 0 → b ≡ a → ⊥
differs a b none same = absurd (omega (arith, none, is_one a b (sym same)))

-- a block stays at which nothing is written
stays : (writes : Writes) (image : Image) (at : ℕ) → count_at at writes ≡ 0 → bytes_of_block (written writes image) at ≡ bytes_of_block image at
stays [] image at none = refl
stays (w ∷ ws) image at none =
    let one = λ (o : ℕ × List ℕ). one_if (o.0 == at) in
    let sum = sum_by-cons one w ws in
    stays ws (set image w.0 w.1) at (omega (arith, sum, none))
    ∙ get_or-set_other image w.0 at w.1 [] (differs w.0 at (omega (arith, sum, none)))

-- a block has what was written at it, where that was one write
lands : (writes : Writes) (image : Image) (k : ℕ) (d : ℕ × List ℕ) → k < length writes → count_at (get_or writes k d).0 writes ≤ 1
    → (get_or writes k d).0 < length image → bytes_of_block (written writes image) (get_or writes k d).0 ≡ (get_or writes k d).1
lands [] image k d low once inside = absurd (omega (arith, low))
lands (w ∷ ws) image zero d low once inside =
    let one = λ (o : ℕ × List ℕ). one_if (o.0 == w.0) in
    let sum = sum_by-cons one w ws in
    stays ws (set image w.0 w.1) w.0 (omega (arith, sum, is_one w.0 w.0 refl, once)) ∙ get_or-set_same image w.0 w.1 [] inside
lands (w ∷ ws) image (suc k) d low once inside =
    let at = (get_or ws k d).0 in
    let one = λ (o : ℕ × List ℕ). one_if (o.0 == at) in
    let sum = sum_by-cons one w ws in
    lands ws (set image w.0 w.1) k d (omega (arith, low)) (omega (arith, sum, once))
    (subst (λ (n : ℕ). at < n) (sym (length-set image w.0 w.1)) inside)

-- the writes of rows are at their blocks
count_writes : (bank : Image) (at : ℕ) (rows : List Row) → count_at at (map (write_of bank) rows) ≡ sum_by (λ (r : Row). one_if (r.at == at)) rows
count_writes bank at [] = refl
count_writes bank at (r ∷ rows) =
    let one = λ (o : ℕ × List ℕ). one_if (o.0 == at) in
    let mine = λ (o : Row). one_if (o.at == at) in
    let both = sum_by-cons one (write_of bank r) (map (write_of bank) rows) in
    let rest = sum_by-cons mine r rows in
    omega (arith, both, rest, count_writes bank at rows)

-- and those are the planned blocks
pub count_rows : (at : ℕ) (rows : List Row) → sum_by (λ (r : Row). one_if (r.at == at)) rows ≡ count_by (λ other. other == at) (row_places rows)
count_rows at [] = refl
count_rows at (r ∷ rows) =
    let one = λ (o : ℕ). one_if (o == at) in
    let mine = λ (o : Row). one_if (o.at == at) in
    let first = sum_by-cons mine r rows in
    let both = sum_by-cons one r.at (row_places rows) in
    omega (arith, first, both, count_rows at rows)

pub count_planned : (plan : Plan) (at : ℕ) → sum_by (λ (r : Row). one_if (r.at == at)) (plan_rows plan) ≡ count_by (λ other. other == at) (planned plan)
count_planned plan at = count_rows at (plan_rows plan) ∙ ap (λ (xs : List ℕ). count_by (λ other. other == at) xs) (sym (planned_is plan))

-- the rows in the order of writing
abbrev in_order : List Row → List Row
in_order rows = first_part rows ++ last_part rows

last_moves : (rows : List Row) → IsPermutation rows (in_order rows)
last_moves rows = subst (λ (xs : List Row). IsPermutation xs (in_order rows)) (take-append-drop 1 rows) (IsPermutation-append_comm (take 1 rows) (drop 1 rows))

pub plan_held : (plan : Plan) (rows : List Row) (image : Image) → AreRowsOfPlan plan rows → IsOnce (planned plan)
    → All (λ place. place < length image) (planned plan) → HoldsPlan (written (all_writes plan rows) image) plan
plan_held plan rows image are once inside = record { each = at_place }
  where
    moved : IsPermutation (plan_rows plan) (in_order rows)
    moved = IsPermutation-trans (plan_rows plan) rows (in_order rows) are.all (last_moves rows)

    few : (at : ℕ) → count_at at (all_writes plan rows) ≤ 1
    few at =
        let writes = count_writes plan.bank at (in_order rows) in
        let same = sum_by-IsPermutation (λ (r : Row). one_if (r.at == at)) (plan_rows plan) (in_order rows) moved in
        let all = count_planned plan at in
        omega (arith, writes, same, all, once.each at)

    at_place : HoldsRows (plan_rows plan) plan.bank (written (all_writes plan rows) image)
    at_place = λ k d low.
        let row : Row = get_or (plan_rows plan) k d in
        let e : ℕ × List ℕ = (0, []) in
        let there : Contains (plan_rows plan) row = (k, low, get_or_default (plan_rows plan) k row d low) in
        let found = Contains-permutation (plan_rows plan) (in_order rows) row moved there in
        let is : get_or (all_writes plan rows) found.0 e ≡ write_of plan.bank row =
        get_or-map (write_of plan.bank) (in_order rows) found.0 row e found.1 ∙ ap (write_of plan.bank) found.2 in
        let at : (get_or (all_writes plan rows) found.0 e).0 ≡ row.at = ap (λ (w : ℕ × List ℕ). w.0) is in
        let count : length (all_writes plan rows) ≡ length (in_order rows) = length-map (in_order rows) (write_of plan.bank) in
        let low' : row.at < length image = subst (λ (n : ℕ). n < length image) (row_at plan k d low) (inside k 0 (omega (arith, count_plan plan, low))) in
        ap (bytes_of_block (written (all_writes plan rows) image)) (sym at)
        ∙ lands (all_writes plan rows) image found.0 e (omega (arith, count, found.1)) (few (get_or (all_writes plan rows) found.0 e).0)
        (subst (λ (n : ℕ). n < length image) (sym at) low')
        ∙ ap (λ (w : ℕ × List ℕ). w.1) is
