-- The rows of a plan: what holds of its blocks holds of them, in any order.
use Rattle.std.proofs.Common.{◌≡◌, ℕ, ◌-◌, ◌<◌, List, [], ◌∷◌, length, take, drop, min, get_or, arith, refl, sym, subst, ap, ◌∙◌}
use Rattle.std.specs.List.{All}
use Rattle.std.proofs.lemmas.List.{get_or-map, length-map, map-append, take_all}
use Rattle.std.proofs.lemmas.List.Sorted.{All-permutation}
use Rattle.xfs_render.specs.Drafts.{AreInBank, row_places}
use Rattle.xfs_render.specs.Plans.{plan_rows, planned}
use Rattle.xfs_render.specs.declared.plan.Plan.{Plan}
use Rattle.xfs_writing.specs.declared.rows.Row.{Row}
use Rattle.xfs_mkfs.specs.Order.{AreRowsOfPlan}

-- the numbers of the blocks of all rows
pub planned_is : (plan : Plan) → planned plan ≡ row_places (plan_rows plan)
planned_is plan = sym (map-append (λ (r : Row). r.at) plan.fresh plan.in_place)

pub count_plan : (plan : Plan) → length (plan_rows plan) ≡ length (planned plan)
count_plan plan = sym (ap length (planned_is plan) ∙ length-map (plan_rows plan) (λ (r : Row). r.at))

-- the number of the block of a row
pub row_at : (plan : Plan) (k : ℕ) (d : Row) → k < length (plan_rows plan) → get_or (planned plan) k 0 ≡ (get_or (plan_rows plan) k d).at
row_at plan k d low = ap (λ (xs : List ℕ). get_or xs k 0) (planned_is plan) ∙ get_or-map (λ (r : Row). r.at) (plan_rows plan) k d 0 low

-- what holds of the numbers of all blocks
pub all_at : (P : ℕ → Type 0) (plan : Plan) (rows : List Row) → AreRowsOfPlan plan rows → All P (planned plan) → All (λ (r : Row). P r.at) rows
all_at P plan rows are all =
    All-permutation (λ (r : Row). P r.at) (plan_rows plan) rows are.all
    (λ k d low. subst P (row_at plan k d low) (all k 0 (omega (arith, count_plan plan, low))))

-- what holds of the indices
pub all_index : (plan : Plan) (rows : List Row) → AreRowsOfPlan plan rows → AreInBank (plan_rows plan) plan.bank → AreInBank rows plan.bank
all_index plan rows are inside = All-permutation (λ (r : Row). r.index < length plan.bank) (plan_rows plan) rows are.all inside

-- the rows from the second on
pub behind_first : (rows : List Row) (m : ℕ) → m ≡ min (length rows) 1 → take (length rows - m) (drop m rows) ≡ drop 1 rows
behind_first [] m is =
    let none : List Row = [] in
    let same : take 0 none ≡ none = refl in
    subst (λ (n : ℕ). take (0 - n) (drop n none) ≡ none) (sym is) same
behind_first (r ∷ rs) m is =
    let one : m ≡ 1 = omega (arith, is) in
    subst (λ (n : ℕ). take (length (r ∷ rs) - n) (drop n (r ∷ rs)) ≡ rs) (sym one) (take_all (length (r ∷ rs) - 1) rs (omega arith))
