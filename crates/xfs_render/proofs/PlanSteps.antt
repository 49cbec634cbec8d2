-- Blocks that were put down, in the order of their places.
use Rattle.std.proofs.Common.{◌≡◌, ℕ, zero, suc, ◌+◌, ◌<◌, ◌≤◌, ◌==◌, Bool, if◌then◌else◌, List, [], ◌∷◌, ◌++◌, length, map, get_or, take, drop, inl, inr, refl, sym, subst, ap, ◌∙◌, arith, length-append}
use Rattle.std.specs.Prelude.{count_by}
use Rattle.std.specs.List.{All}
use Rattle.std.specs.List.Sorted.{IsNonDecreasingBy, IsPermutation, IsStrictlyIncreasing}
use Rattle.std.proofs.lemmas.Bool.{cases_lt, eq-eqb}
use Rattle.std.proofs.lemmas.List.{get_or-append-add, get_or-map, get_or_append_left, length-map, take-append-drop}
use Rattle.std.proofs.lemmas.List.Elements.{All-append, All-drop, All-take}
use Rattle.std.proofs.lemmas.List.Sorted.{All-permutation, IsPermutation-append, IsPermutation-map, IsPermutation-sym, sum_by-IsPermutation}
use Rattle.std.proofs.lemmas.List.Sums.{sum_by-cons}
use Rattle.xfs_disk.specs.Blocks.{Image, bytes_of_block}
use Rattle.xfs_writing.specs.declared.rows.Row.{Row}
use Rattle.xfs_render.specs.Drafts.{AreInBank, HoldsDraft, HoldsRows, IsDraft, row_places}
use Rattle.xfs_render.specs.Plans.{HoldsPlan, IsArranged, IsOnce, plan_rows, planned}
use Rattle.xfs_render.specs.declared.draft.Draft.{Draft}
use Rattle.xfs_render.specs.declared.plan.Plan.{Plan}

abbrev one_if : Bool → ℕ
one_if t = if t then 1 else 0

-- a number that stands twice is counted twice
twice : (xs : List ℕ) (k j p : ℕ) → j ≡ suc k → j < length xs → get_or xs k 0 ≡ p → get_or xs j 0 ≡ p → 2 ≤ count_by (λ o. o == p) xs
twice [] k j p e inside here next = absurd (omega (arith, inside))
twice (x ∷ xs) k zero p e inside here next = absurd (omega (arith, e))
twice (x ∷ []) k (suc j) p e inside here next = absurd (omega (arith, inside))
twice (x ∷ y ∷ xs) zero (suc j) p e inside here next =
    let one = λ (o : ℕ). one_if (o == p) in
    let at : j ≡ 0 = omega (arith, e) in
    let there : y ≡ p = sym (ap (λ (n : ℕ). get_or (y ∷ xs) n 0) at) ∙ next in
    let first : one x ≡ 1 = ap one_if (eq-eqb x p here) in
    let second : one y ≡ 1 = ap one_if (eq-eqb y p there) in
    omega (arith, first, second, sum_by-cons one x (y ∷ xs), sum_by-cons one y xs)
twice (x ∷ y ∷ xs) (suc k) (suc j) p e inside here next =
    let one = λ (o : ℕ). one_if (o == p) in
    omega (arith, sum_by-cons one x (y ∷ xs), twice (y ∷ xs) k j p (omega (arith, e)) (omega (arith, inside)) here next)

-- rows whose places stand once each ascend strictly
strictly : (rows sorted : List Row) → IsOnce (row_places rows) → IsPermutation rows sorted → IsNonDecreasingBy (λ (r : Row). r.at) sorted → IsStrictlyIncreasing (row_places sorted)
strictly rows sorted once moved order = λ k inside.
    let xs = row_places sorted in
    let d : Row = record { at = 0; index = 0 } in
    let long : length xs ≡ length sorted = length-map sorted (λ (r : Row). r.at) in
    let up : (get_or sorted k d).at ≤ (get_or sorted (k + 1) d).at = order k (k + 1) d (omega arith) (omega (arith, long, inside)) in
    let here : get_or xs k 0 ≡ (get_or sorted k d).at = get_or-map (λ (r : Row). r.at) sorted k d 0 (omega (arith, long, inside)) in
    let next : get_or xs (k + 1) 0 ≡ (get_or sorted (k + 1) d).at = get_or-map (λ (r : Row). r.at) sorted (k + 1) d 0 (omega (arith, long, inside)) in
    let p = get_or xs k 0 in
    let count : count_by (λ o. o == p) xs ≡ count_by (λ o. o == p) (row_places rows) =
    sum_by-IsPermutation (λ (o : ℕ). one_if (o == p)) (row_places rows) xs (IsPermutation-map (λ (r : Row). r.at) rows sorted moved) in
    let few = once.each p in
    elim (cases_lt (get_or xs k 0) (get_or xs (k + 1) 0)) [
      | inl low ↦ low
      | inr high ↦
          let same : get_or xs (k + 1) 0 ≡ p = omega (arith, up, here, next, high) in
          let two = twice xs k (k + 1) p (omega arith) inside refl same in
          absurd (omega (arith, two, few, count))
    ]

-- what holds of both parts of a list
all_left : (P : Row → Type 0) (xs ys : List Row) → All P (xs ++ ys) → All P xs
all_left P xs ys all = λ k d low. subst P (get_or_append_left xs ys d k low) (all k d (omega (arith, low, length-append xs ys)))

all_right : (P : Row → Type 0) (xs ys : List Row) → All P (xs ++ ys) → All P ys
all_right P xs ys all = λ k d low. subst P (get_or-append-add xs ys k d) (all (length xs + k) d (omega (arith, low, length-append xs ys)))

module _ (draft : Draft) (first : ℕ) (plan : Plan) (was : IsDraft draft) (same : plan.bank ≡ draft.bank) (before : IsPermutation (take first draft.rows.items) plan.fresh)
    (behind : IsPermutation (drop first draft.rows.items) plan.in_place) where
  abbrev front : List Row
  front = take first draft.rows.items

  abbrev back : List Row
  back = drop first draft.rows.items

  in_bank : AreInBank (plan_rows plan) plan.bank
  in_bank =
      let P : Row → Type 0 = λ r. r.index < length draft.bank in
      subst (λ (b : Image). AreInBank (plan_rows plan) b) (sym same)
      (All-append P plan.fresh plan.in_place (All-permutation P front plan.fresh before (All-take P first draft.rows.items was.inside))
      (All-permutation P back plan.in_place behind (All-drop P first draft.rows.items was.inside)))

  holds : (image : Image) → HoldsPlan image plan → HoldsDraft image draft
  holds image held =
      let Q : Row → Type 0 = λ r. bytes_of_block image r.at ≡ get_or draft.bank r.index [] in
      let all : All Q (plan.fresh ++ plan.in_place) = subst (λ (b : Image). HoldsRows (plan_rows plan) b image) same held.each in
      subst (λ (rows : List Row). All Q rows) (take-append-drop first draft.rows.items)
      (All-append Q front back
      (All-permutation Q plan.fresh front (IsPermutation-sym front plan.fresh before) (all_left Q plan.fresh plan.in_place all))
      (All-permutation Q plan.in_place back (IsPermutation-sym back plan.in_place behind) (all_right Q plan.fresh plan.in_place all)))

  pub arranged : IsNonDecreasingBy (λ (r : Row). r.at) plan.fresh → IsNonDecreasingBy (λ (r : Row). r.at) plan.in_place → IsArranged draft first plan
  arranged up_fresh up_rest =
      let place = λ (r : Row). r.at in
      let moved_fresh = IsPermutation-map place front plan.fresh before in
      let moved_rest = IsPermutation-map place back plan.in_place behind in
      record {
        fresh' = moved_fresh;
        in_place' = moved_rest;
        bank' = same;
        inside = in_bank;
        fresh_ascend = λ once. strictly front plan.fresh once before up_fresh;
        in_place_ascend = λ once. strictly back plan.in_place once behind up_rest;
        apart = λ once. record {
          each = λ n.
              let moved = IsPermutation-append (row_places front) (row_places plan.fresh) (row_places back) (row_places plan.in_place) moved_fresh moved_rest in
              let count = sum_by-IsPermutation (λ (o : ℕ). one_if (o == n)) (row_places front ++ row_places back) (planned plan) moved in
              omega (arith, once.each n, count);
        };
        held = holds;
      }
