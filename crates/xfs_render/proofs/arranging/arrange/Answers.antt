use Rattle.std.proofs.Common.{◌≡◌, ◌∙◌, ◌-◌, List, length, take, drop, ap, refl, sym, subst, arith, take_all}
use Rattle.std.proofs.lemmas.List.{length-drop}
use Rattle.std.specs.List.Sorted.{IsNonDecreasingBy, IsPermutation}
use Rattle.xfs_writing.specs.declared.rows.Row.{Row}
use Rattle.xfs_render.proofs.PlanSteps.{arranged}
use Rattle.xfs_render.proofs.arranging.arrange.Goals as goal

pub returns : goal.returns
returns c =
    let rows = c.args.draft.rows.items in
    let first = c.args.first in
    let front = subst (λ (xs : List Row). IsPermutation (take first xs) c.in_ok-fresh.fresh.items) c.deref.ensures.value c.in_ok-fresh.ensures.same in
    let xs = c.deref-2.result.now in
    let whole : take (length xs - first) (drop first xs) ≡ drop first xs = take_all (length xs - first) (drop first xs) (omega (arith, length-drop first xs)) in
    let back = subst (λ (ys : List Row). IsPermutation ys c.in_ok-in_place.in_place.items) (whole ∙ ap (drop first) c.deref-2.ensures.value) c.in_ok-in_place.ensures.same in
    arranged c.args.draft first (record { fresh = c.from_vec.result; in_place = c.from_vec-2.result; bank = c.args.draft.bank }) c.requires.draft refl
    (subst (λ (ys : List Row). IsPermutation (take first rows) ys) (sym c.from_vec.ensures) front)
    (subst (λ (ys : List Row). IsPermutation (drop first rows) ys) (sym c.from_vec-2.ensures) back)
    (subst (λ (ys : List Row). IsNonDecreasingBy (λ (r : Row). r.at) ys) (sym c.from_vec.ensures) c.in_ok-fresh.ensures.ascend)
    (subst (λ (ys : List Row). IsNonDecreasingBy (λ (r : Row). r.at) ys) (sym c.from_vec-2.ensures) c.in_ok-in_place.ensures.ascend)
