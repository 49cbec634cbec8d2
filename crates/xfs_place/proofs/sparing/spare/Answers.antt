use Rattle.std.proofs.Common.{◌≡◌, ◌<◌, ℕ, inl, inr, List, [], ◌∷◌, length, get_or, sym, ◌∙◌, ap, subst, arith}
use borrow.Author.Count.{falls}
use Rattle.std.proofs.lemmas.Bool.{cases_eq}
use Rattle.std.proofs.lemmas.List.{get_or_append_left, get_or_push}
use Rattle.std.proofs.lemmas.Result.{IfOk-from_err}
use Rattle.xfs_geom.specs.Volumes.{volume_of}
use Rattle.xfs_place.specs.Pool.{is_pool}
use Rattle.xfs_place.specs.Sparing.{spared_of}
use Rattle.xfs_place.proofs.GroupIs.{length_uses}
use Rattle.xfs_place.proofs.HeldRuns.{group_inside}
use Rattle.xfs_place.proofs.Spared.{spared_by_uses}
use Rattle.xfs_place.proofs.sparing.spare.Goals as goal

pub loop-ag-preserved : goal.loop-ag-preserved
loop-ag-preserved c =
    let l = c.loop-ag in
    let v = volume_of c.args.g.now in
    let old = l.spared.items in
    let put = c.in_ok-push.ensures.items in
    let uses = c.group.ensures c.args.taken.now c.args.reserved.now c.in_ok-reach.ensures.stands in
    record {
      stands = c.in_ok-reach.ensures.stands;
      all = omega (arith, l.invariant.all, ap length put, c.in_ok-push.ensures.len);
      each = λ k low. elim (cases_eq k l.ag) [
        | inl same ↦
            ap (λ (xs : List ℕ). get_or xs k 0) put ∙ get_or_push old c.spared_of.result 0 k (omega (arith, l.invariant.all, same))
            ∙ spared_by_uses v c.args.taken.now c.args.reserved.now c.group.result.now c.args.anew l.ag c.spared_of.result uses c.spared_of.ensures
            ∙ ap (spared_of v (is_pool v c.args.taken.now c.args.reserved.now) c.args.anew) (sym same)
        | inr other ↦ ap (λ (xs : List ℕ). get_or xs k 0) put ∙ get_or_append_left old (c.spared_of.result ∷ []) 0 k (omega (arith, l.invariant.all, low, other)) ∙ l.invariant.each k (omega (arith, low, other))
      ];
    }

pub loop-ag-init : goal.loop-ag-init
loop-ag-init c = record {
  stands = c.new-window.ensures (volume_of c.args.g.now) c.args.taken.now c.args.reserved.now;
  all = ap length c.new-spared.ensures.items;
  each = λ k low. absurd (omega (arith, low));
}

pub spared_of-requires : goal.spared_of-requires
spared_of-requires c =
    let g = c.args.g.now in
    let v = volume_of g in
    let ag = c.loop-ag.ag in
    let uses = c.group.ensures c.args.taken.now c.args.reserved.now c.in_ok-reach.ensures.stands in
    record { few = omega (arith, ap length uses, length_uses v c.args.taken.now c.args.reserved.now ag, group_inside v g.shape.groups ag c.loop-ag-test.true, g.shape.groups.small) }

pub reach-requires-clause-group : goal.reach-requires-clause-group
reach-requires-clause-group c = c.loop-ag-test.true

pub reach-requires-clause-runs : goal.reach-requires-clause-runs
reach-requires-clause-runs c = c.requires.taken

pub reach-requires-clause-stands : goal.reach-requires-clause-stands
reach-requires-clause-stands c = c.loop-ag.invariant.stands

pub group-requires-clause-group : goal.group-requires-clause-group
group-requires-clause-group c = c.loop-ag-test.true

pub group-requires-clause-there : goal.group-requires-clause-there
group-requires-clause-there c = c.in_ok-reach.ensures.there

pub loop-ag-smaller : goal.loop-ag-smaller
loop-ag-smaller c = falls c.args.g.now.agcount c.loop-ag.ag c.loop-ag-test.true

pub returns-clause-all : goal.returns-clause-all
returns-clause-all c =
    let all : c.loop-ag.ag ≡ c.args.g.now.agcount = omega (arith, c.loop-ag-test.false, c.loop-ag.auto.ag-end) in
    ap (λ (xs : List ℕ). length xs) c.from_vec.ensures ∙ c.loop-ag.invariant.all ∙ all

pub returns-clause-each : goal.returns-clause-each
returns-clause-each c = λ ag low.
    let all : c.loop-ag.ag ≡ c.args.g.now.agcount = omega (arith, c.loop-ag-test.false, c.loop-ag.auto.ag-end) in
    ap (λ (xs : List ℕ). get_or xs ag 0) c.from_vec.ensures ∙ c.loop-ag.invariant.each ag (subst (λ (n : ℕ). ag < n) (sym all) low)

pub returns-in_err-reach-clause-all : goal.returns-in_err-reach-clause-all
returns-in_err-reach-clause-all c = IfOk-from_err c.from_residual.result _ c.from_residual.ensures.0

pub returns-in_err-reach-clause-each : goal.returns-in_err-reach-clause-each
returns-in_err-reach-clause-each c = IfOk-from_err c.from_residual.result _ c.from_residual.ensures.0

pub returns-in_err-push-clause-all : goal.returns-in_err-push-clause-all
returns-in_err-push-clause-all c = IfOk-from_err c.from_residual-in_err-push.result _ c.from_residual-in_err-push.ensures.0

pub returns-in_err-push-clause-each : goal.returns-in_err-push-clause-each
returns-in_err-push-clause-each c = IfOk-from_err c.from_residual-in_err-push.result _ c.from_residual-in_err-push.ensures.0
