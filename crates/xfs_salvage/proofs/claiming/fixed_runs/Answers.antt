use Rattle.std.proofs.Common.{◌≡◌, map, ◌++◌, ◌∷◌, [], ℕ, List, sym, ◌∙◌, ap, ap₂, arith}
use Rattle.std.specs.List.{range_with_len}
use Rattle.std.proofs.lemmas.List.FromFn.{map-range_with_len_more}
use Rattle.xfs_kinds.specs.Owners.{headers_owner}
use Rattle.xfs_geom.specs.Volumes.{volume_of}
use Rattle.xfs_geom.specs.declared.records.Run.{Run}
use Rattle.xfs_views.specs.xfs_space.Owners.{new_run}
use Rattle.xfs_kinds.specs.FixedRuns.{header_run, log_run}
use borrow.Author.Count.{falls}
use Rattle.std.proofs.lemmas.Result.{IfOk-from_err}
use Rattle.xfs_salvage.proofs.claiming.fixed_runs.Goals as goal

pub loop-ag-preserved : goal.loop-ag-preserved
loop-ag-preserved c =
    let v = volume_of c.args.g.now in
    let ag = c.loop-ag.ag in
    c.in_ok-push-2.ensures.items
    ∙ ap₂ (λ (rs : List Run) (s : ℕ). rs ++ new_run s 1 headers_owner 0 ∷ []) c.loop-ag.invariant c.start_of_group.ensures.value
    ∙ ap (λ (rs : List Run). log_run v ∷ rs) (sym (map-range_with_len_more (header_run v) 0 ag ag (omega arith)))

pub loop-ag-init : goal.loop-ag-init
loop-ag-init c = c.in_ok-push.ensures.items ∙ ap (λ (rs : List Run). rs ++ log_run (volume_of c.args.g.now) ∷ []) c.new-runs.ensures.items

pub loop-ag-smaller : goal.loop-ag-smaller
loop-ag-smaller c = falls c.args.g.now.agcount c.loop-ag.ag c.loop-ag-test.true

pub returns-in_err-push : goal.returns-in_err-push
returns-in_err-push c = IfOk-from_err c.from_residual.result _ c.from_residual.ensures.0

pub returns-in_err-push-2 : goal.returns-in_err-push-2
returns-in_err-push-2 c = IfOk-from_err c.from_residual-in_err-push-2.result _ c.from_residual-in_err-push-2.ensures.0

pub start_of_group-requires : goal.start_of_group-requires
start_of_group-requires c = c.loop-ag-test.true

pub returns : goal.returns
returns c =
    let v = volume_of c.args.g.now in
    let all : c.loop-ag.ag ≡ c.args.g.now.agcount = omega (arith, c.loop-ag-test.false, c.loop-ag.auto.ag-end) in
    c.loop-ag.invariant ∙ ap (λ (n : ℕ). log_run v ∷ map (header_run v) (range_with_len 0 n)) all
