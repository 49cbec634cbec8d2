use Rattle.std.proofs.Common.{Bool, ◌&&◌, not, nat_lt, List, sym, ◌∙◌, ap, subst, arith}
use Rattle.xfs_geom.specs.declared.records.Span.{Span}
use Rattle.xfs_kinds.specs.FreeRuns.{SpansAscend, is_in_spans}
use Rattle.xfs_kinds.specs.MergedRuns.{held_at}
use Rattle.xfs_place.proofs.Spanned.{free_if, free_only, in_spans, separate_few, spans_ascend}
use Rattle.std.proofs.lemmas.Result.{IfOk-from_err}
use Rattle.xfs_place.proofs.group_lists.list_free.Goals as goal

pub free_runs-requires : goal.free_runs-requires
free_runs-requires c =
    subst (SpansAscend 0) (sym (c.deref.ensures.value ∙ c.in_ok-used.ensures)) (spans_ascend 0 c.args.owned.now c.requires.ascend)

pub returns-clause-held : goal.returns-clause-held
returns-clause-held c = λ block low none.
    let owned = c.args.owned.now in
    let used = ap (λ (ss : List Span). is_in_spans ss block) (c.deref.ensures.value ∙ c.in_ok-used.ensures) ∙ in_spans owned block in
    free_if (is_in_spans c.in_ok-free_runs.field-0.items block) block c.args.end (held_at owned block)
    (c.in_ok-free_runs.ensures.blocks block ∙ ap (λ (t : Bool). nat_lt block c.args.end && not t) used) low none

pub returns-clause-taken : goal.returns-clause-taken
returns-clause-taken c = λ block free.
    let owned = c.args.owned.now in
    let used = ap (λ (ss : List Span). is_in_spans ss block) (c.deref.ensures.value ∙ c.in_ok-used.ensures) ∙ in_spans owned block in
    free_only (is_in_spans c.in_ok-free_runs.field-0.items block) block c.args.end (held_at owned block)
    (c.in_ok-free_runs.ensures.blocks block ∙ ap (λ (t : Bool). nat_lt block c.args.end && not t) used) free

pub returns-clause-few : goal.returns-clause-few
returns-clause-few c =
    let few = separate_few 0 c.args.end c.in_ok-free_runs.field-0.items c.in_ok-free_runs.ensures.separate (omega arith) (λ block free. (returns-clause-taken c block free).0) in
    omega (arith, few)

pub returns-in_err-used-clause-held : goal.returns-in_err-used-clause-held
returns-in_err-used-clause-held c = IfOk-from_err c.from_residual.result _ c.from_residual.ensures.0

pub returns-in_err-used-clause-taken : goal.returns-in_err-used-clause-taken
returns-in_err-used-clause-taken c = IfOk-from_err c.from_residual.result _ c.from_residual.ensures.0

pub returns-in_err-used-clause-separate : goal.returns-in_err-used-clause-separate
returns-in_err-used-clause-separate c = IfOk-from_err c.from_residual.result _ c.from_residual.ensures.0

pub returns-in_err-used-clause-few : goal.returns-in_err-used-clause-few
returns-in_err-used-clause-few c = IfOk-from_err c.from_residual.result _ c.from_residual.ensures.0

pub returns-in_err-free_runs-clause-held : goal.returns-in_err-free_runs-clause-held
returns-in_err-free_runs-clause-held c = IfOk-from_err c.from_residual-in_err-free_runs.result _ c.from_residual-in_err-free_runs.ensures.0

pub returns-in_err-free_runs-clause-taken : goal.returns-in_err-free_runs-clause-taken
returns-in_err-free_runs-clause-taken c = IfOk-from_err c.from_residual-in_err-free_runs.result _ c.from_residual-in_err-free_runs.ensures.0

pub returns-in_err-free_runs-clause-separate : goal.returns-in_err-free_runs-clause-separate
returns-in_err-free_runs-clause-separate c = IfOk-from_err c.from_residual-in_err-free_runs.result _ c.from_residual-in_err-free_runs.ensures.0

pub returns-in_err-free_runs-clause-few : goal.returns-in_err-free_runs-clause-few
returns-in_err-free_runs-clause-few c = IfOk-from_err c.from_residual-in_err-free_runs.result _ c.from_residual-in_err-free_runs.ensures.0

pub list_spans-requires : goal.list_spans-requires
list_spans-requires c = c.requires
