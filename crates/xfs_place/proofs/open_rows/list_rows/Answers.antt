use Rattle.std.proofs.Common.{◌≡◌, ◌∙◌, ap, arith}
use Rattle.std.proofs.lemmas.List.{get_or_default}
use Rattle.xfs_place.specs.declared.uses.Use.TheVariants.{Claimed, Pool}
use Rattle.xfs_place.specs.Choice.{in_pool}
use Rattle.xfs_place.specs.Pool.{is_open}
use Rattle.xfs_place.proofs.ListedRows.{listed_first, listed_next, rows_listed}
use Rattle.std.proofs.lemmas.Result.{IfOk-from_err}
use Rattle.xfs_place.proofs.open_rows.list_rows.Goals as goal

pub loop-block-init : goal.loop-block-init
loop-block-init c = listed_first c.args.uses.now c.new.result.items c.new-2.result.items c.new.ensures.items c.new-2.ensures.items

pub loop-block-preserved : goal.loop-block-preserved
loop-block-preserved c =
    let l = c.loop-block in
    let here : c.is_open-open.result ≡ in_pool c.args.uses.now l.block =
    c.is_open-open.ensures ∙ ap is_open (get_or_default c.args.uses.now l.block Pool Claimed c.loop-block-test.true) in
    listed_next c.args.uses.now l.block l.found l.rows.starts.items l.rows.counts.items c.end_row.new.rows.starts.items c.end_row.new.rows.counts.items c.is_open-open.result c.ended.result c.lengthen-found.result
    l.invariant here c.ended.ensures.value c.in_ok-end_row.ensures.starts c.in_ok-end_row.ensures.counts c.lengthen-found.ensures

pub returns : goal.returns
returns c =
    let uses = c.args.uses.now in
    let l = c.loop-block in
    rows_listed uses l.block l.found l.rows.starts.items l.rows.counts.items c.end_row-2.new.rows.starts.items c.end_row-2.new.rows.counts.items l.invariant (omega (arith, c.loop-block-test.false)) (omega (arith, l.auto.block-end))
    c.in_ok-end_row-2.ensures.starts c.in_ok-end_row-2.ensures.counts

pub returns-in_err-end_row : goal.returns-in_err-end_row
returns-in_err-end_row c = IfOk-from_err c.from_residual.result _ c.from_residual.ensures.0

pub returns-in_err-end_row-2 : goal.returns-in_err-end_row-2
returns-in_err-end_row-2 c = IfOk-from_err c.from_residual-in_err-end_row-2.result _ c.from_residual-in_err-end_row-2.ensures.0
