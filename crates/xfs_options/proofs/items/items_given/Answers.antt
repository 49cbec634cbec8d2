use Rattle.std.proofs.Common.{◌+◌, ◌++◌, List, length, drop, ap, ◌∙◌, sym, append-nil, arith}
use Rattle.std.proofs.lemmas.List.{drop_all}
use Rattle.std.proofs.lemmas.Result.{IfOk-from_err}
use borrow.Author.Count.{falls}
use Rattle.xfs_options.specs.declared.reading.Given.{Given}
use Rattle.xfs_options.specs.SubOptions.{items_given}
use Rattle.xfs_options.specs.declared.items.OptionItem.{OptionItem}
use Rattle.xfs_options.proofs.Cutting.{pushed}
use Rattle.xfs_options.proofs.items.items_given.Goals as goal

pub loop-option-preserved : goal.loop-option-preserved
loop-option-preserved c =
    ap (λ (front : List OptionItem). front ++ items_given (drop (c.loop-option.option-index + 1) c.args.given.now)) c.in_ok-push_items.ensures
    ∙ pushed c.loop-option.items.items c.args.given.now c.loop-option.option-index c.option-item.result c.loop-option-test.true c.option-item.is
    ∙ c.loop-option.invariant

pub loop-option-smaller : goal.loop-option-smaller
loop-option-smaller c = falls (length c.args.given.now) c.loop-option.option-index c.loop-option-test.true

pub returns-in_err-push_items : goal.returns-in_err-push_items
returns-in_err-push_items c = IfOk-from_err c.from_residual.result _ c.from_residual.ensures.0

pub loop-option-init : goal.loop-option-init
loop-option-init c = ap (λ (front : List OptionItem). front ++ items_given c.args.given.now) c.new-items.ensures.items

pub returns : goal.returns
returns c =
    let now = c.loop-option.items.items in
    let i = c.loop-option.option-index in
    sym (append-nil now)
    ∙ ap (λ (gs : List Given). now ++ items_given gs) (sym (drop_all i c.args.given.now (omega (arith, c.loop-option-test.false))))
    ∙ c.loop-option.invariant
