use Rattle.std.proofs.Common.{Bool, ◌||◌, get_or, refl, sym, ap, ◌∙◌}
use Rattle.std.specs.List.{list_any}
use Rattle.std.proofs.lemmas.List.{take_all}
use Rattle.std.proofs.lemmas.List.Folds.{list_any_more, list_any_at}
use Rattle.xfs_dirindex.specs.Data.{is_dots}
use Rattle.xfs_dirindex.proofs.data.has_dots.Goals as goal

pub loop-entry-init : goal.loop-entry-init
loop-entry-init c = refl

pub loop-entry-preserved : goal.loop-entry-preserved
loop-entry-preserved c =
    let entries = c.args.entries.now in
    let i = c.loop-entry.entry-index in
    let entry = c.entry-item.result in
    list_any_more is_dots entries i entry c.loop-entry-test.true ∙ ap (λ (t : Bool). t || is_dots (get_or entries i entry)) c.loop-entry.invariant
    ∙ ap is_dots (sym c.entry-item.is) ∙ sym c.is_dots.ensures ∙ c.if-is_dots.false

pub returns-then-is_dots : goal.returns-then-is_dots
returns-then-is_dots c =
    sym (list_any_at is_dots c.args.entries.now c.loop-entry.entry-index c.entry-item.result c.loop-entry-test.true
    (ap is_dots (sym c.entry-item.is) ∙ sym c.is_dots.ensures ∙ c.if-is_dots.true))

pub returns : goal.returns
returns c = sym (ap (list_any is_dots) (sym (take_all c.loop-entry.entry-index c.args.entries.now c.loop-entry-test.false)) ∙ c.loop-entry.invariant)
