use Rattle.std.proofs.Common.{◌≡◌, ◌∙◌, ◌++◌, true, false, List, ap, sym, append-nil}
use Rattle.xfs_kinds.specs.OffsetWords.{is_unwritten}
use Rattle.xfs_render.specs.declared.object_blocks.ObjectBlock.{ObjectBlock}
use Rattle.xfs_render.proofs.ObjectSteps.{unwritten_is, written_is}
use Rattle.xfs_render.proofs.object_blocks.push_ask.Goals as goal

pub returns-then-is_unwritten : goal.returns-then-is_unwritten
returns-then-is_unwritten c =
    let old = c.args.blocks.now.items in
    let is : is_unwritten c.args.ask.now.ask.offset_word ≡ true = sym c.is_unwritten.ensures ∙ c.if-is_unwritten.true in
    sym (append-nil old) ∙ ap (λ (xs : List ObjectBlock). old ++ xs) (unwritten_is c.args.ask.now c.args.runs.now is)

pub returns : goal.returns
returns c =
    let old = c.args.blocks.now.items in
    let is : is_unwritten c.args.ask.now.ask.offset_word ≡ false = sym c.is_unwritten.ensures ∙ c.if-is_unwritten.false in
    c.in_ok-push_runs.ensures ∙ ap (λ (xs : List ObjectBlock). old ++ xs) (written_is c.args.ask.now c.args.runs.now is)
