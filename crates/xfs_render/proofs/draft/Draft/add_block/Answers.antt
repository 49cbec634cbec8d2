use Rattle.std.proofs.Common.{ℕ, ◌++◌, [], ◌∷◌, ◌∙◌, ap}
use Rattle.xfs_render.proofs.DraftSteps.{added_block}
use Rattle.xfs_render.proofs.draft.Draft.add_block.Goals as goal

pub returns : goal.returns
returns c =
    added_block c.args.self.now (record { rows = c.push-2.new.self; bank = c.push.new.self }) c.args.place c.args.block.now c.requires.draft
    (c.in_ok-push-2.ensures.items ∙ ap (λ (n : ℕ). c.args.self.now.rows.items ++ record { at = c.args.place; index = n } ∷ []) c.len-index.ensures.count) c.in_ok-push.ensures
