use Rattle.std.proofs.Common.{ℕ, ◌++◌, [], ◌∷◌, ◌∙◌, ap, get_or}
use Rattle.xfs_render.proofs.DraftSteps.{added_block}
use Rattle.xfs_render.proofs.draft.Draft.add_shared.Goals as goal

pub returns : goal.returns
returns c =
    added_block c.args.self.now (record { rows = c.push.new.self; bank = c.push_shared.new.self }) c.args.place (get_or c.args.list.now c.args.i []) c.requires.draft
    (c.in_ok-push.ensures.items ∙ ap (λ (n : ℕ). c.args.self.now.rows.items ++ record { at = c.args.place; index = n } ∷ []) c.len-index.ensures.count) c.in_ok-push_shared.ensures
