use Rattle.std.proofs.Common.{ℕ, ◌-◌, ◌++◌, [], ◌∷◌, ◌∙◌, ap, refl}
use Rattle.xfs_render.proofs.DraftSteps.{added_again}
use Rattle.xfs_render.proofs.draft.Draft.add_again.Goals as goal

pub returns : goal.returns
returns c =
    added_again c.args.self.now (record { rows = c.push.new.self; bank = c.args.self.now.bank }) c.args.place c.requires.draft c.requires.some
    (c.in_ok-push.ensures.items ∙ ap (λ (n : ℕ). c.args.self.now.rows.items ++ record { at = c.args.place; index = n - 1 } ∷ []) c.len-index.ensures.count) refl
