use Rattle.std.proofs.Common.{Bool, not, cond, [], ◌∷◌, ◌++◌, sym, ap, ◌∙◌, append-nil}
use Rattle.std.proofs.lemmas.Result.{IfOk-from_err}
use Rattle.xfs_salvage.proofs.order.put_fresh.Goals as goal

pub returns-in_err-push : goal.returns-in_err-push
returns-in_err-push c = IfOk-from_err c.from_residual.result _ c.from_residual.ensures.0

pub returns-in_ok-push : goal.returns-in_ok-push
returns-in_ok-push c =
    c.in_ok-push.ensures.items
    ∙ sym (ap (λ (t : Bool). c.args.fresh.now.items ++ cond t (c.args.ino ∷ []) []) (ap not (sym c.is_in_use.ensures ∙ c.if-not-is_in_use.true)))

pub returns-else-not-is_in_use : goal.returns-else-not-is_in_use
returns-else-not-is_in_use c =
    sym (append-nil c.args.fresh.now.items)
    ∙ sym (ap (λ (t : Bool). c.args.fresh.now.items ++ cond t (c.args.ino ∷ []) []) (ap not (sym c.is_in_use.ensures ∙ c.if-not-is_in_use.false)))
