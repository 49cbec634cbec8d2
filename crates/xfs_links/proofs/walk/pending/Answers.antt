use Rattle.std.proofs.lemmas.Result.{IfOk-from_err}
use Rattle.std.proofs.Common.{ℕ, ◌++◌, ◌∷◌, [], List, sym, ◌∙◌, ap, arith, get_or, take}
use Rattle.std.proofs.lemmas.List.{take_more}
use Rattle.xfs_collections.specs.Lists.{Woven, without}
use Rattle.xfs_links.proofs.Groups.{without_absent, once_before}
use Rattle.xfs_links.proofs.Attaching.{moved_first, moved_lists}
use Rattle.xfs_links.proofs.walk.pending.Goals as goal

pub loop-start-preserved : goal.loop-start-preserved
loop-start-preserved c = record {
  nodes = ap (λ (u : Woven). u.nodes) c.move_to.ensures.moved ∙ c.loop-start.invariant.nodes;
  lists = moved_lists c.loop-start.weave c.move_to.new.self 0 (get_or c.args.starts.now c.loop-start.start-index 0) c.move_to.ensures.moved ∙ c.loop-start.invariant.lists;
  pending = moved_first c.loop-start.weave c.move_to.new.self (get_or c.args.starts.now c.loop-start.start-index 0) (omega (arith, c.loop-start.invariant.lists)) c.move_to.ensures.moved
      ∙ ap (λ (r : List ℕ). without (get_or c.args.starts.now c.loop-start.start-index 0) r ++ get_or c.args.starts.now c.loop-start.start-index 0 ∷ []) c.loop-start.invariant.pending
      ∙ ap (λ (r : List ℕ). r ++ get_or c.args.starts.now c.loop-start.start-index 0 ∷ []) (without_absent (get_or c.args.starts.now c.loop-start.start-index 0) (take c.loop-start.start-index c.args.starts.now) (once_before c.args.starts.now c.loop-start.start-index c.requires.once c.loop-start-test.true))
      ∙ sym (take_more c.args.starts.now c.loop-start.start-index 0 c.loop-start-test.true);
}

pub returns-in_err-weave : goal.returns-in_err-weave
returns-in_err-weave c = record { nodes = IfOk-from_err c.from_residual.result _ c.from_residual.ensures.0; lists = IfOk-from_err c.from_residual.result _ c.from_residual.ensures.0; pending = IfOk-from_err c.from_residual.result _ c.from_residual.ensures.0 }
