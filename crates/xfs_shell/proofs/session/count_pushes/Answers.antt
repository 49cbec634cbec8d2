use Rattle.std.proofs.Common.{◌∙◌, ap, sym, List, ℕ}
use Rattle.xfs_shell.specs.Running.{is_push}
use Rattle.xfs_shell.proofs.Pushing.{one_push, push_inside}
use Rattle.xfs_shell.proofs.session.count_pushes.Goals as goal

pub loop-count-preserved : goal.loop-count-preserved
loop-count-preserved c =
    let is = ap (λ (words : List (List ℕ)). is_push words) (sym c.split_at.ensures.back) ∙ sym c.is_push.ensures ∙ c.loop-count-test.true in
    record {
      value = one_push c.args.words.now c.loop-count.count is ∙ c.loop-count.invariant.value;
      inside = push_inside c.args.words.now c.loop-count.count is;
    }
