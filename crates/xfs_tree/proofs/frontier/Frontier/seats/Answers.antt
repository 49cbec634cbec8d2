use borrow.Author.Count.{falls}
use Rattle.std.proofs.Common.{rules, ℕ, ◌<◌, ◌≤◌, [], ◌++◌, length, ap, ◌∙◌, subst}
use Rattle.std.proofs.lemmas.Result.{IfOk-from_err}
use Rattle.xfs_tree.specs.Seats.{seat_at}
use Rattle.xfs_tree.proofs.Rest.{pushed, pushed_all, rest_all, rest_of}
use Rattle.xfs_tree.proofs.frontier.Frontier.seats.Goals as goal

pub loop-i-preserved : goal.loop-i-preserved
loop-i-preserved g c =
    let run = c.args.self.now in
    record {
      ends = c.loop-i.invariant.ends;
      pushed = pushed (seat_at run.places.items run.lows.items run.highs.items) c.loop-i.i (length run.places.items) c.loop-i.seats.items c.push.new.self.items _ c.seat_at.result
          (subst (λ (m : ℕ). c.loop-i.i < m) c.loop-i.invariant.ends c.loop-i-test.true) c.in_ok-push.ensures.items c.seat_at.ensures c.loop-i.invariant.pushed;
    }

pub returns : goal.returns
returns g c =
    let run = c.args.self.now in
    pushed_all (seat_at run.places.items run.lows.items run.highs.items) c.loop-i.i (length run.places.items) [] c.loop-i.seats.items (subst (λ (m : ℕ). m ≤ c.loop-i.i) c.loop-i.invariant.ends c.loop-i-test.false) c.loop-i.invariant.pushed

pub loop-i-init : goal.loop-i-init
loop-i-init g c =
    let run = c.args.self.now in
    let item = seat_at run.places.items run.lows.items run.highs.items in
    record {
      ends = search rules;
      pushed = ap (λ xs. xs ++ rest_of 0 (length run.places.items) item) c.new-seats.ensures.items ∙ rest_all (length run.places.items) item;
    }

pub returns-in_err-push : goal.returns-in_err-push
returns-in_err-push g c = IfOk-from_err c.from_residual.result _ c.from_residual.ensures.0

pub loop-i-smaller : goal.loop-i-smaller
loop-i-smaller g c = falls _ _ c.loop-i-test.true
