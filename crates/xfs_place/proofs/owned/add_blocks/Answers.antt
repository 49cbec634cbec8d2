use Rattle.std.proofs.Common.{length}
use Rattle.xfs_place.specs.Choice.{group_claimed}
use Rattle.xfs_place.proofs.TreeRuns.{pushed}
use Rattle.std.proofs.lemmas.Result.{IfOk-from_err}
use borrow.Author.Count.{falls}
use Rattle.xfs_place.proofs.owned.add_blocks.Goals as goal

pub loop-k-preserved : goal.loop-k-preserved
loop-k-preserved c = λ uses.
    pushed (group_claimed uses c.args.claims.now c.args.inner) c.args.claims.now c.loop-k.runs.items c.push.new.self.items c.args.space c.args.blocks.now c.loop-k.k c.owner_by.result
    (c.loop-k.invariant uses) c.owner_by.ensures c.in_ok-push.ensures.items

pub returns-in_err-extend_from_slice : goal.returns-in_err-extend_from_slice
returns-in_err-extend_from_slice c = IfOk-from_err c.from_residual.result _ c.from_residual.ensures.0

pub returns-in_err-push : goal.returns-in_err-push
returns-in_err-push c = IfOk-from_err c.from_residual-in_err-push.result _ c.from_residual-in_err-push.ensures.0

pub loop-k-smaller : goal.loop-k-smaller
loop-k-smaller c = falls (length c.args.blocks.now) c.loop-k.k c.loop-k-test.true
