use Rattle.std.proofs.Common.{arith}
use Rattle.std.proofs.lemmas.Result.{IfOk-from_err}
use Rattle.xfs_rounds.proofs.Rows.{all_listed}
use Rattle.xfs_rounds.proofs.pieces.list_round.Goals as goal

pub returns : goal.returns
returns c = all_listed c.args.round.now c.loop-at.at c.loop-at.blocks.items (omega arith) c.loop-at.invariant

pub returns-in_err-blocks : goal.returns-in_err-blocks
returns-in_err-blocks c = IfOk-from_err c.from_residual.result _ c.from_residual.ensures.0

pub returns-in_err-push_block : goal.returns-in_err-push_block
returns-in_err-push_block c = IfOk-from_err c.from_residual-in_err-push_block.result _ c.from_residual-in_err-push_block.ensures.0
