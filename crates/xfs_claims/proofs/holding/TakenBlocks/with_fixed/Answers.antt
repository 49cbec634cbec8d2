use Rattle.std.proofs.Common.{ℕ, List, [], ap}
use Rattle.xfs_collections.specs.Blocks.{is_in}
use Rattle.xfs_claims.specs.Spans.{spans_of}
use Rattle.xfs_claims.proofs.Steady.{none_met, fixed_blocks, same_holding}
use Rattle.xfs_claims.specs.Keeping.{fixed_alone}
use Rattle.xfs_claims.specs.Private.Arrived.{arrived}
use Rattle.xfs_claims.proofs.holding.TakenBlocks.with_fixed.Goals as goal

pub take_runs-requires-clause-off : goal.take_runs-requires-clause-off
take_runs-requires-clause-off g c = none_met c.make-blocks.result (spans_of c.args.fixed.now) c.make-blocks.ensures

pub returns-clause-held : goal.returns-clause-held
returns-clause-held g c =
    same_holding (record { blocks = is_in c.take_runs.new.set; clusters = c.new.result.keys; files = arrived [] c.new-2.result.items }) (fixed_alone (spans_of c.args.fixed.now))
    (fixed_blocks c.make-blocks.result c.take_runs.new.set (spans_of c.args.fixed.now) c.make-blocks.ensures c.in_ok-take_runs.ensures.blocks)
    c.new.ensures.empty (ap (λ (xs : List ℕ). arrived [] xs) c.new-2.ensures.items)
