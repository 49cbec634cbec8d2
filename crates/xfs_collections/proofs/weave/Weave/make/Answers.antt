use Rattle.std.proofs.Common.{arith}
use Rattle.xfs_collections.proofs.Views.{made_woven, made_lists}
use Rattle.xfs_collections.proofs.weave.Weave.make.Goals as goal

pub invariant_of-result : goal.invariant_of-result
invariant_of-result c = made_woven c.args.nodes c.args.lists c.loop-end.links.items (omega (arith, c.loop-end.invariant.size)) (λ k low. c.loop-end.invariant.each k (omega arith))

pub returns-clause-lists : goal.returns-clause-lists
returns-clause-lists c = made_lists c.args.nodes c.args.lists c.loop-end.links.items (λ k low. c.loop-end.invariant.each k (omega arith))
