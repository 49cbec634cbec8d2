use Rattle.std.proofs.Common.{sym, ◌∙◌}
use Rattle.xfs_collections.proofs.Views.{first_on, first_off}
use Rattle.xfs_collections.proofs.weave.Weave.pop_front.Goals as goal

pub unlink-requires-clause-listed : goal.unlink-requires-clause-listed
unlink-requires-clause-listed c = (c.args.list, first_on c.args.self.now c.args.list c.in_ok-node.node c.requires.list (sym c.first.ensures.first ∙ c.in_ok-node.was))

pub returns-clause-rest : goal.returns-clause-rest
returns-clause-rest c = c.unlink.ensures.off ∙ first_off c.args.self.now c.args.list c.in_ok-node.node c.first.ensures.apart c.requires.list (sym c.first.ensures.first ∙ c.in_ok-node.was)
