use Rattle.xfs_collections.proofs.Views.{list_seen, apart_seen}
use Rattle.xfs_collections.proofs.weave.Weave.list_of.Goals as goal

pub returns-clause-list : goal.returns-clause-list
returns-clause-list c = list_seen c.args.self.now c.self.inside.nodes c.self.inside.lists c.self.inside.links.items c.args.node c.index.result.now c.self.view_is c.self.invariant c.requires.node c.index.ensures

pub returns-clause-apart : goal.returns-clause-apart
returns-clause-apart c = apart_seen c.args.self.now c.self.inside.nodes c.self.inside.lists c.self.inside.links.items c.self.view_is c.self.invariant
