use Rattle.std.proofs.Common.{◌<◌, arith}
use Rattle.xfs_collections.proofs.Views.{low_list, first_seen, apart_seen}
use Rattle.xfs_collections.proofs.weave.Weave.first.Goals as goal

pub index-requires : goal.index-requires
index-requires c =
    let low : c.args.list < c.self.inside.lists = low_list c.args.self.now c.self.inside.nodes c.self.inside.lists c.self.inside.links.items c.args.list c.self.view_is c.requires.list in
    omega (arith, c.self.invariant.size)

pub returns-clause-first : goal.returns-clause-first
returns-clause-first c = first_seen c.args.self.now c.self.inside.nodes c.self.inside.lists c.self.inside.links.items c.args.list c.end_of-end.result c.index.result.now c.node_at.result
    c.self.view_is c.self.invariant c.requires.list c.end_of-end.ensures c.index.ensures c.node_at.ensures

pub returns-clause-apart : goal.returns-clause-apart
returns-clause-apart c = apart_seen c.args.self.now c.self.inside.nodes c.self.inside.lists c.self.inside.links.items c.self.view_is c.self.invariant
