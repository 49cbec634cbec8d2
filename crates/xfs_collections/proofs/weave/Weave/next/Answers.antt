use Rattle.xfs_collections.proofs.Views.{on_noted, free_noted, next_seen, none_told, some_told}
use Rattle.xfs_collections.proofs.weave.Weave.next.Goals as goal

pub returns-then-is_none-clause-listed : goal.returns-then-is_none-clause-listed
returns-then-is_none-clause-listed c l on =
    absurd (none_told c.index.result.now.list l c.is_none.result c.is_none.ensures c.if-is_none.true
    (on_noted c.args.self.now c.self.inside.nodes c.self.inside.lists c.self.inside.links.items c.args.node l c.index.result.now c.self.view_is c.self.invariant c.requires.node c.index.ensures on))

pub returns-clause-listed : goal.returns-clause-listed
returns-clause-listed c l on =
    next_seen c.args.self.now c.self.inside.nodes c.self.inside.lists c.self.inside.links.items c.args.node l c.index.result.now c.node_at.result
    c.self.view_is c.self.invariant c.requires.node c.index.ensures c.node_at.ensures on

pub returns-clause-free : goal.returns-clause-free
returns-clause-free c free =
    absurd (some_told c.index.result.now.list c.is_none.result c.is_none.ensures c.if-is_none.false
    (free_noted c.args.self.now c.self.inside.nodes c.self.inside.lists c.self.inside.links.items c.args.node c.index.result.now c.self.view_is c.self.invariant c.requires.node c.index.ensures free))
