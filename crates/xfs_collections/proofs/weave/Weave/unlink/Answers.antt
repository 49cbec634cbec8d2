use Rattle.std.proofs.Common.{◌∙◌}
use Rattle.std.proofs.lemmas.List.{with_items_is}
use Rattle.xfs_collections.proofs.Views.{unlinked_seen}
use Rattle.xfs_collections.proofs.weave.Weave.unlink.Goals as goal

pub invariant_of-self : goal.invariant_of-self
invariant_of-self c = (unlinked_seen c.args.self.now c.self.inside.nodes c.self.inside.lists c.self.inside.links.items c.deref_mut.result.now c.take_off.new.links
    _ c.args.node c.self.view_is c.self.invariant c.deref_mut.ensures.value
    (with_items_is c.self.inside.links c.take_off.new.links (c.take_off.ensures.size ∙ c.deref_mut.ensures.len))
    c.requires.listed c.take_off.ensures.size c.take_off.ensures.after c.take_off.ensures.before c.take_off.ensures.list).0

pub returns : goal.returns
returns c = record {
  off = (unlinked_seen c.args.self.now c.self.inside.nodes c.self.inside.lists c.self.inside.links.items c.deref_mut.result.now c.take_off.new.links
      _ c.args.node c.self.view_is c.self.invariant c.deref_mut.ensures.value
      (with_items_is c.self.inside.links c.take_off.new.links (c.take_off.ensures.size ∙ c.deref_mut.ensures.len))
      c.requires.listed c.take_off.ensures.size c.take_off.ensures.after c.take_off.ensures.before c.take_off.ensures.list).1;
}
