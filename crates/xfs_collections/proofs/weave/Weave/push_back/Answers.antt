use Rattle.std.proofs.Common.{◌<◌, length, sym, subst, ◌∙◌}
use Rattle.std.proofs.lemmas.List.{with_items_is}
use Rattle.xfs_collections.proofs.Views.{pushed_seen, end_inside}
use Rattle.xfs_collections.proofs.weave.Weave.push_back.Goals as goal

pub put_in_front-requires-clause-end : goal.put_in_front-requires-clause-end
put_in_front-requires-clause-end c = subst (λ r. c.end_of-end.result < length r) (sym c.deref_mut.ensures.value)
    (end_inside c.args.self.now c.self.inside.nodes c.self.inside.lists c.self.inside.links.items c.args.list c.end_of-end.result c.self.view_is c.self.invariant c.requires.list c.end_of-end.ensures)

pub invariant_of-self : goal.invariant_of-self
invariant_of-self c = (pushed_seen c.args.self.now c.self.inside.nodes c.self.inside.lists c.self.inside.links.items c.deref_mut.result.now c.put_in_front.new.links
    _ c.args.node c.args.list c.end_of-end.result c.self.view_is c.self.invariant c.deref_mut.ensures.value
    (with_items_is c.self.inside.links c.put_in_front.new.links (c.put_in_front.ensures.size ∙ c.deref_mut.ensures.len))
    c.requires.list c.requires.node c.requires.free c.end_of-end.ensures c.put_in_front.ensures.size c.put_in_front.ensures.after c.put_in_front.ensures.before c.put_in_front.ensures.list).0

pub returns : goal.returns
returns c = record {
  put = (pushed_seen c.args.self.now c.self.inside.nodes c.self.inside.lists c.self.inside.links.items c.deref_mut.result.now c.put_in_front.new.links
      _ c.args.node c.args.list c.end_of-end.result c.self.view_is c.self.invariant c.deref_mut.ensures.value
      (with_items_is c.self.inside.links c.put_in_front.new.links (c.put_in_front.ensures.size ∙ c.deref_mut.ensures.len))
      c.requires.list c.requires.node c.requires.free c.end_of-end.ensures c.put_in_front.ensures.size c.put_in_front.ensures.after c.put_in_front.ensures.before c.put_in_front.ensures.list).1;
}
