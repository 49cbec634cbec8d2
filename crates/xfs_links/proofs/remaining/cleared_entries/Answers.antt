use Rattle.std.proofs.Common.{sym, ◌∙◌}
use Rattle.xfs_links.proofs.Lonely.{told_any, cleared_none, without_all}
use Rattle.xfs_links.proofs.remaining.cleared_entries.Goals as goal

pub returns-then-not-has_orphan : goal.returns-then-not-has_orphan
returns-then-not-has_orphan c = record {
  cleared = cleared_none c.args.files.now c.args.entries.now c.args.root c.args.parents.now c.args.staying.items
      (sym (told_any c.args.files.now c.args.root c.args.parents.now c.deref-2.result.now c.in_ok-named.named.items c.args.staying.items c.deref.result.now c.has_orphan.result
      c.deref-2.ensures.value c.deref.ensures.value c.in_ok-named.ensures.named c.has_orphan.ensures) ∙ c.if-not-has_orphan.true);
}

pub returns : goal.returns
returns c = record {
  cleared = without_all c.without_way.result c.args.files.now c.args.entries.now c.args.root c.args.parents.now c.args.staying.items c.deref-3.result.now c.deref-3.ensures.value
      (sym (told_any c.args.files.now c.args.root c.args.parents.now c.deref-2.result.now c.in_ok-named.named.items c.args.staying.items c.deref.result.now c.has_orphan.result
      c.deref-2.ensures.value c.deref.ensures.value c.in_ok-named.ensures.named c.has_orphan.ensures) ∙ c.if-not-has_orphan.false) c.without_way.ensures;
}
