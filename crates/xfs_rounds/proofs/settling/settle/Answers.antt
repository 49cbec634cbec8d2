use Rattle.std.proofs.Common.{List, Result, slice_get, subst, sym, ap, ◌∙◌}
use Rattle.xfs_geom.specs.Volumes.{volume_of}
use Rattle.xfs_tree.specs.declared.tree.Tree.{Tree}
use Rattle.xfs_tree.specs.declared.unread.Unread.{Unread}
use Rattle.xfs_kinds.specs.declared.file_trees.Bmbt.{Bmbt}
use Rattle.xfs_word.specs.declared.extents.Extent.{Extent}
use Rattle.xfs_rounds.specs.Named.{IsNaming, tree_found}
use Rattle.xfs_rounds.proofs.FoundFiles.{found_file, stands_inside}
use Rattle.xfs_rounds.proofs.settling.settle.Goals as goal

pub block_at-requires : goal.block_at-requires
block_at-requires c =
    let named = c.args.named.now in
    let naming = subst (IsNaming (volume_of c.args.g.now) named.leaves.items named.links.items c.args.ino c.args.held.now) (sym c.index-slot.ensures) (c.requires.naming c.index-slot.result.now) in
    record { inside = stands_inside named.leaves.items c.args.found.now.leaves c.index-slot.result.now.needs.attr_leaf c.index-slot.result.now.leaf_at naming.leaf_at c.requires.found.leaves }

pub block_at-requires-2 : goal.block_at-requires-2
block_at-requires-2 c =
    let named = c.args.named.now in
    let naming = subst (IsNaming (volume_of c.args.g.now) named.leaves.items named.links.items c.args.ino c.args.held.now) (sym c.index-slot.ensures) (c.requires.naming c.index-slot.result.now) in
    record { inside = stands_inside named.links.items c.args.found.now.links c.index-slot.result.now.needs.link c.index-slot.result.now.link_at naming.link_at c.requires.found.links }

pub decide_read-requires-clause-slot : goal.decide_read-requires-clause-slot
decide_read-requires-clause-slot c = c.requires.slot

pub decide_read-requires-clause-read : goal.decide_read-requires-clause-read
decide_read-requires-clause-read c =
    let named = c.args.named.now in
    let naming = subst (IsNaming (volume_of c.args.g.now) named.leaves.items named.links.items c.args.ino c.args.held.now) (sym c.index-slot.ensures) (c.requires.naming c.index-slot.result.now) in
    naming.read

pub decide_read-requires-clause-attr_leaf : goal.decide_read-requires-clause-attr_leaf
decide_read-requires-clause-attr_leaf c = c.block_at.ensures.size

pub decide_read-requires-clause-link : goal.decide_read-requires-clause-link
decide_read-requires-clause-link c = c.block_at-2.ensures.size

pub returns : goal.returns
returns c =
    let v = volume_of c.args.g.now in
    let named = c.args.named.now in
    let slot = c.index-slot.result.now in
    let naming = subst (IsNaming v named.leaves.items named.links.items c.args.ino c.args.held.now) (sym c.index-slot.ensures) (c.requires.naming slot) in
    found_file v named c.args.found.now c.args.number c.args.ino c.args.held.now slot c.decide_read.result _ _ _ c.requires.number c.index-slot.ensures naming
    (c.tree_of.ensures ∙ ap (λ (trees : List (Result (Tree Bmbt Extent _) Unread)). tree_found slot.needs.top (slice_get trees c.args.number)) c.deref.ensures.value)
    c.block_at.ensures.block c.block_at-2.ensures.block c.decide_read.ensures.read c.decide_read.ensures.sound
