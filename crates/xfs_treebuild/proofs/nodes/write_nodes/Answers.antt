use Rattle.std.proofs.Common.{◌≡◌, ◌≤◌, ◌+◌, ◌-◌, ◌≢◌, length, take, drop, ℕ, sym, ◌∙◌, ap, subst, arith, IsTrue, ◌*◌}
use Rattle.xfs_disk.specs.Shares.{share_of, first_of_share}
use Rattle.xfs_geom.specs.Volumes.{volume_of}
use Rattle.xfs_treebuild.specs.Private.Placed.{IsNodeAt, seats_in}
use Rattle.xfs_treebuild.specs.Exact.{KeepsBesideChildren}
use Rattle.xfs_treebuild.proofs.PackingExact.{node_exact, share_length}
use Rattle.xfs_treebuild.proofs.PackingMade.{children_here, node_made, node_room, one_more}
use Rattle.xfs_disk.proofs.Shares.{share_most}
use borrow.Author.Count.{falls}
use Rattle.std.proofs.lemmas.List.Elements.{All-take, All-drop}
use Rattle.xfs_treebuild.proofs.Numbering.{share-ends, nodes-room, children-room, before-end}
use Rattle.xfs_tree.specs.Rules.{can_hold}
use Rattle.xfs_treebuild.proofs.nodes.write_nodes.Goals as goal

pub put_children-requires-clause-children : goal.put_children-requires-clause-children
put_children-requires-clause-children g c =
    let inside : c.loop-i.from + c.share_of-share.result ≤ length c.args.below.now =
    share-ends c.loop-i.from c.share_of-share.result (length c.args.below.now) (first_of_share (length c.args.below.now) (length c.args.row.now) c.loop-i.i)
    c.loop-i.invariant.start c.share_of-share.ensures.inside in
    λ κs lives. children_here (g.K.Kind.shape c.args.kind.now) c.args.level c.args.below.now c.args.first c.loop-i.from c.share_of-share.result c.args.part.now c.loop-i.part
    inside c.loop-i.invariant.before c.requires.children

pub put_head-requires-clause-count : goal.put_head-requires-clause-count
put_head-requires-clause-count g c =
    let s = g.K.Kind.shape c.args.kind.now in
    let m = length c.args.row.now in
    let most : share_of (length c.args.below.now) m c.loop-i.i ≤ s.layout.node_cap = share_most (length c.args.below.now) m c.loop-i.i s.layout.node_cap c.loop-i-test.true c.requires.room in
    λ κs lives. node_room s.layout c.args.level c.share_of-share.result (subst (λ (n : ℕ). n ≤ s.layout.node_cap) (sym c.share_of-share.ensures.value) most)

pub loop-i-preserved : goal.loop-i-preserved
loop-i-preserved g c =
    let s = g.K.Kind.shape c.args.kind.now in
    let v = volume_of c.args.g.now in
    let share = c.share_of-share.ensures in
    let start = c.loop-i.invariant.start in
    let base = c.args.first + length c.args.below.now in
    let law = g.met.K.Kind g.world.𝓛 g.world.𝓜 g.world.𝓡 ((λ s x. x), (λ x. x), (λ x. x), λ x. x) in
    let most : share_of (length c.args.below.now) (length c.args.row.now) c.loop-i.i ≤ s.layout.node_cap =
    share_most (length c.args.below.now) (length c.args.row.now) c.loop-i.i s.layout.node_cap c.loop-i-test.true c.requires.room in
    let ends = share-ends c.loop-i.from c.share_of-share.result (length c.args.below.now) (first_of_share (length c.args.below.now) (length c.args.row.now) c.loop-i.i) start share.inside in
    let few = subst (λ (k : ℕ). k ≤ s.layout.node_cap) (sym share.value) most in
    let len : length (take (c.loop-i.from + c.share_of-share.result - c.loop-i.from) (drop c.loop-i.from c.args.below.now)) ≡ c.share_of-share.result =
    share_length c.args.below.now c.loop-i.from c.share_of-share.result ends in
    let exact = node_exact s v c.args.level c.args.row.now c.loop-i.i c.share_of-share.result c.clear_block-block.result c.put_children.new.block c.put_head.new.block
    (law.kind c.args.kind.now).laid_out few c.clear_block-block.ensures
    (subst (λ (n : ℕ). KeepsBesideChildren s.layout n c.clear_block-block.result c.put_children.new.block) len c.put_children.ensures.keeps)
    c.put_head.ensures.keeps_parts (λ k less. c.put_children.ensures.spelt k (omega (arith, less, len)))
    c.put_head.ensures.headed c.put_head.ensures.count in
    let made = node_made s v c.args.level c.args.below.now c.args.row.now c.loop-i.i c.args.first c.loop-i.from c.share_of-share.result
    c.args.part.now c.loop-i.part c.put_children.new.block c.put_head.new.block
    share.value start ends c.loop-i.invariant.before c.put_children.ensures.put
    c.put_head.ensures.headed c.put_head.ensures.count c.put_head.ensures.keeps c.put_head.ensures.keeps_parts exact in
    record {
      start = ap (λ (a : ℕ). a + c.share_of-share.result) start ∙ sym share.next;
      nodes = one_more (IsNodeAt s v (c.args.level + 1) (seats_in s c.args.level c.args.below.now c.args.first c.args.part.now) c.args.row.now)
          c.loop-i.part c.put_block.new.part c.put_head.new.block base c.loop-i.i c.put_block.ensures.put c.put_block.ensures.others made c.loop-i.invariant.nodes;
      before = λ k below. let apart : k ≢ base + c.loop-i.i = omega arith in c.put_block.ensures.others k apart ∙ c.loop-i.invariant.before k below;
    }

pub share_of-share-requires : goal.share_of-share-requires
share_of-share-requires g c = c.loop-i-test.true

pub put_children-requires-clause-part : goal.put_children-requires-clause-part
put_children-requires-clause-part g c =
    let n = length c.args.below.now in
    let m = length c.args.row.now in
    let ends = share-ends c.loop-i.from c.share_of-share.result n (first_of_share n m c.loop-i.i) c.loop-i.invariant.start c.share_of-share.ensures.inside in
    let len = share_length c.args.below.now c.loop-i.from c.share_of-share.result ends in
    λ κs lives. subst (λ (k : ℕ). 4096 * (c.args.first + c.loop-i.from + k) ≤ length c.loop-i.part) (sym len)
    (children-room c.args.first c.loop-i.from c.share_of-share.result n m (length c.loop-i.part) (length c.args.part.now) c.loop-i.auto.part ends c.requires.part)

pub put_children-requires-clause-room : goal.put_children-requires-clause-room
put_children-requires-clause-room g c =
    let n = length c.args.below.now in
    let m = length c.args.row.now in
    let ends = share-ends c.loop-i.from c.share_of-share.result n (first_of_share n m c.loop-i.i) c.loop-i.invariant.start c.share_of-share.ensures.inside in
    let s = g.K.Kind.shape c.args.kind.now in
    let most : share_of n m c.loop-i.i ≤ s.layout.node_cap = share_most n m c.loop-i.i s.layout.node_cap c.loop-i-test.true c.requires.room in
    let share : c.share_of-share.result ≤ s.layout.node_cap = subst (λ (k : ℕ). k ≤ s.layout.node_cap) (sym c.share_of-share.ensures.value) most in
    let len = share_length c.args.below.now c.loop-i.from c.share_of-share.result ends in
    λ κs lives. subst (λ (k : ℕ). k ≤ s.layout.node_cap) (sym len) share

pub put_children-requires-clause-can_hold : goal.put_children-requires-clause-can_hold
put_children-requires-clause-can_hold g c =
    let s = g.K.Kind.shape c.args.kind.now in
    let v = volume_of c.args.g.now in
    λ κs lives. All-take (λ place. IsTrue (can_hold v s.layout s.owner place)) (c.loop-i.from + c.share_of-share.result - c.loop-i.from) (drop c.loop-i.from c.args.below.now)
    (All-drop (λ place. IsTrue (can_hold v s.layout s.owner place)) c.loop-i.from c.args.below.now c.requires.below)

pub put_head-requires-clause-level : goal.put_head-requires-clause-level
put_head-requires-clause-level g c = λ κs lives. c.requires.level

pub put_head-requires-clause-row : goal.put_head-requires-clause-row
put_head-requires-clause-row g c = λ κs lives. c.loop-i-test.true

pub put_head-requires-clause-can_hold : goal.put_head-requires-clause-can_hold
put_head-requires-clause-can_hold g c = λ κs lives. c.requires.can_hold

pub put_block-requires-clause-inside : goal.put_block-requires-clause-inside
put_block-requires-clause-inside g c =
    nodes-room c.args.first (length c.args.below.now) c.loop-i.i (length c.args.row.now) (length c.loop-i.part) (length c.args.part.now) c.loop-i.auto.part c.requires.part c.loop-i-test.true

pub loop-i-smaller : goal.loop-i-smaller
loop-i-smaller g c = falls (length c.args.row.now) c.loop-i.i c.loop-i-test.true

pub returns-clause-nodes : goal.returns-clause-nodes
returns-clause-nodes g c = λ j less. c.loop-i.invariant.nodes j (before-end j (length c.args.row.now) c.loop-i.i less c.loop-i-test.false)

pub returns-clause-before : goal.returns-clause-before
returns-clause-before g c = c.loop-i.invariant.before
