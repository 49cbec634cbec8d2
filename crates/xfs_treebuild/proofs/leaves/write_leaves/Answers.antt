use Rattle.std.proofs.Common.{◌+◌, ◌*◌, ◌≤◌, length, map, ℕ, sym, ◌∙◌, ap, subst, arith, ◌-◌, take, drop, IsTrue, refl}
use Rattle.xfs_disk.specs.Shares.{share_of, first_of_share}
use Rattle.xfs_geom.specs.Volumes.{volume_of}
use Rattle.xfs_word.specs.Field.{KeepsParts}
use Rattle.xfs_tree.specs.Layout.{header_len}
use Rattle.xfs_treebuild.specs.Private.Placed.{IsLeafAt}
use Rattle.xfs_treebuild.proofs.PackingExact.{leaf_exact, share_length}
use Rattle.xfs_treebuild.proofs.PackingMade.{leaf_made, next_more}
use Rattle.xfs_disk.proofs.Shares.{share_most}
use borrow.Author.Count.{falls}
use Rattle.std.specs.List.{All}
use Rattle.std.proofs.lemmas.List.Elements.{All-take, All-drop}
use Rattle.xfs_treebuild.proofs.Numbering.{share-ends, fits-62, part-room, before-end}
use Rattle.xfs_treebuild.proofs.leaves.write_leaves.Goals as goal

pub loop-i-preserved : goal.loop-i-preserved
loop-i-preserved g c =
    let s = g.K.Kind.shape c.args.kind.now in
    let v = volume_of c.args.g.now in
    let i = c.loop-i.i in
    let share = c.share_of-share.ensures in
    let start = c.loop-i.invariant.start in
    let law = g.met.K.Kind g.world.𝓛 g.world.𝓜 g.world.𝓡 ((λ s x. x), (λ x. x), (λ x. x), λ x. x) in
    let n = length c.args.records.now in
    let m = length c.args.row.now in
    let most : share_of n m i ≤ s.layout.leaf_cap = share_most n m i s.layout.leaf_cap c.loop-i-test.true c.requires.room in
    let ends = share-ends c.loop-i.first c.share_of-share.result n (first_of_share n m i) start share.inside in
    let few = subst (λ (k : ℕ). k ≤ s.layout.leaf_cap) (sym share.value) most in
    let len = share_length c.args.records.now c.loop-i.first c.share_of-share.result ends in
    let exact = leaf_exact s v c.args.row.now i c.share_of-share.result c.clear_block-block.result c.put_records.new.block c.put_head.new.block
    (law.kind c.args.kind.now).laid_out few c.clear_block-block.ensures
    (subst (λ (n : ℕ). KeepsParts c.clear_block-block.result c.put_records.new.block (header_len s.layout) (n * s.layout.record_len)) len c.put_records.ensures.keeps_parts)
    c.put_head.ensures.keeps_parts c.put_head.ensures.headed c.put_head.ensures.count in
    let made = leaf_made s v c.args.records.now c.args.row.now i c.loop-i.first c.share_of-share.result c.put_records.new.block c.put_head.new.block
    share.value start ends c.put_records.ensures.put
    c.put_head.ensures.headed c.put_head.ensures.count c.put_head.ensures.keeps_parts exact in
    record {
      start = ap (λ (a : ℕ). a + c.share_of-share.result) start ∙ sym share.next;
      leaves = next_more (IsLeafAt s v (map s.settled c.args.records.now) c.args.row.now) c.loop-i.part c.put_block.new.part c.put_head.new.block i
          c.put_block.ensures.put c.put_block.ensures.others made c.loop-i.invariant.leaves;
    }

pub share_of-share-requires : goal.share_of-share-requires
share_of-share-requires g c = c.loop-i-test.true

pub overflow_add-first : goal.overflow_add-first
overflow_add-first g c =
    let n = length c.args.records.now in
    let m = length c.args.row.now in
    let ends = share-ends c.loop-i.first c.share_of-share.result n (first_of_share n m c.loop-i.i) c.loop-i.invariant.start c.share_of-share.ensures.inside in
    fits-62 (c.loop-i.first + c.share_of-share.result) n ends c.requires.few

pub overflow_add-first-in-loop-i : goal.overflow_add-first-in-loop-i
overflow_add-first-in-loop-i g c =
    let n = length c.args.records.now in
    let m = length c.args.row.now in
    let ends = share-ends c.loop-i.first c.share_of-share.result n (first_of_share n m c.loop-i.i) c.loop-i.invariant.start c.share_of-share.ensures.inside in
    fits-62 (c.loop-i.first + c.share_of-share.result) n ends c.requires.few

pub put_records-requires-clause-fits : goal.put_records-requires-clause-fits
put_records-requires-clause-fits g c =
    let s = g.K.Kind.shape c.args.kind.now in
    λ κs lives. All-take (λ r. IsTrue (s.fits r)) (c.loop-i.first + c.share_of-share.result - c.loop-i.first) (drop c.loop-i.first c.args.records.now)
    (All-drop (λ r. IsTrue (s.fits r)) c.loop-i.first c.args.records.now c.requires.fits)

pub put_records-requires-clause-room : goal.put_records-requires-clause-room
put_records-requires-clause-room g c =
    let n = length c.args.records.now in
    let m = length c.args.row.now in
    let ends = share-ends c.loop-i.first c.share_of-share.result n (first_of_share n m c.loop-i.i) c.loop-i.invariant.start c.share_of-share.ensures.inside in
    let s = g.K.Kind.shape c.args.kind.now in
    let most : share_of n m c.loop-i.i ≤ s.layout.leaf_cap = share_most n m c.loop-i.i s.layout.leaf_cap c.loop-i-test.true c.requires.room in
    let share : c.share_of-share.result ≤ s.layout.leaf_cap = subst (λ (k : ℕ). k ≤ s.layout.leaf_cap) (sym c.share_of-share.ensures.value) most in
    let len = share_length c.args.records.now c.loop-i.first c.share_of-share.result ends in
    λ κs lives. subst (λ (k : ℕ). k ≤ s.layout.leaf_cap) (sym len) share

pub put_head-requires-clause-count : goal.put_head-requires-clause-count
put_head-requires-clause-count g c =
    let n = length c.args.records.now in
    let m = length c.args.row.now in
    let ends = share-ends c.loop-i.first c.share_of-share.result n (first_of_share n m c.loop-i.i) c.loop-i.invariant.start c.share_of-share.ensures.inside in
    let s = g.K.Kind.shape c.args.kind.now in
    let most : share_of n m c.loop-i.i ≤ s.layout.leaf_cap = share_most n m c.loop-i.i s.layout.leaf_cap c.loop-i-test.true c.requires.room in
    let share : c.share_of-share.result ≤ s.layout.leaf_cap = subst (λ (k : ℕ). k ≤ s.layout.leaf_cap) (sym c.share_of-share.ensures.value) most in
    λ κs lives. share

pub put_head-requires-clause-row : goal.put_head-requires-clause-row
put_head-requires-clause-row g c = λ κs lives. c.loop-i-test.true

pub put_head-requires-clause-can_hold : goal.put_head-requires-clause-can_hold
put_head-requires-clause-can_hold g c = λ κs lives. c.requires.can_hold

pub put_block-requires-clause-inside : goal.put_block-requires-clause-inside
put_block-requires-clause-inside g c = part-room c.loop-i.i (length c.args.row.now) (length c.loop-i.part) (length c.args.part.now) c.loop-i.auto.part c.requires.part c.loop-i-test.true

pub loop-i-smaller : goal.loop-i-smaller
loop-i-smaller g c = falls (length c.args.row.now) c.loop-i.i c.loop-i-test.true

pub returns : goal.returns
returns g c = record { leaves = λ j less. c.loop-i.invariant.leaves j (before-end j (length c.args.row.now) c.loop-i.i less c.loop-i-test.false) }
