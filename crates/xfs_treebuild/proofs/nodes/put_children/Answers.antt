use Rattle.std.proofs.Common.{◌≡◌, ℕ, ◌+◌, get_or, below_more, ◌<◌, ◌∙◌, ap, arith, length, subst, IsTrue, List, refl, sym, ◌≤◌}
use Rattle.xfs_geom.specs.Volumes.{volume_of}
use Rattle.xfs_tree.specs.Blocks.{capacity, child_at, count_of}
use Rattle.xfs_treebuild.specs.Exact.{KeepsBesideChildren}
use Rattle.xfs_treebuild.specs.Packing.{block_of_part}
use Rattle.xfs_treebuild.specs.Private.Placed.{seat_of}
use Rattle.xfs_treebuild.proofs.PackingExact.{children_on, keys_more}
use Rattle.xfs_treebuild.proofs.PackingSeats.{seat_low, seat_high, seat_one}
use borrow.Author.Count.{falls}
use Rattle.xfs_treebuild.proofs.Numbering.{child-room, child-inside, before-end, seat-held}
use Rattle.xfs_tree.specs.Rules.{can_hold}
use Rattle.xfs_treebuild.proofs.nodes.put_children.Goals as goal

pub put_child-requires-clause-low : goal.put_child-requires-clause-low
put_child-requires-clause-low g c =
    let s = g.K.Kind.shape c.args.kind.now in
    let i = c.loop-i.i in
    let place = get_or c.args.places.now i 0 in
    λ κs lives. seat_low s c.args.level place (block_of_part c.args.part.now (c.args.from + i)) c.seat_of-seat.result
    (c.seat_of-seat.ensures ∙ ap (seat_of s c.args.level place) c.block_of_part.ensures.value) (c.requires.children i c.loop-i-test.true)

pub put_child-requires-clause-high : goal.put_child-requires-clause-high
put_child-requires-clause-high g c =
    let s = g.K.Kind.shape c.args.kind.now in
    let i = c.loop-i.i in
    let place = get_or c.args.places.now i 0 in
    λ κs lives. seat_high s c.args.level place (block_of_part c.args.part.now (c.args.from + i)) c.seat_of-seat.result
    (c.seat_of-seat.ensures ∙ ap (seat_of s c.args.level place) c.block_of_part.ensures.value) (c.requires.children i c.loop-i-test.true)

pub put_child-requires-clause-one : goal.put_child-requires-clause-one
put_child-requires-clause-one g c =
    let s = g.K.Kind.shape c.args.kind.now in
    let i = c.loop-i.i in
    let place = get_or c.args.places.now i 0 in
    λ κs lives. seat_one s c.args.level place (block_of_part c.args.part.now (c.args.from + i)) c.seat_of-seat.result
    (c.seat_of-seat.ensures ∙ ap (seat_of s c.args.level place) c.block_of_part.ensures.value)

pub loop-i-preserved : goal.loop-i-preserved
loop-i-preserved g c =
    let s = g.K.Kind.shape c.args.kind.now in
    let v = volume_of c.args.g.now in
    let level = c.args.level in
    let places = c.args.places.now in
    let i = c.loop-i.i in
    let inside : i < s.layout.node_cap = omega (arith, c.loop-i-test.true, c.requires.room) in
    record {
      put = below_more (λ (k : ℕ). child_at s v c.put_child.new.block k ≡ seat_of s level (get_or places k 0) (block_of_part c.args.part.now (c.args.from + k))) i
          (λ k before. c.put_child.ensures.others k before ∙ c.loop-i.invariant.put k before)
          (c.put_child.ensures.put ∙ c.seat_of-seat.ensures ∙ ap (seat_of s level (get_or places i 0)) c.block_of_part.ensures.value);
      spelt = keys_more s c.loop-i.block c.put_child.new.block i inside c.put_child.ensures.keeps c.loop-i.invariant.spelt c.put_child.ensures.spelt;
      keeps = children_on s.layout c.args.block.now c.loop-i.block c.put_child.new.block i c.loop-i.invariant.keeps c.put_child.ensures.keeps;
    }

pub block_of_part-requires : goal.block_of_part-requires
block_of_part-requires g c = child-room c.args.from c.loop-i.i (length c.args.places.now) (length c.args.part.now) c.requires.part c.loop-i-test.true

pub bounds-places-i : goal.bounds-places-i
bounds-places-i g c = c.loop-i-test.true

pub seat_of-seat-requires-clause-block : goal.seat_of-seat-requires-clause-block
seat_of-seat-requires-clause-block g c = λ κs lives. c.block_of_part.ensures.len

pub put_child-requires-clause-inside : goal.put_child-requires-clause-inside
put_child-requires-clause-inside g c =
    λ κs lives. child-inside c.loop-i.i (length c.args.places.now) (g.K.Kind.shape c.args.kind.now).layout.node_cap c.loop-i-test.true c.requires.room

pub put_child-requires-clause-can_hold : goal.put_child-requires-clause-can_hold
put_child-requires-clause-can_hold g c =
    let s = g.K.Kind.shape c.args.kind.now in
    let v = volume_of c.args.g.now in
    λ κs lives. seat-held s (λ (place : ℕ). IsTrue (can_hold v s.layout s.owner place)) c.args.level (get_or c.args.places.now c.loop-i.i 0) c.block_of_part.result.now
    c.seat_of-seat.result c.seat_of-seat.ensures (c.requires.can_hold c.loop-i.i 0 c.loop-i-test.true)

pub loop-i-smaller : goal.loop-i-smaller
loop-i-smaller g c = falls (length c.args.places.now) c.loop-i.i c.loop-i-test.true

pub returns-clause-put : goal.returns-clause-put
returns-clause-put g c = λ j less. c.loop-i.invariant.put j (before-end j (length c.args.places.now) c.loop-i.i less c.loop-i-test.false)

pub returns-clause-spelt : goal.returns-clause-spelt
returns-clause-spelt g c = λ j less. c.loop-i.invariant.spelt j (before-end j (length c.args.places.now) c.loop-i.i less c.loop-i-test.false)

pub loop-i-init : goal.loop-i-init
loop-i-init g c = record {
  put = λ k low. absurd (omega (arith, low));
  spelt = λ k low. absurd (omega (arith, low));
  keeps = λ a w keys pointers. refl;
}

pub seat_of-seat-requires-clause-full : goal.seat_of-seat-requires-clause-full
seat_of-seat-requires-clause-full g c =
    let s = g.K.Kind.shape c.args.kind.now in
    λ κs lives. subst (λ (b : List ℕ). count_of b ≤ capacity s.layout c.args.level) (sym c.block_of_part.ensures.value) (c.requires.children c.loop-i.i c.loop-i-test.true).full

pub returns-clause-keeps : goal.returns-clause-keeps
returns-clause-keeps g c =
    let s = g.K.Kind.shape c.args.kind.now in
    let all : c.loop-i.i ≡ length c.args.places.now = omega (arith, c.loop-i-test.false, c.loop-i.auto.i-end) in
    subst (λ (n : ℕ). KeepsBesideChildren s.layout n c.args.block.now c.loop-i.block) all c.loop-i.invariant.keeps
