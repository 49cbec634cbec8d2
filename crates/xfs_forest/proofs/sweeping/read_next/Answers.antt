use borrow.Author.Rules.{scaled_Fits}
use Rattle.std.proofs.Common.{◌<◌, ◌≡◌, length, drop, get_or, subst, arith}
use Rattle.std.proofs.lemmas.List.{get_or_default}
use Rattle.xfs_geom.specs.Volumes.{volume_of}
use Rattle.xfs_forest.specs.Forest.{room_of, IsKept, IsNext, IsOnward}
use Rattle.xfs_tree.specs.Rules.{place_fault}
use Rattle.xfs_forest.proofs.Forests.{both_both, broken_kept, kept_onward, next_kept, onward_on, room_kept}
use Rattle.xfs_forest.proofs.sweeping.read_next.Goals as goal

pub next_seat-next-requires-clause-met : goal.next_seat-next-requires-clause-met
next_seat-next-requires-clause-met g c = λ κs lives. c.requires.forest.met c.args.t c.index-trees-t.result c.requires.number

pub pass_next-requires-clause-next : goal.pass_next-requires-clause-next
pass_next-requires-clause-next g c = λ κs lives d.
    let t = c.args.t in
    let trees = c.args.trees.now in
    let x = c.index-trees-t.result in
    let next = c.next_seat-next.result in
    let inside : t < length trees = omega (arith, c.requires.number, c.requires.forest.count) in
    next_kept c.args.g.now.dblocks (get_or trees t d) (get_or c.make_room.new.trees t d) next.seat next.rule (c.in-Ok.ensures.kept t d inside)
    (subst (λ tree. IsNext c.args.g.now.dblocks tree next.seat next.rule) (get_or_default trees t x d inside) c.next_seat-next.ensures.next)

pub pass_next-requires-clause-broken : goal.pass_next-requires-clause-broken
pass_next-requires-clause-broken g c = λ κs lives p d.
    let t = c.args.t in
    let plants = c.args.plants.now in
    let trees = c.args.trees.now in
    let next = c.next_seat-next.result in
    let v = volume_of c.args.g.now in
    let inside : t < length trees = omega (arith, c.requires.number, c.requires.forest.count) in
    broken_kept (g.K.Kind.shape (get_or plants t p).kind) v (get_or trees t d) (get_or c.make_room.new.trees t d) next.seat.place next.rule (c.in-Ok.ensures.kept t d inside)
    (subst (λ tree. next.rule ≡ place_fault (g.K.Kind.shape (get_or plants t p).kind) v tree.met.blocks.items next.seat.place) (get_or_default trees t c.index-trees-t.result d inside)
    (subst (λ plant. next.rule ≡ place_fault (g.K.Kind.shape plant.kind) v (get_or trees t c.index-trees-t.result).met.blocks.items next.seat.place)
    (get_or_default plants t c.index-plants-t.result p c.requires.number) c.next_seat-next.ensures.broken))

pub pass_next-requires-clause-alone : goal.pass_next-requires-clause-alone
pass_next-requires-clause-alone g c = λ κs lives broken is. c.in-Ok.ensures.none (c.needs_room-needed.ensures broken is)

pub returns-in-Ok-pass_next : goal.returns-in-Ok-pass_next
returns-in-Ok-pass_next g c =
    record {
      forest = c.in-Ok-pass_next.ensures.forest;
      onward = both_both IsKept IsOnward IsOnward c.args.trees.now c.make_room.new.trees c.pass_next.new.trees (omega arith) (λ a b d kept onward. onward_on a b d (kept_onward a b kept) onward)
          c.in-Ok.ensures.kept c.in-Ok-pass_next.ensures.onward;
      less = let same = room_kept c.args.t c.args.trees.now c.make_room.new.trees c.make_room.auto.trees c.in-Ok.ensures.kept in
          let less = c.in-Ok-pass_next.ensures.less in
          subst (λ room. room_of (drop c.args.t c.pass_next.new.trees) < room) same less;
      grows = λ image told growing. c.in-Ok-pass_next.ensures.grows image (c.in-Ok.ensures.grows image told growing);
      cause = c.in-Ok.ensures.cause;
      disk = c.in-Ok.ensures.disk;
      reads = c.in-Ok.ensures.reads;
    }

pub make_room-requires-clause-inside : goal.make_room-requires-clause-inside
make_room-requires-clause-inside g c = λ κs lives. c.requires.inside

pub make_room-requires-clause-forest : goal.make_room-requires-clause-forest
make_room-requires-clause-forest g c = λ κs lives. c.requires.forest

pub pass_next-requires-clause-forest : goal.pass_next-requires-clause-forest
pass_next-requires-clause-forest g c = λ κs lives. c.in-Ok.ensures.forest

pub returns-in-Err-pass_next : goal.returns-in-Err-pass_next
returns-in-Err-pass_next g c =
    record {
      forest = tt;
      onward = tt;
      less = tt;
      grows = tt;
      cause = c.in-Ok.ensures.cause;
      disk = c.in-Ok.ensures.disk;
      reads = c.in-Ok.ensures.reads;
    }

pub returns-in-Err : goal.returns-in-Err
returns-in-Err g c =
    record {
      forest = tt;
      onward = tt;
      less = tt;
      grows = tt;
      cause = c.in-Err.ensures.cause;
      disk = c.in-Err.ensures.disk;
      reads = c.in-Err.ensures.reads;
    }

pub bounds-plants-t : goal.bounds-plants-t
bounds-plants-t g c = c.requires.number

pub bounds-trees-t : goal.bounds-trees-t
bounds-trees-t g c = omega (arith, c.requires.number, c.requires.forest.count)

pub next_seat-next-requires-clause-more : goal.next_seat-next-requires-clause-more
next_seat-next-requires-clause-more g c = λ κs lives. c.requires.more c.index-trees-t.result

pub pass_next-requires-clause-number : goal.pass_next-requires-clause-number
pass_next-requires-clause-number g c = λ κs lives. c.requires.number

pub offset_bounds-plants-t : goal.offset_bounds-plants-t
offset_bounds-plants-t g c = omega (arith, c.requires.number)

pub offset_bounds-trees-t : goal.offset_bounds-trees-t
offset_bounds-trees-t g c = scaled_Fits c.args.t (length c.args.trees.now) _ (omega (arith, c.requires.number, c.requires.forest.count)) c.well_formed.1.1.1.1.1.1.0.1
