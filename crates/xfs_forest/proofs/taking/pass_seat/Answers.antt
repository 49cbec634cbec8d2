use Rattle.std.proofs.Common.{◌+◌, drop, refl, rules, sym, ◌∙◌}
use Rattle.xfs_forest.specs.Forest.{of_tree, spots_of}
use Rattle.xfs_forest.proofs.Trees.{growing_dead, growing_refused, growing_taken, taken_listed, taken_others, taken_passed}
use Rattle.xfs_forest.proofs.taking.pass_seat.Goals as goal

pub returns-then-is_some-clause-grows : goal.returns-then-is_some-clause-grows
returns-then-is_some-clause-grows g c = λ s v image whole split place alone growing.
    let old = c.args.tree.now in
    growing_dead s v image whole old
    (record { level = old.level; row = old.row; at = old.at + 1; side = old.side; met = old.met; before = old.before; next = old.next; records = old.records; fault = old.fault })
    (of_tree c.args.number (spots_of c.args.cells.now.items)) (sym c.is_some.ensures ∙ c.if-is_some.true) refl growing

pub returns-in_ok-take_seat-in-None : goal.returns-in_ok-take_seat-in-None
returns-in_ok-take_seat-in-None g c =
    record {
      passed = taken_passed c.args.number c.args.seat c.args.tree.now c.take_seat.new.tree c.args.cells.now.items c.take_seat.new.cells.items c.in_ok-take_seat-in-None.ensures;
      others = taken_others c.args.number c.args.seat c.args.tree.now c.take_seat.new.tree c.args.cells.now.items c.take_seat.new.cells.items c.in_ok-take_seat-in-None.ensures;
      listed = λ n end low inside listed.
          taken_listed c.args.number c.args.seat c.args.tree.now c.take_seat.new.tree c.args.cells.now.items c.take_seat.new.cells.items c.in_ok-take_seat-in-None.ensures
          n end low (inside c.in-None.is) listed;
      grows = λ s v image whole split place alone growing.
          growing_taken s v image whole c.args.number c.args.seat c.args.tree.now c.take_seat.new.tree c.args.cells.now.items c.take_seat.new.cells.items c.in_ok-take_seat-in-None.ensures
          split (place ∙ c.in-None.is) growing;
    }

pub returns-in-Some-clause-grows : goal.returns-in-Some-clause-grows
returns-in-Some-clause-grows g c = λ s v image whole split place alone growing.
    growing_refused s v image whole c.args.tree.now c.stop.new.tree c.args.number c.args.seat (drop (c.args.tree.now.at + 1) c.args.tree.now.row.items) c.in-Some.rule c.args.cells.now.items
    (search rules) split (place ∙ c.in-Some.is) (alone c.in-Some.rule c.in-Some.is) c.stop.ensures.fault growing
