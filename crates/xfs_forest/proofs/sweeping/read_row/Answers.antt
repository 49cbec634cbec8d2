use borrow.Author.Rules.{scaled_Fits}
use Rattle.std.proofs.Common.{ℕ, ◌≤◌, ◌<◌, length, get_or, sym, subst, arith, ◌∙◌}
use Rattle.std.proofs.lemmas.List.{get_or_default}
use Rattle.xfs_disk.proofs.Reading.{reads_none, reads_on}
use Rattle.xfs_forest.specs.Forest.{IsOnward, IsThrough}
use Rattle.xfs_forest.proofs.Causes.{forest_caused}
use Rattle.xfs_forest.proofs.Forests.{both_both, onward_on, onward_same}
use Rattle.xfs_forest.proofs.sweeping.read_row.Goals as goal

pub taking-init : goal.taking-init
taking-init g c =
    let D = g.D.Disk in
    record {
      forest = c.requires.forest;
      onward = λ i d inside. onward_same (get_or c.args.trees.now i d);
      grows = λ image told growing. growing;
      later = omega arith;
      disk = reads_none D.size D.holds D.write_faults D.writes D.tells_stops D.moment D.may_leave D.left_since c.args.disk.now;
      reads = omega arith;
    }

pub read_next-requires-clause-more : goal.read_next-requires-clause-more
read_next-requires-clause-more g c = λ κs lives d.
    let t = c.args.t in
    let trees = c.taking.trees in
    let inside : t < length trees = omega (arith, c.requires.number, c.taking.invariant.forest.count) in
    subst (λ tree. tree.at < length tree.row.items) (get_or_default trees t c.index-trees-t.result d inside) (c.has_more.ensures.more c.taking-test.true)

pub taking-preserved : goal.taking-preserved
taking-preserved g c =
    let D = g.D.Disk in
    let before = c.taking.invariant in
    record {
      forest = c.in-Ok.ensures.forest;
      onward = both_both IsOnward IsOnward IsOnward c.args.trees.now c.taking.trees c.read_next.new.trees (omega arith) onward_on before.onward c.in-Ok.ensures.onward;
      grows = λ image told growing. c.in-Ok.ensures.grows image (before.disk.same_contents ∙ told) (before.grows image told growing);
      later = let up = before.later in let cause = c.in-Ok.ensures.cause in omega (arith, up, cause);
      disk = reads_on D.size D.holds D.write_faults D.writes D.tells_stops D.moment D.may_leave D.left_since c.args.disk.now c.taking.disk c.read_next.new.disk before.disk c.in-Ok.ensures.disk;
      reads = let up = before.reads in let more = c.in-Ok.ensures.reads in omega (arith, up, more);
    }

pub returns-in-Err : goal.returns-in-Err
returns-in-Err g c =
    let D = g.D.Disk in
    record {
      forest = tt;
      onward = tt;
      through = tt;
      grows = tt;
      cause = forest_caused _ _ _ c.in-Err.fault c.taking.invariant.later c.in-Err.ensures.cause;
      disk = reads_on D.size D.holds D.write_faults D.writes D.tells_stops D.moment D.may_leave D.left_since c.args.disk.now c.taking.disk c.read_next.new.disk c.taking.invariant.disk c.in-Err.ensures.disk;
      reads = let up = c.taking.invariant.reads in let more = c.in-Err.ensures.reads in omega (arith, up, more);
    }

pub returns : goal.returns
returns g c =
    record {
      forest = c.taking.invariant.forest;
      onward = c.taking.invariant.onward;
      through = λ d.
          let t = c.args.t in
          let trees = c.taking.trees in
          let inside : t < length trees = omega (arith, c.requires.number, c.taking.invariant.forest.count) in
          subst IsThrough (get_or_default trees t c.index-trees-t.result d inside) (c.has_more.ensures.through c.taking-test.false);
      grows = c.taking.invariant.grows;
      cause = c.taking.invariant.later;
      disk = c.taking.invariant.disk;
      reads = c.taking.invariant.reads;
    }

pub read_next-requires-clause-inside : goal.read_next-requires-clause-inside
read_next-requires-clause-inside g c = λ κs lives. subst (λ (n : ℕ). c.args.g.now.dblocks ≤ n) (sym c.taking.invariant.disk.same_size) c.requires.inside

pub read_next-requires-clause-forest : goal.read_next-requires-clause-forest
read_next-requires-clause-forest g c = λ κs lives. c.taking.invariant.forest

pub bounds-trees-t : goal.bounds-trees-t
bounds-trees-t g c = omega (arith, c.requires.number, c.taking.invariant.forest.count)

pub read_next-requires-clause-number : goal.read_next-requires-clause-number
read_next-requires-clause-number g c = λ κs lives. c.requires.number

pub taking-smaller : goal.taking-smaller
taking-smaller g c = c.in-Ok.ensures.less

pub offset_bounds-trees-t : goal.offset_bounds-trees-t
offset_bounds-trees-t g c = scaled_Fits c.args.t (length c.args.trees.now) _ (omega (arith, c.requires.number, c.requires.forest.count)) c.well_formed.1.1.1.1.1.1.0.1
