use borrow.Author.Count.{falls}
use Rattle.std.proofs.Common.{ℕ, ◌≤◌, length, get_or, sym, subst, arith, ◌∙◌}
use Rattle.xfs_disk.proofs.Reading.{reads_none, reads_on}
use Rattle.xfs_forest.specs.Forest.{IsKept, IsOnward, IsThrough}
use Rattle.xfs_forest.proofs.Causes.{forest_caused}
use Rattle.xfs_forest.proofs.Forests.{both_both, each_both, forest_kept, kept_onward, none_listed, onward_on, onward_same, through_more, through_on}
use Rattle.xfs_forest.proofs.sweeping.read_level.Goals as goal

pub loop-t-init : goal.loop-t-init
loop-t-init g c =
    let D = g.D.Disk in
    record {
      ends = c.requires.forest.count;
      forest = c.requires.forest;
      onward = λ i d inside. onward_same (get_or c.args.trees.now i d);
      through = λ j d inside. absurd (omega arith);
      grows = λ image told growing. growing;
      later = omega arith;
      disk = reads_none D.size D.holds D.write_faults D.writes D.tells_stops D.moment D.may_leave D.left_since c.args.disk.now;
      reads = omega arith;
    }

pub loop-t-preserved : goal.loop-t-preserved
loop-t-preserved g c =
    let D = g.D.Disk in
    let before = c.loop-t.invariant in
    record {
      ends = before.ends;
      forest = c.in-Ok.ensures.forest;
      onward = both_both IsOnward IsOnward IsOnward c.args.trees.now c.loop-t.trees c.read_row.new.trees (omega arith) onward_on before.onward c.in-Ok.ensures.onward;
      through = through_more c.loop-t.t c.loop-t.trees c.read_row.new.trees (omega (arith, before.forest.count, before.ends)) c.in-Ok.ensures.onward before.through c.in-Ok.ensures.through;
      grows = λ image told growing. c.in-Ok.ensures.grows image (before.disk.same_contents ∙ told) (before.grows image told growing);
      later = let up = before.later in let cause = c.in-Ok.ensures.cause in omega (arith, up, cause);
      disk = reads_on D.size D.holds D.write_faults D.writes D.tells_stops D.moment D.may_leave D.left_since c.args.disk.now c.loop-t.disk c.read_row.new.disk before.disk c.in-Ok.ensures.disk;
      reads = let up = before.reads in let more = c.in-Ok.ensures.reads in omega (arith, up, more);
    }

pub returns-in-Err : goal.returns-in-Err
returns-in-Err g c =
    let D = g.D.Disk in
    record {
      forest = tt;
      onward = tt;
      through = tt;
      none = tt;
      grows = tt;
      cause = forest_caused _ _ _ c.in-Err.fault c.loop-t.invariant.later c.in-Err.ensures.cause;
      disk = reads_on D.size D.holds D.write_faults D.writes D.tells_stops D.moment D.may_leave D.left_since c.args.disk.now c.loop-t.disk c.read_row.new.disk c.loop-t.invariant.disk c.in-Err.ensures.disk;
      reads = let up = c.loop-t.invariant.reads in let more = c.in-Err.ensures.reads in omega (arith, up, more);
    }

pub returns-in-Ok-read_round : goal.returns-in-Ok-read_round
returns-in-Ok-read_round g c =
    let D = g.D.Disk in
    record {
      forest = let n = length c.args.plants.now in
          let end = c.args.g.now.dblocks in
          forest_kept n end c.loop-t.trees c.read_round.new.trees c.loop-t.cells.items c.read_round.new.cells.items c.read_round.auto.trees
          c.loop-t.invariant.forest c.in-Ok-read_round.ensures.kept (none_listed n end c.read_round.new.cells.items c.in-Ok-read_round.ensures.none);
      onward = both_both IsOnward IsKept IsOnward c.args.trees.now c.loop-t.trees c.read_round.new.trees (omega arith) (λ a b d onward kept. onward_on a b d onward (kept_onward b d kept))
          c.loop-t.invariant.onward c.in-Ok-read_round.ensures.kept;
      through = each_both IsThrough IsThrough IsKept (length c.args.plants.now) c.loop-t.trees c.read_round.new.trees (omega (arith, c.loop-t.invariant.forest.count))
          (λ a b kept through. through_on a b (kept_onward a b kept) through) c.in-Ok-read_round.ensures.kept
          (λ j d inside. c.loop-t.invariant.through j d (omega (arith, inside, c.loop-t.invariant.ends)));
      none = c.in-Ok-read_round.ensures.none;
      grows = λ image told growing.
          c.in-Ok-read_round.ensures.grows image (c.loop-t.invariant.disk.same_contents ∙ told) (c.loop-t.invariant.grows image told growing);
      cause = let up = c.loop-t.invariant.later in let cause = c.in-Ok-read_round.ensures.cause in omega (arith, up, cause);
      disk = reads_on D.size D.holds D.write_faults D.writes D.tells_stops D.moment D.may_leave D.left_since c.args.disk.now c.loop-t.disk c.read_round.new.disk c.loop-t.invariant.disk c.in-Ok-read_round.ensures.disk;
      reads = let up = c.loop-t.invariant.reads in let more = c.in-Ok-read_round.ensures.reads in omega (arith, up, more);
    }

pub returns-in-Err-read_round : goal.returns-in-Err-read_round
returns-in-Err-read_round g c =
    let D = g.D.Disk in
    record {
      forest = tt;
      onward = tt;
      through = tt;
      none = tt;
      grows = tt;
      cause = forest_caused _ _ _ c.in-Err-read_round.fault c.loop-t.invariant.later c.in-Err-read_round.ensures.cause;
      disk = reads_on D.size D.holds D.write_faults D.writes D.tells_stops D.moment D.may_leave D.left_since c.args.disk.now c.loop-t.disk c.read_round.new.disk c.loop-t.invariant.disk c.in-Err-read_round.ensures.disk;
      reads = let up = c.loop-t.invariant.reads in let more = c.in-Err-read_round.ensures.reads in omega (arith, up, more);
    }

pub read_row-requires-clause-inside : goal.read_row-requires-clause-inside
read_row-requires-clause-inside g c = λ κs lives. subst (λ (n : ℕ). c.args.g.now.dblocks ≤ n) (sym c.loop-t.invariant.disk.same_size) c.requires.inside

pub read_row-requires-clause-forest : goal.read_row-requires-clause-forest
read_row-requires-clause-forest g c = λ κs lives. c.loop-t.invariant.forest

pub read_row-requires-clause-number : goal.read_row-requires-clause-number
read_row-requires-clause-number g c = λ κs lives. omega (arith, c.loop-t-test.true, c.loop-t.invariant.ends)

pub read_round-requires-clause-inside : goal.read_round-requires-clause-inside
read_round-requires-clause-inside g c = λ κs lives. subst (λ (n : ℕ). c.args.g.now.dblocks ≤ n) (sym c.loop-t.invariant.disk.same_size) c.requires.inside

pub read_round-requires-clause-forest : goal.read_round-requires-clause-forest
read_round-requires-clause-forest g c = λ κs lives. c.loop-t.invariant.forest

pub loop-t-smaller : goal.loop-t-smaller
loop-t-smaller g c = falls _ c.loop-t.t c.loop-t-test.true
