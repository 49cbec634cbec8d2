use Rattle.std.proofs.Common.{◌≡◌, ◌≤◌, ◌+◌, ◌-◌, length, get_or, sym, subst, arith, ◌∙◌, ℕ}
use Rattle.xfs_disk.proofs.Reading.{reads_none, reads_on}
use Rattle.xfs_geom.specs.Volumes.{volume_of}
use Rattle.xfs_forest.specs.Forest.{spots_of, AreGrowing, Each, IsDescended, IsForest, IsLow, IsOnward}
use Rattle.xfs_forest.proofs.Causes.{forest_caused}
use Rattle.xfs_forest.proofs.Forests.{each_both, forest_descended, growing_descended, low_on, low_up, none_listed}
use Rattle.xfs_forest.proofs.levels.grow_trees.Goals as goal

pub loop-level-init : goal.loop-level-init
loop-level-init g c =
    let D = g.D.Disk in
    record {
      none = c.new-cells.ensures.items;
      forest = subst (IsForest (length c.args.plants.now) c.args.g.now.dblocks c.args.trees.now) (sym c.new-cells.ensures.items) c.requires.forest;
      low = λ j d inside. c.highest-level.ensures.all j d (omega (arith, inside, c.requires.forest.count));
      grows = λ image told growing. growing;
      later = omega arith;
      disk = reads_none D.size D.holds D.write_faults D.writes D.tells_stops D.moment D.may_leave D.left_since c.args.disk.now;
      reads = omega arith;
    }

pub descend_all-requires : goal.descend_all-requires
descend_all-requires g c = record { through = λ j d inside. c.in-Ok.ensures.through j d (omega (arith, inside, c.in-Ok.ensures.forest.count)) }

pub loop-level-preserved : goal.loop-level-preserved
loop-level-preserved g c =
    let D = g.D.Disk in
    let n = length c.args.plants.now in
    let end = c.args.g.now.dblocks in
    let shape = g.K.Kind.shape in
    let v = volume_of c.args.g.now in
    let plants = c.args.plants.now in
    let before = c.loop-level.invariant in
    let mids = c.read_level.new.trees in
    let news = c.descend_all.new.trees in
    let long : length news ≡ length mids = c.descend_all.auto.trees in
    record {
      none = c.in-Ok.ensures.none;
      forest = forest_descended n end mids news c.read_level.new.cells.items c.read_level.new.cells.items long c.in-Ok.ensures.forest c.descend_all.ensures
          (none_listed n end c.read_level.new.cells.items c.in-Ok.ensures.none);
      low = λ j d inside. c.highest-level-in-loop-level.ensures.all j d (omega (arith, inside, long, c.in-Ok.ensures.forest.count));
      grows = λ image told growing. growing_descended shape v image plants mids news c.in-Ok.ensures.forest.count c.descend_all.ensures
          (c.in-Ok.ensures.grows image (before.disk.same_contents ∙ told)
          (subst (λ cells. AreGrowing shape v image plants c.loop-level.trees (spots_of cells)) (sym before.none) (before.grows image told growing)));
      later = let up = before.later in let cause = c.in-Ok.ensures.cause in omega (arith, up, cause);
      disk = reads_on D.size D.holds D.write_faults D.writes D.tells_stops D.moment D.may_leave D.left_since c.args.disk.now c.loop-level.disk c.read_level.new.disk before.disk c.in-Ok.ensures.disk;
      reads = let up = before.reads in let more = c.in-Ok.ensures.reads in omega (arith, up, more);
    }

pub loop-level-smaller : goal.loop-level-smaller
loop-level-smaller g c =
    let n = length c.args.plants.now in
    let level = c.loop-level.level in
    let mids = c.read_level.new.trees in
    let news = c.descend_all.new.trees in
    let long : length news ≡ length mids = c.descend_all.auto.trees in
    let count = c.in-Ok.ensures.forest.count in
    let low : Each (IsLow (level - 1)) n news = each_both (IsLow level) (IsLow (level - 1)) IsDescended n mids news (omega (arith, count))
    (λ a b below low. below.low (level - 1) (low_up level (level - 1 + 1) a (omega arith) low)) c.descend_all.ensures
    (each_both (IsLow level) (IsLow level) IsOnward n c.loop-level.trees mids (omega (arith, c.loop-level.invariant.forest.count)) (low_on level) c.in-Ok.ensures.onward c.loop-level.invariant.low) in
    let least : c.highest-level-in-loop-level.result ≤ level - 1 = c.highest-level-in-loop-level.ensures.least (level - 1) (λ j d inside. low j d (omega (arith, inside, long, count))) in
    omega (arith, least)

pub returns-in-Err : goal.returns-in-Err
returns-in-Err g c =
    let D = g.D.Disk in
    record {
      done = tt;
      grows = tt;
      cause = forest_caused _ _ _ c.in-Err.fault c.loop-level.invariant.later c.in-Err.ensures.cause;
      disk = reads_on D.size D.holds D.write_faults D.writes D.tells_stops D.moment D.may_leave D.left_since c.args.disk.now c.loop-level.disk c.read_level.new.disk c.loop-level.invariant.disk c.in-Err.ensures.disk;
      reads = let up = c.loop-level.invariant.reads in let more = c.in-Err.ensures.reads in omega (arith, up, more);
    }

pub returns-in-Ok-read_level : goal.returns-in-Ok-read_level
returns-in-Ok-read_level g c =
    let D = g.D.Disk in
    record {
      done = λ j d inside.
          let low = each_both (IsLow c.loop-level.level) (IsLow c.loop-level.level) IsOnward (length c.args.plants.now) c.loop-level.trees c.read_level-2.new.trees (omega (arith, c.loop-level.invariant.forest.count))
          (low_on c.loop-level.level) c.in-Ok-read_level.ensures.onward c.loop-level.invariant.low in
          record {
            through = c.in-Ok-read_level.ensures.through j d inside;
            low = low_up c.loop-level.level 0 (get_or c.read_level-2.new.trees j d) (omega arith) (low j d inside);
          };
      grows = λ image told growing.
          c.in-Ok-read_level.ensures.grows image (c.loop-level.invariant.disk.same_contents ∙ told)
          (subst (λ cells. AreGrowing g.K.Kind.shape (volume_of c.args.g.now) image c.args.plants.now c.loop-level.trees (spots_of cells)) (sym c.loop-level.invariant.none)
          (c.loop-level.invariant.grows image told growing));
      cause = let up = c.loop-level.invariant.later in let cause = c.in-Ok-read_level.ensures.cause in omega (arith, up, cause);
      disk = reads_on D.size D.holds D.write_faults D.writes D.tells_stops D.moment D.may_leave D.left_since c.args.disk.now c.loop-level.disk c.read_level-2.new.disk c.loop-level.invariant.disk c.in-Ok-read_level.ensures.disk;
      reads = let up = c.loop-level.invariant.reads in let more = c.in-Ok-read_level.ensures.reads in omega (arith, up, more);
    }

pub returns : goal.returns
returns g c =
    let D = g.D.Disk in
    record {
      done = tt;
      grows = tt;
      cause = forest_caused _ _ _ c.in-Err-read_level.fault c.loop-level.invariant.later c.in-Err-read_level.ensures.cause;
      disk = reads_on D.size D.holds D.write_faults D.writes D.tells_stops D.moment D.may_leave D.left_since c.args.disk.now c.loop-level.disk c.read_level-2.new.disk c.loop-level.invariant.disk c.in-Err-read_level.ensures.disk;
      reads = let up = c.loop-level.invariant.reads in let more = c.in-Err-read_level.ensures.reads in omega (arith, up, more);
    }

pub read_level-requires-clause-inside : goal.read_level-requires-clause-inside
read_level-requires-clause-inside g c = λ κs lives. subst (λ (n : ℕ). c.args.g.now.dblocks ≤ n) (sym c.loop-level.invariant.disk.same_size) c.requires.inside

pub read_level-requires-clause-forest : goal.read_level-requires-clause-forest
read_level-requires-clause-forest g c = λ κs lives. c.loop-level.invariant.forest

pub read_level-requires-2-clause-inside : goal.read_level-requires-2-clause-inside
read_level-requires-2-clause-inside g c = λ κs lives. subst (λ (n : ℕ). c.args.g.now.dblocks ≤ n) (sym c.loop-level.invariant.disk.same_size) c.requires.inside

pub read_level-requires-2-clause-forest : goal.read_level-requires-2-clause-forest
read_level-requires-2-clause-forest g c = λ κs lives. c.loop-level.invariant.forest
