use borrow.Author.Count.{falls}
use Rattle.std.proofs.Common.{◌≡◌, ℕ, ◌+◌, ◌-◌, ◌<◌, ◌≤◌, subst, refl, sym, ◌∙◌, arith}
use Rattle.xfs_geom.specs.Volumes.{volume_of}
use Rattle.xfs_tree.proofs.Causes.{caused_before}
use Rattle.xfs_disk.proofs.Reading.{reads_none, reads_on}
use Rattle.xfs_tree.proofs.Descent.{IsRead, none_read, level_read, level_broken, leaves_read}
use Rattle.xfs_tree.proofs.reading.read_levels.Goals as goal

-- what was read and counted in two parts, one behind the other
summed : (reads reads' reads'' steps steps' steps'' : ℕ) → reads' + steps ≤ reads + steps' → reads'' + steps' ≤ reads' + steps'' → reads'' + steps ≤ reads + steps''
summed reads reads' reads'' steps steps' steps'' first second = omega (arith, first, second)

rising : (low middle high : ℕ) → low ≤ middle → middle ≤ high → low ≤ high
rising low middle high first second = omega (arith, first, second)

some_left : (all done : ℕ) → done < all → 1 ≤ all - done
some_left all done more = omega (arith, more)

not_past : (done all : ℕ) → done < all → done ≤ all
not_past done all more = omega (arith, more)

none_left : (done all : ℕ) → all ≤ done → 0 ≡ all - done
none_left done all past = omega (arith, past)

ended : (done all : ℕ) → all ≤ done → done ≤ all → done ≡ all
ended done all past within = omega (arith, past, within)

pub loop-depth-init : goal.loop-depth-init
loop-depth-init g c =
    let D = g.D.Disk in
    record {
      met = c.new-met.ensures.met;
      read = λ image told.
          let s = g.K.Kind.shape c.args.kind.now in
          subst (λ met. IsRead s (volume_of c.args.g.now) image c.args.tops.items c.args.height 0 c.args.tops.items met) (sym c.new-met.ensures.none)
          (none_read s (volume_of c.args.g.now) image c.args.tops.items c.args.height);
      later = omega arith;
      disk = reads_none D.size D.holds D.write_faults D.writes D.tells_stops D.moment D.may_leave D.left_since c.args.disk.now;
      reads = omega arith;
    }

pub loop-depth-preserved : goal.loop-depth-preserved
loop-depth-preserved g c =
    let D = g.D.Disk in
    let before = c.loop-depth.invariant in
    let depth = c.loop-depth.depth in
    record {
      met = c.in-Ok.ensures.met;
      read = λ image told.
          let there = before.disk.same_contents ∙ told in
          level_read (g.K.Kind.shape c.args.kind.now) (volume_of c.args.g.now) image c.args.tops.items c.args.height depth (depth + 1) (c.args.height - depth)
          _ _ _ _ (omega arith) refl (subst (λ row. IsRead (g.K.Kind.shape c.args.kind.now) (volume_of c.args.g.now) image c.args.tops.items c.args.height c.loop-depth.depth row c.loop-depth.met.blocks.items) (sym c.deref.ensures.value) (c.loop-depth.invariant.read image told)) (c.in-Ok.ensures.judged image there) (c.in-Ok.ensures.children image there) c.in-Ok.ensures.blocks;
      later = let up = before.later in let cause = c.in-Ok.ensures.cause in omega (arith, up, cause);
      disk = reads_on D.size D.holds D.write_faults D.writes D.tells_stops D.moment D.may_leave D.left_since c.args.disk.now c.loop-depth.disk c.read_nodes.new.disk before.disk c.in-Ok.ensures.disk;
      reads = let up = before.reads in let more = c.in-Ok.ensures.reads in omega (arith, up, more);
    }

pub returns-in-Err : goal.returns-in-Err
returns-in-Err g c =
    let D = g.D.Disk in
    record {
      read = λ image told.
          level_broken (g.K.Kind.shape c.args.kind.now) (volume_of c.args.g.now) image c.args.tops.items c.args.height c.loop-depth.depth (c.args.height - c.loop-depth.depth) _ _ c.in-Err.fault
          refl (not_past _ _ c.loop-depth-test.true) (subst (λ row. IsRead (g.K.Kind.shape c.args.kind.now) (volume_of c.args.g.now) image c.args.tops.items c.args.height c.loop-depth.depth row c.loop-depth.met.blocks.items) (sym c.deref.ensures.value) (c.loop-depth.invariant.read image told)) (c.in-Err.ensures.judged image (c.loop-depth.invariant.disk.same_contents ∙ told));
      cause = caused_before _ _ _ c.in-Err.fault c.loop-depth.invariant.later c.in-Err.ensures.cause;
      disk = reads_on D.size D.holds D.write_faults D.writes D.tells_stops D.moment D.may_leave D.left_since c.args.disk.now c.loop-depth.disk c.read_nodes.new.disk c.loop-depth.invariant.disk c.in-Err.ensures.disk;
      reads = summed _ _ _ _ _ _ c.loop-depth.invariant.reads c.in-Err.ensures.reads;
    }

pub returns-in-Ok-read_leaves : goal.returns-in-Ok-read_leaves
returns-in-Ok-read_leaves g c =
    let D = g.D.Disk in
    record {
      read = λ image told.
          let there = c.loop-depth.invariant.disk.same_contents ∙ told in
          leaves_read (g.K.Kind.shape c.args.kind.now) (volume_of c.args.g.now) image c.args.tops.items c.args.height c.loop-depth.depth _ _ _ _
          (ended c.loop-depth.depth c.args.height c.loop-depth-test.false c.loop-depth.auto.depth-end) (subst (λ row. IsRead (g.K.Kind.shape c.args.kind.now) (volume_of c.args.g.now) image c.args.tops.items c.args.height c.loop-depth.depth row c.loop-depth.met.blocks.items) (sym c.deref-2.ensures.value) (c.loop-depth.invariant.read image told)) (c.in-Ok-read_leaves.ensures.judged image there) (c.in-Ok-read_leaves.ensures.records image there) c.in-Ok-read_leaves.ensures.blocks;
      cause = rising _ _ _ c.loop-depth.invariant.later c.in-Ok-read_leaves.ensures.cause;
      disk = reads_on D.size D.holds D.write_faults D.writes D.tells_stops D.moment D.may_leave D.left_since c.args.disk.now c.loop-depth.disk c.read_leaves.new.disk c.loop-depth.invariant.disk c.in-Ok-read_leaves.ensures.disk;
      reads = summed _ _ _ _ _ _ c.loop-depth.invariant.reads c.in-Ok-read_leaves.ensures.reads;
    }

pub returns : goal.returns
returns g c =
    let D = g.D.Disk in
    record {
      read = λ image told.
          level_broken (g.K.Kind.shape c.args.kind.now) (volume_of c.args.g.now) image c.args.tops.items c.args.height c.loop-depth.depth 0 _ _ c.in-Err-read_leaves.fault
          (none_left c.loop-depth.depth c.args.height c.loop-depth-test.false) c.loop-depth.auto.depth-end (subst (λ row. IsRead (g.K.Kind.shape c.args.kind.now) (volume_of c.args.g.now) image c.args.tops.items c.args.height c.loop-depth.depth row c.loop-depth.met.blocks.items) (sym c.deref-2.ensures.value) (c.loop-depth.invariant.read image told)) (c.in-Err-read_leaves.ensures.judged image (c.loop-depth.invariant.disk.same_contents ∙ told));
      cause = caused_before _ _ _ c.in-Err-read_leaves.fault c.loop-depth.invariant.later c.in-Err-read_leaves.ensures.cause;
      disk = reads_on D.size D.holds D.write_faults D.writes D.tells_stops D.moment D.may_leave D.left_since c.args.disk.now c.loop-depth.disk c.read_leaves.new.disk c.loop-depth.invariant.disk c.in-Err-read_leaves.ensures.disk;
      reads = summed _ _ _ _ _ _ c.loop-depth.invariant.reads c.in-Err-read_leaves.ensures.reads;
    }

pub read_nodes-requires-clause-inside : goal.read_nodes-requires-clause-inside
read_nodes-requires-clause-inside g c = λ κs lives. subst (λ (n : ℕ). c.args.g.now.dblocks ≤ n) (sym c.loop-depth.invariant.disk.same_size) c.requires

pub read_nodes-requires-clause-met : goal.read_nodes-requires-clause-met
read_nodes-requires-clause-met g c = λ κs lives. c.loop-depth.invariant.met

pub read_leaves-requires-clause-inside : goal.read_leaves-requires-clause-inside
read_leaves-requires-clause-inside g c = λ κs lives. subst (λ (n : ℕ). c.args.g.now.dblocks ≤ n) (sym c.loop-depth.invariant.disk.same_size) c.requires

pub read_leaves-requires-clause-met : goal.read_leaves-requires-clause-met
read_leaves-requires-clause-met g c = λ κs lives. c.loop-depth.invariant.met

pub read_nodes-requires-clause-nodes : goal.read_nodes-requires-clause-nodes
read_nodes-requires-clause-nodes g c = λ κs lives. some_left c.args.height c.loop-depth.depth c.loop-depth-test.true

pub loop-depth-smaller : goal.loop-depth-smaller
loop-depth-smaller g c = falls _ _ c.loop-depth-test.true
