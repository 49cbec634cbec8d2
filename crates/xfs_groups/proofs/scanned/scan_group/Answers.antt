use Rattle.std.proofs.Common.{◌≡◌, ℕ, ◌+◌, ◌*◌, ◌/◌, ◌%◌, ◌≤◌, false, ap, ap₂, refl, sym, ◌∙◌, subst, arith}
use Rattle.xfs_geom.specs.Conversions.{group_length}
use Rattle.xfs_geom.specs.Volumes.{volume_of}
use Rattle.xfs_disk.proofs.Reading.{reads_none, reads_on}
use Rattle.xfs_groups.specs.Private.Chosen.{ClustersPlaced, chosen, is_chosen, cluster_place, withheld}
use Rattle.xfs_groups.proofs.Causes.{caused_on, later, no_later}
use Rattle.xfs_groups.proofs.Choosing.{at_rest, chosen_more, four_more, in_fours, none_chosen, none_withheld, placed_step, withheld_then}
use Rattle.xfs_groups.proofs.Placed.{none_placed}
use Rattle.xfs_groups.proofs.scanned.scan_group.Goals as goal

pub loop-i-init : goal.loop-i-init
loop-i-init g c =
    let D = g.D.Disk in
    let v = volume_of c.args.g.now in
    let none = c.nothing_scanned-all.ensures in
    record {
      chosen_so = λ image told. none.clusters ∙ sym (none_chosen v image false c.args.named.now c.args.ag);
      held_so = λ image told. none.reserved ∙ sym (none_withheld v image false c.args.held.now c.start_of_group-start.result);
      placed = subst (ClustersPlaced v c.args.ag 0) (sym none.clusters) (none_placed v c.args.ag);
      later = no_later (D.faults c.args.disk.now);
      disk = reads_none D.size D.holds D.write_faults D.writes D.tells_stops D.moment D.may_leave D.left_since c.args.disk.now;
      reads = omega arith;
    }

pub loop-i-preserved : goal.loop-i-preserved
loop-i-preserved g c =
    let D = g.D.Disk in
    let v = volume_of c.args.g.now in
    let before = c.loop-i.invariant in
    let named = c.args.named.now in
    let old = c.loop-i.all in
    let new = c.scan_cluster.new.all in
    let start = c.start_of_group-start.result in
    let i = c.loop-i.i in
    let cluster = start + 4 * i in
    let at : cluster ≡ cluster_place v c.args.ag i = ap (λ (s : ℕ). s + 4 * i) c.start_of_group-start.ensures.value in
    let with = c.in-Ok.ensures.root in
    record {
      chosen_so = λ image told.
          chosen_more v image false named c.args.ag i cluster (is_chosen v image false named cluster) old.clusters.items new.clusters.items at refl
          (before.chosen_so image told) (c.in-Ok.ensures.chosen image (before.disk.same_contents ∙ told));
      held_so = λ image told.
          withheld_then v image false c.args.held.now start (4 * i) cluster 4 (4 * (i + 1)) old.reserved.items new.reserved.items refl (four_more i)
          (before.held_so image told) (c.in-Ok.ensures.withheld image (before.disk.same_contents ∙ told));
      placed = placed_step v c.args.ag i cluster named with.wanted old.clusters.items new.clusters.items at before.placed with.root with.joined;
      later = later (D.faults c.args.disk.now) (D.faults c.loop-i.disk) (D.faults c.scan_cluster.new.disk) before.later c.in-Ok.ensures.cause;
      disk = reads_on D.size D.holds D.write_faults D.writes D.tells_stops D.moment D.may_leave D.left_since c.args.disk.now c.loop-i.disk c.scan_cluster.new.disk before.disk c.in-Ok.ensures.disk;
      reads = omega arith;
    }

pub scan_cluster-requires-clause-inside : goal.scan_cluster-requires-clause-inside
scan_cluster-requires-clause-inside g c = subst (λ (n : ℕ). c.args.g.now.dblocks ≤ n) (sym c.loop-i.invariant.disk.same_size) c.requires.inside

pub look_at-requires-clause-inside : goal.look_at-requires-clause-inside
look_at-requires-clause-inside g c = subst (λ (n : ℕ). c.args.g.now.dblocks ≤ n) (sym c.loop-i.invariant.disk.same_size) c.requires.inside

pub returns-in-Err : goal.returns-in-Err
returns-in-Err g c =
    let D = g.D.Disk in
    record {
      chosen = tt;
      withheld = tt;
      placed = tt;
      cause = caused_on (D.faults c.args.disk.now) (D.faults c.loop-i.disk) (D.faults c.scan_cluster.new.disk) c.in-Err.fault c.loop-i.invariant.later c.in-Err.ensures.cause;
      disk = reads_on D.size D.holds D.write_faults D.writes D.tells_stops D.moment D.may_leave D.left_since c.args.disk.now c.loop-i.disk c.scan_cluster.new.disk c.loop-i.invariant.disk c.in-Err.ensures.disk;
      reads = omega arith;
    }

pub returns-in-Err-look_at : goal.returns-in-Err-look_at
returns-in-Err-look_at g c =
    let D = g.D.Disk in
    record {
      chosen = tt;
      withheld = tt;
      placed = tt;
      cause = caused_on (D.faults c.args.disk.now) (D.faults c.loop-i.disk) (D.faults c.look_at.new.disk) c.in-Err-look_at.fault c.loop-i.invariant.later
          c.in-Err-look_at.ensures.cause;
      disk = reads_on D.size D.holds D.write_faults D.writes D.tells_stops D.moment D.may_leave D.left_since c.args.disk.now c.loop-i.disk c.look_at.new.disk c.loop-i.invariant.disk c.in-Err-look_at.ensures.disk;
      reads = omega arith;
    }

pub returns-in-Ok-look_at : goal.returns-in-Ok-look_at
returns-in-Ok-look_at g c =
    let D = g.D.Disk in
    let v = volume_of c.args.g.now in
    let before = c.loop-i.invariant in
    let i = c.loop-i.i in
    let start = c.start_of_group-start in
    let blocks = c.group_length-blocks in
    let last : i ≡ blocks.result / 4 = omega arith in
    let end : i ≡ group_length v c.args.ag / 4 = last ∙ ap (λ (n : ℕ). n / 4) blocks.ensures.value in
    record {
      chosen = λ image told. before.chosen_so image told ∙ ap (chosen v image false c.args.named.now c.args.ag) end;
      withheld = λ image told.
          withheld_then v image false c.args.held.now start.result (4 * i) (start.result + blocks.result / 4 * 4) (blocks.result % 4) blocks.result c.loop-i.all.reserved.items
          c.look_at.new.reserved.items (at_rest start.result i (blocks.result / 4) last) (in_fours i blocks.result last) (before.held_so image told)
          (c.in-Ok-look_at.ensures.withheld image (before.disk.same_contents ∙ told))
          ∙ ap₂ (withheld v image false c.args.held.now) start.ensures.value blocks.ensures.value;
      placed = subst (λ (n : ℕ). ClustersPlaced v c.args.ag n c.loop-i.all.clusters.items) end before.placed;
      cause = later (D.faults c.args.disk.now) (D.faults c.loop-i.disk) (D.faults c.look_at.new.disk) before.later c.in-Ok-look_at.ensures.cause;
      disk = reads_on D.size D.holds D.write_faults D.writes D.tells_stops D.moment D.may_leave D.left_since c.args.disk.now c.loop-i.disk c.look_at.new.disk before.disk c.in-Ok-look_at.ensures.disk;
      reads = omega arith;
    }
