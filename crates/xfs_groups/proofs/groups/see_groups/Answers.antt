use Rattle.std.proofs.Common.{◌≡◌, ℕ, ◌+◌, ◌-◌, ◌<◌, ◌≤◌, List, Some, map, slice_get, refl, sym, ap, subst, ◌∙◌, arith}
use Rattle.std.specs.List.{range_with_len}
use Rattle.std.proofs.lemmas.Option.{slice_get_read}
use Rattle.xfs_geom.specs.Volumes.{volume_of}
use Rattle.xfs_disk.proofs.Reading.{reads_on}
use Rattle.xfs_image.specs.Groups.{group_read, groups_from, groups_read}
use Rattle.xfs_image.specs.Reserved.{reserved_in}
use Rattle.xfs_groups.specs.Answers.{lists_of}
use Rattle.xfs_groups.specs.Private.Chosen.{candidates_in}
use Rattle.xfs_groups.specs.Private.Left.{AreLeft}
use Rattle.xfs_groups.specs.declared.heads.Heads.{Heads}
use Rattle.xfs_groups.proofs.Bare.{bare_before}
use Rattle.xfs_groups.proofs.Causes.{caused_on, later}
use Rattle.xfs_groups.proofs.Grouped.{all_candidates, groups_more, lists_more, none_placed, placed_on, values_more, GroupsPlaced}
use Rattle.xfs_groups.proofs.Lengths.{root_place}
use Rattle.xfs_groups.proofs.Taken.{group_taken, heads_of_group}
use Rattle.xfs_groups.proofs.groups.see_groups.Goals as goal

pub returns-in-Err : goal.returns-in-Err
returns-in-Err g c = record {
  groups = tt;
  clusters = tt;
  trees = tt;
  ascend = tt;
  low = tt;
  root = tt;
  cause = c.in-Err.ensures.cause;
  disk = c.in-Err.ensures.disk;
  reads = omega arith;
}

pub returns-in-Err-read_forests : goal.returns-in-Err-read_forests
returns-in-Err-read_forests g c =
    let D = g.D.Disk in
    record {
      groups = tt;
      clusters = tt;
      trees = tt;
      ascend = tt;
      low = tt;
      root = tt;
      cause = caused_on (D.faults c.args.disk.now) (D.faults c.read_all_heads.new.disk) (D.faults c.read_forests.new.disk) c.in-Err-read_forests.fault c.in-Ok.ensures.cause
          c.in-Err-read_forests.ensures.cause;
      disk = reads_on D.size D.holds D.write_faults D.writes D.tells_stops D.moment D.may_leave D.left_since c.args.disk.now c.read_all_heads.new.disk c.read_forests.new.disk
          c.in-Ok.ensures.disk c.in-Err-read_forests.ensures.disk;
      reads = omega arith;
    }

pub loop-ag-init : goal.loop-ag-init
loop-ag-init g c =
    let D = g.D.Disk in
    let n = c.args.g.now.agcount in
    let all : n ≡ n - 0 = omega arith in
    record {
      left = λ image told.
          subst (λ (heads : List Heads). AreLeft (volume_of c.args.g.now) image heads 0 (c.args.g.now.agcount - 0) c.in-Ok-read_forests.forests) c.deref.ensures.value
          (subst (λ (k : ℕ). AreLeft (volume_of c.args.g.now) image c.deref.result.now 0 k c.in-Ok-read_forests.forests) all
          (c.in-Ok-read_forests.ensures.left image (c.in-Ok.ensures.disk.same_contents ∙ told)));
      read = λ image told. c.no_groups-all.ensures.groups;
      chosen_so = λ image told none. c.no_groups-all.ensures.clusters;
      held_so = λ image told. ap lists_of c.no_groups-all.ensures.trees;
      placed = subst (GroupsPlaced c.args.g.now 0) (sym c.no_groups-all.ensures.clusters) (none_placed c.args.g.now);
      later = later (D.faults c.args.disk.now) (D.faults c.read_all_heads.new.disk) (D.faults c.read_forests.new.disk) c.in-Ok.ensures.cause c.in-Ok-read_forests.ensures.cause;
      disk = reads_on D.size D.holds D.write_faults D.writes D.tells_stops D.moment D.may_leave D.left_since c.args.disk.now c.read_all_heads.new.disk c.read_forests.new.disk
          c.in-Ok.ensures.disk c.in-Ok-read_forests.ensures.disk;
      reads = omega arith;
    }

pub add_group-requires-clause-inside : goal.add_group-requires-clause-inside
add_group-requires-clause-inside g c = subst (λ (n : ℕ). c.args.g.now.dblocks ≤ n) (sym c.loop-ag.invariant.disk.same_size) c.requires.inside

pub add_group-requires-clause-parts : goal.add_group-requires-clause-parts
add_group-requires-clause-parts g c = λ image told.
    let ag = c.loop-ag.ag in
    let n = c.args.g.now.agcount in
    let heads = c.in-Ok.heads.items in
    let h = c.index-heads.result.now in
    let before = sym c.loop-ag.invariant.disk.same_contents ∙ told in
    let at : slice_get heads ag ≡ Some h = slice_get_read heads n ag h (sym c.in-Ok.ensures.count) c.loop-ag-test.true c.index-heads.ensures in
    (group_taken (volume_of c.args.g.now) image heads h ag (n - ag) (n - (ag + 1)) c.loop-ag.forests c.next-trees.new.self c.next-trees.result at
    (heads_of_group (volume_of c.args.g.now) image heads h ag n (c.in-Ok.ensures.read image before) c.loop-ag-test.true at)
    (omega arith) (c.loop-ag.invariant.left image before) c.next-trees.ensures).0

pub loop-ag-preserved : goal.loop-ag-preserved
loop-ag-preserved g c =
    let D = g.D.Disk in
    let v = volume_of c.args.g.now in
    let n = c.args.g.now.agcount in
    let ag = c.loop-ag.ag in
    let heads = c.in-Ok.heads.items in
    let h = c.index-heads.result.now in
    let before = c.loop-ag.invariant in
    let old = c.loop-ag.all in
    let new = c.in-Ok-add_group.grown in
    let one = c.in-Ok-add_group.ensures in
    let at : slice_get heads ag ≡ Some h = slice_get_read heads n ag h (sym c.in-Ok.ensures.count) c.loop-ag-test.true c.index-heads.ensures in
    record {
      left = λ image told.
          (group_taken v image heads h ag (n - ag) (n - (ag + 1)) c.loop-ag.forests c.next-trees.new.self c.next-trees.result at
          (heads_of_group v image heads h ag n (c.in-Ok.ensures.read image told) c.loop-ag-test.true at) (omega arith) (before.left image told) c.next-trees.ensures).1;
      read = λ image told.
          groups_more v image ag old.groups new.groups (group_read v image ag) (before.read image told) refl (one.groups image (before.disk.same_contents ∙ told));
      chosen_so = λ image told none.
          lists_more (candidates_in v image) ag old.clusters (candidates_in v image ag) new.clusters
          (before.chosen_so image told (λ unlooked. bare_before v image old.clusters one.placed.more new.clusters one.placed.joined (none unlooked))) refl
          (one.clusters image (before.disk.same_contents ∙ told) none);
      held_so = λ image told.
          values_more (reserved_in v image) ag (lists_of old.trees) (lists_of new.trees) (reserved_in v image ag) (before.held_so image told) refl
          (one.trees image (before.disk.same_contents ∙ told));
      placed = subst (GroupsPlaced c.args.g.now (ag + 1)) (sym one.placed.joined) (placed_on c.args.g.now ag old.clusters one.placed.more (omega arith) before.placed one.placed.placed);
      later = later (D.faults c.args.disk.now) (D.faults c.loop-ag.disk) (D.faults c.add_group.new.disk) before.later one.cause;
      disk = reads_on D.size D.holds D.write_faults D.writes D.tells_stops D.moment D.may_leave D.left_since c.args.disk.now c.loop-ag.disk c.add_group.new.disk before.disk one.disk;
      reads = omega arith;
    }

pub returns-in-Err-add_group : goal.returns-in-Err-add_group
returns-in-Err-add_group g c =
    let D = g.D.Disk in
    let before = c.loop-ag.invariant in
    record {
      groups = tt;
      clusters = tt;
      trees = tt;
      ascend = tt;
      low = tt;
      root = tt;
      cause = caused_on (D.faults c.args.disk.now) (D.faults c.loop-ag.disk) (D.faults c.add_group.new.disk) c.in-Err-add_group.fault before.later c.in-Err-add_group.ensures.cause;
      disk = reads_on D.size D.holds D.write_faults D.writes D.tells_stops D.moment D.may_leave D.left_since c.args.disk.now c.loop-ag.disk c.add_group.new.disk before.disk
          c.in-Err-add_group.ensures.disk;
      reads = omega arith;
    }

pub returns : goal.returns
unfolding groups_read
returns g c =
    let v = volume_of c.args.g.now in
    let root = root_place c.args.g.now in
    let all = c.loop-ag.invariant in
    let last : c.loop-ag.ag ≡ c.args.g.now.agcount = omega arith in
    record {
      groups = λ image told. all.read image told ∙ ap (λ (n : ℕ). groups_from v image (range_with_len 0 n)) last;
      clusters = λ image told none. all_candidates v image c.loop-ag.ag c.loop-ag.all.clusters last (all.chosen_so image told none);
      trees = λ image told. all.held_so image told ∙ ap (λ (n : ℕ). map (reserved_in v image) (range_with_len 0 n)) last;
      ascend = all.placed.ascend;
      low = all.placed.inside;
      root = all.placed.root (subst (λ (n : ℕ). root.group < n) (sym last) root.there);
      cause = all.later;
      disk = all.disk;
      reads = omega arith;
    }
