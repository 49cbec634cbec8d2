use Rattle.std.proofs.Common.{◌≡◌, ℕ, ◌+◌, ◌≤◌, ◌∷◌, [], length, map, sym, ap, subst, ◌∙◌, arith}
use Rattle.std.specs.List.{range_with_len}
use Rattle.std.proofs.lemmas.List.{length-append}
use Rattle.xfs_geom.specs.Volumes.{volume_of}
use Rattle.xfs_disk.proofs.Reading.{reads_none, reads_on}
use Rattle.xfs_groups.specs.Private.Heads.{heads_at}
use Rattle.xfs_groups.specs.declared.faults.GroupsFault.TheVariants as faults
use Rattle.xfs_groups.proofs.Causes.{caused_on, later, no_later}
use Rattle.xfs_groups.proofs.Grouped.{values_more}
use Rattle.xfs_groups.proofs.heads.read_all_heads.Goals as goal

pub loop-ag-init : goal.loop-ag-init
loop-ag-init g c =
    let D = g.D.Disk in
    record {
      read = λ image told. c.new-all.ensures.items;
      count = ap length c.new-all.ensures.items;
      later = no_later (D.faults c.args.disk.now);
      disk = reads_none D.size D.holds D.write_faults D.writes D.tells_stops D.moment D.may_leave D.left_since c.args.disk.now;
      reads = omega arith;
    }

pub read_heads-requires-clause-inside : goal.read_heads-requires-clause-inside
read_heads-requires-clause-inside g c = subst (λ (n : ℕ). c.args.g.now.dblocks ≤ n) (sym c.loop-ag.invariant.disk.same_size) c.requires.inside

pub loop-ag-preserved : goal.loop-ag-preserved
loop-ag-preserved g c =
    let D = g.D.Disk in
    let ag = c.loop-ag.ag in
    let before = c.loop-ag.invariant in
    let old = c.loop-ag.all.items in
    let heads = c.in-Ok.heads in
    let count : length old ≡ ag = before.count in
    let one : length c.push_heads.new.all.items ≡ length old + 1 = ap length c.in-Ok-push_heads.ensures ∙ length-append old (heads ∷ []) in
    record {
      read = λ image told.
          values_more (heads_at (volume_of c.args.g.now) image) ag old c.push_heads.new.all.items heads (before.read image told)
          (c.in-Ok.ensures.read image (before.disk.same_contents ∙ told)) c.in-Ok-push_heads.ensures;
      count = omega (arith, one, count);
      later = later (D.faults c.args.disk.now) (D.faults c.loop-ag.disk) (D.faults c.read_heads.new.disk) before.later c.in-Ok.ensures.cause;
      disk = reads_on D.size D.holds D.write_faults D.writes D.tells_stops D.moment D.may_leave D.left_since c.args.disk.now c.loop-ag.disk c.read_heads.new.disk before.disk c.in-Ok.ensures.disk;
      reads = omega arith;
    }

pub returns-in-Err : goal.returns-in-Err
returns-in-Err g c =
    let D = g.D.Disk in
    record {
      read = tt;
      count = tt;
      cause = caused_on (D.faults c.args.disk.now) (D.faults c.loop-ag.disk) (D.faults c.read_heads.new.disk) faults.ReadFault c.loop-ag.invariant.later c.in-Err.ensures.cause;
      disk = reads_on D.size D.holds D.write_faults D.writes D.tells_stops D.moment D.may_leave D.left_since c.args.disk.now c.loop-ag.disk c.read_heads.new.disk c.loop-ag.invariant.disk c.in-Err.ensures.disk;
      reads = omega arith;
    }

pub returns-in-Err-push_heads : goal.returns-in-Err-push_heads
returns-in-Err-push_heads g c =
    let D = g.D.Disk in
    record {
      read = tt;
      count = tt;
      cause = later (D.faults c.args.disk.now) (D.faults c.loop-ag.disk) (D.faults c.read_heads.new.disk) c.loop-ag.invariant.later c.in-Ok.ensures.cause;
      disk = reads_on D.size D.holds D.write_faults D.writes D.tells_stops D.moment D.may_leave D.left_since c.args.disk.now c.loop-ag.disk c.read_heads.new.disk c.loop-ag.invariant.disk c.in-Ok.ensures.disk;
      reads = omega arith;
    }

pub returns : goal.returns
returns g c =
    let before = c.loop-ag.invariant in
    let last : c.loop-ag.ag ≡ c.args.g.now.agcount = omega arith in
    record {
      read = λ image told. before.read image told ∙ ap (λ (n : ℕ). map (heads_at (volume_of c.args.g.now) image) (range_with_len 0 n)) last;
      count = before.count ∙ last;
      cause = before.later;
      disk = before.disk;
      reads = omega arith;
    }
