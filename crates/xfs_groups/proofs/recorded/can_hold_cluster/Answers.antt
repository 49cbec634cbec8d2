use Rattle.std.proofs.Common.{Bool, not, refl, ◌||◌, sym, ap, ap₂, ◌∙◌, arith}
use Rattle.xfs_geom.specs.Volumes.{volume_of}
use Rattle.xfs_disk.proofs.Reading.{reads_none}
use Rattle.xfs_image.specs.Candidates.{has_whole_seal}
use Rattle.xfs_groups.proofs.Causes.{no_later}
use Rattle.xfs_groups.proofs.recorded.can_hold_cluster.Goals as goal

pub returns-then-is_fixed : goal.returns-then-is_fixed
returns-then-is_fixed g c =
    let D = g.D.Disk in
    record {
      clear = λ image told none.
          ap (λ (b : Bool). not (b || has_whole_seal (volume_of c.args.g.now) image c.args.block)) (sym c.if-is_fixed.true ∙ c.is_fixed.ensures);
      cause = no_later (D.faults c.args.disk.now);
      disk = reads_none D.size D.holds D.write_faults D.writes D.tells_stops D.moment D.may_leave D.left_since c.args.disk.now;
      reads = omega arith;
    }

pub returns-then-not-looks : goal.returns-then-not-looks
returns-then-not-looks g c =
    let D = g.D.Disk in
    record {
      clear = λ image told none. ap₂ (λ (x y : Bool). not (x || y)) (sym c.if-is_fixed.false ∙ c.is_fixed.ensures) (sym (none refl c.if-not-looks.true));
      cause = no_later (D.faults c.args.disk.now);
      disk = reads_none D.size D.holds D.write_faults D.writes D.tells_stops D.moment D.may_leave D.left_since c.args.disk.now;
      reads = omega arith;
    }

pub returns-in-Ok : goal.returns-in-Ok
returns-in-Ok g c = record {
  clear = λ image told none. ap₂ (λ (x y : Bool). not (x || y)) (sym c.if-is_fixed.false ∙ c.is_fixed.ensures) (c.in-Ok.ensures.whole image told);
  cause = c.in-Ok.ensures.cause;
  disk = c.in-Ok.ensures.disk;
  reads = omega arith;
}

pub returns-in-Err : goal.returns-in-Err
returns-in-Err g c = record {
  clear = tt;
  cause = c.in-Err.ensures.cause;
  disk = c.in-Err.ensures.disk;
  reads = omega arith;
}
