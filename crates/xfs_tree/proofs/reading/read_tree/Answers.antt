use Rattle.std.proofs.Common.{◌≡◌, ℕ, ◌-◌, ◌≤◌, Ok, MatchResult, subst, arith}
use Rattle.xfs_geom.specs.Volumes.{volume_of}
use Rattle.xfs_disk.proofs.Reading.{reads_none}
use Rattle.xfs_tree.specs.Answers.{Fails}
use Rattle.xfs_tree.specs.Reading.{reading}
use Rattle.xfs_tree.proofs.reading.read_tree.Goals as goal

same : (n : ℕ) → n ≤ n
same n = omega arith

pub returns-in-Ok : goal.returns-in-Ok
returns-in-Ok g c =
    let answers = c.read_levels.ensures in
    record {
      read = λ image told.
          subst (λ tops. MatchResult c.read_levels.result
          (λ tree. reading (g.K.Kind.shape c.args.kind.now) (volume_of c.args.g.now) image tops (c.args.levels - 1) ≡ Ok (record { records = tree.records.items; blocks = tree.blocks.items }))
          (λ error. Fails error (reading (g.K.Kind.shape c.args.kind.now) (volume_of c.args.g.now) image tops (c.args.levels - 1))))
          c.in-Ok.ensures (answers.read image told);
      cause = answers.cause;
      disk = answers.disk;
      reads = answers.reads;
    }

pub returns-in-Err : goal.returns-in-Err
returns-in-Err g c =
    let D = g.D.Disk in
    record {
      read = λ image told. tt;
      cause = same (D.faults c.args.disk.now);
      disk = reads_none D.size D.holds D.write_faults D.writes D.tells_stops D.moment D.may_leave D.left_since c.args.disk.now;
      reads = same _;
    }
