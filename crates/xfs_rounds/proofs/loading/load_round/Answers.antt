use Rattle.xfs_disk.proofs.Reading.{reads_none}
use Rattle.std.proofs.Common.{◌+◌, ◌∙◌, List, ℕ, length, ap}
use Rattle.std.proofs.lemmas.List.{length-replicate}
use Rattle.xfs_rounds.proofs.Causes.{itself}
use Rattle.xfs_rounds.proofs.loading.load_round.Goals as goal

pub returns-in-Err : goal.returns-in-Err
returns-in-Err g c =
    let D = g.D.Disk in
    record {
      size = tt;
      held = tt;
      cause = itself (D.faults c.args.disk.now);
      disk = reads_none D.size D.holds D.write_faults D.writes D.tells_stops D.moment D.may_leave D.left_since c.args.disk.now;
      reads = itself (D.reads c.args.disk.now + c.args.steps.now);
    }

pub fill_round-requires : goal.fill_round-requires
fill_round-requires g c =
    record {
      inside = c.requires.inside;
      room = ap (λ (blocks : List (List ℕ)). length blocks) c.in-Ok.ensures ∙ length-replicate (length c.args.round.now) _;
    }
