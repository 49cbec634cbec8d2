-- What comes of what is found.
use Rattle.std.proofs.Common.{true, false, Some, sym, ◌∙◌}
use Rattle.xfs_geom.specs.Electing.{vote_of}
use Rattle.xfs_mend.proofs.Anew.{rebuilt_leaves, stops_rebuilt}
use Rattle.xfs_mend.proofs.Deciding.{due_anew, is_planned, is_repaired_anew}
use Rattle.xfs_mend.proofs.Owing.{owed_as}
use Rattle.xfs_mend.specs.Asked.{repair_asked}
use Rattle.xfs_mend.specs.Due.{IsDueFound}
use Rattle.xfs_mend.specs.Rebuilding.{IsDueRebuild, IsRepairPlan, is_backup}
use Rattle.xfs_mend.proofs.repairing.answer_found.Goals as goal

pub answer_kept-requires-clause-kept : goal.answer_kept-requires-clause-kept
answer_kept-requires-clause-kept g c = sym c.asks_rebuild.ensures ∙ c.if-asks_rebuild.false

pub returns-then-asks_rebuild : goal.returns-then-asks_rebuild
returns-then-asks_rebuild g c =
    let D = g.D.Disk in
    let o = repair_asked c.args.options.now in
    let geometry = c.args.chosen.now.geometry in
    let sector = c.args.chosen.now.sector in
    let s = c.args.stamp.now in
    let anew = is_repaired_anew c.args.options.now.check (is_backup c.args.found) (sym c.asks_rebuild.ensures ∙ c.if-asks_rebuild.true) in
    let later = c.rebuild.ensures in
    record {
      due = λ image told.
          owed_as (IsDueRebuild geometry s image) (IsDueFound o geometry s image (Some c.args.found)) c.rebuild.result
          (λ outcome due. due_anew o geometry s image c.args.found outcome anew.0 anew.1 due) (later.due image told);
      leaves = λ image told.
          rebuilt_leaves (IsRepairPlan geometry sector s image c.args.evidence) s image (D.holds c.rebuild.new.disk) c.rebuild.result
          (λ r orphans is. is_planned geometry s image (vote_of c.args.chosen.now) c.args.found c.args.evidence r orphans (c.requires.elects image told) c.requires.stated (c.requires.found image told) anew.1
          (c.requires.evidence image told) is) (later.leaves image told);
      stops = λ tells image told t stopped low left.
          stops_rebuilt (IsRepairPlan geometry sector s image c.args.evidence) s image c.rebuild.result stopped (D.left_since c.args.disk.now t stopped)
          (λ r orphans is. is_planned geometry s image (vote_of c.args.chosen.now) c.args.found c.args.evidence r orphans (c.requires.elects image told) c.requires.stated (c.requires.found image told) anew.1
          (c.requires.evidence image told) is) (later.stops tells image told t stopped low left);
      possible = later.possible o anew.0;
      ends = later.ends;
    }

pub returns-else-asks_rebuild : goal.returns-else-asks_rebuild
returns-else-asks_rebuild g c =
    let later = c.answer_kept.ensures in
    record { due = later.due; leaves = later.leaves; stops = later.stops; possible = later.possible; ends = later.ends }
