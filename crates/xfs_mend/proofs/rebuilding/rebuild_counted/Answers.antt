-- Why nothing is planned, and what comes of what is.
use Rattle.std.proofs.Common.{◌≡◌, ◌≤◌, inl, refl, ◌∙◌, subst}
use Rattle.xfs_disk.specs.Faults.{Rose}
use Rattle.xfs_rename.specs.xfs_rebuild.Refusals.{IsRefused}
use Rattle.xfs_rename.specs.xfs_rebuild.declared.faults.RebuildFault.{RebuildFault}
use Rattle.xfs_rename.specs.xfs_rebuild.declared.faults.RebuildFault.TheVariants as faults
use Rattle.xfs_mend.proofs.Anew.{leaves_anew, leaves_as, room_due, stops_as, stops_of_anew, written_due}
use Rattle.xfs_mend.proofs.Ending.{ends_behind, ends_read, stops_behind, stops_read}
use Rattle.xfs_mend.proofs.Owing.{owed_as}
use Rattle.xfs_mend.proofs.Renaming.{are_names, names_due, renamed_plan}
use Rattle.xfs_mend.specs.Private.Rebuilds.{IsDueRenaming, IsRenamedPlan, StopsAnew}
use Rattle.xfs_mend.specs.Rebuilding.{IsDueRebuild, IsRepairPlan}
use Rattle.xfs_mend.specs.declared.outcome.Outcome.TheVariants as out
use Rattle.xfs_mend.proofs.rebuilding.rebuild_counted.Goals as goal

pub returns-in-Err-Names : goal.returns-in-Err-Names
returns-in-Err-Names g c =
    let D = g.D.Disk in
    let disk = c.in-Err-Names.ensures.disk in
    let up : D.faults c.args.disk.now ≤ D.faults c.plan_rebuild.new.disk = rw c.in-Err-Names.field-0-is at c.in-Err-Names.ensures.cause in
    let geometry = c.args.chosen.now.geometry in
    let sector = c.args.chosen.now.sector in
    let s = c.args.stamp.now in
    let n = c.in-Err-Names.due in
    let given : c.in-Err-Names.field-0 ≡ faults.Names n = c.in-Err-Names.field-0-is in
    let refused : IsRefused geometry s c.args.evidence (faults.Names n) =
    subst (λ (f : RebuildFault). IsRefused geometry s c.args.evidence f) given c.in-Err-Names.ensures.refused in
    let later = c.rename.ensures in
    record {
      due = λ image told.
          owed_as (IsDueRenaming geometry n) (IsDueRebuild geometry s image) c.rename.result
          (λ a due. names_due geometry s image n a (are_names geometry s image c.args.evidence n (c.requires.evidence image told) refused) due)
          (later.due image (disk.same_contents ∙ told));
      leaves = λ image told.
          leaves_as (IsRenamedPlan geometry sector s image n) (IsRepairPlan geometry sector s image c.args.evidence) image (D.holds c.rename.new.disk) c.rename.result
          (λ r orphans is. renamed_plan geometry sector s image c.args.evidence n r orphans refused is)
          (later.leaves image (disk.same_contents ∙ told));
      stops = λ tells image told t stopped low left.
          stops_behind D.size D.holds D.faults D.write_faults D.writes D.tells_stops D.moment D.may_leave D.left_since c.args.disk.now c.plan_rebuild.new.disk c.rename.new.disk t stopped
          (StopsAnew (IsRepairPlan geometry sector s image c.args.evidence) image c.rename.result stopped) disk tells low
          (λ low' left'. stops_as (IsRenamedPlan geometry sector s image n) (IsRepairPlan geometry sector s image c.args.evidence) image c.rename.result stopped
          (D.left_since c.plan_rebuild.new.disk t stopped) (λ r orphans is. renamed_plan geometry sector s image c.args.evidence n r orphans refused is)
          (later.stops (disk.tells tells) image (disk.same_contents ∙ told) t stopped low' left'))
          left;
      possible = later.possible;
      ends = ends_behind D.size D.holds D.faults D.write_faults D.writes D.tells_stops D.moment D.may_leave D.left_since c.args.disk.now c.plan_rebuild.new.disk c.rename.new.disk
          c.rename.result disk up later.ends;
    }

pub returns-in-Err-NoRoom : goal.returns-in-Err-NoRoom
returns-in-Err-NoRoom g c =
    let D = g.D.Disk in
    let disk = c.in-Err-NoRoom.ensures.disk in
    let up : D.faults c.args.disk.now ≤ D.faults c.plan_rebuild.new.disk = rw c.in-Err-NoRoom.field-0-is at c.in-Err-NoRoom.ensures.cause in
    record {
      due = λ image told.
          let given : c.in-Err-NoRoom.field-0 ≡ faults.NoRoom c.in-Err-NoRoom.what = c.in-Err-NoRoom.field-0-is in
          room_due c.args.chosen.now.geometry c.args.stamp.now image c.args.evidence c.in-Err-NoRoom.what (c.requires.evidence image told)
          (subst (λ (f : RebuildFault). IsRefused c.args.chosen.now.geometry c.args.stamp.now c.args.evidence f) given c.in-Err-NoRoom.ensures.refused);
      leaves = λ image told. disk.same_contents ∙ told;
      stops = λ tells image told t stopped low left.
          stops_read D.size D.holds D.faults D.write_faults D.writes D.tells_stops D.moment D.may_leave D.left_since c.args.disk.now c.plan_rebuild.new.disk t stopped
          (StopsAnew (IsRepairPlan c.args.chosen.now.geometry c.args.chosen.now.sector c.args.stamp.now image c.args.evidence) image (out.NoRoom c.in-Err-NoRoom.what) stopped) disk tells low left;
      possible = λ o repairs. repairs;
      ends = ends_read D.size D.holds D.faults D.write_faults D.writes D.tells_stops D.moment D.may_leave D.left_since c.args.disk.now c.plan_rebuild.new.disk (out.NoRoom c.in-Err-NoRoom.what) disk up refl tt;
    }

pub returns-in-Err-ReadFault : goal.returns-in-Err-ReadFault
returns-in-Err-ReadFault g c =
    let D = g.D.Disk in
    let disk = c.in-Err-ReadFault.ensures.disk in
    let rose : Rose (D.faults c.args.disk.now) (D.faults c.plan_rebuild.new.disk) = rw c.in-Err-ReadFault.field-0-is at c.in-Err-ReadFault.ensures.cause in
    let up : D.faults c.args.disk.now ≤ D.faults c.plan_rebuild.new.disk = rose.0 in
    record {
      due = λ image told. tt;
      leaves = λ image told. disk.same_contents ∙ told;
      stops = λ tells image told t stopped low left.
          stops_read D.size D.holds D.faults D.write_faults D.writes D.tells_stops D.moment D.may_leave D.left_since c.args.disk.now c.plan_rebuild.new.disk t stopped
          (StopsAnew (IsRepairPlan c.args.chosen.now.geometry c.args.chosen.now.sector c.args.stamp.now image c.args.evidence) image (out.ReadFault c.faults.result) stopped) disk tells low left;
      possible = λ o repairs. tt;
      ends = ends_read D.size D.holds D.faults D.write_faults D.writes D.tells_stops D.moment D.may_leave D.left_since c.args.disk.now c.plan_rebuild.new.disk (out.ReadFault c.faults.result) disk up refl
          (rose, c.faults.ensures.count);
    }

pub returns-in-Err-NoMemory : goal.returns-in-Err-NoMemory
returns-in-Err-NoMemory g c =
    let D = g.D.Disk in
    let disk = c.in-Err-NoMemory.ensures.disk in
    let up : D.faults c.args.disk.now ≤ D.faults c.plan_rebuild.new.disk = rw c.in-Err-NoMemory.field-0-is at c.in-Err-NoMemory.ensures.cause in
    record {
      due = λ image told. tt;
      leaves = λ image told. disk.same_contents ∙ told;
      stops = λ tells image told t stopped low left.
          stops_read D.size D.holds D.faults D.write_faults D.writes D.tells_stops D.moment D.may_leave D.left_since c.args.disk.now c.plan_rebuild.new.disk t stopped
          (StopsAnew (IsRepairPlan c.args.chosen.now.geometry c.args.chosen.now.sector c.args.stamp.now image c.args.evidence) image out.NoMemory stopped) disk tells low left;
      possible = λ o repairs. tt;
      ends = ends_read D.size D.holds D.faults D.write_faults D.writes D.tells_stops D.moment D.may_leave D.left_since c.args.disk.now c.plan_rebuild.new.disk out.NoMemory disk up refl tt;
    }

pub returns : goal.returns
returns g c =
    let D = g.D.Disk in
    let disk = c.in-Ok.ensures.disk in
    let up : D.faults c.args.disk.now ≤ D.faults c.plan_rebuild.new.disk = c.in-Ok.ensures.cause in
    let geometry = c.args.chosen.now.geometry in
    let sector = c.args.chosen.now.sector in
    let later = c.write_rebuilt.ensures in
    record {
      due = λ image told.
          written_due geometry sector c.args.stamp.now image (D.holds c.write_rebuilt.new.disk) c.args.evidence c.in-Ok.rebuilt c.write_rebuilt.result
          (c.requires.evidence image told) (c.in-Ok.ensures.rebuilt image told) (later.leaves image (disk.same_contents ∙ told));
      leaves = λ image told.
          leaves_anew (IsRepairPlan geometry sector c.args.stamp.now image c.args.evidence) c.in-Ok.rebuilt 0 image (D.holds c.write_rebuilt.new.disk) c.write_rebuilt.result
          (inl (c.in-Ok.ensures.rebuilt image told, refl)) (later.leaves image (disk.same_contents ∙ told));
      stops = λ tells image told t stopped low left.
          let planned = IsRepairPlan geometry sector c.args.stamp.now image c.args.evidence in
          stops_behind D.size D.holds D.faults D.write_faults D.writes D.tells_stops D.moment D.may_leave D.left_since c.args.disk.now c.plan_rebuild.new.disk c.write_rebuilt.new.disk t stopped
          (StopsAnew planned image c.write_rebuilt.result stopped) disk tells low
          (λ low' left'. stops_of_anew planned c.in-Ok.rebuilt 0 image c.write_rebuilt.result stopped (D.left_since c.plan_rebuild.new.disk t stopped)
          (inl (c.in-Ok.ensures.rebuilt image told, refl))
          (later.stops (disk.tells tells) image (disk.same_contents ∙ told) t stopped low' left'))
          left;
      possible = later.possible;
      ends = ends_behind D.size D.holds D.faults D.write_faults D.writes D.tells_stops D.moment D.may_leave D.left_since c.args.disk.now c.plan_rebuild.new.disk c.write_rebuilt.new.disk c.write_rebuilt.result disk up later.ends;
    }
