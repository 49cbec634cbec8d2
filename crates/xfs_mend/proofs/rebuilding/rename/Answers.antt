-- Why nothing is planned where names change, and what comes of what is.
use Rattle.std.proofs.Common.{rules, ◌≡◌, ◌≤◌, Some, refl, ◌∙◌}
use Rattle.xfs_disk.specs.Blocks.{Image}
use Rattle.xfs_disk.specs.Faults.{Rose}
use Rattle.xfs_mend.proofs.Anew.{leaves_anew, stops_of_anew}
use Rattle.xfs_mend.proofs.Ending.{ends_behind, ends_read, stops_behind, stops_read}
use Rattle.xfs_mend.proofs.Renaming.{written_renamed}
use Rattle.xfs_mend.specs.Private.Rebuilds.{IsRenamedPlan, StopsAnew}
use Rattle.xfs_mend.specs.declared.outcome.Outcome.TheVariants as out
use Rattle.xfs_mend.proofs.rebuilding.rename.Goals as goal

pub returns-in-Ok : goal.returns-in-Ok
returns-in-Ok g c =
    let D = g.D.Disk in
    let disk = c.in-Ok.ensures.disk in
    let up : D.faults c.args.disk.now ≤ D.faults c.plan_names-planned.new.disk = c.in-Ok.ensures.cause in
    let geometry = c.args.chosen.now.geometry in
    let sector = c.args.chosen.now.sector in
    let s = c.args.stamp.now in
    let n = c.args.due in
    let later = c.write_rebuilt.ensures in
    let planned : (image : Image) → D.holds c.args.disk.now ≡ Some image → IsRenamedPlan geometry sector s image n c.in-Ok.field-0.rebuilt c.in-Ok.field-0.orphans =
    λ image told. c.in-Ok.ensures.renamed image told in
    record {
      due = λ image told.
          written_renamed geometry sector s image (D.holds c.write_rebuilt.new.disk) n c.in-Ok.field-0.rebuilt c.in-Ok.field-0.orphans c.write_rebuilt.result
          (planned image told) (later.leaves image (disk.same_contents ∙ told));
      leaves = λ image told.
          leaves_anew (IsRenamedPlan geometry sector s image n) c.in-Ok.field-0.rebuilt c.in-Ok.field-0.orphans image (D.holds c.write_rebuilt.new.disk) c.write_rebuilt.result
          (planned image told) (later.leaves image (disk.same_contents ∙ told));
      stops = λ tells image told t stopped low left.
          let plan = IsRenamedPlan geometry sector s image n in
          stops_behind D.size D.holds D.faults D.write_faults D.writes D.tells_stops D.moment D.may_leave D.left_since c.args.disk.now c.plan_names-planned.new.disk c.write_rebuilt.new.disk t stopped
          (StopsAnew plan image c.write_rebuilt.result stopped) disk tells low
          (λ low' left'. stops_of_anew plan c.in-Ok.field-0.rebuilt c.in-Ok.field-0.orphans image c.write_rebuilt.result stopped (D.left_since c.plan_names-planned.new.disk t stopped)
          (planned image told)
          (later.stops (disk.tells tells) image (disk.same_contents ∙ told) t stopped low' left'))
          left;
      possible = later.possible;
      ends = ends_behind D.size D.holds D.faults D.write_faults D.writes D.tells_stops D.moment D.may_leave D.left_since c.args.disk.now c.plan_names-planned.new.disk c.write_rebuilt.new.disk
          c.write_rebuilt.result disk up later.ends;
    }

pub returns-in-Err-NoRoom : goal.returns-in-Err-NoRoom
returns-in-Err-NoRoom g c =
    let D = g.D.Disk in
    let disk = c.plan_names-planned.ensures.disk in
    let up : D.faults c.args.disk.now ≤ D.faults c.plan_names-planned.new.disk = search rules in
    let geometry = c.args.chosen.now.geometry in
    record {
      due = search rules;
      leaves = λ image told. disk.same_contents ∙ told;
      stops = λ tells image told t stopped low left.
          stops_read D.size D.holds D.faults D.write_faults D.writes D.tells_stops D.moment D.may_leave D.left_since c.args.disk.now c.plan_names-planned.new.disk t stopped
          (StopsAnew (IsRenamedPlan geometry c.args.chosen.now.sector c.args.stamp.now image c.args.due) image (out.NoRoom c.in-Err-NoRoom.what) stopped) disk tells low left;
      possible = λ o repairs. repairs;
      ends = ends_read D.size D.holds D.faults D.write_faults D.writes D.tells_stops D.moment D.may_leave D.left_since c.args.disk.now c.plan_names-planned.new.disk (out.NoRoom c.in-Err-NoRoom.what) disk up refl tt;
    }

pub returns-in-Err-ReadFault : goal.returns-in-Err-ReadFault
returns-in-Err-ReadFault g c =
    let D = g.D.Disk in
    let disk = c.plan_names-planned.ensures.disk in
    let rose : Rose (D.faults c.args.disk.now) (D.faults c.plan_names-planned.new.disk) = search rules in
    let up : D.faults c.args.disk.now ≤ D.faults c.plan_names-planned.new.disk = rose.0 in
    record {
      due = λ image told. tt;
      leaves = λ image told. disk.same_contents ∙ told;
      stops = λ tells image told t stopped low left.
          stops_read D.size D.holds D.faults D.write_faults D.writes D.tells_stops D.moment D.may_leave D.left_since c.args.disk.now c.plan_names-planned.new.disk t stopped
          (StopsAnew (IsRenamedPlan c.args.chosen.now.geometry c.args.chosen.now.sector c.args.stamp.now image c.args.due) image (out.ReadFault c.faults.result) stopped) disk tells low left;
      possible = λ o repairs. tt;
      ends = ends_read D.size D.holds D.faults D.write_faults D.writes D.tells_stops D.moment D.may_leave D.left_since c.args.disk.now c.plan_names-planned.new.disk (out.ReadFault c.faults.result) disk up refl
          (rose, c.faults.ensures.count);
    }

pub returns-in-Err-Names : goal.returns-in-Err-Names
returns-in-Err-Names g c =
    let D = g.D.Disk in
    let disk = c.plan_names-planned.ensures.disk in
    let up : D.faults c.args.disk.now ≤ D.faults c.plan_names-planned.new.disk = search rules in
    record {
      due = λ image told. tt;
      leaves = λ image told. disk.same_contents ∙ told;
      stops = λ tells image told t stopped low left.
          stops_read D.size D.holds D.faults D.write_faults D.writes D.tells_stops D.moment D.may_leave D.left_since c.args.disk.now c.plan_names-planned.new.disk t stopped
          (StopsAnew (IsRenamedPlan c.args.chosen.now.geometry c.args.chosen.now.sector c.args.stamp.now image c.args.due) image out.NoMemory stopped) disk tells low left;
      possible = λ o repairs. tt;
      ends = ends_read D.size D.holds D.faults D.write_faults D.writes D.tells_stops D.moment D.may_leave D.left_since c.args.disk.now c.plan_names-planned.new.disk out.NoMemory disk up refl tt;
    }
