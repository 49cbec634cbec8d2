-- What the election gives, and the repair of the volume behind it.
use Rattle.std.proofs.Common.{◌≡◌, ◌≤◌, ℕ, Err, refl, sym, ◌∙◌, subst}
use Rattle.xfs_disk.specs.Faults.{Rose}
use Rattle.xfs_geom.specs.Election.{elected}
use Rattle.xfs_geom.specs.Electing.{vote_of}
use Rattle.xfs_geom.specs.declared.election.ElectFault.TheVariants as fault
use Rattle.xfs_mend.proofs.Deciding.{due_by, due_no_geometry, is_elected}
use Rattle.xfs_mend.proofs.Ending.{ends_behind, ends_read, stops_behind, stops_read}
use Rattle.xfs_mend.specs.Asked.{repair_asked}
use Rattle.xfs_mend.specs.Outcome.{StopsBy}
use Rattle.xfs_mend.specs.declared.outcome.Outcome.TheVariants as out
use Rattle.xfs_mend.proofs.repairing.repair_disk.Goals as goal

pub returns : goal.returns
returns g c =
    let D = g.D.Disk in
    let o = repair_asked c.args.options.now in
    let disk = c.in-Ok.ensures.disk in
    let later = c.repair_volume.ensures in
    let up : D.faults c.args.disk.now ≤ D.faults c.elect.new.disk = c.in-Ok.ensures.cause in
    record {
      due = λ image told.
          let vote = vote_of c.in-Ok.elected in
          let geometry = c.in-Ok.elected.geometry in
          let elects = c.in-Ok.ensures.due image told in
          due_by o geometry c.args.stamp.now image vote c.repair_volume.result elects (is_elected geometry image vote elects c.in-Ok.ensures.states)
          (later.due image (disk.same_contents ∙ told));
      leaves = λ image told. later.leaves image (disk.same_contents ∙ told);
      stops = λ tells image told t stopped low left.
          stops_behind D.size D.holds D.faults D.write_faults D.writes D.tells_stops D.moment D.may_leave D.left_since c.args.disk.now c.elect.new.disk c.repair_volume.new.disk t stopped (StopsBy c.args.stamp.now image c.repair_volume.result stopped) disk tells low
          (later.stops (disk.tells tells) image (disk.same_contents ∙ told) t stopped) left;
      possible = later.possible;
      ends = ends_behind D.size D.holds D.faults D.write_faults D.writes D.tells_stops D.moment D.may_leave D.left_since c.args.disk.now c.elect.new.disk c.repair_volume.new.disk c.repair_volume.result disk up later.ends;
    }

pub returns-in-Err-NoGeometry-clause-leaves : goal.returns-in-Err-NoGeometry-clause-leaves
returns-in-Err-NoGeometry-clause-leaves g c = λ image told. let D = g.D.Disk in let disk = c.in-Err-NoGeometry.ensures.disk in disk.same_contents ∙ told

pub returns-in-Err-NoGeometry-clause-stops : goal.returns-in-Err-NoGeometry-clause-stops
returns-in-Err-NoGeometry-clause-stops g c = λ tells image told t stopped low left.
    let D = g.D.Disk in
    let disk = c.in-Err-NoGeometry.ensures.disk in
    stops_read D.size D.holds D.faults D.write_faults D.writes D.tells_stops D.moment D.may_leave D.left_since c.args.disk.now c.elect.new.disk t stopped _ disk tells low left

pub returns-in-Err-NoGeometry-clause-ends : goal.returns-in-Err-NoGeometry-clause-ends
returns-in-Err-NoGeometry-clause-ends g c =
    let D = g.D.Disk in
    let disk = c.in-Err-NoGeometry.ensures.disk in
    let up : D.faults c.args.disk.now ≤ D.faults c.elect.new.disk = rw c.in-Err-NoGeometry.field-0-is at c.in-Err-NoGeometry.ensures.cause in
    ends_read D.size D.holds D.faults D.write_faults D.writes D.tells_stops D.moment D.may_leave D.left_since c.args.disk.now c.elect.new.disk out.NoGeometry disk up refl tt

pub returns-in-Err-Unsupported-clause-leaves : goal.returns-in-Err-Unsupported-clause-leaves
returns-in-Err-Unsupported-clause-leaves g c = λ image told. let D = g.D.Disk in let disk = c.in-Err-Unsupported.ensures.disk in disk.same_contents ∙ told

pub returns-in-Err-Unsupported-clause-stops : goal.returns-in-Err-Unsupported-clause-stops
returns-in-Err-Unsupported-clause-stops g c = λ tells image told t stopped low left.
    let D = g.D.Disk in
    let disk = c.in-Err-Unsupported.ensures.disk in
    stops_read D.size D.holds D.faults D.write_faults D.writes D.tells_stops D.moment D.may_leave D.left_since c.args.disk.now c.elect.new.disk t stopped _ disk tells low left

pub returns-in-Err-Unsupported-clause-ends : goal.returns-in-Err-Unsupported-clause-ends
returns-in-Err-Unsupported-clause-ends g c =
    let D = g.D.Disk in
    let disk = c.in-Err-Unsupported.ensures.disk in
    let up : D.faults c.args.disk.now ≤ D.faults c.elect.new.disk = rw c.in-Err-Unsupported.field-0-is at c.in-Err-Unsupported.ensures.cause in
    ends_read D.size D.holds D.faults D.write_faults D.writes D.tells_stops D.moment D.may_leave D.left_since c.args.disk.now c.elect.new.disk _ disk up refl tt

pub returns-in-Err-ReadFault-clause-leaves : goal.returns-in-Err-ReadFault-clause-leaves
returns-in-Err-ReadFault-clause-leaves g c = λ image told. let D = g.D.Disk in let disk = c.in-Err-ReadFault.ensures.disk in disk.same_contents ∙ told

pub returns-in-Err-ReadFault-clause-stops : goal.returns-in-Err-ReadFault-clause-stops
returns-in-Err-ReadFault-clause-stops g c = λ tells image told t stopped low left.
    let D = g.D.Disk in
    let disk = c.in-Err-ReadFault.ensures.disk in
    stops_read D.size D.holds D.faults D.write_faults D.writes D.tells_stops D.moment D.may_leave D.left_since c.args.disk.now c.elect.new.disk t stopped _ disk tells low left

pub returns-in-Err-ReadFault-clause-ends : goal.returns-in-Err-ReadFault-clause-ends
returns-in-Err-ReadFault-clause-ends g c =
    let D = g.D.Disk in
    let disk = c.in-Err-ReadFault.ensures.disk in
    let rose : Rose (D.faults c.args.disk.now) (D.faults c.elect.new.disk) = rw c.in-Err-ReadFault.field-0-is at c.in-Err-ReadFault.ensures.cause in
    ends_read D.size D.holds D.faults D.write_faults D.writes D.tells_stops D.moment D.may_leave D.left_since c.args.disk.now c.elect.new.disk _ disk rose.0 refl (rose, c.faults.ensures.count)

pub returns-in-Err-NoMemory-clause-leaves : goal.returns-in-Err-NoMemory-clause-leaves
returns-in-Err-NoMemory-clause-leaves g c = λ image told. let D = g.D.Disk in let disk = c.in-Err-NoMemory.ensures.disk in disk.same_contents ∙ told

pub returns-in-Err-NoMemory-clause-stops : goal.returns-in-Err-NoMemory-clause-stops
returns-in-Err-NoMemory-clause-stops g c = λ tells image told t stopped low left.
    let D = g.D.Disk in
    let disk = c.in-Err-NoMemory.ensures.disk in
    stops_read D.size D.holds D.faults D.write_faults D.writes D.tells_stops D.moment D.may_leave D.left_since c.args.disk.now c.elect.new.disk t stopped _ disk tells low left

pub returns-in-Err-NoMemory-clause-ends : goal.returns-in-Err-NoMemory-clause-ends
returns-in-Err-NoMemory-clause-ends g c =
    let D = g.D.Disk in
    let disk = c.in-Err-NoMemory.ensures.disk in
    let up : D.faults c.args.disk.now ≤ D.faults c.elect.new.disk = rw c.in-Err-NoMemory.field-0-is at c.in-Err-NoMemory.ensures.cause in
    ends_read D.size D.holds D.faults D.write_faults D.writes D.tells_stops D.moment D.may_leave D.left_since c.args.disk.now c.elect.new.disk out.NoMemory disk up refl tt

pub returns-in-Err-NoGeometry-clause-due : goal.returns-in-Err-NoGeometry-clause-due
returns-in-Err-NoGeometry-clause-due g c = λ image told.
    let refused : elected image ≡ Err fault.NoGeometry = rw c.in-Err-NoGeometry.field-0-is at (c.in-Err-NoGeometry.ensures.due image told) in
    due_no_geometry (repair_asked c.args.options.now) c.args.stamp.now image refused

pub returns-in-Err-ReadFault-clause-due : goal.returns-in-Err-ReadFault-clause-due
returns-in-Err-ReadFault-clause-due g c = λ image told. tt

pub returns-in-Err-NoMemory-clause-due : goal.returns-in-Err-NoMemory-clause-due
returns-in-Err-NoMemory-clause-due g c = λ image told. tt

pub returns-in-Err-NoGeometry-clause-possible : goal.returns-in-Err-NoGeometry-clause-possible
returns-in-Err-NoGeometry-clause-possible g c = tt

pub returns-in-Err-Unsupported-clause-possible : goal.returns-in-Err-Unsupported-clause-possible
returns-in-Err-Unsupported-clause-possible g c = tt

pub returns-in-Err-ReadFault-clause-possible : goal.returns-in-Err-ReadFault-clause-possible
returns-in-Err-ReadFault-clause-possible g c = tt

pub returns-in-Err-NoMemory-clause-possible : goal.returns-in-Err-NoMemory-clause-possible
returns-in-Err-NoMemory-clause-possible g c = tt

pub repair_volume-requires-clause-accepted : goal.repair_volume-requires-clause-accepted
repair_volume-requires-clause-accepted g c = λ κs lives. c.in-Ok.ensures.base

pub repair_volume-requires-clause-stated : goal.repair_volume-requires-clause-stated
repair_volume-requires-clause-stated g c = λ κs lives. c.in-Ok.ensures.states

pub repair_volume-requires-clause-inside : goal.repair_volume-requires-clause-inside
repair_volume-requires-clause-inside g c = λ κs lives. subst (λ (n : ℕ). c.in-Ok.elected.geometry.dblocks ≤ n) (sym c.in-Ok.ensures.disk.same_size) c.in-Ok.ensures.inside

pub repair_volume-requires-clause-elects : goal.repair_volume-requires-clause-elects
repair_volume-requires-clause-elects g c = λ κs lives image told. c.in-Ok.ensures.due image (sym c.in-Ok.ensures.disk.same_contents ∙ told)
