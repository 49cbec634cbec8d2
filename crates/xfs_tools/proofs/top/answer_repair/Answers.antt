-- What was looked at before is the same disk, only read.
use Rattle.std.proofs.Common.{◌≡◌, Option, ap, arith, refl, subst, ◌∙◌}
use Rattle.xfs_disk.proofs.Reading.{reads_on}
use Rattle.xfs_image.specs.declared.findings.Finding.{Finding}
use Rattle.xfs_mend.specs.Asked.{repair_asked}
use Rattle.xfs_mend.specs.declared.outcome.RepairOptions.{RepairOptions}
use Rattle.xfs_tools.specs.Explaining.{explained}
use Rattle.xfs_tools.specs.Repairing.{IsRepair}
use Rattle.xfs_tools.proofs.Checking.{quiet_where_checked}
use Rattle.xfs_tools.proofs.Looking.{repair_behind}
use Rattle.xfs_tools.proofs.top.answer_repair.Goals as goal

pub returns : goal.returns
returns g c =
    let D = g.D.Disk in
    let look = c.look_before-look.ensures in
    let run = c.repair.ensures in
    record {
      answer = (
        c.repair.result,
        c.of_outcome-answer.ensures,
        repair_behind D.holds D.size D.faults D.write_faults D.writes D.tells_stops D.moment D.may_leave D.left_since c.args.stamp.now
            c.args.disk.now c.look_before-look.new.disk c.repair.new.disk _ c.repair.result look.reads look.counted
            (subst (λ (q : RepairOptions). IsRepair D.holds D.size D.faults D.write_faults D.writes D.tells_stops D.moment D.may_leave D.left_since c.args.stamp.now c.look_before-look.new.disk c.repair.new.disk (repair_asked q) c.repair.result)
            c.options.ensures
            (record { due = run.due; possible = run.possible; cause = run.cause; leaves = run.leaves; counted = run.counted; only_read = run.only_read; kept = run.kept; stops = run.stops })),
      );
      text = (c.look_before-look.new.disk, c.look_before-look.result, look, ap (λ (f : Option Finding). explained c.look_before-look.result.groups f) c.told_of.ensures);
      checked = λ check.
          reads_on D.size D.holds D.write_faults D.writes D.tells_stops D.moment D.may_leave D.left_since c.args.disk.now c.look_before-look.new.disk c.repair.new.disk look.reads
          (run.only_read (quiet_where_checked (repair_asked c.options.result) c.repair.result (ap (λ (q : RepairOptions). q.check) c.options.ensures ∙ check) run.possible));
      size = run.size ∙ look.reads.same_size;
      faults = let first = look.counted in let then = run.faults in omega (arith, first, then);
      write_faults = let first = look.reads.same_write_faults in let then = run.write_faults in omega (arith, first, then);
    }
