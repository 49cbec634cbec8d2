use Rattle.std.proofs.Common.{◌≡◌, Bool, true, Ok, Err, ap, refl, subst, sym, ◌∙◌}
use Rattle.xfs_tools.specs.Explaining.{IsLook, IsText, explained}
use Rattle.xfs_tools.specs.Repairing.{IsRepair, IsRepairing, only_checks}
use Rattle.xfs_tools.specs.declared.command_line.Call.{Call}
use Rattle.xfs_tools.proofs.top.run_volume.Goals as goal

pub returns-in-Ok : goal.returns-in-Ok
returns-in-Ok g c =
    record {
      answer =
          let D = g.D.Disk in
          let said = c.answer_to-said.result in (
            said.answer,
            explained said.groups said.found,
            Ok c.in-Ok.field-0,
            subst (λ (j : Call). IsRepairing j (c.answer_to-said.new.disk ≡ c.args.disk.now) (IsRepair D.holds D.size D.faults D.write_faults D.writes D.tells_stops D.moment D.may_leave D.left_since c.args.stamp.now c.args.disk.now c.answer_to-said.new.disk) said.answer)
                c.judge-call.ensures.judged c.answer_to-said.ensures.answer,
            subst (λ (j : Call). IsText (IsLook D.holds D.size D.faults D.write_faults D.writes D.tells_stops D.moment D.may_leave D.left_since c.args.stamp.now) c.args.disk.now j said.answer (explained said.groups said.found))
                c.judge-call.ensures.judged c.answer_to-said.ensures.text,
            c.in-Ok.ensures,
            rw (c.code.ensures, c.tells_repair.ensures, c.judge-call.ensures.judged) refl,
          );
      checked = λ check. c.answer_to-said.ensures.checked (ap only_checks c.judge-call.ensures.judged ∙ check);
      size = c.answer_to-said.ensures.size;
      faults = c.answer_to-said.ensures.faults;
      write_faults = c.answer_to-said.ensures.write_faults;
    }

pub returns-in-Err : goal.returns-in-Err
returns-in-Err g c =
    record {
      answer =
          let D = g.D.Disk in
          let said = c.answer_to-said.result in (
            said.answer,
            explained said.groups said.found,
            Err c.in-Err.field-0,
            subst (λ (j : Call). IsRepairing j (c.answer_to-said.new.disk ≡ c.args.disk.now) (IsRepair D.holds D.size D.faults D.write_faults D.writes D.tells_stops D.moment D.may_leave D.left_since c.args.stamp.now c.args.disk.now c.answer_to-said.new.disk) said.answer)
                c.judge-call.ensures.judged c.answer_to-said.ensures.answer,
            subst (λ (j : Call). IsText (IsLook D.holds D.size D.faults D.write_faults D.writes D.tells_stops D.moment D.may_leave D.left_since c.args.stamp.now) c.args.disk.now j said.answer (explained said.groups said.found))
                c.judge-call.ensures.judged c.answer_to-said.ensures.text,
            c.in-Err.ensures,
            refl,
          );
      checked = λ check. c.answer_to-said.ensures.checked (ap only_checks c.judge-call.ensures.judged ∙ check);
      size = c.answer_to-said.ensures.size;
      faults = c.answer_to-said.ensures.faults;
      write_faults = c.answer_to-said.ensures.write_faults;
    }
