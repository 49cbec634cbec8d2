-- The plan is made and written.
use Rattle.std.proofs.Common.{◌≡◌, ◌+◌, ◌-◌, ◌≤◌, ℕ, Some, length, refl, ap, ◌∙◌, subst, arith}
use Rattle.std.proofs.lemmas.List.{length-map}
use Rattle.xfs_disk.specs.Counts.{raised_times}
use Rattle.xfs_disk.specs.Faults.{Rose}
use Rattle.xfs_writing.specs.Writing.{IsPartly, Writes, write_of, written, writes_of_rows}
use Rattle.xfs_mend.proofs.Accepted.{stops_written}
use Rattle.xfs_mend.proofs.Ending.{ends_behind, ends_read, stops_behind, stops_read}
use Rattle.xfs_backups.specs.Backups.{steps_from}
use Rattle.xfs_mend.specs.Private.Ending.{Ends}
use Rattle.xfs_mend.specs.Outcome.{StopsOf}
use Rattle.xfs_mend.specs.declared.outcome.Outcome.TheVariants as out
use Rattle.xfs_mend.specs.declared.outcome.Summary.TheVariants.{Backups}
use Rattle.xfs_mend.proofs.repairing.repair_backups.Goals as goal

pub returns-in-Err-ReadFault : goal.returns-in-Err-ReadFault
returns-in-Err-ReadFault g c =
    let D = g.D.Disk in
    record {
      due = λ image told. tt;
      leaves = λ image told. c.in-Err-ReadFault.ensures.disk.same_contents ∙ told;
      stops = λ tells image told t stopped low left.
          stops_read D.size D.holds D.faults D.write_faults D.writes D.tells_stops D.moment D.may_leave D.left_since c.args.disk.now c.plan_backups.new.disk t stopped _
          c.in-Err-ReadFault.ensures.disk tells low left;
      possible = λ o repairs. tt;
      ends = let rose : Rose (D.faults c.args.disk.now) (D.faults c.plan_backups.new.disk) = rw c.in-Err-ReadFault.field-0-is at c.in-Err-ReadFault.ensures.cause in
          ends_read D.size D.holds D.faults D.write_faults D.writes D.tells_stops D.moment D.may_leave D.left_since c.args.disk.now c.plan_backups.new.disk _
          c.in-Err-ReadFault.ensures.disk rose.0 refl (rose, c.faults.ensures.count);
    }

pub returns-in-Err-NoMemory : goal.returns-in-Err-NoMemory
returns-in-Err-NoMemory g c =
    let D = g.D.Disk in
    record {
      due = λ image told. tt;
      leaves = λ image told. c.in-Err-NoMemory.ensures.disk.same_contents ∙ told;
      stops = λ tells image told t stopped low left.
          stops_read D.size D.holds D.faults D.write_faults D.writes D.tells_stops D.moment D.may_leave D.left_since c.args.disk.now c.plan_backups.new.disk t stopped _
          c.in-Err-NoMemory.ensures.disk tells low left;
      possible = λ o repairs. tt;
      ends = let up : D.faults c.args.disk.now ≤ D.faults c.plan_backups.new.disk = rw c.in-Err-NoMemory.field-0-is at c.in-Err-NoMemory.ensures.cause in
          ends_read D.size D.holds D.faults D.write_faults D.writes D.tells_stops D.moment D.may_leave D.left_since c.args.disk.now c.plan_backups.new.disk out.NoMemory
          c.in-Err-NoMemory.ensures.disk up refl tt;
    }

pub returns-in-Ok-write_parts : goal.returns-in-Ok-write_parts
returns-in-Ok-write_parts g c =
    let D = g.D.Disk in
    record {
      due = λ image told.
          let bank = c.in-Ok.plan.bank in
          let rows = c.as_slice.result.now in
          let same : writes_of_rows bank rows ≡ steps_from c.args.primary.now image 1 (c.args.geometry.now.agcount - 1) = ap (writes_of_rows bank) c.as_slice.ensures.value ∙ c.in-Ok.ensures.plan image told in
          let count : c.len.result ≡ length (steps_from c.args.primary.now image 1 (c.args.geometry.now.agcount - 1)) =
          omega (arith, c.len.ensures, c.in-Ok.plan.rows.ok.0, ap length c.as_slice.ensures.value, length-map rows (write_of bank), ap length same) in
          ap (λ (n : ℕ). out.Repaired (Backups n)) count;
      leaves = λ image told.
          let bank = c.in-Ok.plan.bank in
          let rows = c.as_slice.result.now in
          let same : writes_of_rows bank rows ≡ steps_from c.args.primary.now image 1 (c.args.geometry.now.agcount - 1) = ap (writes_of_rows bank) c.as_slice.ensures.value ∙ c.in-Ok.ensures.plan image told in
          subst (λ (ws : Writes). g.D.Disk.holds c.write_parts.new.disk ≡ Some (written ws image)) same
          (c.in-Ok-write_parts.ensures.done image (c.in-Ok.ensures.disk.same_contents ∙ told));
      stops = λ tells image told t stopped low left.
          let disk = c.in-Ok.ensures.disk in
          let bank = c.in-Ok.plan.bank in
          let rows = c.as_slice.result.now in
          let same : writes_of_rows bank rows ≡ steps_from c.args.primary.now image 1 (c.args.geometry.now.agcount - 1) = ap (writes_of_rows bank) c.as_slice.ensures.value ∙ c.in-Ok.ensures.plan image told in
          stops_behind D.size D.holds D.faults D.write_faults D.writes D.tells_stops D.moment D.may_leave D.left_since c.args.disk.now c.plan_backups.new.disk c.write_parts.new.disk t stopped (StopsOf (steps_from c.args.primary.now image 1 (c.args.geometry.now.agcount - 1)) image (out.Repaired (Backups c.len.result)) stopped) disk tells low
          (λ low' left'. stops_written image (writes_of_rows bank rows) (steps_from c.args.primary.now image 1 (c.args.geometry.now.agcount - 1)) (out.Repaired (Backups c.len.result)) stopped (D.left_since c.plan_backups.new.disk t stopped) same refl
          (c.in-Ok-write_parts.ensures.stops (disk.tells tells) image (disk.same_contents ∙ told) t stopped low' left'))
          left;
      possible = λ o repairs. repairs;
      ends = let up : D.faults c.args.disk.now ≤ D.faults c.plan_backups.new.disk = c.in-Ok.ensures.cause in
          let count : 0 + length c.as_slice.result.now ≡ c.len.result = omega (arith, c.len.ensures, c.in-Ok.plan.rows.ok.0, ap length c.as_slice.ensures.value) in
          let part : Ends D.size D.holds D.faults D.write_faults D.writes D.tells_stops D.moment D.may_leave D.left_since c.plan_backups.new.disk c.write_parts.new.disk (out.Repaired (Backups c.len.result)) = record {
            cause = tt;
            kept = c.in-Ok-write_parts.ensures.kept;
            counted = subst (λ (n : ℕ). D.writes c.write_parts.new.disk ≡ raised_times n (D.writes c.plan_backups.new.disk)) count c.in-Ok-write_parts.ensures.counted;
            only_read = λ says. cc;
            same_size = c.in-Ok-write_parts.ensures.size;
            more_faults = omega (arith, c.in-Ok-write_parts.ensures.faults);
            more_write_faults = c.in-Ok-write_parts.ensures.cause;
            tells = c.in-Ok-write_parts.ensures.tells;
            later = c.in-Ok-write_parts.ensures.later;
          } in
          ends_behind D.size D.holds D.faults D.write_faults D.writes D.tells_stops D.moment D.may_leave D.left_since c.args.disk.now c.plan_backups.new.disk c.write_parts.new.disk (out.Repaired (Backups c.len.result))
          c.in-Ok.ensures.disk up part;
    }

pub returns : goal.returns
returns g c =
    let D = g.D.Disk in
    record {
      due = λ image told.
          let bank = c.in-Ok.plan.bank in
          let rows = c.as_slice.result.now in
          let same : writes_of_rows bank rows ≡ steps_from c.args.primary.now image 1 (c.args.geometry.now.agcount - 1) = ap (writes_of_rows bank) c.as_slice.ensures.value ∙ c.in-Ok.ensures.plan image told in
          let most : c.in-Err.written ≤ length (steps_from c.args.primary.now image 1 (c.args.geometry.now.agcount - 1)) = omega (arith, c.in-Err.ensures.most, length-map rows (write_of bank), ap length same) in
          (Backups (length (steps_from c.args.primary.now image 1 (c.args.geometry.now.agcount - 1))), most, refl);
      leaves = λ image told.
          let bank = c.in-Ok.plan.bank in
          let rows = c.as_slice.result.now in
          let same : writes_of_rows bank rows ≡ steps_from c.args.primary.now image 1 (c.args.geometry.now.agcount - 1) = ap (writes_of_rows bank) c.as_slice.ensures.value ∙ c.in-Ok.ensures.plan image told in
          subst (λ (ws : Writes). IsPartly ws image c.in-Err.written (g.D.Disk.holds c.write_parts.new.disk)) same
          (c.in-Err.ensures.partly image (c.in-Ok.ensures.disk.same_contents ∙ told));
      stops = λ tells image told t stopped low left.
          let disk = c.in-Ok.ensures.disk in
          let bank = c.in-Ok.plan.bank in
          let rows = c.as_slice.result.now in
          let same : writes_of_rows bank rows ≡ steps_from c.args.primary.now image 1 (c.args.geometry.now.agcount - 1) = ap (writes_of_rows bank) c.as_slice.ensures.value ∙ c.in-Ok.ensures.plan image told in
          stops_behind D.size D.holds D.faults D.write_faults D.writes D.tells_stops D.moment D.may_leave D.left_since c.args.disk.now c.plan_backups.new.disk c.write_parts.new.disk t stopped (StopsOf (steps_from c.args.primary.now image 1 (c.args.geometry.now.agcount - 1)) image (out.WriteFault c.in-Err.written) stopped) disk tells low
          (λ low' left'. stops_written image (writes_of_rows bank rows) (steps_from c.args.primary.now image 1 (c.args.geometry.now.agcount - 1)) (out.WriteFault c.in-Err.written) stopped (D.left_since c.plan_backups.new.disk t stopped) same refl
          (c.in-Err.ensures.stops (disk.tells tells) image (disk.same_contents ∙ told) t stopped low' left'))
          left;
      possible = λ o repairs. repairs;
      ends = let up : D.faults c.args.disk.now ≤ D.faults c.plan_backups.new.disk = c.in-Ok.ensures.cause in
          let part : Ends D.size D.holds D.faults D.write_faults D.writes D.tells_stops D.moment D.may_leave D.left_since c.plan_backups.new.disk c.write_parts.new.disk (out.WriteFault c.in-Err.written) = record {
            cause = c.in-Err.ensures.cause;
            kept = tt;
            counted = c.in-Err.ensures.counted;
            only_read = λ says. cc;
            same_size = c.in-Err.ensures.size;
            more_faults = omega (arith, c.in-Err.ensures.faults);
            more_write_faults = (let rose = c.in-Err.ensures.cause in rose.0);
            tells = c.in-Err.ensures.tells;
            later = c.in-Err.ensures.later;
          } in
          ends_behind D.size D.holds D.faults D.write_faults D.writes D.tells_stops D.moment D.may_leave D.left_since c.args.disk.now c.plan_backups.new.disk c.write_parts.new.disk (out.WriteFault c.in-Err.written)
          c.in-Ok.ensures.disk up part;
    }

pub plan_backups-requires-clause-sector : goal.plan_backups-requires-clause-sector
plan_backups-requires-clause-sector g c = c.requires.sector

pub plan_backups-requires-clause-stated : goal.plan_backups-requires-clause-stated
plan_backups-requires-clause-stated g c = c.requires.stated

pub plan_backups-requires-clause-inside : goal.plan_backups-requires-clause-inside
plan_backups-requires-clause-inside g c = c.requires.inside
