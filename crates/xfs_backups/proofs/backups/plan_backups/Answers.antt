-- The rows and their bank are the plan.
use Rattle.std.proofs.Common.{◌≡◌, ℕ, ◌<◌, ◌-◌, ◌∙◌, ap, sym, subst, List, Vec, Global, length, map, All, arith}
use Rattle.xfs_disk.proofs.Reading.{reads_on}
use Rattle.xfs_backups.proofs.Causes.{later_on, rose_on, same_cause}
use Rattle.xfs_backups.specs.declared.backups.BackupPlan.{BackupPlan}
use Rattle.xfs_writing.specs.Writing.{rows_from, writes_of_rows}
use Rattle.xfs_writing.specs.declared.rows.Row.{Row}
use Rattle.xfs_writing.proofs.RowSteps.{rows_at, rows_below}
use Rattle.xfs_backups.proofs.Rows.{filled_all, filled_count, rows_steps}
use Rattle.xfs_backups.specs.Backups.{with_super}
use Rattle.xfs_backups.proofs.backups.plan_backups.Goals as goal

pub list_places-requires : goal.list_places-requires
list_places-requires g c = record { sector = c.requires.sector; stated = c.requires.stated; inside = c.requires.inside }

pub put_primary-requires : goal.put_primary-requires
put_primary-requires g c = record { sector = c.requires.sector }

pub returns-in-Err : goal.returns-in-Err
returns-in-Err g c =
    let failed = c.in-Err.ensures in
    let D = g.D.Disk in
    record {
      plan = tt;
      places = tt;
      inside = tt;
      cause = same_cause (Vec ℕ Global) BackupPlan (D.faults c.args.disk.now) (D.faults c.list_places.new.disk) c.in-Err.fault failed.cause;
      disk = failed.disk;
    }

pub returns-in-Err-make : goal.returns-in-Err-make
returns-in-Err-make g c = record { plan = tt; places = tt; inside = tt; cause = c.in-Ok.ensures.cause; disk = c.in-Ok.ensures.disk }

pub returns-in-Err-fill : goal.returns-in-Err-fill
returns-in-Err-fill g c =
    let D = g.D.Disk in
    let read = c.in-Err-fill.ensures in
    record {
      plan = tt;
      places = tt;
      inside = tt;
      cause = rose_on (D.faults c.args.disk.now) (D.faults c.list_places.new.disk) (D.faults c.fill.new.disk) c.in-Ok.ensures.cause read.cause;
      disk = reads_on D.size D.holds D.write_faults D.writes D.tells_stops D.moment D.may_leave D.left_since c.args.disk.now c.list_places.new.disk c.fill.new.disk
          c.in-Ok.ensures.disk read.disk;
    }

pub returns-in-Ok-join-clause-plan : goal.returns-in-Ok-join-clause-plan
returns-in-Ok-join-clause-plan g c = λ image told.
    let primary = c.args.primary.now in
    let places = c.in-Ok.places.items in
    let count : c.len.result ≡ length places = omega (arith, c.len.ensures, c.in-Ok.places.ok.0) in
    let blocks = filled_all places c.as_slice.result.now c.in-Ok-make.bank c.fill.new.self image c.len.result _ c.as_slice.ensures.value count c.in-Ok-make.ensures
    c.in-Ok-fill.ensures.len (c.in-Ok-fill.ensures.filled.first image (c.in-Ok.ensures.disk.same_contents ∙ told)) in
    let rows : c.in-Ok-join.plan.rows.items ≡ rows_from 0 places = c.in-Ok-join.ensures.rows ∙ ap (rows_from 0) c.as_slice-2.ensures.value in
    (λ k. writes_of_rows (c.in-Ok-join.ensures.bank k) (rows k))
    ∙ rows_steps primary image c.put_primary.new.bank places (c.args.geometry.now.agcount - 1) (c.in-Ok.ensures.places image told)
    (c.put_primary.ensures ∙ ap (map (with_super primary)) blocks)

pub returns-in-Ok-join-clause-places : goal.returns-in-Ok-join-clause-places
returns-in-Ok-join-clause-places g c =
    let places = c.in-Ok.places.items in
    let rows : c.in-Ok-join.plan.rows.items ≡ rows_from 0 places = c.in-Ok-join.ensures.rows ∙ ap (rows_from 0) c.as_slice-2.ensures.value in
    subst (λ (rs : List Row). All (λ (r : Row). r.at < g.D.Disk.size c.args.disk.now) rs) (sym rows)
    (rows_at (λ (p : ℕ). p < g.D.Disk.size c.args.disk.now) places 0 c.in-Ok.ensures.inside)

pub returns-in-Ok-join-clause-inside : goal.returns-in-Ok-join-clause-inside
returns-in-Ok-join-clause-inside g c =
    let places = c.in-Ok.places.items in
    let count : c.len.result ≡ length places = omega (arith, c.len.ensures, c.in-Ok.places.ok.0) in
    let rows : c.in-Ok-join.plan.rows.items ≡ rows_from 0 places = c.in-Ok-join.ensures.rows ∙ ap (rows_from 0) c.as_slice-2.ensures.value in
    let few = filled_count places c.in-Ok-make.bank c.fill.new.self c.put_primary.new.bank (with_super c.args.primary.now) c.len.result _ count c.in-Ok-make.ensures
    c.in-Ok-fill.ensures.len c.put_primary.ensures in
    let count : length c.put_primary.new.bank ≡ length c.in-Ok-join.plan.bank = ap length (sym c.in-Ok-join.ensures.bank) in
    subst (λ (rs : List Row). All (λ (r : Row). r.index < length c.in-Ok-join.plan.bank) rs) (sym rows)
    (rows_below places 0 (length c.in-Ok-join.plan.bank) (omega (arith, few, count)))

pub returns-in-Ok-join-clause-disk : goal.returns-in-Ok-join-clause-disk
returns-in-Ok-join-clause-disk g c =
    let D = g.D.Disk in
    reads_on D.size D.holds D.write_faults D.writes D.tells_stops D.moment D.may_leave D.left_since c.args.disk.now c.list_places.new.disk c.fill.new.disk
    c.in-Ok.ensures.disk c.in-Ok-fill.ensures.disk

pub returns-clause-disk : goal.returns-clause-disk
returns-clause-disk g c =
    let D = g.D.Disk in
    reads_on D.size D.holds D.write_faults D.writes D.tells_stops D.moment D.may_leave D.left_since c.args.disk.now c.list_places.new.disk c.fill.new.disk
    c.in-Ok.ensures.disk c.in-Ok-fill.ensures.disk

pub returns-in-Ok-join-clause-cause : goal.returns-in-Ok-join-clause-cause
returns-in-Ok-join-clause-cause g c =
    let D = g.D.Disk in
    later_on (D.faults c.args.disk.now) (D.faults c.list_places.new.disk) (D.faults c.fill.new.disk) c.in-Ok.ensures.cause c.in-Ok-fill.ensures.cause

pub returns-clause-cause : goal.returns-clause-cause
returns-clause-cause g c =
    let D = g.D.Disk in
    later_on (D.faults c.args.disk.now) (D.faults c.list_places.new.disk) (D.faults c.fill.new.disk) c.in-Ok.ensures.cause c.in-Ok-fill.ensures.cause

pub returns-clause-plan : goal.returns-clause-plan
returns-clause-plan g c = tt

pub returns-clause-places : goal.returns-clause-places
returns-clause-places g c = tt

pub returns-clause-inside : goal.returns-clause-inside
returns-clause-inside g c = tt

pub fill-requires-clause-inside : goal.fill-requires-clause-inside
fill-requires-clause-inside g c =
    let D = g.D.Disk in
    subst (λ (n : ℕ). All (λ (p : ℕ). p < n) c.as_slice.result.now) (sym c.in-Ok.ensures.disk.same_size)
    (subst (λ (xs : List ℕ). All (λ (p : ℕ). p < D.size c.args.disk.now) xs) (sym c.as_slice.ensures.value) c.in-Ok.ensures.inside)
