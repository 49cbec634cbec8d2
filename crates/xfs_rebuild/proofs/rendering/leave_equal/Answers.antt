use Rattle.std.proofs.Common.{ℕ, ◌<◌, List, length, refl, sym, subst, ap, ◌∙◌}
use Rattle.std.specs.List.{All}
use Rattle.xfs_disk.proofs.Reading.{reads_on}
use Rattle.xfs_render.specs.Drafts.{AreInBank, row_places}
use Rattle.xfs_writing.specs.declared.rows.Row.{Row}
use Rattle.xfs_rebuild.specs.Differing.{left_to_write}
use Rattle.xfs_rebuild.specs.Rebuilds.{CanBeWritten, IsLeft}
use Rattle.xfs_rebuild.specs.declared.planning.Rebuilt.{Rebuilt}
use Rattle.xfs_rebuild.proofs.Causes.{cause_since, later_since}
use Rattle.xfs_rebuild.proofs.Parts.{back, front, of_places}
use Rattle.xfs_rebuild.proofs.rendering.leave_equal.Goals as goal

pub left_to_write-requires-clause-inside : goal.left_to_write-requires-clause-inside
left_to_write-requires-clause-inside g c =
    let size : ℕ = g.D.Disk.size c.args.disk.now in
    subst (All (λ (r : Row). r.at < size)) (sym c.as_slice.ensures)
    (of_places (λ place. place < size) c.args.plan.fresh (front (λ place. place < size) (row_places c.args.plan.fresh) (row_places c.args.plan.in_place) c.requires.inside))

pub left_to_write-requires-clause-banked : goal.left_to_write-requires-clause-banked
left_to_write-requires-clause-banked g c =
    subst (λ (rows : List Row). AreInBank rows c.args.plan.bank) (sym c.as_slice.ensures)
    (front (λ (r : Row). r.index < length c.args.plan.bank) c.args.plan.fresh c.args.plan.in_place c.requires.banked)

pub left_to_write-requires-2-clause-inside : goal.left_to_write-requires-2-clause-inside
left_to_write-requires-2-clause-inside g c =
    let size : ℕ = g.D.Disk.size c.args.disk.now in
    subst (λ (n : ℕ). All (λ (r : Row). r.at < n) c.as_slice-2.result.now) (sym c.left_to_write.ensures.disk.same_size)
    (subst (All (λ (r : Row). r.at < size)) (sym c.as_slice-2.ensures)
    (of_places (λ place. place < size) c.args.plan.in_place (back (λ place. place < size) (row_places c.args.plan.fresh) (row_places c.args.plan.in_place) c.requires.inside)))

pub left_to_write-requires-2-clause-banked : goal.left_to_write-requires-2-clause-banked
left_to_write-requires-2-clause-banked g c =
    subst (λ (rows : List Row). AreInBank rows c.args.plan.bank) (sym c.as_slice-2.ensures)
    (back (λ (r : Row). r.index < length c.args.plan.bank) c.args.plan.fresh c.args.plan.in_place c.requires.banked)

pub returns-in-Err : goal.returns-in-Err
returns-in-Err g c =
    let failed = c.in-Err.ensures in
    record { writable = tt; left = tt; kept = tt; cleared = tt; refused = failed.refused; cause = failed.cause; disk = failed.disk }

pub returns-in-Err-left_to_write : goal.returns-in-Err-left_to_write
returns-in-Err-left_to_write g c =
    let D = g.D.Disk in
    let first = c.in-Ok.ensures in
    let failed = c.in-Err-left_to_write.ensures in
    record {
      writable = tt;
      left = tt;
      kept = tt;
      cleared = tt;
      refused = failed.refused;
      cause = cause_since (D.faults c.args.disk.now) (D.faults c.left_to_write.new.disk) (D.faults c.left_to_write-2.new.disk) c.in-Err-left_to_write.fault first.cause failed.cause;
      disk = reads_on D.size D.holds D.write_faults D.writes D.tells_stops D.moment D.may_leave D.left_since c.args.disk.now c.left_to_write.new.disk c.left_to_write-2.new.disk first.disk failed.disk;
    }

pub returns : goal.returns
returns g c =
    let D = g.D.Disk in
    let first = c.in-Ok.ensures in
    let then = c.in-Ok-left_to_write.ensures in
    let bank = c.args.plan.bank in
    record {
      writable =
          subst (CanBeWritten (D.size c.args.disk.now)) (sym c.joined.ensures)
          (record {
            first_places = first.places;
            last_places = subst (λ (n : ℕ). All (λ (r : Row). r.at < n) c.in-Ok-left_to_write.rows.items) first.disk.same_size then.places;
            first_inside = first.kept;
            last_inside = then.kept;
          });
      left = λ image told.
          subst (IsLeft image c.args.plan) (sym c.joined.ensures)
          (record {
            bank' = refl;
            fresh' = first.left image told ∙ ap (left_to_write bank image) c.as_slice.ensures;
            in_place' = then.left image (first.disk.same_contents ∙ told) ∙ ap (left_to_write bank image) c.as_slice-2.ensures;
          });
      kept = ap (λ (r : Rebuilt). r.kept) c.joined.ensures;
      cleared = ap (λ (r : Rebuilt). r.cleared) c.joined.ensures;
      refused = tt;
      cause = later_since (D.faults c.args.disk.now) (D.faults c.left_to_write.new.disk) (D.faults c.left_to_write-2.new.disk) first.cause then.cause;
      disk = reads_on D.size D.holds D.write_faults D.writes D.tells_stops D.moment D.may_leave D.left_since c.args.disk.now c.left_to_write.new.disk c.left_to_write-2.new.disk first.disk then.disk;
    }
