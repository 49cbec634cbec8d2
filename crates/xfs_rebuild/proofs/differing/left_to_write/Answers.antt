-- One more row is looked at.
use Rattle.std.proofs.Common.{◌≡◌, ℕ, ◌+◌, ◌<◌, ◌++◌, List, [], get_or, length, sym, ap, subst, ◌∙◌}
use Rattle.std.specs.List.{All}
use Rattle.std.proofs.lemmas.List.Elements.{All-nil}
use Rattle.xfs_disk.proofs.Reading.{reads_none, reads_on}
use Rattle.xfs_writing.specs.declared.rows.Row.{Row}
use Rattle.xfs_rebuild.specs.Differing.{differs, left_to_write}
use Rattle.xfs_rebuild.proofs.Causes.{later_since, no_later, rose_since}
use Rattle.xfs_rebuild.proofs.Filtered.{all_more, filter_all, filter_more}
use Rattle.xfs_rebuild.proofs.differing.left_to_write.Goals as goal

-- what stands behind the last
abbrev no_row : Row
no_row = record { at = 0; index = 0 }

pub loop-row-init : goal.loop-row-init
loop-row-init g c =
    let D = g.D.Disk in
    let none = c.new-left.ensures.items in
    let bank = c.args.bank.now in
    record {
      left = λ image told. ap (λ (xs : List Row). xs ++ left_to_write bank image c.args.rows.now) none;
      places = subst (All (λ (r : Row). r.at < D.size c.args.disk.now)) (sym none) (All-nil (λ (r : Row). r.at < D.size c.args.disk.now));
      kept = subst (All (λ (r : Row). r.index < length bank)) (sym none) (All-nil (λ (r : Row). r.index < length bank));
      faults = no_later (D.faults c.args.disk.now);
      disk = reads_none D.size D.holds D.write_faults D.writes D.tells_stops D.moment D.may_leave D.left_since c.args.disk.now;
    }

pub differs-requires : goal.differs-requires
differs-requires g c =
    let D = g.D.Disk in
    let i = c.loop-row.row-index in
    record {
      inside = subst (λ (n : ℕ). (get_or c.args.rows.now i no_row).at < n) (sym c.loop-row.invariant.disk.same_size) (c.requires.inside i no_row c.loop-row-test.true);
      banked = c.requires.banked i no_row c.loop-row-test.true;
    }

pub loop-row-preserved : goal.loop-row-preserved
loop-row-preserved g c =
    let D = g.D.Disk in
    let before = c.loop-row.invariant in
    let read = c.in-Ok.ensures in
    let rows = c.args.rows.now in
    let bank = c.args.bank.now in
    let i = c.loop-row.row-index in
    let row = get_or rows i no_row in
    let within : i < length rows = c.loop-row-test.true in
    record {
      left = λ image told.
          filter_more (differs bank image) rows i no_row c.in-Ok.other c.loop-row.left.items c.push_if.new.left.items (left_to_write bank image rows) within
          (read.differs image (before.disk.same_contents ∙ told)) c.in-Ok-push_if.ensures (before.left image told);
      places =
          all_more (λ (r : Row). r.at < D.size c.args.disk.now) c.loop-row.left.items c.push_if.new.left.items c.in-Ok.other row before.places
          (c.requires.inside i no_row within) c.in-Ok-push_if.ensures;
      kept =
          all_more (λ (r : Row). r.index < length bank) c.loop-row.left.items c.push_if.new.left.items c.in-Ok.other row before.kept
          (c.requires.banked i no_row within) c.in-Ok-push_if.ensures;
      faults = later_since (D.faults c.args.disk.now) (D.faults c.loop-row.disk) (D.faults c.differs.new.disk) before.faults read.cause;
      disk = reads_on D.size D.holds D.write_faults D.writes D.tells_stops D.moment D.may_leave D.left_since c.args.disk.now c.loop-row.disk c.differs.new.disk before.disk read.disk;
    }

pub returns-clause-left : goal.returns-clause-left
returns-clause-left g c = λ image told.
    filter_all (differs c.args.bank.now image) c.args.rows.now c.loop-row.row-index c.loop-row.left.items (left_to_write c.args.bank.now image c.args.rows.now) c.loop-row-test.false
    (c.loop-row.invariant.left image told)

pub returns-clause-places : goal.returns-clause-places
returns-clause-places g c = c.loop-row.invariant.places

pub returns-clause-kept : goal.returns-clause-kept
returns-clause-kept g c = c.loop-row.invariant.kept

pub returns-clause-cause : goal.returns-clause-cause
returns-clause-cause g c = c.loop-row.invariant.faults

pub returns-clause-disk : goal.returns-clause-disk
returns-clause-disk g c = c.loop-row.invariant.disk

pub returns-in-Err : goal.returns-in-Err
returns-in-Err g c =
    let D = g.D.Disk in
    let before = c.loop-row.invariant in
    let failed = c.in-Err.ensures in
    record {
      left = tt;
      places = tt;
      kept = tt;
      refused = tt;
      cause = rose_since (D.faults c.args.disk.now) (D.faults c.loop-row.disk) (D.faults c.differs.new.disk) before.faults failed.cause;
      disk = reads_on D.size D.holds D.write_faults D.writes D.tells_stops D.moment D.may_leave D.left_since c.args.disk.now c.loop-row.disk c.differs.new.disk before.disk failed.disk;
    }

pub returns-in-Err-push_if : goal.returns-in-Err-push_if
returns-in-Err-push_if g c =
    let D = g.D.Disk in
    let before = c.loop-row.invariant in
    let read = c.in-Ok.ensures in
    record {
      left = tt;
      places = tt;
      kept = tt;
      refused = tt;
      cause = later_since (D.faults c.args.disk.now) (D.faults c.loop-row.disk) (D.faults c.differs.new.disk) before.faults read.cause;
      disk = reads_on D.size D.holds D.write_faults D.writes D.tells_stops D.moment D.may_leave D.left_since c.args.disk.now c.loop-row.disk c.differs.new.disk before.disk read.disk;
    }
