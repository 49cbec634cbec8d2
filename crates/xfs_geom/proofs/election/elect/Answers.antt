use Rattle.std.proofs.Common.{◌≡◌, ◌<◌, ◌≤◌, ℕ, IfOk, None, Some, sym, ◌∙◌, ap, subst, arith, rules}
use Rattle.std.proofs.lemmas.Result.{IfOk-weaker}
use Rattle.xfs_disk.proofs.Reading.{reads_on}
use Rattle.xfs_geom.specs.Superblocks.{super_fault}
use Rattle.xfs_geom.specs.Volumes.{volume_of, stated_volume}
use Rattle.xfs_geom.specs.Writing.{IsAcceptedSector}
use Rattle.xfs_geom.specs.declared.election.Elected.{Elected}
use Rattle.xfs_geom.specs.declared.geometry.Geometry.{Geometry}
use Rattle.xfs_geom.specs.declared.reading.SuperFault.{SuperFault}
use Rattle.xfs_geom.specs.declared.reading.SuperFault.TheVariants.{Unsupported}
use Rattle.xfs_geom.proofs.Exits.{unread, unread_twice, read_once, read_all, rose_on, up_twice, cause_on, accepted_as, inside_as}
use Rattle.xfs_geom.proofs.Primary.{none_elected, by_primary, primary_elected, feature_refused}
use Rattle.xfs_geom.proofs.election.elect.Goals as goal

pub returns-in-Err : goal.returns-in-Err
returns-in-Err g c =
    let failed = c.in-Err.ensures in
    record {
      due = λ image told. tt;
      accepted = tt;
      base = tt;
      states = tt;
      inside = tt;
      cause = failed.cause;
      disk = record { same_size = failed.size; same_contents = failed.holds; same_write_faults = failed.write_faults; same_writes = failed.writes; tells = failed.tells; leaves = failed.stops; past = failed.past };
      reads = unread _ _ _ failed.reads;
    }

pub returns-then-size-eq0 : goal.returns-then-size-eq0
returns-then-size-eq0 g c =
    let first = c.in-Ok.ensures in
    record {
      due = λ image told. none_elected image c.in-Ok.size ((g.met.D.Disk.shape c.args.disk.now image told).count ∙ sym first.count) c.if-size-eq0.true;
      accepted = tt;
      base = tt;
      states = tt;
      inside = tt;
      cause = first.cause;
      disk = record { same_size = first.size; same_contents = first.holds; same_write_faults = first.write_faults; same_writes = first.writes; tells = first.tells; leaves = first.stops; past = first.past };
      reads = unread _ _ _ first.reads;
    }

pub returns-in-Err-read_front : goal.returns-in-Err-read_front
returns-in-Err-read_front g c =
    let D = g.D.Disk in
    let first = c.in-Ok.ensures in
    let failed = c.in-Err-read_front.ensures in
    record {
      due = λ image told. tt;
      accepted = tt;
      base = tt;
      states = tt;
      inside = tt;
      cause = rose_on _ _ _ first.cause failed.cause;
      disk = reads_on D.size D.holds D.write_faults D.writes D.tells_stops D.moment D.may_leave D.left_since c.args.disk.now _ c.read_front.new.self
          (record { same_size = first.size; same_contents = first.holds; same_write_faults = first.write_faults; same_writes = first.writes; tells = first.tells; leaves = first.stops; past = first.past })
          (record { same_size = failed.size; same_contents = failed.holds; same_write_faults = failed.write_faults; same_writes = failed.writes; tells = failed.tells; leaves = failed.stops; past = failed.past });
      reads = unread_twice _ _ _ _ first.reads failed.reads;
    }

pub returns-in-Ok-read_super : goal.returns-in-Ok-read_super
returns-in-Ok-read_super g c =
    let D = g.D.Disk in
    let first = c.in-Ok.ensures in
    let then = c.in-Ok-read_front.ensures in
    let super = c.in-Ok-read_super.ensures in
    let made = c.new.ensures in
    let some : 0 < c.in-Ok.size = omega (arith, c.if-size-eq0.false) in
    record {
      due = λ image told.
          primary_elected image c.in-Ok.size c.read_front.new.into c.new.result
          ((g.met.D.Disk.shape c.args.disk.now image told).count ∙ sym first.count) some (then.bytes image (first.holds ∙ told))
          super.accepted (λ i. record { place = made.from i; sector = made.sector i });
      accepted = accepted_as _ _ _ _ _ _ made.sector made.from first.count super.accepted;
      base = record { place = 0; blocks = c.in-Ok.size; none = ap (λ s. super_fault s 0 c.in-Ok.size) made.sector ∙ super.accepted };
      states = ap volume_of made.geometry ∙ super.stated ∙ ap stated_volume (sym made.sector);
      inside = inside_as _ _ _ _ (ap (λ (g : Geometry). g.dblocks) made.geometry) super.inside first.count;
      cause = up_twice _ _ _ first.cause then.cause;
      disk = reads_on D.size D.holds D.write_faults D.writes D.tells_stops D.moment D.may_leave D.left_since c.args.disk.now _ c.read_front.new.self
          (record { same_size = first.size; same_contents = first.holds; same_write_faults = first.write_faults; same_writes = first.writes; tells = first.tells; leaves = first.stops; past = first.past })
          (record { same_size = then.size; same_contents = then.holds; same_write_faults = then.write_faults; same_writes = then.writes; tells = then.tells; leaves = then.stops; past = then.past });
      reads = read_once _ _ _ c.in-Ok.size _ first.reads then.reads some first.count;
    }

pub returns-in-Err-Unsupported : goal.returns-in-Err-Unsupported
returns-in-Err-Unsupported g c =
    let D = g.D.Disk in
    let first = c.in-Ok.ensures in
    let then = c.in-Ok-read_front.ensures in
    let some : 0 < c.in-Ok.size = omega (arith, c.if-size-eq0.false) in
    record {
      due = λ image told.
          let refused : super_fault c.read_front.new.into 0 c.in-Ok.size ≡ Some (Unsupported c.in-Err-Unsupported.word c.in-Err-Unsupported.bits) =
          c.in-Err-Unsupported.ensures.refused ∙ ap (λ (f : SuperFault). Some f) c.in-Err-Unsupported.field-0-is in
          let due = feature_refused image c.in-Ok.size c.read_front.new.into c.in-Err-Unsupported.word c.in-Err-Unsupported.bits
          ((g.met.D.Disk.shape c.args.disk.now image told).count ∙ sym first.count) some (then.bytes image (first.holds ∙ told)) refused in
          rw c.in-Err-Unsupported.field-0-is due;
      accepted = tt;
      base = tt;
      states = tt;
      inside = tt;
      cause = up_twice _ _ _ first.cause then.cause;
      disk = reads_on D.size D.holds D.write_faults D.writes D.tells_stops D.moment D.may_leave D.left_since c.args.disk.now _ c.read_front.new.self
          (record { same_size = first.size; same_contents = first.holds; same_write_faults = first.write_faults; same_writes = first.writes; tells = first.tells; leaves = first.stops; past = first.past })
          (record { same_size = then.size; same_contents = then.holds; same_write_faults = then.write_faults; same_writes = then.writes; tells = then.tells; leaves = then.stops; past = then.past });
      reads = read_once _ _ _ c.in-Ok.size _ first.reads then.reads some first.count;
    }

pub returns-in-Err-read_super : goal.returns-in-Err-read_super
returns-in-Err-read_super g c =
    let D = g.D.Disk in
    let first = c.in-Ok.ensures in
    let then = c.in-Ok-read_front.ensures in
    let last = c.elect_backup.ensures in
    let some : 0 < c.in-Ok.size = omega (arith, c.if-size-eq0.false) in
    record {
      due = λ image told.
          rw (by_primary image c.in-Ok.size c.read_front.new.into ((g.met.D.Disk.shape c.args.disk.now image told).count ∙ sym first.count) some
          (then.bytes image (first.holds ∙ told))) (search rules);
      accepted = subst (λ (n : ℕ). IfOk c.elect_backup.result (λ (e : Elected). super_fault e.sector e.from n ≡ None)) first.count last.accepted;
      base = IfOk-weaker c.elect_backup.result (λ (e : Elected). super_fault e.sector e.from c.in-Ok.size ≡ None) (λ (e : Elected). IsAcceptedSector e.sector)
          (λ e accepted. record { place = e.from; blocks = c.in-Ok.size; none = accepted }) last.accepted;
      states = last.states;
      inside = subst (λ (n : ℕ). IfOk c.elect_backup.result (λ (e : Elected). e.geometry.dblocks ≤ n)) first.count last.inside;
      cause = cause_on _ _ _ c.elect_backup.result (up_twice _ _ _ first.cause then.cause) last.cause;
      disk = reads_on D.size D.holds D.write_faults D.writes D.tells_stops D.moment D.may_leave D.left_since c.args.disk.now _ c.elect_backup.new.disk
          (reads_on D.size D.holds D.write_faults D.writes D.tells_stops D.moment D.may_leave D.left_since c.args.disk.now _ c.read_front.new.self
          (record { same_size = first.size; same_contents = first.holds; same_write_faults = first.write_faults; same_writes = first.writes; tells = first.tells; leaves = first.stops; past = first.past })
          (record { same_size = then.size; same_contents = then.holds; same_write_faults = then.write_faults; same_writes = then.writes; tells = then.tells; leaves = then.stops; past = then.past }))
          last.disk;
      reads = read_all _ _ _ _ c.in-Ok.size _ first.reads then.reads last.reads first.count;
    }
