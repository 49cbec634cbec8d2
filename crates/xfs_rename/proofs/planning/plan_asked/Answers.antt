use Rattle.std.proofs.Common.{ℕ, [], subst, ap, ◌∙◌}
use Rattle.std.specs.Prelude.{IfOk}
use Rattle.xfs_disk.specs.Blocks.{Image}
use Rattle.xfs_disk.proofs.Reading.{reads_none, reads_on}
use Rattle.xfs_rebuild.specs.Rebuilds.{CanBeWritten}
use Rattle.xfs_rename.specs.Renames.{cleared_beside}
use Rattle.xfs_rename.proofs.Agreed.{agreed_built, agreed_bytes, agreed_clusters, agreed_files, agreed_fits, agreed_lie, agreed_slots, agreed_stands, agreed_written, all_refused, all_renamed, cause_on, fault_refused, no_later, room_refused}
use Rattle.xfs_rename.proofs.planning.plan_asked.Goals as goal

pub chunks_are_few-requires : goal.chunks_are_few-requires
chunks_are_few-requires g c =
    let n = c.requires.asked.0 in
    let is = c.requires.asked.1 in
    agreed_written c.args.chosen.now.geometry c.args.stamp.now n is.due c.args.settling.now is.settling c.args.asked.now.wanted is.wanted'

pub place-requires-clause-kept : goal.place-requires-clause-kept
place-requires-clause-kept g c =
    let n = c.requires.asked.0 in
    let is = c.requires.asked.1 in
    agreed_stands c.args.chosen.now.geometry c.args.stamp.now n is.due c.args.settling.now is.settling c.args.asked.now.wanted is.wanted'

pub place-requires-clause-asks : goal.place-requires-clause-asks
place-requires-clause-asks g c =
    let n = c.requires.asked.0 in
    let is = c.requires.asked.1 in
    (agreed_written c.args.chosen.now.geometry c.args.stamp.now n is.due c.args.settling.now is.settling c.args.asked.now.wanted is.wanted').asks

pub place-requires-clause-inodes : goal.place-requires-clause-inodes
place-requires-clause-inodes g c =
    let n = c.requires.asked.0 in
    let is = c.requires.asked.1 in
    (agreed_written c.args.chosen.now.geometry c.args.stamp.now n is.due c.args.settling.now is.settling c.args.asked.now.wanted is.wanted').inodes

pub settled_bytes-requires-clause-built : goal.settled_bytes-requires-clause-built
settled_bytes-requires-clause-built g c =
    let n = c.requires.asked.0 in
    let is = c.requires.asked.1 in
    agreed_built c.args.chosen.now.geometry c.args.stamp.now n is.due c.args.settling.now is.settling

pub settled_bytes-requires-clause-files : goal.settled_bytes-requires-clause-files
settled_bytes-requires-clause-files g c =
    let n = c.requires.asked.0 in
    let is = c.requires.asked.1 in
    agreed_files c.args.chosen.now.geometry c.args.stamp.now n is.due c.args.settling.now is.settling c.args.asked.now.kept is.kept'

pub settled_bytes-requires-clause-clusters : goal.settled_bytes-requires-clause-clusters
settled_bytes-requires-clause-clusters g c =
    let n = c.requires.asked.0 in
    let is = c.requires.asked.1 in
    agreed_clusters c.args.chosen.now.geometry c.args.stamp.now n is.due c.args.settling.now is.settling c.args.asked.now.kept is.kept'

pub settled_bytes-requires-clause-lie : goal.settled_bytes-requires-clause-lie
settled_bytes-requires-clause-lie g c =
    let n = c.requires.asked.0 in
    let is = c.requires.asked.1 in
    agreed_lie c.args.chosen.now.geometry c.args.stamp.now n is.due c.args.settling.now is.settling c.args.asked.now.kept is.kept'

pub plan_placed-planned-requires-clause-inside : goal.plan_placed-planned-requires-clause-inside
plan_placed-planned-requires-clause-inside g c κs within =
    let n = c.requires.asked.0 in
    let is = c.requires.asked.1 in
    agreed_fits c.args.chosen.now.geometry c.args.stamp.now n is.due c.args.settling.now is.settling c.args.asked.now.wanted is.wanted'
    (g.D.Disk.size c.args.disk.now) (g.D.Disk.size c.settled_bytes.new.disk) c.settled_bytes.ensures.disk.same_size c.requires.inside

pub plan_placed-planned-requires-clause-stands : goal.plan_placed-planned-requires-clause-stands
plan_placed-planned-requires-clause-stands g c κs within =
    let stood = c.in-Ok.ensures in
    record { runs' = stood.runs; groups' = stood.groups; apart = stood.apart; pool = stood.pool; counts' = stood.counts }

pub plan_placed-planned-requires-clause-cuts : goal.plan_placed-planned-requires-clause-cuts
plan_placed-planned-requires-clause-cuts g c κs within = c.in-Ok.ensures.cuts

pub plan_placed-planned-requires-clause-writable : goal.plan_placed-planned-requires-clause-writable
plan_placed-planned-requires-clause-writable g c κs within =
    let n = c.requires.asked.0 in
    let is = c.requires.asked.1 in
    agreed_written c.args.chosen.now.geometry c.args.stamp.now n is.due c.args.settling.now is.settling c.args.asked.now.wanted is.wanted'

pub plan_placed-planned-requires-clause-held : goal.plan_placed-planned-requires-clause-held
plan_placed-planned-requires-clause-held g c κs within =
    let n = c.requires.asked.0 in
    let is = c.requires.asked.1 in
    let bytes = c.in-Ok-settled_bytes.bytes in
    let made = c.in-Ok-settled_bytes.ensures in
    agreed_bytes c.args.chosen.now.geometry c.args.stamp.now n is.due c.args.settling.now is.settling
    c.args.chosen.now.sector c.args.asked.now.wanted c.args.asked.now.kept bytes.slots c.in-Ok.placed (record bytes { objects = [] }) bytes
    is.wanted'
    (agreed_slots c.args.chosen.now.geometry c.args.stamp.now n is.due c.args.settling.now is.settling
    c.args.asked.now.kept c.in-Ok.placed c.in-Ok-settled_bytes.bytes.slots c.args.asked.now.slots is.kept' c.in-Ok-settled_bytes.ensures.slots is.slots')
    made.order c.requires.accepted c.requires.states made.at_hand
    (ap (λ (o : Image). record bytes { objects = o }) made.objects)

pub returns-in-Err-NoRoom : goal.returns-in-Err-NoRoom
returns-in-Err-NoRoom g c =
    let D = g.D.Disk in
    record {
      writable = tt;
      renamed = λ n is. tt;
      refused = λ n is.
          room_refused c.args.chosen.now.geometry c.args.stamp.now n is.due c.args.settling.now is.settling
          c.args.asked.now.wanted c.in-Err-NoRoom.field-0 c.in-Err-NoRoom.what _ is.wanted' c.in-Err-NoRoom.field-0-is c.in-Err-NoRoom.what-is c.in-Err-NoRoom.ensures.cause;
      cause = no_later (D.faults c.args.disk.now);
      disk = reads_none D.size D.holds D.write_faults D.writes D.tells_stops D.moment D.may_leave D.left_since c.args.disk.now;
    }

pub returns-in-Err-NoMemory : goal.returns-in-Err-NoMemory
returns-in-Err-NoMemory g c =
    let D = g.D.Disk in
    record {
      writable = tt;
      renamed = λ n is. tt;
      refused = λ n is. tt;
      cause = no_later (D.faults c.args.disk.now);
      disk = reads_none D.size D.holds D.write_faults D.writes D.tells_stops D.moment D.may_leave D.left_since c.args.disk.now;
    }

pub returns-in-Err : goal.returns-in-Err
returns-in-Err g c =
    let failed = c.in-Err.ensures in
    record {
      writable = tt;
      renamed = λ n is. tt;
      refused = λ n is. fault_refused c.args.chosen.now.geometry n c.in-Err.fault failed.refused;
      cause = failed.cause;
      disk = failed.disk;
    }

pub returns : goal.returns
returns g c =
    let D = g.D.Disk in
    let stood = c.in-Ok.ensures in
    let planned = c.plan_placed-planned.ensures in
    let bytes = c.in-Ok-settled_bytes.bytes in
    let made = c.in-Ok-settled_bytes.ensures in
    record {
      writable = subst (λ (size : ℕ). IfOk c.plan_placed-planned.result (CanBeWritten size)) c.settled_bytes.ensures.disk.same_size planned.writable;
      renamed = λ n is.
          all_renamed c.args.chosen.now.geometry c.args.stamp.now n is.due c.args.settling.now is.settling
          c.args.chosen.now.sector c.args.asked.now.wanted c.args.asked.now.kept bytes.slots c.args.asked.now.seen c.args.asked.now.log c.in-Ok.placed (record bytes { objects = [] })
          bytes is.wanted' is.kept'
          (agreed_slots c.args.chosen.now.geometry c.args.stamp.now n is.due c.args.settling.now is.settling
          c.args.asked.now.kept c.in-Ok.placed c.in-Ok-settled_bytes.bytes.slots c.args.asked.now.slots is.kept' c.in-Ok-settled_bytes.ensures.slots is.slots')
          is.seen' is.log' made.at_hand
          (ap (λ (o : Image). record bytes { objects = o }) made.objects)
          (record { runs' = stood.runs; groups' = stood.groups; apart = stood.apart; pool = stood.pool; counts' = stood.counts }) stood.cuts
          c.names_of-count.result c.cleared_beside-cleared.result (g.D.Disk.holds c.args.disk.now) (g.D.Disk.holds c.settled_bytes.new.disk) c.plan_placed-planned.result
          c.names_of-count.ensures (c.cleared_beside-cleared.ensures ∙ ap (cleared_beside c.args.settling.now.lost) (c.as_slice.ensures ∙ is.slots'))
          made.read c.settled_bytes.ensures.disk.same_contents planned.planned planned.kept planned.cleared;
      refused = λ n is. all_refused c.args.chosen.now.geometry n c.plan_placed-planned.result planned.refused;
      cause =
          cause_on (D.faults c.args.disk.now) (D.faults c.settled_bytes.new.disk) (D.faults c.plan_placed-planned.new.disk) c.plan_placed-planned.result made.cause planned.cause;
      disk = reads_on D.size D.holds D.write_faults D.writes D.tells_stops D.moment D.may_leave D.left_since c.args.disk.now c.settled_bytes.new.disk c.plan_placed-planned.new.disk
          c.settled_bytes.ensures.disk planned.disk;
    }
