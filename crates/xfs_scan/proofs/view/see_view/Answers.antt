use Rattle.std.proofs.Common.{sym, ◌∙◌}
use Rattle.xfs_disk.proofs.Reading.{reads_none}
use Rattle.xfs_scan.proofs.Counts.{still}
use Rattle.xfs_scan.proofs.Views.{group_missing}
use Rattle.xfs_scan.proofs.view.see_view.Goals as goal

pub see_with_groups-requires-clause-inside : goal.see_with_groups-requires-clause-inside
see_with_groups-requires-clause-inside g c = c.requires.inside

pub see_with_groups-requires-clause-groups : goal.see_with_groups-requires-clause-groups
see_with_groups-requires-clause-groups g c = λ image told. sym (c.requires.groups image told) ∙ c.in-Ok.is

pub see_with_groups-requires-clause-scanned : goal.see_with_groups-requires-clause-scanned
see_with_groups-requires-clause-scanned g c = c.requires.scanned

pub see_with_groups-requires-clause-ends : goal.see_with_groups-requires-clause-ends
see_with_groups-requires-clause-ends g c = c.requires.ends

pub see_with_groups-requires-clause-facts : goal.see_with_groups-requires-clause-facts
see_with_groups-requires-clause-facts g c = c.requires.facts

pub see_with_groups-requires-clause-inodes : goal.see_with_groups-requires-clause-inodes
see_with_groups-requires-clause-inodes g c = c.requires.inodes

pub see_with_groups-requires-clause-log : goal.see_with_groups-requires-clause-log
see_with_groups-requires-clause-log g c = c.requires.log

pub returns-in-Ok : goal.returns-in-Ok
returns-in-Ok g c =
    let done = c.see_with_groups.ensures in
    record { view = done.view; files = done.files; cause = done.cause; disk = done.disk; reads = done.reads }

pub returns-in-Err : goal.returns-in-Err
returns-in-Err g c =
    let D = g.D.Disk in
    record {
      view = λ image told. c.apart.ensures.view ∙ group_missing c.args.g.now image c.in-Err.found (rw c.in-Err.is at (c.requires.groups image told));
      files = c.apart.ensures.files;
      cause = still _;
      disk = reads_none D.size D.holds D.write_faults D.writes D.tells_stops D.moment D.may_leave D.left_since c.args.disk.now;
      reads = still _;
    }
