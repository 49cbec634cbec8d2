use Rattle.std.proofs.Common.{arith}
use Rattle.xfs_disk.proofs.Reading.{reads_none}
use Rattle.xfs_inode.proofs.file_reading.read_file_of.Goals as goal

pub needs_of-requires-clause-slot : goal.needs_of-requires-clause-slot
needs_of-requires-clause-slot g c = c.requires.slot

pub needs_of-requires-clause-read : goal.needs_of-requires-clause-read
needs_of-requires-clause-read g c = c.requires.itself

pub read_needed-requires-clause-slot : goal.read_needed-requires-clause-slot
read_needed-requires-clause-slot g c = c.requires.slot

pub read_needed-requires-clause-itself : goal.read_needed-requires-clause-itself
read_needed-requires-clause-itself g c = c.requires.itself

pub read_needed-requires-clause-inside : goal.read_needed-requires-clause-inside
read_needed-requires-clause-inside g c = c.requires.inside

pub read_needed-requires-clause-top : goal.read_needed-requires-clause-top
read_needed-requires-clause-top g c = c.in-Ok.ensures.top

pub read_needed-requires-clause-attr_leaf : goal.read_needed-requires-clause-attr_leaf
read_needed-requires-clause-attr_leaf g c = c.in-Ok.ensures.attr_leaf

pub read_needed-requires-clause-link : goal.read_needed-requires-clause-link
read_needed-requires-clause-link g c = c.in-Ok.ensures.link

pub read_needed-requires-clause-attr_inside : goal.read_needed-requires-clause-attr_inside
read_needed-requires-clause-attr_inside g c = c.in-Ok.ensures.attr_inside

pub read_needed-requires-clause-link_inside : goal.read_needed-requires-clause-link_inside
read_needed-requires-clause-link_inside g c = c.in-Ok.ensures.link_inside

pub returns-in-Ok : goal.returns-in-Ok
returns-in-Ok g c =
    let told = c.read_needed.ensures in
    record { read = told.read; sound = told.sound; cause = told.cause; disk = told.disk; reads = told.reads }

pub returns-in-Err : goal.returns-in-Err
returns-in-Err g c =
    let D = g.D.Disk in
    record {
      read = tt;
      sound = tt;
      cause = omega arith;
      disk = reads_none D.size D.holds D.write_faults D.writes D.tells_stops D.moment D.may_leave D.left_since c.args.disk.now;
      reads = omega arith;
    }
