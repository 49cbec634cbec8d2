use Rattle.std.proofs.Common.{sym, ap, subst, ◌∙◌, arith}
use Rattle.xfs_geom.specs.Volumes.{volume_of}
use Rattle.xfs_disk.proofs.Reading.{reads_none}
use Rattle.xfs_tree.specs.Answers.{IsTreeCause}
use Rattle.xfs_tree.specs.declared.tree.TreeFault.{TreeFault}
use Rattle.xfs_inode.specs.Named.{held_by, tree_below}
use Rattle.xfs_inode.proofs.Causes.{unread_on}
use Rattle.xfs_inode.proofs.file_reading.read_top.Goals as goal

pub returns-in-None : goal.returns-in-None
returns-in-None g c =
    let D = g.D.Disk in
    record {
      read = λ image told. sym (ap (tree_below (volume_of c.args.g.now) image c.args.ino) c.in-None.is);
      cause = omega arith;
      disk = reads_none D.size D.holds D.write_faults D.writes D.tells_stops D.moment D.may_leave D.left_since c.args.disk.now;
      reads = omega arith;
    }

pub returns-in-Ok : goal.returns-in-Ok
returns-in-Ok g c =
    record {
      read = λ image told. sym (ap (tree_below (volume_of c.args.g.now) image c.args.ino) c.in-Some.is ∙ ap held_by (c.in-Ok.ensures.read image told));
      cause = c.in-Ok.ensures.cause;
      disk = c.in-Ok.ensures.disk;
      reads = c.in-Ok.ensures.reads;
    }

pub returns-in-Err-Unread : goal.returns-in-Err-Unread
returns-in-Err-Unread g c =
    let D = g.D.Disk in
    record {
      read = λ image told.
          sym (ap (tree_below (volume_of c.args.g.now) image c.args.ino) c.in-Some.is ∙ ap held_by (unread_on c.in-Err-Unread.field-0-is (c.in-Err-Unread.ensures.read image told)));
      cause = subst (λ (f : TreeFault). IsTreeCause (D.faults c.args.disk.now) (D.faults c.read_below.new.disk) f) c.in-Err-Unread.field-0-is c.in-Err-Unread.ensures.cause;
      disk = c.in-Err-Unread.ensures.disk;
      reads = c.in-Err-Unread.ensures.reads;
    }

pub returns-in-Err-ReadFault : goal.returns-in-Err-ReadFault
returns-in-Err-ReadFault g c =
    let D = g.D.Disk in
    record {
      read = tt;
      cause = subst (λ (f : TreeFault). IsTreeCause (D.faults c.args.disk.now) (D.faults c.read_below.new.disk) f) c.in-Err-ReadFault.field-0-is c.in-Err-ReadFault.ensures.cause;
      disk = c.in-Err-ReadFault.ensures.disk;
      reads = c.in-Err-ReadFault.ensures.reads;
    }

pub returns-in-Err-NoMemory : goal.returns-in-Err-NoMemory
returns-in-Err-NoMemory g c =
    let D = g.D.Disk in
    record {
      read = tt;
      cause = subst (λ (f : TreeFault). IsTreeCause (D.faults c.args.disk.now) (D.faults c.read_below.new.disk) f) c.in-Err-NoMemory.field-0-is c.in-Err-NoMemory.ensures.cause;
      disk = c.in-Err-NoMemory.ensures.disk;
      reads = c.in-Err-NoMemory.ensures.reads;
    }
