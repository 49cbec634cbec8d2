-- The answer to each fault.
use Rattle.std.proofs.Common.{ap, subst}
use Rattle.xfs_disk.proofs.Reading.{reads_none}
use Rattle.xfs_geom.specs.Volumes.{volume_of}
use Rattle.xfs_scan.specs.Answers.{IsRefusal, IsScanCause}
use Rattle.xfs_scan.specs.Refused.{refused}
use Rattle.xfs_scan.specs.declared.faults.ScanFault.{ScanFault}
use Rattle.xfs_mend.specs.Due.{scan_refusal}
use Rattle.xfs_mend.proofs.Turning.{turned_later}
use Rattle.xfs_mend.proofs.refusals.turn_away.Goals as goal

pub returns-in-ReadFault : goal.returns-in-ReadFault
returns-in-ReadFault g c =
    let D = g.D.Disk in
    record {
      turned = λ image told. tt;
      cause = λ before cause. (subst (λ (f : ScanFault). IsScanCause before (D.faults c.args.disk.now) f) c.in-ReadFault.is cause, c.faults.ensures.count);
      disk = reads_none D.size D.holds D.write_faults D.writes D.tells_stops D.moment D.may_leave D.left_since c.args.disk.now;
    }

pub returns-in-NoMemory : goal.returns-in-NoMemory
returns-in-NoMemory g c =
    let D = g.D.Disk in
    record {
      turned = λ image told. tt;
      cause = λ before cause. subst (λ (f : ScanFault). IsScanCause before (D.faults c.args.disk.now) f) c.in-NoMemory.is cause;
      disk = reads_none D.size D.holds D.write_faults D.writes D.tells_stops D.moment D.may_leave D.left_since c.args.disk.now;
    }

pub unless_dirty-requires : goal.unless_dirty-requires
unless_dirty-requires g c = record {
  inside = c.requires.inside;
  refused = λ image told. ap scan_refusal (subst (λ (f : ScanFault). IsRefusal (refused (volume_of c.args.g.now) image) f) c.in-TooLarge.is (c.requires.refused image told));
  quiet = λ before now up. up;
}

pub unless_dirty-requires-in-UnsupportedFile : goal.unless_dirty-requires-in-UnsupportedFile
unless_dirty-requires-in-UnsupportedFile g c = record {
  inside = c.requires.inside;
  refused = λ image told. ap scan_refusal (subst (λ (f : ScanFault). IsRefusal (refused (volume_of c.args.g.now) image) f) c.in-UnsupportedFile.is (c.requires.refused image told));
  quiet = λ before now up. up;
}

pub returns-in-TooLarge : goal.returns-in-TooLarge
returns-in-TooLarge g c =
    let D = g.D.Disk in
    let later = c.unless_dirty in
    record {
      turned = later.ensures.turned;
      cause = λ before cause. turned_later before (D.faults c.args.disk.now) (D.faults later.new.disk) later.result
          (subst (λ (f : ScanFault). IsScanCause before (D.faults c.args.disk.now) f) c.in-TooLarge.is cause) later.ensures.cause;
      disk = later.ensures.disk;
    }

pub returns-in-UnsupportedFile : goal.returns-in-UnsupportedFile
returns-in-UnsupportedFile g c =
    let D = g.D.Disk in
    let later = c.unless_dirty-in-UnsupportedFile in
    record {
      turned = later.ensures.turned;
      cause = λ before cause. turned_later before (D.faults c.args.disk.now) (D.faults later.new.disk) later.result
          (subst (λ (f : ScanFault). IsScanCause before (D.faults c.args.disk.now) f) c.in-UnsupportedFile.is cause) later.ensures.cause;
      disk = later.ensures.disk;
    }
