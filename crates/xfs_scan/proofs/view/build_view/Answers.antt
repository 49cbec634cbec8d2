use Rattle.std.proofs.Common.{ℕ, ◌≤◌, ◌^◌, List, length, sym, ap, ap₂, subst, ◌∙◌, arith}
use Rattle.xfs_geom.specs.Volumes.{volume_of}
use Rattle.xfs_volume.specs.declared.files.FileRec.{FileRec}
use Rattle.xfs_volume.specs.declared.groups.GroupRec.{GroupRec}
use Rattle.xfs_image.specs.Files.{clusters_of}
use Rattle.xfs_image.specs.Lsns.{lsns_read}
use Rattle.xfs_disk.proofs.Reading.{reads_on}
use Rattle.xfs_journal.specs.Answers.{IsJournalCause}
use Rattle.xfs_scan.proofs.Counts.{counted, later, rose_on}
use Rattle.xfs_scan.proofs.Rounds.{all_below}
use Rattle.xfs_scan.proofs.Views.{catalog_is}
use Rattle.xfs_scan.proofs.view.build_view.Goals as goal

pub read_lsns-requires-clause-clusters : goal.read_lsns-requires-clause-clusters
read_lsns-requires-clause-clusters g c = c.requires.clusters ∙ ap (clusters_of (volume_of c.args.g.now)) (sym c.as_slice.ensures)

pub read_lsns-requires-clause-low : goal.read_lsns-requires-clause-low
read_lsns-requires-clause-low g c = all_below (2 ^ 42) (2 ^ 60) c.args.clusters.now (omega arith) c.requires.low

pub read_lsns-requires-clause-few : goal.read_lsns-requires-clause-few
read_lsns-requires-clause-few g c = subst (λ (gs : List GroupRec). length gs ≤ 512) (sym c.as_slice.ensures) c.requires.few

pub read_lsns-requires-clause-known : goal.read_lsns-requires-clause-known
read_lsns-requires-clause-known g c = c.requires.known

pub read_counts-requires : goal.read_counts-requires
read_counts-requires g c = record { inside = subst (λ (n : ℕ). c.args.g.now.dblocks ≤ n) (sym c.read_lsns.ensures.disk.same_size) c.requires.inside }

pub returns-in-Err-ReadFault : goal.returns-in-Err-ReadFault
returns-in-Err-ReadFault g c =
    let D = g.D.Disk in
    record {
      catalog = tt;
      files = tt;
      cause = subst (IsJournalCause (D.faults c.args.disk.now) (D.faults c.read_lsns.new.disk)) c.in-Err-ReadFault.field-0-is c.in-Err-ReadFault.ensures.cause;
      disk = c.read_lsns.ensures.disk;
      reads = c.read_lsns.ensures.reads;
    }

pub returns-in-Err-NoMemory : goal.returns-in-Err-NoMemory
returns-in-Err-NoMemory g c =
    let D = g.D.Disk in
    record {
      catalog = tt;
      files = tt;
      cause = subst (IsJournalCause (D.faults c.args.disk.now) (D.faults c.read_lsns.new.disk)) c.in-Err-NoMemory.field-0-is c.in-Err-NoMemory.ensures.cause;
      disk = c.read_lsns.ensures.disk;
      reads = c.read_lsns.ensures.reads;
    }

pub returns-in-Err : goal.returns-in-Err
returns-in-Err g c =
    let D = g.D.Disk in
    record {
      catalog = tt;
      files = tt;
      cause = rose_on (D.faults c.args.disk.now) (D.faults c.read_lsns.new.disk) (D.faults c.read_counts.new.disk) c.in-Ok.ensures.cause c.in-Err.ensures.cause;
      disk = reads_on D.size D.holds D.write_faults D.writes D.tells_stops D.moment D.may_leave D.left_since c.args.disk.now c.read_lsns.new.disk c.read_counts.new.disk c.read_lsns.ensures.disk c.read_counts.ensures.disk;
      reads = counted (D.reads c.args.disk.now) (D.reads c.read_lsns.new.disk) (D.reads c.read_counts.new.disk) c.args.steps.now c.read_lsns.new.steps c.read_counts.new.steps c.read_lsns.ensures.reads c.read_counts.ensures.reads;
    }

pub returns : goal.returns
returns g c =
    let D = g.D.Disk in
    let v = volume_of c.args.g.now in
    record {
      catalog = λ image told.
          catalog_is c.args.g.now image c.args.groups c.args.inodes.files.items c.from_vec.result c.from_vec-2.result c.from_vec-3.result c.in-Ok-read_counts.counts c.args.log c.in-Ok.lsns
          c.from_vec.ensures (c.from_vec-2.ensures ∙ c.requires.entries image told) (c.from_vec-3.ensures ∙ c.requires.dirs image told)
          (c.in-Ok-read_counts.ensures.counts image (c.read_lsns.ensures.disk.same_contents ∙ told)) (c.requires.log image told)
          (c.in-Ok.ensures.lsns image told ∙ ap₂ (λ (gs : List GroupRec) (fs : List FileRec). lsns_read v image gs fs) c.as_slice.ensures c.deref.ensures.value);
      files = record { files = c.from_vec.ensures; entries = c.from_vec-2.ensures; dirs = c.from_vec-3.ensures };
      cause = later (D.faults c.args.disk.now) (D.faults c.read_lsns.new.disk) (D.faults c.read_counts.new.disk) c.in-Ok.ensures.cause c.in-Ok-read_counts.ensures.cause;
      disk = reads_on D.size D.holds D.write_faults D.writes D.tells_stops D.moment D.may_leave D.left_since c.args.disk.now c.read_lsns.new.disk c.read_counts.new.disk c.read_lsns.ensures.disk c.read_counts.ensures.disk;
      reads = counted (D.reads c.args.disk.now) (D.reads c.read_lsns.new.disk) (D.reads c.read_counts.new.disk) c.args.steps.now c.read_lsns.new.steps c.read_counts.new.steps c.read_lsns.ensures.reads c.read_counts.ensures.reads;
    }
