use Rattle.std.proofs.Common.{None, refl, ◌∙◌, sym, subst}
use Rattle.xfs_groups.specs.Answers.{EndBelow}
use Rattle.xfs_scan.specs.Evidence.{IsEvidence}
use Rattle.xfs_scan.proofs.Answered.{part_caused, part_refuses}
use Rattle.xfs_scan.proofs.Refusing.{is_evidence}
use Rattle.xfs_scan.proofs.gather_evidence.gather_prepared.Goals as goal

pub see_view-requires-clause-inside : goal.see_view-requires-clause-inside
see_view-requires-clause-inside g c = c.requires.inside

pub see_view-requires-clause-groups : goal.see_view-requires-clause-groups
see_view-requires-clause-groups g c = λ image told. (c.requires.seen image told).groups

pub see_view-requires-clause-scanned : goal.see_view-requires-clause-scanned
see_view-requires-clause-scanned g c = λ image told. c.as_slice.ensures ∙ (c.requires.seen image told).clusters

pub see_view-requires-clause-ends : goal.see_view-requires-clause-ends
see_view-requires-clause-ends g c = subst (EndBelow c.args.g.now.dblocks) (sym c.as_slice.ensures) c.requires.low

pub see_view-requires-clause-facts : goal.see_view-requires-clause-facts
see_view-requires-clause-facts g c = λ image told. c.deref.ensures.value ∙ c.requires.slots image told

pub see_view-requires-clause-inodes : goal.see_view-requires-clause-inodes
see_view-requires-clause-inodes g c = c.requires.inodes

pub see_view-requires-clause-log : goal.see_view-requires-clause-log
see_view-requires-clause-log g c = c.requires.log

pub returns-in-Ok-evidence_of : goal.returns-in-Ok-evidence_of
returns-in-Ok-evidence_of g c = record {
  evidence = λ image told.
      subst (IsEvidence c.args.g.now image) (sym c.in-Ok-evidence_of.ensures)
      (is_evidence c.args.g.now image c.args.seen c.args.scanned.slots.items c.args.prepared.bare c.args.scanned.inodes c.in-Ok.held c.args.prepared.log
      (c.requires.seen image told) (c.requires.slots image told) c.requires.bare (c.requires.inodes image told)
      c.in-Ok.ensures.files (c.in-Ok.ensures.view image told) (c.requires.log image told));
  refused = refl;
  cause = c.in-Ok.ensures.cause;
  disk = c.see_view.ensures.disk;
  reads = c.see_view.ensures.reads;
}

pub returns-in-Err-evidence_of : goal.returns-in-Err-evidence_of
returns-in-Err-evidence_of g c = record {
  evidence = tt;
  refused = tt;
  cause = c.in-Ok.ensures.cause;
  disk = c.see_view.ensures.disk;
  reads = c.see_view.ensures.reads;
}

pub returns-in-Err : goal.returns-in-Err
returns-in-Err g c =
    let D = g.D.Disk in
    record {
      evidence = tt;
      refused = part_refuses None c.in-Err.error c.answer.result c.answer.ensures;
      cause = part_caused (D.faults c.args.disk.now) (D.faults c.see_view.new.disk) c.in-Err.error c.answer.result c.answer.ensures c.in-Err.ensures.cause;
      disk = c.see_view.ensures.disk;
      reads = c.see_view.ensures.reads;
    }
