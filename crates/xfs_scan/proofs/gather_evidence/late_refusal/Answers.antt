use Rattle.std.proofs.Common.{length, ap, ◌∙◌, arith}
use Rattle.std.specs.List.{sum_by}
use Rattle.xfs_scan.specs.Refused.{extents_of}
use Rattle.xfs_scan.proofs.Refusing.{late_so}
use Rattle.xfs_scan.proofs.gather_evidence.late_refusal.Goals as goal

pub returns-in-Some : goal.returns-in-Some
returns-in-Some c =
    late_so c.args.inodes.now c.in-Some.extents (length c.as_slice.result.now) c.refusal.result
    (c.in-Some.ensures.1 ∙ ap (sum_by extents_of) c.deref.ensures.value) (ap length c.as_slice.ensures.value) c.refusal.ensures

pub returns-in-None : goal.returns-in-None
returns-in-None c = record { refusal = tt; quiet = λ n. omega arith }
