use Rattle.std.proofs.Common.{List, ap₂}
use Rattle.std.proofs.lemmas.Result.{IfOk-from_err}
use Rattle.xfs_rounds.specs.declared.facts.SlotFact.{SlotFact}
use Rattle.xfs_scan.specs.Evidence.{joined_parts}
use Rattle.xfs_scan.specs.declared.evidence.Seen.{Seen}
use Rattle.xfs_scan.proofs.gather_evidence.evidence_of.Goals as goal

pub returns-in_err-seen : goal.returns-in_err-seen
returns-in_err-seen c = IfOk-from_err c.from_residual.result _ c.from_residual.ensures.0

pub returns : goal.returns
returns c =
    ap₂ (λ (slots : List SlotFact) (seen : Seen). joined_parts c.args.clusters slots c.args.bare c.args.trees seen c.args.log) c.from_vec.ensures c.in_ok-seen.ensures
