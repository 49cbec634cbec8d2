-- The view is that of the evidence.
use Rattle.std.proofs.Common.{ap, ◌∙◌}
use Rattle.xfs_scan.specs.Evidence.{view_seen}
use Rattle.xfs_mend.proofs.repairing.find_seen.Goals as goal

pub find_first-requires-clause-view : goal.find_first-requires-clause-view
find_first-requires-clause-view g c = λ κs lives image told. ap view_seen c.as_seen.ensures ∙ (c.requires.evidence image told).catalog
