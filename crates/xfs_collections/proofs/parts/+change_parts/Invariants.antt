use Rattle.std.proofs.Common.{length}
use Rattle.xfs_collections.proofs.parts.+change_parts.Given as goal

abbrev pub decreases-change_parts : goal.decreases-change_parts
decreases-change_parts g l = length l.cuts.now
