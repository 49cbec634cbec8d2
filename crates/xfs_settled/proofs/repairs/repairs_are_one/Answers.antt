use Rattle.xfs_settled.proofs.RepairsOnce.{repairs_one}
use Rattle.xfs_settled.proofs.repairs.repairs_are_one.Goals as goal

pub returns-clause-image : goal.returns-clause-image
returns-clause-image c = λ s image now other blocks kept cleared orphans more files freed unnamed a b whole entire.
    (repairs_one s image now other blocks kept cleared orphans more files freed unnamed a b whole entire).0

pub returns-clause-blocks : goal.returns-clause-blocks
returns-clause-blocks c = λ s image now other blocks kept cleared orphans more files freed unnamed a b whole entire.
    (repairs_one s image now other blocks kept cleared orphans more files freed unnamed a b whole entire).1
