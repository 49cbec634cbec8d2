use Rattle.xfs_image.proofs.Keeping.{keeps_on}
use Rattle.xfs_views.proofs.KeptInWords.{back, itself}
use Rattle.xfs_views.proofs.keeping.keeping_is_an_order.Goals as goal

pub returns-clause-itself : goal.returns-clause-itself
returns-clause-itself c = itself

pub returns-clause-onward : goal.returns-clause-onward
returns-clause-onward c = keeps_on

pub returns-clause-back : goal.returns-clause-back
returns-clause-back c = back
