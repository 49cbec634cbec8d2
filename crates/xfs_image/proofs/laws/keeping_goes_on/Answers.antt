use Rattle.xfs_image.proofs.Keeping.{all_bytes, keeps_itself, keeps_on}
use Rattle.xfs_image.proofs.Protected.{protected_apart}
use Rattle.xfs_image.proofs.laws.keeping_goes_on.Goals as goal

pub returns-clause-itself : goal.returns-clause-itself
returns-clause-itself c = keeps_itself

pub returns-clause-onward : goal.returns-clause-onward
returns-clause-onward c = keeps_on

pub returns-clause-apart : goal.returns-clause-apart
returns-clause-apart c = protected_apart

pub returns-clause-size : goal.returns-clause-size
returns-clause-size c = all_bytes
