use Rattle.xfs_populated.proofs.ShortForms.{short_forms}
use Rattle.xfs_populated.proofs.names.filled_short_forms_stand.Goals as goal

pub returns : goal.returns
returns c = short_forms
