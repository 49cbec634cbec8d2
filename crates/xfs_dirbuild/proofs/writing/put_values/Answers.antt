use Rattle.xfs_word.proofs.Written.{keeps_parts}
use Rattle.xfs_dirbuild.proofs.writing.put_values.Goals as goal

pub returns-clause-keeps_parts : goal.returns-clause-keeps_parts
returns-clause-keeps_parts c = keeps_parts _ _ _ _ c.write_values.auto.block c.write_values.ensures.others
