use Rattle.xfs_word.proofs.Written.{keeps, keeps_parts}
use Rattle.xfs_dirbuild.proofs.writing.put_pairs.Goals as goal

pub returns-clause-keeps : goal.returns-clause-keeps
returns-clause-keeps c = keeps _ _ _ _ c.write_pairs.ensures.others

pub returns-clause-keeps_parts : goal.returns-clause-keeps_parts
returns-clause-keeps_parts c = keeps_parts _ _ _ _ c.write_pairs.auto.block c.write_pairs.ensures.others
