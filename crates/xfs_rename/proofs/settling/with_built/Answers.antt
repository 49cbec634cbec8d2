use Rattle.std.proofs.Common.{refl, ◌∙◌}
use Rattle.xfs_rename.proofs.settling.with_built.Goals as goal

pub built_of-requires-clause-files : goal.built_of-requires-clause-files
built_of-requires-clause-files c = c.requires.files

pub built_of-requires-clause-ascend : goal.built_of-requires-clause-ascend
built_of-requires-clause-ascend c = c.requires.ascend

pub built_of-requires-clause-can : goal.built_of-requires-clause-can
built_of-requires-clause-can c = c.requires.can
