use Rattle.std.proofs.lemmas.Result.{IfOk-from_err}
use Rattle.xfs_dirindex.proofs.index_tree.check_tree.Goals as goal

pub returns-in_err-places-clause-sound : goal.returns-in_err-places-clause-sound
returns-in_err-places-clause-sound c = IfOk-from_err c.from_residual.result _ c.from_residual.ensures.0

pub read_index_tree-requires-clause-mapped : goal.read_index_tree-requires-clause-mapped
read_index_tree-requires-clause-mapped c = c.requires.mapped

pub read_index_tree-requires-clause-ascending : goal.read_index_tree-requires-clause-ascending
read_index_tree-requires-clause-ascending c = c.requires.ascending

pub returns-in-Err-clause-sound : goal.returns-in-Err-clause-sound
returns-in-Err-clause-sound c = tt

pub returns-then-len-clause-sound : goal.returns-then-len-clause-sound
returns-then-len-clause-sound c = tt
