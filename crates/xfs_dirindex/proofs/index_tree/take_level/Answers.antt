use Rattle.std.proofs.lemmas.Result.{IfOk-from_err}
use Rattle.xfs_dirindex.proofs.index_tree.take_level.Goals as goal

pub returns-in_err-add_places-clause-few : goal.returns-in_err-add_places-clause-few
returns-in_err-add_places-clause-few c = IfOk-from_err c.from_residual.result _ c.from_residual.ensures.0

pub returns-in_err-add_places-clause-sound : goal.returns-in_err-add_places-clause-sound
returns-in_err-add_places-clause-sound c = IfOk-from_err c.from_residual.result _ c.from_residual.ensures.0

pub returns-in_err-add_places-clause-places : goal.returns-in_err-add_places-clause-places
returns-in_err-add_places-clause-places c = IfOk-from_err c.from_residual.result _ c.from_residual.ensures.0

pub returns-in_err-add_places-clause-pairs : goal.returns-in_err-add_places-clause-pairs
returns-in_err-add_places-clause-pairs c = IfOk-from_err c.from_residual.result _ c.from_residual.ensures.0

pub returns-then-most-len-clause-few : goal.returns-then-most-len-clause-few
returns-then-most-len-clause-few c = tt

pub returns-then-most-len-clause-sound : goal.returns-then-most-len-clause-sound
returns-then-most-len-clause-sound c = tt

pub returns-then-most-len-clause-places : goal.returns-then-most-len-clause-places
returns-then-most-len-clause-places c = tt

pub returns-then-most-len-clause-pairs : goal.returns-then-most-len-clause-pairs
returns-then-most-len-clause-pairs c = tt

pub returns-then-most-len-2-clause-few : goal.returns-then-most-len-2-clause-few
returns-then-most-len-2-clause-few c = tt

pub returns-then-most-len-2-clause-sound : goal.returns-then-most-len-2-clause-sound
returns-then-most-len-2-clause-sound c = tt

pub returns-then-most-len-2-clause-places : goal.returns-then-most-len-2-clause-places
returns-then-most-len-2-clause-places c = tt

pub returns-then-most-len-2-clause-pairs : goal.returns-then-most-len-2-clause-pairs
returns-then-most-len-2-clause-pairs c = tt

pub read_level-requires-clause-mapped : goal.read_level-requires-clause-mapped
read_level-requires-clause-mapped c = c.requires.mapped

pub read_level-requires-clause-ascending : goal.read_level-requires-clause-ascending
read_level-requires-clause-ascending c = c.requires.ascending
