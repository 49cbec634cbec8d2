use Rattle.std.proofs.lemmas.Result.{IfOk-from_err}
use Rattle.xfs_dirindex.proofs.data.take_block.Goals as goal

pub returns-in_err-take_pairs-clause-sound : goal.returns-in_err-take_pairs-clause-sound
returns-in_err-take_pairs-clause-sound c = IfOk-from_err c.from_residual.result _ c.from_residual.ensures.0

pub returns-in_err-take_pairs-clause-entries : goal.returns-in_err-take_pairs-clause-entries
returns-in_err-take_pairs-clause-entries c = IfOk-from_err c.from_residual.result _ c.from_residual.ensures.0

pub returns-in_err-take_pairs-clause-places : goal.returns-in_err-take_pairs-clause-places
returns-in_err-take_pairs-clause-places c = IfOk-from_err c.from_residual.result _ c.from_residual.ensures.0

pub returns-in_err-take_pairs-clause-due : goal.returns-in_err-take_pairs-clause-due
returns-in_err-take_pairs-clause-due c = IfOk-from_err c.from_residual.result _ c.from_residual.ensures.0

pub returns-in_err-take_pairs-clause-bests : goal.returns-in_err-take_pairs-clause-bests
returns-in_err-take_pairs-clause-bests c = IfOk-from_err c.from_residual.result _ c.from_residual.ensures.0

pub returns-in-Err-NoMemory-clause-sound : goal.returns-in-Err-NoMemory-clause-sound
returns-in-Err-NoMemory-clause-sound c = tt

pub returns-in-Err-NoMemory-clause-entries : goal.returns-in-Err-NoMemory-clause-entries
returns-in-Err-NoMemory-clause-entries c = tt

pub returns-in-Err-NoMemory-clause-places : goal.returns-in-Err-NoMemory-clause-places
returns-in-Err-NoMemory-clause-places c = tt

pub returns-in-Err-NoMemory-clause-due : goal.returns-in-Err-NoMemory-clause-due
returns-in-Err-NoMemory-clause-due c = tt

pub returns-in-Err-NoMemory-clause-bests : goal.returns-in-Err-NoMemory-clause-bests
returns-in-Err-NoMemory-clause-bests c = tt

pub returns-in-Err-Unsound-clause-sound : goal.returns-in-Err-Unsound-clause-sound
returns-in-Err-Unsound-clause-sound c = tt

pub returns-in-Err-Unsound-clause-entries : goal.returns-in-Err-Unsound-clause-entries
returns-in-Err-Unsound-clause-entries c = tt

pub returns-in-Err-Unsound-clause-places : goal.returns-in-Err-Unsound-clause-places
returns-in-Err-Unsound-clause-places c = tt

pub returns-in-Err-Unsound-clause-due : goal.returns-in-Err-Unsound-clause-due
returns-in-Err-Unsound-clause-due c = tt

pub returns-in-Err-Unsound-clause-bests : goal.returns-in-Err-Unsound-clause-bests
returns-in-Err-Unsound-clause-bests c = tt

pub returns-then-get32-data_magic-clause-sound : goal.returns-then-get32-data_magic-clause-sound
returns-then-get32-data_magic-clause-sound c = tt

pub returns-then-get32-data_magic-clause-entries : goal.returns-then-get32-data_magic-clause-entries
returns-then-get32-data_magic-clause-entries c = tt

pub returns-then-get32-data_magic-clause-places : goal.returns-then-get32-data_magic-clause-places
returns-then-get32-data_magic-clause-places c = tt

pub returns-then-get32-data_magic-clause-due : goal.returns-then-get32-data_magic-clause-due
returns-then-get32-data_magic-clause-due c = tt

pub returns-then-get32-data_magic-clause-bests : goal.returns-then-get32-data_magic-clause-bests
returns-then-get32-data_magic-clause-bests c = tt
