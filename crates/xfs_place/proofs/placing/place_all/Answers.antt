use Rattle.std.proofs.Common.{length, ap, arith}
use Rattle.std.proofs.lemmas.Result.{IfOk-from_err}
use Rattle.xfs_place.proofs.placing.place_all.Goals as goal

pub keep_objects-requires-clause-all : goal.keep_objects-requires-clause-all
keep_objects-requires-clause-all c = c.in_ok-kept.ensures

pub place_behind-requires-clause-first : goal.place_behind-requires-clause-first
place_behind-requires-clause-first c = omega (arith, c.len-first.ensures, c.in_ok-kept.kept.ok.0, ap length c.in_ok-kept.ensures)

pub place_behind-requires-clause-told : goal.place_behind-requires-clause-told
place_behind-requires-clause-told c = c.in_ok-objects.ensures.told

pub returns-clause-told : goal.returns-clause-told
returns-clause-told c = c.place_behind.ensures.told

pub returns-clause-cause : goal.returns-clause-cause
returns-clause-cause c = c.place_behind.ensures.cause

pub keep_objects-requires-clause-kept : goal.keep_objects-requires-clause-kept
keep_objects-requires-clause-kept c = c.requires.kept

pub keep_objects-requires-clause-asks : goal.keep_objects-requires-clause-asks
keep_objects-requires-clause-asks c = c.requires.asks

pub place_behind-requires-clause-inodes : goal.place_behind-requires-clause-inodes
place_behind-requires-clause-inodes c = c.requires.inodes

pub place_behind-requires-clause-few : goal.place_behind-requires-clause-few
place_behind-requires-clause-few c = c.requires.few

pub returns-in_err-kept-clause-told : goal.returns-in_err-kept-clause-told
returns-in_err-kept-clause-told c = IfOk-from_err c.from_residual.result _ c.from_residual.ensures.0

pub returns-in_err-objects-clause-told : goal.returns-in_err-objects-clause-told
returns-in_err-objects-clause-told c = IfOk-from_err c.from_residual-in_err-objects.result _ c.from_residual-in_err-objects.ensures.0
