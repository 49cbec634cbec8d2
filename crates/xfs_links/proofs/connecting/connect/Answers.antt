use Rattle.std.proofs.lemmas.Result.{IfOk-from_err}
use Rattle.xfs_links.proofs.Deciding.{root_low}
use Rattle.xfs_links.proofs.connecting.connect.Goals as goal

pub named_orphans-requires-clause-root : goal.named_orphans-requires-clause-root
named_orphans-requires-clause-root c = root_low c.args.files.now c.args.root c.requires.files c.requires.root

pub returns-in_err-parents : goal.returns-in_err-parents
returns-in_err-parents c = record { entries = IfOk-from_err c.from_residual.result _ c.from_residual.ensures.0; parents = IfOk-from_err c.from_residual.result _ c.from_residual.ensures.0; orphans = IfOk-from_err c.from_residual.result _ c.from_residual.ensures.0; lost = IfOk-from_err c.from_residual.result _ c.from_residual.ensures.0 }

pub returns-in_err-orphans : goal.returns-in_err-orphans
returns-in_err-orphans c = record { entries = IfOk-from_err c.from_residual-in_err-orphans.result _ c.from_residual-in_err-orphans.ensures.0; parents = IfOk-from_err c.from_residual-in_err-orphans.result _ c.from_residual-in_err-orphans.ensures.0; orphans = IfOk-from_err c.from_residual-in_err-orphans.result _ c.from_residual-in_err-orphans.ensures.0; lost = IfOk-from_err c.from_residual-in_err-orphans.result _ c.from_residual-in_err-orphans.ensures.0 }

pub returns-in_err-entries : goal.returns-in_err-entries
returns-in_err-entries c = record { entries = IfOk-from_err c.from_residual-in_err-entries.result _ c.from_residual-in_err-entries.ensures.0; parents = IfOk-from_err c.from_residual-in_err-entries.result _ c.from_residual-in_err-entries.ensures.0; orphans = IfOk-from_err c.from_residual-in_err-entries.result _ c.from_residual-in_err-entries.ensures.0; lost = IfOk-from_err c.from_residual-in_err-entries.result _ c.from_residual-in_err-entries.ensures.0 }

pub returns-in_err-parents-2 : goal.returns-in_err-parents-2
returns-in_err-parents-2 c = record { entries = IfOk-from_err c.from_residual-in_err-parents-2.result _ c.from_residual-in_err-parents-2.ensures.0; parents = IfOk-from_err c.from_residual-in_err-parents-2.result _ c.from_residual-in_err-parents-2.ensures.0; orphans = IfOk-from_err c.from_residual-in_err-parents-2.result _ c.from_residual-in_err-parents-2.ensures.0; lost = IfOk-from_err c.from_residual-in_err-parents-2.result _ c.from_residual-in_err-parents-2.ensures.0 }

pub decide-requires-clause-files : goal.decide-requires-clause-files
decide-requires-clause-files c = c.requires.files

pub decide-requires-clause-entries : goal.decide-requires-clause-entries
decide-requires-clause-entries c = c.requires.entries

pub decide-requires-clause-root : goal.decide-requires-clause-root
decide-requires-clause-root c = c.requires.root
