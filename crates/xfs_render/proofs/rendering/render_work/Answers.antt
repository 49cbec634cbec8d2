use Rattle.std.proofs.lemmas.Result.{IfOk-from_err}
use Rattle.xfs_render.proofs.rendering.render_work.Goals as goal

pub returns : goal.returns
returns c = c.in_ok-first.ensures.rendered c.in_ok-arrange.field-0 c.in_ok-arrange.ensures

pub fill_draft-requires-clause-ready : goal.fill_draft-requires-clause-ready
fill_draft-requires-clause-ready c = c.requires.ready

pub fill_draft-requires-clause-due : goal.fill_draft-requires-clause-due
fill_draft-requires-clause-due c = c.requires.due

pub fill_draft-requires-clause-sector : goal.fill_draft-requires-clause-sector
fill_draft-requires-clause-sector c = c.requires.sector

pub fill_draft-requires-clause-reaches : goal.fill_draft-requires-clause-reaches
fill_draft-requires-clause-reaches c = c.requires.reaches

pub fill_draft-requires-clause-objects : goal.fill_draft-requires-clause-objects
fill_draft-requires-clause-objects c = c.requires.objects

pub fill_draft-requires-clause-draft : goal.fill_draft-requires-clause-draft
fill_draft-requires-clause-draft c = c.in_ok-draft.ensures.whole

pub fill_draft-requires-clause-none : goal.fill_draft-requires-clause-none
fill_draft-requires-clause-none c = c.in_ok-draft.ensures.none

pub fill_draft-requires-clause-empty : goal.fill_draft-requires-clause-empty
fill_draft-requires-clause-empty c = c.in_ok-draft.ensures.empty

pub arrange-requires-clause-draft : goal.arrange-requires-clause-draft
arrange-requires-clause-draft c = c.in_ok-first.ensures.draft

pub arrange-requires-clause-inside : goal.arrange-requires-clause-inside
arrange-requires-clause-inside c = c.in_ok-first.ensures.inside

pub returns-in_err-draft : goal.returns-in_err-draft
returns-in_err-draft c = IfOk-from_err c.from_residual.result _ c.from_residual.ensures.0

pub returns-in_err-first : goal.returns-in_err-first
returns-in_err-first c = IfOk-from_err c.from_residual-in_err-first.result _ c.from_residual-in_err-first.ensures.0

pub returns-in_err-arrange : goal.returns-in_err-arrange
returns-in_err-arrange c = IfOk-from_err c.from_residual-in_err-arrange.result _ c.from_residual-in_err-arrange.ensures.0
