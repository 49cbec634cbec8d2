use Rattle.xfs_render.proofs.DraftSteps.{AddsUpTo}
use Rattle.xfs_render.proofs.draft.Draft.add.Given as goal

abbrev pub invariant-loop-i : goal.invariant-loop-i
invariant-loop-i l = AddsUpTo l.initial.self l.self l.i l.places l.blocks
