use Rattle.xfs_render.specs.Rendering.{AddsGroups}
use Rattle.xfs_render.proofs.rendering.add_groups.Given as goal

abbrev pub invariant-loop-ag : goal.invariant-loop-ag
invariant-loop-ag l = record {
  groups : AddsGroups l.wanted l.placed l.ag l.initial.draft l.draft;
}
