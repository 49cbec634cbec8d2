use Rattle.xfs_geom.specs.Volumes.{volume_of}
use Rattle.xfs_render.specs.Logs.{AddsRest}
use Rattle.xfs_render.proofs.log.add_rest.Given as goal

abbrev pub invariant-loop-i : goal.invariant-loop-i
invariant-loop-i l = record {
  rest : AddsRest (volume_of l.g) l._cycle l.i l.initial.draft l.draft;
}
