use Rattle.xfs_geom.specs.Volumes.{volume_of}
use Rattle.xfs_render.specs.Objects.{AddsObjects}
use Rattle.xfs_render.proofs.objects.add_objects.Given as goal

abbrev pub invariant-loop-j : goal.invariant-loop-j
invariant-loop-j l = record {
  objects : AddsObjects (volume_of l.g) l.blocks l.built l.j l.initial.draft l.draft;
}
