use Rattle.std.proofs.Common.{take}
use Rattle.xfs_render.specs.Rendering.{AddsPlaces}
use Rattle.xfs_render.proofs.rendering.add_places.Given as goal

abbrev pub invariant-loop-i : goal.invariant-loop-i
invariant-loop-i l = record {
  places : AddsPlaces l.work.wanted.now l.work.placed.now l.work.bytes.now l.work.sector.now l.fresh 0 l.i (take l.i l.work.bytes.now.places) l.initial.draft l.draft;
}
