use Rattle.std.proofs.Common.{◌≡◌, ◌+◌, ◌-◌}
use Rattle.std.specs.List.{filter}
use Rattle.xfs_collections.specs.Lists.{list_at}
use Rattle.xfs_links.specs.Walk.{turns}
use Rattle.xfs_links.specs.Places.{IsSteady, named_at}
use Rattle.xfs_links.proofs.Attaching.{unattached}
use Rattle.xfs_links.proofs.walk.begin.Given as goal

abbrev pub invariant-loop-step : goal.invariant-loop-step
invariant-loop-step l = record {
  steady : IsSteady l.files l.weave l.turn.items;
  leads : turns (named_at l.files l.candidates) (l.steps - l.step) (l.from + l.step) l.turn.items ≡ turns (named_at l.files l.candidates) l.steps l.from l.initial.turn.items;
  pending : list_at l.weave 0 ≡ filter (unattached l.turn.items) (list_at l.fn.weave 0);
}
