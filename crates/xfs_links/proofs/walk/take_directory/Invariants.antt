use Rattle.std.proofs.Common.{◌≡◌, drop}
use Rattle.std.specs.List.{filter}
use Rattle.xfs_collections.specs.Lists.{list_at}
use Rattle.xfs_links.specs.Walk.{see_all}
use Rattle.xfs_links.specs.Places.{IsSteady, targets}
use Rattle.xfs_links.proofs.Attaching.{unattached}
use Rattle.xfs_links.proofs.walk.take_directory.Given as goal

abbrev pub invariant-loop-candidate : goal.invariant-loop-candidate
invariant-loop-candidate l = record {
  steady : IsSteady l.files l.weave l.turn.items;
  leads : see_all l.directory l.turn.items (targets l.files (drop l.candidate-index l.group)) ≡ see_all l.directory l.fn.turn.items (targets l.files l.group);
  pending : list_at l.weave 0 ≡ filter (unattached l.turn.items) (list_at l.fn.weave 0);
}
