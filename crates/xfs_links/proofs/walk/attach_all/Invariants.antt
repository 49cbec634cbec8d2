use Rattle.std.proofs.Common.{◌≡◌, [], length}
use Rattle.xfs_collections.specs.Lists.{list_at}
use Rattle.xfs_links.specs.Walk.{walk}
use Rattle.xfs_links.specs.Places.{IsSteady, named_at, starts_at}
use Rattle.xfs_links.proofs.walk.attach_all.Given as goal

abbrev pub invariant-loop-start : goal.invariant-loop-start
invariant-loop-start l = record {
  steady : IsSteady l.files l.weave l.turn.items;
  leads : walk (named_at l.files l.candidates) l.steps l.root l.turn.items (list_at l.weave 0) ≡ walk (named_at l.files l.candidates) l.steps l.root [] (starts_at l.files l.candidates l.root);
}

abbrev pub decreases-loop-start : goal.decreases-loop-start
decreases-loop-start l = length (list_at l.weave 0)
