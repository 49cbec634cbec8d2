use Rattle.std.proofs.Common.{true, map, ◌∙◌}
use Rattle.xfs_salvage.specs.Kept.{run_of_cluster}
use Rattle.xfs_changes.specs.xfs_built.Asks.{objects_of}
use Rattle.xfs_rename.proofs.wanting.wanted_of.Goals as goal

pub objects_of-requires : goal.objects_of-requires
objects_of-requires c = record { rooms = rw (c.as_slice.ensures) c.requires.rooms }

pub returns : goal.returns
returns c = c.joined.ensures ∙ (λ i. record {
  geometry = c.args.g.now;
  taken = c.args.taken.items;
  new = (c.in_ok-new.ensures ∙ (λ j. map run_of_cluster (c.as_slice-3.ensures j))) i;
  reserved = c.args.reserved.items;
  from = 0;
  spared_from = (c.in_ok-spared.ensures.items ∙ c.as_slice-4.ensures) i;
  takes_spared = true;
  objects = (c.in_ok-objects.ensures ∙ (λ j. objects_of (c.as_slice.ensures j) (c.as_slice-2.ensures j))) i;
  inodes = c.in_ok-inodes.ensures i;
})
