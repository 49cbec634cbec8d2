use Rattle.std.proofs.Common.{◌≡◌, ◌∙◌, ap}
use Rattle.xfs_place.specs.declared.wanted.Wanted.{Wanted}
use Rattle.xfs_volume_tests.proofs.render.wanted.wanted_of.Goals as goal

pub returns : goal.returns
returns c = record {
  groups = c.in_ok-inodes.inodes.items;
  are = c.in_ok-inodes.ensures;
  is = c.with_objects.ensures ∙ ap (λ (e : Wanted). record e { objects = c.args.objects.items; inodes = c.in_ok-inodes.inodes.items }) c.in_ok-empty.ensures;
}
