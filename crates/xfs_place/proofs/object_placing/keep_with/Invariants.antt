use Rattle.std.proofs.Common.{◌≡◌, ◌≤◌, length, take, drop}
use Rattle.xfs_geom.specs.Volumes.{volume_of}
use Rattle.xfs_place.specs.Finding.{IsOpen}
use Rattle.xfs_place.specs.Objects.{ServeAsks, asks_of, keep_with}
use Rattle.xfs_place.specs.Wanted.{CanBeKept}
use Rattle.xfs_place.proofs.object_placing.keep_with.Given as goal

abbrev pub invariant-loop-object : goal.invariant-loop-object
invariant-loop-object l = record {
  same : keep_with (volume_of l.site.geometry.now) l.site.reserved.now l.site.from l.site.spared.now l.site.takes l.fn.kept.items l.objects
      ≡ keep_with (volume_of l.site.geometry.now) l.site.reserved.now l.site.from l.site.spared.now l.site.takes l.keeper.all.items (drop l.object-index l.objects);
  long : length l.fn.kept.items ≤ length l.keeper.all.items;
  kept' : CanBeKept (volume_of l.site.geometry.now) l.keeper.all.items;
  pool' : IsOpen (volume_of l.site.geometry.now) l.keeper.all.items l.site.reserved.now l.site.from l.site.spared.now l.keeper.pool;
  cuts' : ServeAsks (asks_of (take l.object-index l.objects)) l.cuts.items (drop l.first l.keeper.all.items);
}
