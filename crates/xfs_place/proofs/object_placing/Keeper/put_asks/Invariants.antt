use Rattle.std.proofs.Common.{◌≡◌, ◌≤◌, ◌++◌, List, length, take, drop}
use Rattle.xfs_geom.specs.Volumes.{volume_of}
use Rattle.xfs_place.specs.Finding.{IsFrontOf, IsOpen}
use Rattle.xfs_place.specs.Objects.{ServeAsks, keep_asks, spared_in}
use Rattle.xfs_place.specs.Wanted.{CanBeKept}
use Rattle.xfs_place.specs.declared.wanted.RunAsk.{RunAsk}
use Rattle.xfs_place.proofs.object_placing.Keeper.put_asks.Given as goal

abbrev pub invariant-loop-i : goal.invariant-loop-i
invariant-loop-i l = record {
  same : keep_asks (volume_of l.site.geometry.now) l.site.reserved.now l.site.from (spared_in l.all l.site.spared.now) l.object.most l.fn.self.all.items l.object.runs
      ≡ keep_asks (volume_of l.site.geometry.now) l.site.reserved.now l.site.from (spared_in l.all l.site.spared.now) l.left l.self.all.items (drop l.i l.asks);
  few : l.left ≤ l.object.most;
  front : IsFrontOf l.fn.self.all.items l.self.all.items;
  cut : IsFrontOf l.fn.cuts.items l.cuts.items;
  kept : CanBeKept (volume_of l.site.geometry.now) l.self.all.items;
  pool' : IsOpen (volume_of l.site.geometry.now) l.self.all.items l.site.reserved.now l.site.from l.site.spared.now l.self.pool;
  cuts' : (asks : List RunAsk) → ServeAsks asks l.fn.cuts.items (drop l.first l.fn.self.all.items)
      → ServeAsks (asks ++ take l.i l.asks) l.cuts.items (drop l.first l.self.all.items);
}
