use Rattle.std.proofs.Common.{◌≡◌, ◌+◌, ◌-◌, nat_lt, false, length}
use Rattle.xfs_geom.specs.Volumes.{volume_of}
use Rattle.xfs_place.specs.Finding.{IsFrontOf, IsOpen}
use Rattle.xfs_place.specs.Objects.{IsAsk, keep_pieces, spared_in}
use Rattle.xfs_place.specs.Wanted.{CanBeKept}
use Rattle.xfs_place.proofs.object_placing.Keeper.put_ask.Given as goal

abbrev pub invariant-loop-n : goal.invariant-loop-n
invariant-loop-n l = record {
  same : keep_pieces (volume_of l.site.geometry.now) l.site.reserved.now l.site.from (spared_in l.all l.site.spared.now) l.most false l.fn.self.all.items l.ask
      ≡ keep_pieces (volume_of l.site.geometry.now) l.site.reserved.now l.site.from (spared_in l.all l.site.spared.now) (l.most - l.n) (nat_lt 0 l.n) l.self.all.items l.rest;
  ask' : IsAsk l.rest;
  long : length l.self.all.items ≡ length l.fn.self.all.items + l.n;
  front : IsFrontOf l.fn.self.all.items l.self.all.items;
  kept : CanBeKept (volume_of l.site.geometry.now) l.self.all.items;
  pool' : IsOpen (volume_of l.site.geometry.now) l.self.all.items l.site.reserved.now l.site.from l.site.spared.now l.self.pool;
}
