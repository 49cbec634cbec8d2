use Rattle.std.proofs.Common.{ℕ, ◌+◌, ◌++◌, filter, ap}
use Rattle.std.specs.List.{range_with_len}
use Rattle.std.proofs.lemmas.Result.{IfOk-from_err}
use Rattle.xfs_geom.specs.Volumes.{volume_of}
use Rattle.xfs_rebuild.specs.Places.{has_wanted}
use Rattle.xfs_rebuild.proofs.Listed.{none_more, number_more, numbers_end}
use Rattle.xfs_rebuild.proofs.places.push_cluster.Goals as goal

pub loop-i-preserved : goal.loop-i-preserved
loop-i-preserved c =
    record {
      more = number_more (has_wanted (volume_of c.args.g.now) c.args.slots.now) c.args.cluster c.loop-i.i 4 c.loop-i.places.items c.push_wanted.new.places.items _ c.loop-i-test.true
          c.in_ok-push_wanted.ensures.more c.loop-i.invariant.more;
      low = c.in_ok-push_wanted.ensures.low;
    }

pub loop-i-init : goal.loop-i-init
loop-i-init c = record {
  more = ap (λ (b : ℕ). c.args.places.now.items ++ filter (has_wanted (volume_of c.args.g.now) c.args.slots.now) (range_with_len b 4)) (none_more c.args.cluster);
  low = c.requires.low;
}

pub returns : goal.returns
returns c = record {
  more = numbers_end (has_wanted (volume_of c.args.g.now) c.args.slots.now) c.loop-i.places.items _ (c.args.cluster + c.loop-i.i) 4 c.loop-i.i c.loop-i-test.false c.loop-i.invariant.more;
  low = c.loop-i.invariant.low;
}

pub returns-in_err-push_wanted : goal.returns-in_err-push_wanted
returns-in_err-push_wanted c = record { more = IfOk-from_err c.from_residual.result _ c.from_residual.ensures.0; low = IfOk-from_err c.from_residual.result _ c.from_residual.ensures.0 }
