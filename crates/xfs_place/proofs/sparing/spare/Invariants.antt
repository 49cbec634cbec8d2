use Rattle.std.proofs.Common.{◌≡◌, ℕ, ◌<◌, length, get_or}
use Rattle.xfs_geom.specs.Volumes.{volume_of}
use Rattle.xfs_place.specs.Pool.{is_pool}
use Rattle.xfs_place.specs.Sparing.{spared_of}
use Rattle.xfs_place.specs.Windows.{IsWindow}
use Rattle.xfs_place.proofs.sparing.spare.Given as goal

abbrev pub invariant-loop-ag : goal.invariant-loop-ag
invariant-loop-ag l = record {
  stands : IsWindow (volume_of l.g) l.taken l.reserved l.window;
  all : length l.spared.items ≡ l.ag;
  each : (k : ℕ) → k < l.ag → get_or l.spared.items k 0 ≡ spared_of (volume_of l.g) (is_pool (volume_of l.g) l.taken l.reserved) l.anew k;
}
