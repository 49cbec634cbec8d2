use Rattle.std.proofs.Common.{◌≡◌, ℕ, ◌<◌, length, get_or}
use Rattle.xfs_geom.specs.Volumes.{volume_of}
use Rattle.xfs_place.specs.Finding.{unspared_part}
use Rattle.xfs_place.proofs.open_rows.list_unspared.Given as goal

abbrev pub invariant-loop-row : goal.invariant-loop-row
invariant-loop-row l = record {
  all : length l.unspared.items ≡ l.row;
  each : (k : ℕ) → k < l.row → get_or l.unspared.items k 0 ≡ unspared_part (volume_of l.site.geometry.now) l.site.spared.now (get_or l.rows.starts.items k 0) (get_or l.rows.counts.items k 0);
}
