use Rattle.std.proofs.Common.{ℕ, ◌+◌, ◌*◌, ◌<◌}
use Rattle.xfs_render.specs.Logs.{IsBlankAt, sector_of}
use Rattle.xfs_render.proofs.log.put_block.Given as goal

abbrev pub invariant-loop-k : goal.invariant-loop-k
invariant-loop-k l = record {
  each : (k : ℕ) → k < l.k → IsBlankAt l.cycle l.uuid (8 * l.number + k) (sector_of l.block k);
}
