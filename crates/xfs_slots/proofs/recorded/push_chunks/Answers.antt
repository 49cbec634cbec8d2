use Rattle.std.proofs.Common.{arith}
use Rattle.xfs_geom.specs.declared.records.InoRec.{InoRec}
use Rattle.xfs_image.specs.Clusters.{clusters_in}
use Rattle.xfs_slots.proofs.Chunks.{held_all, held_at}
use Rattle.xfs_slots.proofs.recorded.push_chunks.Goals as goal

-- what stands behind the last
abbrev no_chunk : InoRec
no_chunk = record { startino = 0; holemask = 0; count = 0; freecount = 0; free = 0 }

pub loop-chunk-preserved : goal.loop-chunk-preserved
loop-chunk-preserved c =
    record {
      clusters = held_at (clusters_in c.args.base) c.args.chunks.now c.loop-chunk.chunk-index no_chunk c.loop-chunk.clusters.items c.push_chunk.new.clusters.items _
          (omega arith) c.in_ok-push_chunk.ensures.more c.loop-chunk.invariant.clusters;
      low = c.in_ok-push_chunk.ensures.low;
    }

pub returns-clause-more : goal.returns-clause-more
returns-clause-more c =
    held_all (clusters_in c.args.base) c.args.chunks.now c.loop-chunk.chunk-index c.loop-chunk.clusters.items _ (omega arith) c.loop-chunk.invariant.clusters
