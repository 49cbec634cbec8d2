use Rattle.std.proofs.Common.{refl}
use Rattle.xfs_geom.specs.declared.records.InoRec.{InoRec}
use Rattle.xfs_space.specs.Owners.{cluster_run, clusters_of_chunk}
use Rattle.xfs_space.proofs.OwnedRuns.{chunk_next, chunks_end}
use Rattle.xfs_space.proofs.owned_groups.push_clusters.Goals as goal

pub loop-chunk-init : goal.loop-chunk-init
loop-chunk-init c = refl

pub push_chunk-requires : goal.push_chunk-requires
push_chunk-requires c = c.requires

pub loop-chunk-preserved : goal.loop-chunk-preserved
loop-chunk-preserved c =
    let none : InoRec = record { startino = 0; holemask = 0; count = 0; freecount = 0; free = 0 } in
    chunk_next (cluster_run c.args.base) clusters_of_chunk c.args.chunks.now c.loop-chunk.chunk-index none c.loop-chunk.runs.items c.push_chunk.new.runs.items _ c.loop-chunk-test.true
    c.in_ok-push_chunk.ensures c.loop-chunk.invariant

pub returns : goal.returns
returns c =
    chunks_end (cluster_run c.args.base) clusters_of_chunk c.args.chunks.now c.loop-chunk.chunk-index c.loop-chunk.runs.items _ c.loop-chunk-test.false c.loop-chunk.invariant
