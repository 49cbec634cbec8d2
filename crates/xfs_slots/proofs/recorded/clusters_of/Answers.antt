use Rattle.std.proofs.Common.{◌^◌, ◌<◌, List, ◌++◌, length, ap, ◌∙◌, arith, rules}
use Rattle.std.proofs.lemmas.Result.{IfOk-from_err}
use Rattle.xfs_geom.specs.declared.records.InoRec.{InoRec}
use Rattle.xfs_geom.specs.Volumes.{volume_of}
use Rattle.xfs_volume.specs.declared.groups.GroupRec.{GroupRec}
use Rattle.xfs_image.specs.Clusters.{chunk_clusters}
use Rattle.xfs_slots.proofs.Chunks.{base_fits, group_base, group_more, groups_done}
use Rattle.xfs_slots.proofs.recorded.clusters_of.Goals as goal

pub loop-ag-preserved : goal.loop-ag-preserved
loop-ag-preserved c =
    let v = volume_of c.args.g.now in
    let ag = c.loop-ag.ag in
    let old = c.loop-ag.clusters.items in
    record {
      clusters = group_more v c.args.groups.now ag c.index-groups-ag.result old c.push_chunks.new.clusters.items _ (omega arith)
          (c.in_ok-push_chunks.ensures.more
          ∙ ap (λ (chunks : List InoRec). old ++ chunk_clusters v ag chunks) (c.as_slice.ensures ∙ ap (λ (group : GroupRec). group.ino) c.index-groups-ag.is))
          c.loop-ag.invariant.clusters;
      low = c.in_ok-push_chunks.ensures.low;
    }

pub push_chunks-requires-clause-low : goal.push_chunks-requires-clause-low
push_chunks-requires-clause-low c = c.loop-ag.invariant.low

pub push_chunks-requires-clause-base : goal.push_chunks-requires-clause-base
push_chunks-requires-clause-base c =
    let low : c.args.g.now.agblocks < 2 ^ 32 = search rules in
    group_base c.loop-ag.ag (length c.args.groups.now) c.args.g.now.agblocks c.loop-ag-test.true c.requires.few low

pub overflow_mul-ag : goal.overflow_mul-ag
overflow_mul-ag c =
    let low : c.args.g.now.agblocks < 2 ^ 32 = search rules in
    base_fits c.loop-ag.ag (length c.args.groups.now) c.args.g.now.agblocks c.loop-ag-test.true c.requires.few low

pub returns-in_err-push_chunks : goal.returns-in_err-push_chunks
returns-in_err-push_chunks c = record {
  clusters = IfOk-from_err c.from_residual.result _ c.from_residual.ensures.0;
  low = IfOk-from_err c.from_residual.result _ c.from_residual.ensures.0;
}

pub returns : goal.returns
returns c = record {
  clusters = groups_done (volume_of c.args.g.now) c.args.groups.now c.loop-ag.ag c.loop-ag.clusters.items (omega arith) c.loop-ag.invariant.clusters;
  low = c.loop-ag.invariant.low;
}
