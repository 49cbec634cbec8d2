use Rattle.std.proofs.Common.{ℕ, ◌<◌, ◌^◌, arith}
use Rattle.std.proofs.lemmas.Result.{IfOk-from_err}
use Rattle.std.proofs.lemmas.List.Elements.{All-get_or}
use Rattle.xfs_image.specs.Slots.{cluster_blocks}
use Rattle.xfs_slots.proofs.Chunks.{held_all, held_at}
use Rattle.xfs_slots.proofs.blocks.blocks_of.Goals as goal

pub push_blocks-requires-clause-cluster : goal.push_blocks-requires-clause-cluster
push_blocks-requires-clause-cluster c =
    let low = All-get_or (λ (n : ℕ). n < 2 ^ 42) c.args.clusters.now c.loop-cluster.cluster-index 0 c.loop-cluster-test.true c.requires in
    omega (arith, low)

pub push_blocks-requires-clause-low : goal.push_blocks-requires-clause-low
push_blocks-requires-clause-low c = c.loop-cluster.invariant.low

pub returns-in_err-push_blocks : goal.returns-in_err-push_blocks
returns-in_err-push_blocks c = record {
  blocks = IfOk-from_err c.from_residual-in_err-push_blocks.result _ c.from_residual-in_err-push_blocks.ensures.0;
  low = IfOk-from_err c.from_residual-in_err-push_blocks.result _ c.from_residual-in_err-push_blocks.ensures.0;
}

pub loop-cluster-preserved : goal.loop-cluster-preserved
loop-cluster-preserved c = record {
  blocks = held_at cluster_blocks c.args.clusters.now c.loop-cluster.cluster-index _ c.loop-cluster.blocks.items c.push_blocks.new.blocks.items _
      c.loop-cluster-test.true c.in_ok-push_blocks.ensures.more c.loop-cluster.invariant.blocks;
  low = c.in_ok-push_blocks.ensures.low;
}

pub returns : goal.returns
returns c = record {
  blocks = held_all cluster_blocks c.args.clusters.now c.loop-cluster.cluster-index c.loop-cluster.blocks.items _ c.loop-cluster-test.false
      c.loop-cluster.invariant.blocks;
  low = c.loop-cluster.invariant.low;
}
