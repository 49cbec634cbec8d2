use Rattle.std.proofs.Common.{ℕ, Bool, ◌+◌, ◌||◌, BTreeSet, drop, ◌∙◌, ap}
use Rattle.xfs_disk.specs.Lists.{is_among}
use Rattle.xfs_claims.specs.Ranks.{is_recorded_cluster}
use Rattle.xfs_claims.proofs.Numbers.{recorded_step, scanned_step}
use Rattle.xfs_claims.proofs.ranks.recorded_blocks.Goals as goal
use Rattle.xfs_claims.proofs.ranks.recorded_blocks.Goals.{then-cluster+in_ok-insert, else-cluster}

pub loop-cluster-preserved : goal.loop-cluster-preserved
loop-cluster-preserved c = λ b.
    let clusters = c.args.clusters.now in
    let i = c.loop-cluster.cluster-index in
    elim c.if-cluster.branch [
      | then-cluster+in_ok-insert w ↦
          ap (λ (s : BTreeSet ℕ). is_among s.keys b || is_recorded_cluster (drop (i + 1) clusters) b) w.blocks-is
          ∙ (recorded_step clusters i b c.loop-cluster.blocks.keys w.insert.new.self.keys c.loop-cluster-test.true w.if-cluster.true w.in_ok-insert.ensures.keys
          ∙ c.loop-cluster.invariant b)
      | else-cluster w ↦
          ap (λ (s : BTreeSet ℕ). is_among s.keys b || is_recorded_cluster (drop (i + 1) clusters) b) w.blocks-is
          ∙ (ap (λ (t : Bool). is_among c.loop-cluster.blocks.keys b || t) (scanned_step clusters i b c.loop-cluster-test.true w.if-cluster.false)
          ∙ c.loop-cluster.invariant b)
    ]
