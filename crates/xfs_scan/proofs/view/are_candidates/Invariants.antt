use Rattle.std.proofs.Common.{◌≡◌, drop, length, map}
use Rattle.xfs_volume.specs.declared.clusters.ClusterRec.{ClusterRec}
use Rattle.xfs_scan.proofs.view.are_candidates.Given as goal

abbrev pub invariant-loop-i : goal.invariant-loop-i
invariant-loop-i l = record {
  agree : drop l.i l.clusters ≡ map (λ (c : ClusterRec). c.block) (drop l.i l.candidates) → l.clusters ≡ map (λ (c : ClusterRec). c.block) l.candidates;
  many : length l.clusters ≡ length l.candidates;
  ends : l.i-end ≡ length l.clusters;
}
