use Rattle.std.proofs.Common.{◌≡◌, List, not, map, ap, ◌∙◌, subst}
use Rattle.std.specs.List.{All, filter}
use Rattle.xfs_disk.specs.Lists.{is_among}
use Rattle.xfs_volume.specs.declared.clusters.ClusterRec.{ClusterRec}
use Rattle.xfs_claims.specs.declared.claimants.FileClaim.{FileClaim}
use Rattle.xfs_claims.specs.Private.Places.{IsFilePlace}
use Rattle.xfs_claims.specs.Ranks.{by_number, own_number, first_block, is_other_recorded, is_scanned_cluster, is_recorded_cluster, lies_in_recorded, lies_in_scanned}
use Rattle.xfs_claims.proofs.Located.{same_rank}
use Rattle.xfs_claims.proofs.ranks.rank.Goals as goal

pub returns : goal.returns
returns g c =
    let claims = c.args.claims.now in
    let alike : (f : FileClaim) → is_among c.in_ok-blocks.blocks.keys f.cluster ≡ is_recorded_cluster claims.clusters f.cluster =
    λ f. c.in_ok-blocks.ensures f.cluster ∙ ap (λ (x : List ClusterRec). is_recorded_cluster x f.cluster) c.as_slice-clusters.ensures in
    record {
      recorded = c.in_ok-recorded.ensures ∙ ap (λ (x : List ClusterRec). by_number own_number (map first_block (filter (is_other_recorded claims.root) x))) c.as_slice-clusters.ensures;
      scanned = c.in_ok-scanned.ensures ∙ ap (λ (x : List ClusterRec). by_number own_number (map first_block (filter is_scanned_cluster x))) c.as_slice-clusters.ensures;
      in_recorded = same_rank _ _ _ (λ (f : FileClaim). is_among c.in_ok-blocks.blocks.keys f.cluster) (lies_in_recorded claims.clusters) c.as_slice.ensures alike c.in_ok-files.ensures.recorded;
      in_scanned =
          same_rank _ _ _ (λ (f : FileClaim). not (is_among c.in_ok-blocks.blocks.keys f.cluster)) (lies_in_scanned claims.clusters) c.as_slice.ensures (λ f. ap not (alike f)) c.in_ok-files.ensures.scanned;
      recorded_places = subst (λ (x : List FileClaim). All (IsFilePlace x) c.in_ok-files.files.recorded.items) c.as_slice.ensures c.in_ok-files.ensures.recorded_places;
      scanned_places = subst (λ (x : List FileClaim). All (IsFilePlace x) c.in_ok-files.files.scanned.items) c.as_slice.ensures c.in_ok-files.ensures.scanned_places;
    }
