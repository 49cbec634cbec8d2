-- Each kept cluster of an image is half of a chunk.
use Rattle.std.proofs.Common.{◌≡◌, ℕ, zero, suc, Bool, true, false, not, ◌+◌, ◌-◌, ◌*◌, ◌/◌, ◌%◌, ◌^◌, ◌≤◌, ◌<◌, ◌⊎◌, inl, inr, ◌==◌, ◌&&◌, ◌||◌, nat_le, refl, sym, subst, ap, ◌∙◌, arith}
use Rattle.std.specs.List.{AllByRecursion, list_all}
use Rattle.std.proofs.Math.Nat.{mod-lt}
use Rattle.std.proofs.lemmas.Bool.{and_parts, eqb-true, leb-true, or_cases}
use Rattle.std.proofs.lemmas.Nat.{div-mul-add, mod-mul-add}
use Rattle.xfs_disk.specs.Blocks.{Image}
use Rattle.xfs_geom.specs.Conversions.{group_length}
use Rattle.xfs_geom.specs.Groups.{block_of_address}
use Rattle.xfs_geom.specs.Shape.{chunk_of}
use Rattle.xfs_geom.specs.Volumes.{Volume, volume_of}
use Rattle.xfs_geom.specs.declared.geometry.Geometry.{Geometry}
use Rattle.xfs_image.specs.Candidates.{can_hold_inodes, candidates, is_candidate, is_scanned, lies_in_chunk}
use Rattle.xfs_image.specs.Claims.{candidate_files}
use Rattle.xfs_image.specs.Clusters.{is_recorded, root_cluster}
use Rattle.xfs_made.proofs.xfs_views.Addresses.{IsPlaced}
use Rattle.xfs_made.proofs.xfs_views.Images.{candidate_is, candidate_placed}
use Rattle.xfs_made.proofs.xfs_views.Members.{Member, all_members}
use Rattle.xfs_space.proofs.FreeSpans.{group_short}
use Rattle.xfs_volume.specs.declared.clusters.ClusterRec.{ClusterRec}
use Rattle.xfs_request.specs.xfs_salvage.Kept.{kept_clusters}
use Rattle.xfs_made.proofs.Candidates.{image_can}
use Rattle.xfs_made.proofs.Roots.{root_is}
use Rattle.xfs_made.proofs.Spaced.{each_kept}

-- the cluster is the first half of a chunk of a group, or the second
pub record IsHalf (g : Geometry) (k : ℕ) : Type 0 where
  pub ag : ℕ
  pub c : ℕ
  pub group : ag < g.agcount
  pub some : 1 ≤ c
  pub inside : c < group_length (volume_of g) ag / 8
  pub is : (k ≡ ag * g.agblocks + 8 * c + 0) ⊎ (k ≡ ag * g.agblocks + 8 * c + 4)

halves : (i : ℕ) → (4 * i ≡ 8 * (i / 2) + 0) ⊎ (4 * i ≡ 8 * (i / 2) + 4)
halves i = by_rest (i % 2) refl (mod-lt i (omega arith))
  where
    by_rest : (r : ℕ) → i % 2 ≡ r → i % 2 < 2 → (4 * i ≡ 8 * (i / 2) + 0) ⊎ (4 * i ≡ 8 * (i / 2) + 4)
    by_rest zero e less = inl (omega (arith, e))
    by_rest (suc zero) e less = inr (omega (arith, e))
    by_rest (suc (suc r)) e less = absurd (omega (arith, e, less))

-- four blocks from a multiple of four on, behind the first eight of a group and inside its last whole eight
half_at : (g : Geometry) (ag i k : ℕ) → ag < g.agcount → 8 ≤ 4 * i → chunk_of (4 * i) + 8 ≤ group_length (volume_of g) ag → k ≡ ag * g.agblocks + 4 * i → IsHalf g k
half_at g ag i k group low high is = record {
  ag = ag;
  c = i / 2;
  group = group;
  some = omega (arith, low);
  inside = omega (arith, high);
  is = elim (halves i) [ inl first ↦ inl (omega (arith, is, first)) | inr second ↦ inr (omega (arith, is, second)) ];
}

root_half : (g : Geometry) → IsHalf g (root_cluster (volume_of g))
root_half g =
    let behind = g.shape.root.behind in
    let inside = g.shape.root.inside in
    half_at g (g.rootino / 8 / 2 ^ g.agblklog) (g.rootino / 8 % 2 ^ g.agblklog / 4) (root_cluster (volume_of g)) g.shape.root.group (omega (arith, behind)) (omega (arith, inside))
    (root_is g)

chunk_half : (g : Geometry) (k : ℕ) → IsPlaced g k → lies_in_chunk (volume_of g) k ≡ true → IsHalf g k
chunk_half g k at lies =
    let v : Volume = volume_of g in
    let short = group_short v at.ag g.shape.groups.covered in
    let within = at.inside in
    let low : 4 * at.i < g.agblocks = omega (arith, short, within) in
    let place : k % g.agblocks ≡ 4 * at.i = ap (λ (n : ℕ). n % g.agblocks) at.is ∙ mod-mul-add at.ag g.agblocks (4 * at.i) low in
    let group : k / g.agblocks ≡ at.ag = ap (λ (n : ℕ). n / g.agblocks) at.is ∙ div-mul-add at.ag g.agblocks (4 * at.i) low in
    let parts = and_parts (nat_le 8 (k % g.agblocks)) (nat_le (chunk_of (k % g.agblocks) + 8) (group_length v (k / g.agblocks))) lies in
    let behind : 8 ≤ 4 * at.i = subst (λ (n : ℕ). 8 ≤ n) place (leb-true 8 (k % g.agblocks) parts.0) in
    let first : chunk_of (k % g.agblocks) + 8 ≤ group_length v (k / g.agblocks) = leb-true (chunk_of (k % g.agblocks) + 8) (group_length v (k / g.agblocks)) parts.1 in
    let second : chunk_of (4 * at.i) + 8 ≤ group_length v (k / g.agblocks) = subst (λ (n : ℕ). chunk_of n + 8 ≤ group_length v (k / g.agblocks)) place first in
    half_at g at.ag at.i k at.group behind (subst (λ (n : ℕ). chunk_of (4 * at.i) + 8 ≤ group_length v n) group second) at.is

candidate_half : (g : Geometry) (image : Image) (c : ClusterRec) → Member c (candidates (volume_of g) image) → IsHalf g c.block
unfolding is_candidate
candidate_half g image c is =
    let v : Volume = volume_of g in
    let k : ℕ = c.block in
    elim (or_cases (k == root_cluster v) ((is_recorded v image k || is_scanned v image k) && lies_in_chunk v k && can_hold_inodes v image k) (candidate_is g image c is)) [
      | inl root ↦ subst (IsHalf g) (sym (eqb-true k (root_cluster v) root)) (root_half g)
      | inr other ↦
          let most = and_parts ((is_recorded v image k || is_scanned v image k) && lies_in_chunk v k) (can_hold_inodes v image k) other in
          let lies = and_parts (is_recorded v image k || is_scanned v image k) (lies_in_chunk v k) most.0 in
          chunk_half g k (candidate_placed g image c is) lies.1
    ]

pub kept_halves : (g : Geometry) (image : Image) → AllByRecursion (IsHalf g) (kept_clusters (volume_of g) (candidates (volume_of g) image) (candidate_files (volume_of g) image))
kept_halves g image =
    let v : Volume = volume_of g in
    each_kept (IsHalf g) v (candidates v image) (candidate_files v image) (image_can g image)
    (all_members (λ (c : ClusterRec). IsHalf g c.block) (candidates v image) (candidate_half g image))
