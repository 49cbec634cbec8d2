-- How many clusters and extents there are.
use Rattle.std.proofs.Common.{◌≡◌, ℕ, ◌+◌, ◌*◌, ◌^◌, ◌<◌, ◌≤◌, List, [], ◌∷◌, length, drop, ap, arith}
use Rattle.std.specs.List.{sum_by}
use Rattle.std.proofs.lemmas.List.{drop_all}
use Rattle.std.proofs.lemmas.List.Elements.{All-head, All-tail}
use Rattle.xfs_geom.specs.declared.geometry.Geometry.{Geometry}
use Rattle.xfs_volume.specs.declared.clusters.ClusterRec.{ClusterRec}
use Rattle.xfs_volume.specs.declared.files.FileRec.{FileRec}
use Rattle.xfs_image.specs.Candidates.{ClustersAscend}
use Rattle.xfs_groups.specs.Answers.{EndBelow}
use Rattle.xfs_scan.specs.Refused.{extents_of}

-- clusters of which no two have a block in common are no more than a quarter of the blocks
few_clusters : (low end : ℕ) (cs : List ClusterRec) → ClustersAscend low cs → EndBelow end cs → low ≤ end → low + 4 * length cs ≤ end
few_clusters low end [] ascend inside some = omega arith
few_clusters low end (c ∷ cs) ascend inside some =
    let here : c.block + 4 ≤ end = All-head (λ (c : ClusterRec). c.block + 4 ≤ end) c cs inside in
    let rest : c.block + 4 + 4 * length cs ≤ end = few_clusters (c.block + 4) end cs ascend.1 (All-tail (λ (c : ClusterRec). c.block + 4 ≤ end) c cs inside) here in
    let first : low ≤ c.block = ascend.0 in
    omega (arith, rest, first)

pub few_inodes : (g : Geometry) (cs : List ClusterRec) → ClustersAscend 0 cs → EndBelow g.dblocks cs → 32 * length cs < 2 ^ 64
few_inodes g cs ascend inside =
    let few : 0 + 4 * length cs ≤ g.dblocks = few_clusters 0 g.dblocks cs ascend inside (omega arith) in
    let small = g.shape.groups.small in
    omega (arith, few, small)

-- the extents of all files, once none is left
pub counted_all : (files : List FileRec) (i count : ℕ) → length files ≤ i → count + sum_by extents_of (drop i files) ≡ sum_by extents_of files
    → count ≡ sum_by extents_of files
counted_all files i count past held =
    let none : sum_by extents_of (drop i files) ≡ 0 = ap (sum_by extents_of) (drop_all i files past) in
    omega (arith, none, held)
