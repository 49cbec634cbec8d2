-- Candidate clusters ascend, and no two have a block in common.
use Rattle.std.proofs.Common.{◌≡◌, ℕ, zero, suc, ◌+◌, ◌-◌, ◌*◌, ◌/◌, ◌≤◌, ◌<◌, Bool, true, false, ◌==◌, if◌then◌else◌, cond, List, [], ◌∷◌, ◌++◌, map, refl, sym, subst, arith}
use Rattle.std.specs.List.{filter, flat_map, range_with_len}
use Rattle.std.proofs.lemmas.Bool.{eqb-true}
use Rattle.xfs_disk.specs.Blocks.{Image}
use Rattle.xfs_geom.specs.Conversions.{group_length}
use Rattle.xfs_geom.specs.Volumes.{Volume, volume_of}
use Rattle.xfs_geom.specs.declared.geometry.Geometry.{Geometry}
use Rattle.xfs_image.specs.Candidates.{ClustersAscend, possible_clusters, candidates, cluster_rec, is_candidate}
use Rattle.xfs_image.specs.Clusters.{places_in}
use Rattle.xfs_image.specs.Groups.{head_block}

-- as for clusters, of blocks
abbrev Rise : ℕ → List ℕ → Type 0
Rise low [] = Unit {0}
Rise low (x ∷ xs) = (low ≤ x) × Rise (x + 4) xs

from_lower : (low high : ℕ) (xs : List ℕ) → low ≤ high → Rise high xs → Rise low xs
from_lower low high [] le rise = tt
from_lower low high (x ∷ xs) le rise = (let first = rise.0 in omega (arith, le, first), rise.1)

rise_filtered : (p : ℕ → Bool) (low : ℕ) (xs : List ℕ) → Rise low xs → Rise low (filter p xs)
rise_filtered p low [] rise = tt
rise_filtered p low (x ∷ xs) rise = by_case (p x) (rise_filtered p (x + 4) xs rise.1)
  where
    by_case : (b : Bool) → Rise (x + 4) (filter p xs) → Rise low (cond b (x ∷ filter p xs) (filter p xs))
    by_case true rest = (rise.0, rest)
    by_case false rest = let first = rise.0 in from_lower low (x + 4) (filter p xs) (omega (arith, first)) rest

as_clusters : (v : Volume) (image : Image) (low : ℕ) (xs : List ℕ) → Rise low xs → ClustersAscend low (map (cluster_rec v image) xs)
as_clusters v image low [] rise = tt
as_clusters v image low (x ∷ xs) rise = (rise.0, as_clusters v image (x + 4) xs rise.1)

-- the places of one group, and those behind them
places_then : (h k n low m : ℕ) (ys : List ℕ) → low ≤ h + 4 * k → h + 4 * (k + n) ≤ m → Rise m ys
    → Rise low (map (λ place. h + place) (map (λ i. 4 * i) (range_with_len k n)) ++ ys)
places_then h k zero low m ys from upto rise = from_lower low m ys (omega (arith, from, upto)) rise
places_then h k (suc n) low m ys from upto rise =
    (from, places_then h (k + 1) n (h + 4 * k + 4) m ys (omega arith) (omega (arith, upto)) rise)

short_group : (g : Geometry) (ag : ℕ) → ag < g.agcount → group_length (volume_of g) ag ≤ g.agblocks
short_group g ag inside = by_case (ag + 1 == g.agcount) refl
  where
    by_case : (b : Bool) → (ag + 1 == g.agcount) ≡ b → (if b then g.dblocks - ag * g.agblocks else g.agblocks) ≤ g.agblocks
    by_case true e =
        let last : ag + 1 ≡ g.agcount = eqb-true (ag + 1) g.agcount e in
        let full : g.dblocks ≤ (ag + 1) * g.agblocks = subst (λ (n : ℕ). g.dblocks ≤ n * g.agblocks) (sym last) g.shape.groups.covered in
        grind (arith, full)
    by_case false e = omega arith

next_head : (ag w len m : ℕ) → len ≤ w → ag * w + 4 * (0 + len / 4) ≤ (ag + 1) * w
next_head ag w len m short = grind (arith, short)

groups_rise : (g : Geometry) (ag n : ℕ) → ag + n ≤ g.agcount
    → Rise (ag * g.agblocks) (flat_map (λ group. map (λ place. head_block (volume_of g) group + place) (places_in (volume_of g) group)) (range_with_len ag n))
groups_rise g ag zero inside = tt
groups_rise g ag (suc n) inside =
    let short : group_length (volume_of g) ag ≤ g.agblocks = short_group g ag (omega (arith, inside)) in
    places_then (ag * g.agblocks) 0 (group_length (volume_of g) ag / 4) (ag * g.agblocks) ((ag + 1) * g.agblocks)
    (flat_map (λ group. map (λ place. head_block (volume_of g) group + place) (places_in (volume_of g) group)) (range_with_len (ag + 1) n))
    (omega arith) (next_head ag g.agblocks (group_length (volume_of g) ag) 0 short) (groups_rise g (ag + 1) n (omega (arith, inside)))

pub candidates_ascend : (g : Geometry) (image : Image) → ClustersAscend 0 (candidates (volume_of g) image)
unfolding candidates
candidates_ascend g image =
    let all : Rise 0 (possible_clusters (volume_of g)) = from_lower 0 (0 * g.agblocks) (possible_clusters (volume_of g)) (omega arith) (groups_rise g 0 g.agcount (omega arith)) in
    as_clusters (volume_of g) image 0 (filter (is_candidate (volume_of g) image) (possible_clusters (volume_of g)))
    (rise_filtered (is_candidate (volume_of g) image) 0 (possible_clusters (volume_of g)) all)
