-- The inodes of clusters that ascend ascend, and have low numbers.
use Rattle.std.proofs.Common.{◌≡◌, ℕ, zero, suc, ◌+◌, ◌*◌, ◌/◌, ◌%◌, ◌^◌, ◌≤◌, ◌<◌, inl, inr, List, [], ◌∷◌, ◌++◌, map, sym, ap, subst, arith}
use Rattle.std.proofs.Math.Nat.{mod-lt, mul-le-mul_left, mul-le-mul_right}
use Rattle.std.proofs.lemmas.Bool.{cases_lt}
use Rattle.std.proofs.lemmas.List.{append_assoc}
use Rattle.std.proofs.lemmas.Nat.{div-add-mod'}
use Rattle.std.specs.List.{AllByRecursion, flat_map, range_with_len}
use Rattle.xfs_disk.specs.Blocks.{Image}
use Rattle.xfs_geom.specs.Conversions.{address_of, inode_of}
use Rattle.xfs_geom.specs.Volumes.{Volume, volume_of}
use Rattle.xfs_geom.specs.declared.geometry.Geometry.{Geometry}
use Rattle.xfs_volume.specs.declared.clusters.ClusterRec.{ClusterRec}
use Rattle.xfs_space.proofs.RecordedMaps.{group_inside}
use Rattle.xfs_naming.specs.Naming.{NumbersAscend}
use Rattle.xfs_image.specs.Candidates as Candidates
use Rattle.xfs_image.specs.Candidates.{candidates}
use Rattle.xfs_image.specs.Claims.{candidate_inodes}
use Rattle.xfs_image.specs.Slots.{cluster_blocks, cluster_inodes, inodes_of_block}
use Rattle.xfs_image.proofs.Ascending.{candidates_ascend}
use Rattle.xfs_made.proofs.xfs_views.Images.{candidate_placed}
use Rattle.xfs_made.proofs.xfs_views.Members.{Member, all_members, flat_member, map_member, row_member}

lower : (low high : ℕ) (ns : List ℕ) → low ≤ high → NumbersAscend high ns → NumbersAscend low ns
lower low high [] le up = tt
lower low high (n ∷ ns) le up = (let first = up.0 in omega (arith, le, first), up.1)

-- the first inode of a block, by a volume whose groups have w blocks and k addresses each
address : ℕ → ℕ → ℕ → ℕ
address w k b = b / w * k + b % w

abbrev address_up : ℕ → ℕ → Type 0
address_up w k = (b c : ℕ) → b < c → address w k b + 1 ≤ address w k c

addresses_ascend : (w k : ℕ) → 1 ≤ w → w ≤ k → address_up w k
unfolding address
addresses_ascend w k some wide b c less =
    let whole : b / w * w + b % w ≡ b = div-add-mod' b w in
    let other : c / w * w + c % w ≡ c = div-add-mod' c w in
    let short : b % w < w = mod-lt b some in
    let rest : c % w < w = mod-lt c some in
    elim (cases_lt (b / w) (c / w)) [
      | inl above ↦
          let next : b / w + 1 ≤ c / w = omega (arith, above) in
          let groups : (b / w + 1) * k ≤ c / w * k = mul-le-mul_right k next in
          let one : (b / w + 1) * k ≡ b / w * k + k = omega arith in
          omega (arith, groups, one, wide, short)
      | inr upto ↦ same_group (b / w) (c / w) (b % w) (c % w) whole other rest upto
    ]
  where
    same_group : (p q r t : ℕ) → p * w + r ≡ b → q * w + t ≡ c → t < w → q ≤ p → p * k + r + 1 ≤ q * k + t
    same_group p q r t whole other rest upto =
        elim (cases_lt q p) [
          | inl below ↦
              let next : q + 1 ≤ p = omega (arith, below) in
              let groups : (q + 1) * w ≤ p * w = mul-le-mul_right w next in
              let one : (q + 1) * w ≡ q * w + w = omega arith in
              absurd (omega (arith, groups, one, whole, other, rest, less))
          | inr above ↦
              let same : q ≡ p = omega (arith, upto, above) in
              subst (λ (n : ℕ). p * k + r + 1 ≤ n * k + t) (sym same)
              (let at : p * w + t ≡ c = subst (λ (n : ℕ). n * w + t ≡ c) same other in omega (arith, whole, at, less))
        ]

module _ (g : Geometry) where
  pub first_in : ℕ → ℕ
  first_in block = address_of (volume_of g) block * 8

  next_block : (b c : ℕ) → b < c → first_in b + 8 ≤ first_in c
  unfolding first_in address_of address
  next_block b c less =
      let large = g.shape.groups.large in
      let up = addresses_ascend g.agblocks (2 ^ g.agblklog) (omega (arith, large)) g.shape.addresses.enough b c less in
      omega (arith, up)

  pub later_block : (b c : ℕ) → b ≤ c → first_in b ≤ first_in c
  later_block b c le =
      elim (cases_lt b c) [
        | inl less ↦ let up = next_block b c less in omega (arith, up)
        | inr same ↦ let e : b ≡ c = omega (arith, le, same) in let f : first_in b ≡ first_in c = ap first_in e in omega (arith, f)
      ]

  -- the inodes of a block, of blocks in a row and of clusters, and those behind them
  slots_then : (b k n low high : ℕ) (ys : List ℕ) → low ≤ first_in b + k → first_in b + (k + n) ≤ high → NumbersAscend high ys
      → NumbersAscend low (map (inode_of (volume_of g) b) (range_with_len k n) ++ ys)
  unfolding first_in inode_of
  slots_then b k zero low high ys from upto up = lower low high ys (omega (arith, from, upto)) up
  slots_then b k (suc n) low high ys from upto up =
      (from, slots_then b (k + 1) n (address_of (volume_of g) b * 8 + k + 1) high ys (omega arith) (omega (arith, upto)) up)

  pub blocks_then : (b n low : ℕ) (ys : List ℕ) → low ≤ first_in b → NumbersAscend (first_in (b + n)) ys
      → NumbersAscend low (flat_map (inodes_of_block (volume_of g)) (range_with_len b n) ++ ys)
  blocks_then b zero low ys from up =
      let le = later_block b (b + 0) (omega arith) in lower low (first_in (b + 0)) ys (omega (arith, from, le)) up
  blocks_then b (suc n) low ys from up =
      let v : Volume = volume_of g in
      let next = next_block b (b + 1) (omega arith) in
      let end : b + suc n ≡ (b + 1) + n = omega arith in
      let rest = blocks_then (b + 1) n (first_in (b + 1)) ys (omega arith) (subst (λ (m : ℕ). NumbersAscend (first_in m) ys) end up) in
      subst (NumbersAscend low) (sym (append_assoc (inodes_of_block v b) (flat_map (inodes_of_block v) (range_with_len (b + 1) n)) ys))
      (slots_then b 0 8 low (first_in (b + 1)) (flat_map (inodes_of_block v) (range_with_len (b + 1) n) ++ ys) (omega (arith, from)) (omega (arith, next)) rest)

  clusters_then : (low : ℕ) (cs : List ClusterRec) → Candidates.ClustersAscend low cs → NumbersAscend (first_in low) (flat_map (λ (c : ClusterRec). cluster_inodes (volume_of g) c.block) cs)
  unfolding cluster_inodes
  clusters_then low [] up = tt
  clusters_then low (c ∷ cs) up =
      blocks_then c.block 4 (first_in low) (flat_map (λ (x : ClusterRec). cluster_inodes (volume_of g) x.block) cs) (later_block low c.block up.0)
      (clusters_then (c.block + 4) cs up.1)

pub inodes_ascend : (g : Geometry) (image : Image) → NumbersAscend 0 (candidate_inodes (volume_of g) image)
unfolding candidate_inodes
inodes_ascend g image =
    lower 0 (first_in g 0) (flat_map (λ (c : ClusterRec). cluster_inodes (volume_of g) c.block) (candidates (volume_of g) image)) (omega arith)
    (clusters_then g 0 (candidates (volume_of g) image) (candidates_ascend g image))

-- the numbers of inodes of a volume are low
small_number : (w k d b s : ℕ) → k < 2 * w → b < d → d ≤ 2 ^ 26 → s < 8 → (b / w * k + b % w) * 8 + s < 2 ^ 63
small_number w k d b s wide inside low slot =
    let whole : b / w * w + b % w ≡ b = div-add-mod' b w in
    let most : b / w * k ≤ b / w * (2 * w) = mul-le-mul_left (b / w) (omega (arith, wide)) in
    let twice : b / w * (2 * w) ≡ 2 * (b / w * w) = omega arith in
    omega (arith, whole, most, twice, inside, low, slot)

inode_small : (g : Geometry) (image : Image) (ino : ℕ) → Member ino (candidate_inodes (volume_of g) image) → ino < 2 ^ 63
unfolding candidate_inodes cluster_inodes inode_of address_of
inode_small g image ino is =
    let v : Volume = volume_of g in
    let of = flat_member (λ (c : ClusterRec). cluster_inodes v c.block) ino (candidates v image) is in
    let at = candidate_placed g image of.0 of.1 in
    let in_block = flat_member (inodes_of_block v) ino (cluster_blocks of.0.block) of.2 in
    let slot = map_member (inode_of v in_block.0) ino (range_with_len 0 8) in_block.2 in
    let b = row_member in_block.0 of.0.block 4 in_block.1 in
    let s = row_member slot.0 0 8 slot.1 in
    let ends = group_inside v at.ag at.group g.shape.groups.last in
    let inside = at.inside in
    let start = at.is in
    let high = b.high in
    let last = s.high in
    let below : in_block.0 < g.dblocks = omega (arith, ends, inside, start, high) in
    let small = small_number g.agblocks (2 ^ g.agblklog) g.dblocks in_block.0 slot.0 g.shape.addresses.least below g.shape.groups.small (omega (arith, last)) in
    let is_number = slot.2 in
    omega (arith, small, is_number)

pub inodes_small : (g : Geometry) (image : Image) → AllByRecursion (λ ino. ino < 2 ^ 63) (candidate_inodes (volume_of g) image)
inodes_small g image = all_members (λ ino. ino < 2 ^ 63) (candidate_inodes (volume_of g) image) (inode_small g image)
