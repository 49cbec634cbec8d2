-- The inodes of a new cluster stand apart from those of kept ones, and no inode has the number that stands for none.
use Rattle.std.proofs.Common.{◌≡◌, ◌⊎◌, inl, inr, ℕ, zero, suc, ◌+◌, ◌-◌, ◌*◌, ◌/◌, ◌%◌, ◌^◌, ◌≤◌, ◌<◌, nat_le, nat_lt, if◌then◌else◌, List, ◌++◌, map, sym, ap, subst, arith}
use Rattle.std.specs.List.{flat_map, range_with_len}
use Rattle.std.proofs.Math.Nat.{mod-lt, mul-le-mul_left, mul-le-mul_right}
use Rattle.std.proofs.lemmas.Bool.{and_from, cases_lt, le-leb, lt-ltb}
use Rattle.std.proofs.lemmas.List.Elements.{recursion_from_All}
use Rattle.std.proofs.lemmas.List.Sums.{sum_by-append}
use Rattle.std.proofs.lemmas.Nat.{div-add-mod'}
use Rattle.xfs_disk.specs.Blocks.{Image}
use Rattle.xfs_disk.specs.declared.stamp.Stamp.{Stamp}
use Rattle.xfs_geom.specs.Conversions.{address_of, inode_of}
use Rattle.xfs_geom.specs.Runs.{covers, runs_on}
use Rattle.xfs_geom.specs.Volumes.{Volume, volume_of}
use Rattle.xfs_geom.specs.declared.geometry.Geometry.{Geometry}
use Rattle.xfs_geom.specs.declared.records.Run.{Run}
use Rattle.xfs_image.specs.Slots.{cluster_blocks, cluster_inodes, inodes_of_block}
use Rattle.xfs_place.specs.Pool.{is_taken}
use Rattle.xfs_views.proofs.Members.{Member, flat_member, map_member, member_all, member_any, member_map, row_member}
use Rattle.xfs_salvage.specs.Kept.{run_of_cluster}
use Rattle.xfs_rename.proofs.xfs_rebuild.Known.{known_clusters_lie}
use Rattle.xfs_rename.specs.xfs_rebuild.Rebuilds.{HasNamesDue}
use Rattle.xfs_rename.specs.xfs_rebuild.declared.names_due.NamesDue.{NamesDue}
use Rattle.xfs_rename.specs.Lost.{lost_due}
use Rattle.xfs_rename.specs.xfs_changes.Nodes.{first_of_cluster}
use Rattle.xfs_rename.specs.Objects.{wanted_with}
use Rattle.xfs_rename.specs.Renames.{IsRenamed}
use Rattle.xfs_rename.specs.Settled.{staying_files}
use Rattle.xfs_rename.specs.declared.planning.Renamed.{Renamed}
use Rattle.xfs_rename.proofs.xfs_made.Counting.{taken_on}
use Rattle.xfs_space.specs.Owners.{file_runs}

-- addresses of blocks ascend, by groups of w blocks that have k addresses each
abbrev place : ℕ → ℕ → ℕ → ℕ
place w k b = b / w * k + b % w

places_up : (w k : ℕ) → 1 ≤ w → w ≤ k → (b c : ℕ) → b < c → place w k b + 1 ≤ place w k c
places_up w k some wide b c less =
    let whole : b / w * w + b % w ≡ b = div-add-mod' b w in
    let other : c / w * w + c % w ≡ c = div-add-mod' c w in
    let short : b % w < w = mod-lt b some in
    let rest : c % w < w = mod-lt c some in
    elim (cases_lt (b / w) (c / w)) [
      | inl above ↦
          let next : b / w + 1 ≤ c / w = omega (arith, above) in
          let groups : (b / w + 1) * k ≤ c / w * k = mul-le-mul_right k next in
          let one : (b / w + 1) * k ≡ b / w * k + k = omega arith in
          omega (arith, groups, one, wide, short)
      | inr upto ↦ same_group (b / w) (c / w) (b % w) (c % w) whole other rest upto
    ]
  where
    same_group : (p q r t : ℕ) → p * w + r ≡ b → q * w + t ≡ c → t < w → q ≤ p → p * k + r + 1 ≤ q * k + t
    same_group p q r t whole other rest upto =
        elim (cases_lt q p) [
          | inl below ↦
              let next : q + 1 ≤ p = omega (arith, below) in
              let groups : (q + 1) * w ≤ p * w = mul-le-mul_right w next in
              let one : (q + 1) * w ≡ q * w + w = omega arith in
              absurd (omega (arith, groups, one, whole, other, rest, less))
          | inr above ↦
              let same : q ≡ p = omega (arith, upto, above) in
              subst (λ (n : ℕ). p * k + r + 1 ≤ n * k + t) (sym same)
              (let at : p * w + t ≡ c = subst (λ (n : ℕ). n * w + t ≡ c) same other in omega (arith, whole, at, less))
        ]

place_low : (w k d b : ℕ) → k < 2 * w → b < d → d ≤ 2 ^ 26 → place w k b < 2 ^ 28
place_low w k d b wide inside low =
    let whole : b / w * w + b % w ≡ b = div-add-mod' b w in
    let most : b / w * k ≤ b / w * (2 * w) = mul-le-mul_left (b / w) (omega (arith, wide)) in
    let twice : b / w * (2 * w) ≡ 2 * (b / w * w) = omega arith in
    omega (arith, whole, most, twice, inside, low)

module _ (g : Geometry) where
  addresses_up : (b c : ℕ) → b < c → address_of (volume_of g) b + 1 ≤ address_of (volume_of g) c
  unfolding address_of
  addresses_up b c less = let large = g.shape.groups.large in places_up g.agblocks (2 ^ g.agblklog) (omega (arith, large)) g.shape.addresses.enough b c less

  far : (b d : ℕ) → address_of (volume_of g) b + d ≤ address_of (volume_of g) (b + d)
  far b zero = let same : address_of (volume_of g) (b + 0) ≡ address_of (volume_of g) b = ap (address_of (volume_of g)) (omega arith) in omega (arith, same)
  far b (suc d) =
      let before = far b d in
      let next = addresses_up (b + d) (b + suc d) (omega arith) in
      omega (arith, before, next)

  -- an inode of a cluster stands in one of its blocks
  record IsIn (cluster ino : ℕ) : Type 0 where
    block : ℕ
    slot : ℕ
    low : cluster ≤ block
    high : block < cluster + 4
    few : slot < 8
    is : address_of (volume_of g) block * 8 + slot ≡ ino

  stands_in : (cluster ino : ℕ) → Member ino (cluster_inodes (volume_of g) cluster) → IsIn cluster ino
  unfolding cluster_inodes inode_of
  stands_in cluster ino is =
      let v : Volume = volume_of g in
      let one = flat_member (inodes_of_block v) ino (cluster_blocks cluster) is in
      let two = map_member (inode_of v one.0) ino (range_with_len 0 8) one.2 in
      let row = row_member one.0 cluster 4 one.1 in
      let slots = row_member two.0 0 8 two.1 in
      let few = slots.high in
      record { block = one.0; slot = two.0; low = row.low; high = row.high; few = omega (arith, few); is = two.2 }

  -- inodes of clusters that have no block in common
  pub inodes_apart : (new old ino : ℕ) → (old + 4 ≤ new) ⊎ (new + 4 ≤ old) → Member ino (cluster_inodes (volume_of g) old)
      → (ino < first_of_cluster (volume_of g) new) ⊎ (first_of_cluster (volume_of g) new + 32 ≤ ino)
  unfolding inode_of
  inodes_apart new old ino apart is =
      let at = stands_in old ino is in
      let number = at.is in
      let few = at.few in
      let low = at.low in
      let high = at.high in
      elim apart [
        | inl before ↦
            let up = addresses_up at.block new (omega (arith, high, before)) in
            inl (omega (arith, up, number, few))
        | inr behind ↦
            let back : new + (at.block - new) ≡ at.block = omega (arith, behind, low) in
            let up = far new (at.block - new) in
            let same : address_of (volume_of g) (new + (at.block - new)) ≡ address_of (volume_of g) at.block = ap (address_of (volume_of g)) back in
            inr (omega (arith, up, same, back, number, few, behind, low))
      ]

  -- the numbers of inodes are low
  pub inode_low : (cluster ino : ℕ) → cluster + 4 ≤ g.dblocks → Member ino (cluster_inodes (volume_of g) cluster) → ino < 2 ^ 32 - 1
  unfolding address_of
  inode_low cluster ino inside is =
      let at = stands_in cluster ino is in
      let number = at.is in
      let few = at.few in
      let high = at.high in
      let low = place_low g.agblocks (2 ^ g.agblklog) g.dblocks at.block g.shape.addresses.least (omega (arith, high, inside)) g.shape.groups.small in
      omega (arith, low, number, few)

on_both : (xs ys : List Run) (b : ℕ) → runs_on (xs ++ ys) b ≡ runs_on xs b + runs_on ys b
on_both xs ys b = sum_by-append (λ (r : Run). if covers b r then 1 else 0) xs ys

cluster_on : (k b : ℕ) (clusters : List ℕ) → Member k clusters → k ≤ b → b < k + 4 → 1 ≤ runs_on (map run_of_cluster clusters) b
unfolding is_taken
cluster_on k b clusters is low high =
    taken_on (map run_of_cluster clusters) b
    (member_any (covers b) (run_of_cluster k) (map run_of_cluster clusters) (member_map run_of_cluster k clusters is)
    (and_from (nat_le k b) (nat_lt b (k + 4)) (le-leb k b low) (lt-ltb b (k + 4) high)))

module _ (g : Geometry) (sector : List ℕ) (s : Stamp) (image : Image) (n : NamesDue) (r : Renamed) (is : IsRenamed g sector s image n r) where
  abbrev old_runs : List Run
  old_runs = map run_of_cluster n.clusters

  abbrev file_claims : List Run
  file_claims = flat_map (file_runs (volume_of g)) (staying_files is.w.rebuilt n.fresh n.files)

  abbrev new_runs : List Run
  new_runs = map run_of_cluster (lost_due g n).added

  claimed_once : (b : ℕ) → runs_on (((old_runs ++ file_claims) ++ new_runs) ++ is.placed.runs) b ≤ 1
  unfolding wanted_with
  claimed_once b = is.stands.apart.apart.once b

  not_both : (new old b : ℕ) → Member new (lost_due g n).added → Member old n.clusters → new ≤ b → b < new + 4 → old ≤ b → b < old + 4 → ⊥
  not_both new old b one two low high low' high' =
      let most = claimed_once b in
      let all = on_both ((old_runs ++ file_claims) ++ new_runs) is.placed.runs b in
      let three = on_both (old_runs ++ file_claims) new_runs b in
      let front = on_both old_runs file_claims b in
      let first = cluster_on old b n.clusters two low' high' in
      let second = cluster_on new b (lost_due g n).added one low high in
      omega (arith, most, all, three, front, first, second)

  -- a new cluster has no block of a kept one
  pub clusters_apart : (new old : ℕ) → Member new (lost_due g n).added → Member old n.clusters → (old + 4 ≤ new) ⊎ (new + 4 ≤ old)
  clusters_apart new old one two = elim (cases_lt new (old + 4)) [
    | inr before ↦ inl before
    | inl above ↦ elim (cases_lt old (new + 4)) [
      | inr behind ↦ inr behind
      | inl below ↦ absurd (elim (cases_lt old new) [
        | inl less ↦ not_both new old new one two (omega arith) (omega arith) (omega (arith, less)) above
        | inr upto ↦ not_both new old old one two upto below (omega arith) (omega arith)
      ])
    ]
  ]

pub cluster_low : (g : Geometry) (s : Stamp) (n : NamesDue) (has : HasNamesDue g s n) (k : ℕ) → Member k n.clusters → k + 4 ≤ g.dblocks
cluster_low g s n has k is = member_all (λ (c : ℕ). c + 4 ≤ g.dblocks) k n.clusters (recursion_from_All (λ (c : ℕ). c + 4 ≤ g.dblocks) n.clusters (known_clusters_lie g s n has)) is
