-- The root and the two inodes behind it are inodes of the root's cluster.
use Rattle.std.proofs.Common.{◌≡◌, ℕ, ◌+◌, ◌-◌, ◌*◌, ◌/◌, ◌%◌, ◌^◌, ◌≤◌, ◌<◌, sym, ap, ap₂, ◌∙◌, subst, map, arith}
use Rattle.std.specs.List.{range_with_len}
use Rattle.std.proofs.lemmas.Nat.{div-add-mod', div-mul-add, mod-mul-add}
use Rattle.xfs_geom.specs.Conversions.{address_of, inode_of}
use Rattle.xfs_geom.specs.Volumes.{Volume, volume_of}
use Rattle.xfs_geom.specs.declared.geometry.Geometry.{Geometry}
use Rattle.xfs_image.specs.Clusters.{root_cluster}
use Rattle.xfs_image.specs.Slots.{cluster_blocks, cluster_inodes, inodes_of_block}
use Rattle.xfs_laws.proofs.Roots.{root_low}
use Rattle.xfs_views.proofs.Addresses.{addresses_of}
use Rattle.xfs_views.proofs.Members.{Member, member_flat, member_map, member_row}
use Rattle.xfs_rename.proofs.xfs_made.Roots.{root_is}
use Rattle.xfs_space.proofs.FreeSpans.{group_short}

pub low_root : (g : Geometry) → g.rootino < 2 ^ 32
low_root g =
    let some : 1 ≤ 2 ^ g.agblklog = omega (arith, g.shape.addresses.enough, g.shape.groups.large) in
    root_low g.agcount g.agblocks (2 ^ g.agblklog) g.dblocks g.rootino g.shape.groups.two g.shape.groups.last g.shape.groups.small g.shape.addresses.least some g.shape.root.group

address_is : (v : Volume) (q t : ℕ) → t < v.agblocks → address_of v (q * v.agblocks + t) ≡ q * 2 ^ v.agblklog + t
unfolding address_of
address_is v q t low = ap₂ (λ (a b : ℕ). a * 2 ^ v.agblklog + b) (div-mul-add q v.agblocks t low) (mod-mul-add q v.agblocks t low)

-- where an inode stands that is at most two behind another of its cluster
record IsNear (base ino : ℕ) : Type 0 where
  d : ℕ
  s : ℕ
  block : d < 4
  slot : s < 8
  is : (base + d) * 8 + s ≡ ino

near : (root ino whole part rest quarter product : ℕ) → root % 32 ≤ 29 → root ≤ ino → ino ≤ root + 2 → root / 8 ≡ whole + part → whole ≡ 4 * product → IsNear (whole + 4 * (part / 4)) ino
near root ino whole part rest quarter product room low high at four =
    let base : ℕ = 8 * (whole + 4 * (part / 4)) in
    let under : base ≤ ino = omega (arith, low, at) in
    let few : ino - base < 32 = omega (arith, room, low, high, at, four) in
    record {
      d = (ino - base) / 8;
      s = (ino - base) % 8;
      block = omega (arith, few);
      slot = omega arith;
      is = omega (arith, under);
    }

pub root_has : (g : Geometry) (ino : ℕ) → g.rootino ≤ ino → ino ≤ g.rootino + 2 → Member ino (cluster_inodes (volume_of g) (root_cluster (volume_of g)))
unfolding cluster_inodes inode_of
root_has g ino low high =
    let v : Volume = volume_of g in
    let e : ℕ = g.rootino / 8 in
    let k : ℕ = 2 ^ g.agblklog in
    let q : ℕ = e / k in
    let t : ℕ = e % k in
    let four = addresses_of g in
    let product : q * k ≡ 4 * (q * four.quarter) = subst (λ (n : ℕ). q * n ≡ 4 * (q * four.quarter)) (sym four.is) (omega arith) in
    let whole : q * k + t ≡ e = div-add-mod' e k in
    let at = near g.rootino ino (q * k) t 0 0 (q * four.quarter) g.shape.root.slot low high (sym whole) product in
    let inside = g.shape.root.inside in
    let short = group_short v q g.shape.groups.covered in
    let d = at.d in
    let few = at.block in
    let cluster = root_is g in
    let block : ℕ = q * g.agblocks + (4 * (t / 4) + d) in
    let fits : 4 * (t / 4) + d < g.agblocks = omega (arith, inside, short, few) in
    let address : address_of v block ≡ q * k + (4 * (t / 4) + d) = address_is v q (4 * (t / 4) + d) fits in
    let same : q * k + (4 * (t / 4) + d) ≡ q * k + 4 * (t / 4) + d = omega arith in
    let is : address_of v block * 8 + at.s ≡ ino = ap (λ (n : ℕ). n * 8 + at.s) (address ∙ same) ∙ at.is in
    member_flat (inodes_of_block v) block ino (cluster_blocks (root_cluster v))
    (member_row block (root_cluster v) 4 (omega (arith, cluster)) (omega (arith, cluster, few)))
    (subst (λ (n : ℕ). Member n (map (inode_of v block) (range_with_len 0 8))) is
    (member_map (inode_of v block) at.s (range_with_len 0 8) (member_row at.s 0 8 (omega arith) at.slot)))
