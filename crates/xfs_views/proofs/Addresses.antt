-- The cluster of an inode, by the numbers of a volume.
use Rattle.std.proofs.Common.{◌≡◌, ℕ, zero, suc, ◌+◌, ◌*◌, ◌/◌, ◌%◌, ◌^◌, ◌≤◌, ◌<◌, sym, ◌∙◌, ap, ap₂, subst, arith}
use Rattle.std.proofs.Math.Nat.{mod-lt, pow-succ'}
use Rattle.std.proofs.lemmas.Nat.{div-add-mod', div-mul-add, mod-mul-add}
use Rattle.xfs_geom.specs.Conversions.{address_of, group_length, inode_of}
use Rattle.xfs_geom.specs.Groups.{block_of_address}
use Rattle.xfs_geom.specs.Volumes.{Volume, volume_of}
use Rattle.xfs_geom.specs.declared.geometry.Geometry.{Geometry}

-- a power of two that is large enough is a multiple of four
pub record IsFourfold (k : ℕ) : Type 0 where
  pub quarter : ℕ
  pub is : k ≡ 4 * quarter

pub fourfold : (l : ℕ) → 1024 ≤ 2 ^ l → IsFourfold (2 ^ l)
fourfold zero large = absurd (omega (arith, large))
fourfold (suc zero) large = absurd (omega (arith, large))
fourfold (suc (suc l)) large = record { quarter = 2 ^ l; is = let a = pow-succ' 2 (suc l) in let b = pow-succ' 2 l in omega (arith, a, b) }

pub addresses_of : (g : Geometry) → IsFourfold (2 ^ g.agblklog)
addresses_of g = fourfold g.agblklog (let large = g.shape.groups.large in let wide = g.shape.addresses.enough in omega (arith, large, wide))

-- the block of an address that is a group's and a place in it
block_is : (w l q t : ℕ) → t < 2 ^ l → block_of_address w l (q * 2 ^ l + t) ≡ q * w + t
block_is w l q t low = ap₂ (λ (a b : ℕ). a * w + b) (div-mul-add q (2 ^ l) t low) (mod-mul-add q (2 ^ l) t low)

address_is : (v : Volume) (q t : ℕ) → t < v.agblocks → address_of v (q * v.agblocks + t) ≡ q * 2 ^ v.agblklog + t
unfolding address_of
address_is v q t low = ap₂ (λ (a b : ℕ). a * 2 ^ v.agblklog + b) (div-mul-add q v.agblocks t low) (mod-mul-add q v.agblocks t low)

-- the address of an inode's cluster: that of its block, without what is left of four
cluster_address : (k m q i j s : ℕ) → k ≡ 4 * m → j < 4 → s < 8 → ((q * k + (4 * i + j)) * 8 + s) / 32 * 4 ≡ q * k + 4 * i
cluster_address k m q i j s four in_cluster in_block =
    let whole : (q * k + (4 * i + j)) * 8 + s ≡ (q * m + i) * 32 + (8 * j + s) = rw four (omega arith) in
    let low : 8 * j + s < 32 = omega (arith, in_cluster, in_block) in
    let e : ((q * k + (4 * i + j)) * 8 + s) / 32 ≡ q * m + i = ap (λ (n : ℕ). n / 32) whole ∙ div-mul-add (q * m + i) 32 (8 * j + s) low in
    let product : q * k ≡ 4 * (q * m) = rw four (omega arith) in
    rw e (omega (arith, product))

-- the cluster of an inode in a cluster is that cluster
pub own_cluster : (g : Geometry) (q i j s : ℕ) → 4 * i + 4 ≤ g.agblocks → j < 4 → s < 8
    → block_of_address g.agblocks g.agblklog (inode_of (volume_of g) (q * g.agblocks + 4 * i + j) s / 32 * 4) ≡ q * g.agblocks + 4 * i
unfolding inode_of
own_cluster g q i j s inside in_cluster in_block =
    let v : Volume = volume_of g in
    let k : ℕ = 2 ^ g.agblklog in
    let four = addresses_of g in
    let wide = g.shape.addresses.enough in
    let place : q * g.agblocks + 4 * i + j ≡ q * g.agblocks + (4 * i + j) = omega arith in
    let at : address_of v (q * g.agblocks + 4 * i + j) ≡ q * k + (4 * i + j) =
    ap (address_of v) place ∙ address_is v q (4 * i + j) (omega (arith, inside, in_cluster)) in
    let of : (address_of v (q * g.agblocks + 4 * i + j) * 8 + s) / 32 * 4 ≡ q * k + 4 * i =
    ap (λ (n : ℕ). (n * 8 + s) / 32 * 4) at ∙ cluster_address k four.quarter q i j s four.is in_cluster in_block in
    ap (block_of_address g.agblocks g.agblklog) of ∙ block_is g.agblocks g.agblklog q (4 * i) (omega (arith, inside, wide))

-- the root's cluster begins four blocks of a group, from a multiple of four on
pub record IsPlaced (g : Geometry) (cluster : ℕ) : Type 0 where
  pub ag : ℕ
  pub i : ℕ
  pub group : ag < g.agcount
  pub inside : 4 * i + 4 ≤ group_length (volume_of g) ag
  pub is : cluster ≡ ag * g.agblocks + 4 * i

root_address : (k m e : ℕ) → k ≡ 4 * m → e / k * k + e % k ≡ e → e / 4 * 4 ≡ e / k * k + 4 * (e % k / 4)
root_address k m e four whole =
    let product : e / k * k ≡ 4 * (e / k * m) = subst (λ (n : ℕ). e / k * n ≡ 4 * (e / k * m)) (sym four) (omega arith) in
    omega (arith, product, whole)

pub root_placed : (g : Geometry) → IsPlaced g (block_of_address g.agblocks g.agblklog (g.rootino / 32 * 4))
root_placed g =
    let e : ℕ = g.rootino / 8 in
    let k : ℕ = 2 ^ g.agblklog in
    let four = addresses_of g in
    let wide = g.shape.addresses.enough in
    let large = g.shape.groups.large in
    let short : e % k < k = mod-lt e (omega (arith, wide, large)) in
    let in_chunk = g.shape.root.inside in
    let same : g.rootino / 32 * 4 ≡ e / 4 * 4 = omega arith in
    let at : g.rootino / 32 * 4 ≡ e / k * k + 4 * (e % k / 4) = same ∙ root_address k four.quarter e four.is (div-add-mod' e k) in
    record {
      ag = e / k;
      i = e % k / 4;
      group = g.shape.root.group;
      inside = omega (arith, in_chunk);
      is = ap (block_of_address g.agblocks g.agblklog) at ∙ block_is g.agblocks g.agblklog (e / k) (4 * (e % k / 4)) (omega (arith, short));
    }
