-- The numbers of the inodes of chunks.
use Rattle.std.proofs.Common.{◌≡◌, ℕ, ◌+◌, ◌*◌, ◌/◌, ◌%◌, ◌^◌, ◌==◌, ◌≤◌, ◌<◌, ◌⊎◌, inl, inr, Bool, true, false, cond, List, length, get_or, arith, refl}
use Rattle.std.specs.List.{All}
use Rattle.std.proofs.Math.Nat.{mod-lt}
use Rattle.std.proofs.lemmas.Nat.{div-add-mod'}
use Rattle.xfs_geom.proofs.Addresses.{address_low}
use Rattle.xfs_geom.specs.Conversions.{address_of, inode_of}
use Rattle.xfs_geom.specs.Volumes.{volume_of}
use Rattle.xfs_geom.specs.declared.geometry.Geometry.{Geometry}
use Rattle.xfs_proto.specs.declared.protofile.ProtoNode.{ProtoNode}
use Rattle.xfs_filled.specs.Numbers.{index_of_place, inode_at, number_of}
use Rattle.xfs_filled.specs.Sites.{AreChunksPlaced}

-- which chunk and which block an inode stands in
pub chunk_inside : (j n : ℕ) → j < 64 * n → j / 64 < n
chunk_inside j n low =
    let whole : j / 64 * 64 + j % 64 ≡ j = div-add-mod' j 64 in
    omega (arith, whole, low)

pub block_few : (j : ℕ) → j % 64 / 8 < 8
block_few j = let few : j % 64 < 64 = mod-lt j (omega arith) in omega (arith, few)

-- a number of an inode of the volume is low
pub inode_low : (g : Geometry) (block slot : ℕ) → block < g.dblocks → slot < 8 → inode_of (volume_of g) block slot < 2 ^ 30
unfolding inode_of address_of
inode_low g block slot inside few =
    let low = address_low block g.agblocks (2 ^ g.agblklog) g.dblocks inside g.shape.groups.small g.shape.addresses.least in
    omega (arith, low, few)

pub inode_at_low : (g : Geometry) (starts : List ℕ) (j : ℕ) → All (λ start. start + 8 ≤ g.dblocks) starts → j < 64 * length starts → inode_at (volume_of g) starts j < 2 ^ 30
inode_at_low g starts j inside low =
    let there : get_or starts (j / 64) 0 + 8 ≤ g.dblocks = inside (j / 64) 0 (chunk_inside j (length starts) low) in
    let few = block_few j in
    inode_low g (get_or starts (j / 64) 0 + j % 64 / 8) (j % 8) (omega (arith, there, few)) (mod-lt j (omega arith))

-- which inode a file has among all
pub index_is : (k : ℕ) → (index_of_place k ≡ 0) ⊎ (index_of_place k ≡ k + 2)
index_is k = by_case (k == 0)
  where
    by_case : (r : Bool) → (cond r 0 (k + 2) ≡ 0) ⊎ (cond r 0 (k + 2) ≡ k + 2)
    by_case true = inl refl
    by_case false = inr refl

pub index_low : (k n : ℕ) → k + 2 < n → index_of_place k < n
index_low k n low = by_case (index_is k)
  where
    by_case : (index_of_place k ≡ 0) ⊎ (index_of_place k ≡ k + 2) → index_of_place k < n
    by_case (inl none) = omega (arith, none, low)
    by_case (inr some) = omega (arith, some, low)

-- the number of a file
pub number_low : (g : Geometry) (starts : List ℕ) (ns : List ProtoNode) (k : ℕ) → AreChunksPlaced g starts ns → k < length ns → number_of (volume_of g) starts k < 2 ^ 30
number_low g starts ns k placed low =
    inode_at_low g starts (index_of_place k) placed.volume (index_low k (64 * length starts) (omega (arith, placed.enough, low)))
