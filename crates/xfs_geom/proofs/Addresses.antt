-- The address of a block and the block at an address are inverse inside a volume.
use Rattle.std.proofs.Common.{◌≡◌, ℕ, ◌+◌, ◌*◌, ◌-◌, ◌/◌, ◌%◌, ◌^◌, ◌≤◌, ◌<◌, Bool, true, false, ◌==◌, ◌&&◌, Some, None, ltb, Fits, w64, arith, ap}
use Rattle.std.proofs.Math.Nat.{mod-lt, mul-le-mul_left, div-lt_iff_lt-mul}
use Rattle.std.proofs.lemmas.Bool.{lt-ltb}
use Rattle.std.proofs.lemmas.Nat.{div-add-mod', div-mul-add, mod-mul-add}
use Rattle.std.specs.Prelude.{if◌then◌else◌}
use Rattle.xfs_geom.specs.Conversions.{address_of, block_at, group_length}
use Rattle.xfs_geom.specs.Groups.{blocks_of_group}
use Rattle.xfs_geom.specs.Volumes.{Volume}

-- an address is low
pub address_low : (b w k d : ℕ) → b < d → d ≤ 2 ^ 26 → k < 2 * w → b / w * k + b % w < 2 ^ 27
address_low b w k d inside small least =
    let whole : b / w * w + b % w ≡ b = div-add-mod' b w in
    let most : b / w * k ≤ b / w * (2 * w) = mul-le-mul_left (b / w) (omega arith) in
    let twice : b / w * (2 * w) ≡ 2 * (b / w * w) = omega arith in
    omega arith

pub group_fits : (b w k d : ℕ) → b < d → d ≤ 2 ^ 26 → k < 2 * w → Fits w64 (b / w * k)
group_fits b w k d inside small least = let low = address_low b w k d inside small least in omega (arith, low)

pub address_fits : (b w k d : ℕ) → b < d → d ≤ 2 ^ 26 → k < 2 * w → Fits w64 (b / w * k + b % w)
address_fits b w k d inside small least = let low = address_low b w k d inside small least in omega (arith, low)

-- the AG block of a block of the volume is one of its group
within_group : (d w n b : ℕ) → 1024 ≤ w → b < d → b % w < blocks_of_group d w n (b / w)
within_group d w n b large inside = by_case (b / w + 1 == n)
  where
    by_case : (r : Bool) → b % w < (if r then d - b / w * w else w)
    by_case true =
        let whole : b / w * w + b % w ≡ b = div-add-mod' b w in
        omega arith
    by_case false = mod-lt b (omega arith)

chosen : (a b : Bool) (x y : ℕ) → a ≡ true → b ≡ true → x ≡ y → (if a && b then Some x else None) ≡ Some y
chosen true true x y p q e = ap (λ (n : ℕ). Some n) e
chosen true false x y p q e = cc
chosen false b x y p q e = cc

-- the block at the address of a block is that block
pub block_back : (v : Volume) (b : ℕ) → 1024 ≤ v.agblocks → v.dblocks ≤ v.agcount * v.agblocks → v.agblocks ≤ 2 ^ v.agblklog → b < v.dblocks
    → block_at v (address_of v b) ≡ Some b
unfolding block_at address_of
block_back v b large full enough inside =
    let w = v.agblocks in
    let k = 2 ^ v.agblklog in
    let short : b % w < w = mod-lt b (omega arith) in
    let group : (b / w * k + b % w) / k ≡ b / w = div-mul-add (b / w) k (b % w) (omega arith) in
    let rest : (b / w * k + b % w) % k ≡ b % w = mod-mul-add (b / w) k (b % w) (omega arith) in
    let some : 0 < w = omega arith in
    let covered : b < v.agcount * w = omega arith in
    let few : b / w < v.agcount = (div-lt_iff_lt-mul some).1 covered in
    rw (group, rest)
    (chosen (ltb (b / w) v.agcount) (ltb (b % w) (group_length v (b / w))) (b / w * w + b % w) b
    (lt-ltb (b / w) v.agcount few)
    (lt-ltb (b % w) (group_length v (b / w)) (within_group v.dblocks w v.agcount b large inside))
    (div-add-mod' b w))

-- the address of the block at an address is that address
pub address_back : (v : Volume) (g r a k : ℕ) → k ≡ 2 ^ v.agblklog → g ≡ a / k → r ≡ a % k → r < v.agblocks
    → address_of v (g * v.agblocks + r) ≡ a
unfolding address_of
address_back v g r a k size group rest short =
    let quotient : (g * v.agblocks + r) / v.agblocks ≡ g = div-mul-add g v.agblocks r short in
    let remainder : (g * v.agblocks + r) % v.agblocks ≡ r = mod-mul-add g v.agblocks r short in
    rw (quotient, remainder, ← size, group, rest) (div-add-mod' a k)
