-- What a new superblock states, by its numbers.
use Rattle.std.proofs.Common.{◌≡◌, ℕ, ◌+◌, ◌-◌, ◌*◌, ◌/◌, ◌%◌, ◌^◌, ◌≤◌, ◌<◌, Bool, true, false, ◌==◌, ◌≢◌, cond, arith, refl}
use Rattle.std.proofs.lemmas.Bool.{eqb-false}
use Rattle.std.proofs.Math.Nat.{mod-lt, mul-le-mul_right}
use Rattle.std.proofs.lemmas.Nat.{div-add-mod', div-mul-add, mod-mul-add}
use Rattle.xfs_geom.specs.Conversions.{address_of}
use Rattle.xfs_geom.specs.Groups.{group_of_address, ag_block_of_address, block_of_address}
use Rattle.xfs_geom.specs.Shape.{HasGroups, HasLog}
use Rattle.xfs_geom.specs.Volumes.{Volume}

-- the log begins in the volume
pub log_inside : (d w n log l : ℕ) → HasGroups d w n → HasLog d w n log l → log < d
log_inside d w n log l groups has = by_case (log / w + 1 == n) refl has.inside
  where
    whole : log / w * w + log % w ≡ log
    whole = div-add-mod' log w

    by_case : (r : Bool) → (log / w + 1 == n) ≡ r → log % w + l ≤ cond r (d - log / w * w) w → log < d
    by_case true is inside = omega (arith, whole, has.large, inside)
    by_case false is inside =
        let other : log / w + 1 ≢ n = eqb-false _ _ is in
        let low : log / w + 1 ≤ n - 1 = omega (arith, has.group) in
        let most : (log / w + 1) * w ≤ (n - 1) * w = mul-le-mul_right w low in
        omega (arith, whole, groups.last, most, inside, has.large)

-- an address has its group and its AG block
pub group_of : (v : Volume) (b : ℕ) → 1024 ≤ v.agblocks → v.agblocks ≤ 2 ^ v.agblklog → group_of_address v.agblklog (address_of v b) ≡ b / v.agblocks
unfolding address_of
group_of v b large enough =
    let short : b % v.agblocks < v.agblocks = mod-lt b (omega arith) in
    div-mul-add (b / v.agblocks) (2 ^ v.agblklog) (b % v.agblocks) (omega arith)

pub ag_block_of : (v : Volume) (b : ℕ) → 1024 ≤ v.agblocks → v.agblocks ≤ 2 ^ v.agblklog → ag_block_of_address v.agblklog (address_of v b) ≡ b % v.agblocks
unfolding address_of
ag_block_of v b large enough =
    let short : b % v.agblocks < v.agblocks = mod-lt b (omega arith) in
    mod-mul-add (b / v.agblocks) (2 ^ v.agblklog) (b % v.agblocks) (omega arith)

pub block_of : (v : Volume) (b : ℕ) → 1024 ≤ v.agblocks → v.agblocks ≤ 2 ^ v.agblklog → block_of_address v.agblocks v.agblklog (address_of v b) ≡ b
block_of v b large enough = rw (group_of v b large enough, ag_block_of v b large enough) (div-add-mod' b v.agblocks)
