use Rattle.std.proofs.Common.{◌≡◌, ℕ, ◌≤◌, ◌<◌, ◌+◌, ◌*◌, ◌/◌, ◌%◌, ◌^◌, mul-le-mul_left, arith}
use Rattle.xfs_scan.proofs.view.first_inode.Goals as goal

-- an address has no more than twice as many numbers as there are blocks before it
address : (block power w : ℕ) → block < 2 ^ 43 → w < 2 ^ 32 → 1024 ≤ w → w ≤ power → power < 2 * w
    → block / w * (1 * power % 2 ^ 64) + block % w < 2 ^ 45
address block power w small few some enough least =
    let size : 1 * power % 2 ^ 64 ≡ power = omega arith in
    let most : block / w * power ≤ block / w * (2 * w) = mul-le-mul_left (block / w) (omega arith) in
    let twice : block / w * (2 * w) ≡ 2 * (w * (block / w)) = grind arith in
    let whole : w * (block / w) + block % w ≡ block = omega arith in
    let rest : block % w < w = omega arith in
    rw size (omega (arith, most, twice, whole, rest))

pub overflow_mul-result : goal.overflow_mul-result
overflow_mul-result c =
    let g = c.args.g.now in
    let sum = address c.args.block (2 ^ g.agblklog) g.agblocks c.requires (omega arith) g.shape.groups.large g.shape.addresses.enough g.shape.addresses.least in
    omega (arith, sum)

pub overflow_add-result : goal.overflow_add-result
overflow_add-result c =
    let g = c.args.g.now in
    let sum = address c.args.block (2 ^ g.agblklog) g.agblocks c.requires (omega arith) g.shape.groups.large g.shape.addresses.enough g.shape.addresses.least in
    omega (arith, sum)

pub overflow_mul-result-2 : goal.overflow_mul-result-2
overflow_mul-result-2 c =
    let g = c.args.g.now in
    let sum = address c.args.block (2 ^ g.agblklog) g.agblocks c.requires (omega arith) g.shape.groups.large g.shape.addresses.enough g.shape.addresses.least in
    omega (arith, sum)
