use Rattle.std.proofs.Common.{◌≡◌, ℕ, ◌≤◌, ◌<◌, ◌+◌, ◌*◌, ◌/◌, ◌%◌, ◌^◌, mul-le-mul_left, arith}
use Rattle.xfs_changes.proofs.replaced.block_of.Goals as goal

-- a group has no more blocks than its addresses tell apart
below : (start size blocks : ℕ) → 1 ≤ size → blocks ≤ size → start / size * blocks + start % size ≤ start
below start size blocks some few =
    let most : start / size * blocks ≤ start / size * size = mul-le-mul_left (start / size) few in
    let whole : size * (start / size) + start % size ≡ start = omega arith in
    omega (arith, most, whole)

fits : (start power blocks : ℕ) → start < 2 ^ 64 → blocks < 2 ^ 32 → 1024 ≤ blocks → blocks ≤ power → power < 2 * blocks
    → start / (1 * power % 2 ^ 64) * blocks + start % (1 * power % 2 ^ 64) < 2 ^ 64
fits start power blocks small few some enough least =
    let size : 1 * power % 2 ^ 64 ≡ power = omega arith in
    rw size (let most = below start power blocks (omega arith) enough in omega (arith, most, small))

pub overflow_mul-result : goal.overflow_mul-result
overflow_mul-result c =
    let g = c.args.g.now in
    let sum = fits c.args.address (2 ^ g.agblklog) g.agblocks (omega arith) (omega arith) g.shape.groups.large g.shape.addresses.enough g.shape.addresses.least in
    omega (arith, sum)

pub overflow_add-result : goal.overflow_add-result
overflow_add-result c =
    let g = c.args.g.now in
    let sum = fits c.args.address (2 ^ g.agblklog) g.agblocks (omega arith) (omega arith) g.shape.groups.large g.shape.addresses.enough g.shape.addresses.least in
    omega (arith, sum)
