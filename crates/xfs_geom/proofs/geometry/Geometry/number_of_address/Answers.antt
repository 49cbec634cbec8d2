use Rattle.std.proofs.Common.{◌≡◌, ℕ, ◌≤◌, ◌<◌, ◌+◌, ◌*◌, ◌/◌, ◌%◌, ◌^◌, mul-le-mul_left, ap, arith}
use Rattle.xfs_geom.proofs.geometry.Geometry.number_of_address.Goals as goal

-- a group has no more blocks than its addresses tell apart
below : (address size blocks : ℕ) → 1 ≤ size → blocks ≤ size → address / size * blocks + address % size ≤ address
below address size blocks some few =
    let most : address / size * blocks ≤ address / size * size = mul-le-mul_left (address / size) few in
    let whole : size * (address / size) + address % size ≡ address = omega arith in
    omega (arith, most, whole)

fits : (address size blocks : ℕ) → address < 2 ^ 64 → 1024 ≤ blocks → blocks ≤ size → address / size * blocks + address % size < 2 ^ 64
fits address size blocks small large few =
    let most = below address size blocks (omega arith) few in
    omega (arith, most, small)

pub overflow_mul-result : goal.overflow_mul-result
overflow_mul-result c =
    let g = c.args.self.now in
    let size = c.size_of_addresses-size in
    let sum = fits c.args.address size.result g.agblocks (omega arith) g.shape.groups.large size.ensures.enough in
    omega (arith, sum)

pub overflow_add-result : goal.overflow_add-result
overflow_add-result c =
    let g = c.args.self.now in
    let size = c.size_of_addresses-size in
    let sum = fits c.args.address size.result g.agblocks (omega arith) g.shape.groups.large size.ensures.enough in
    omega (arith, sum)

pub returns : goal.returns
returns c =
    let address = c.args.address in
    ap (λ (n : ℕ). address / n * c.args.self.now.agblocks + address % n) c.size_of_addresses-size.ensures.value
