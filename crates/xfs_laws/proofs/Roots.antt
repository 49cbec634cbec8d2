-- The number of the root is small.
use Rattle.std.proofs.Common.{◌≡◌, ℕ, ◌+◌, ◌-◌, ◌*◌, ◌/◌, ◌^◌, ◌<◌, ◌≤◌, arith, ap, ◌∙◌}
use Rattle.std.proofs.Math.Nat.{mul-le-mul_left, mul-le-mul_right, add-mul, mul-add, div-lt_iff_lt-mul}

-- groups whose blocks fit the volume have few addresses
few_addresses : (groups agblocks addresses dblocks : ℕ) → 1 ≤ groups → groups * agblocks + 64 ≤ dblocks → dblocks ≤ 2 ^ 26
    → addresses < 2 * agblocks → (groups + 1) * addresses ≤ 2 ^ 28
few_addresses groups agblocks addresses dblocks one last small least =
    let own : 1 * agblocks ≤ groups * agblocks = mul-le-mul_right agblocks one in
    let one_of : 1 * addresses ≤ 1 * (2 * agblocks) = mul-le-mul_left 1 (omega arith) in
    let rest : groups * addresses ≤ groups * (2 * agblocks) = mul-le-mul_left groups (omega arith) in
    let twice : groups * (2 * agblocks) ≡ groups * agblocks + groups * agblocks =
    ap (λ (n : ℕ). groups * n) (let d : 2 * agblocks ≡ agblocks + agblocks = omega arith in d) ∙ mul-add groups agblocks agblocks in
    let whole : (groups + 1) * addresses ≡ groups * addresses + 1 * addresses = add-mul groups 1 addresses in
    omega arith

-- an address in one of the groups, and the inode of one of its slots
pub root_low : (agcount agblocks addresses dblocks root : ℕ) → 2 ≤ agcount → (agcount - 1) * agblocks + 64 ≤ dblocks → dblocks ≤ 2 ^ 26
    → addresses < 2 * agblocks → 1 ≤ addresses → root / 8 / addresses < agcount → root < 2 ^ 32
root_low agcount agblocks addresses dblocks root two last small least some inside =
    let few : ((agcount - 1) + 1) * addresses ≤ 2 ^ 28 = few_addresses (agcount - 1) agblocks addresses dblocks (omega arith) last small least in
    let count : (agcount - 1) + 1 ≡ agcount = omega arith in
    let same : ((agcount - 1) + 1) * addresses ≡ agcount * addresses = ap (λ (n : ℕ). n * addresses) count in
    let low : root / 8 < agcount * addresses = (div-lt_iff_lt-mul some).0 inside in
    omega arith
