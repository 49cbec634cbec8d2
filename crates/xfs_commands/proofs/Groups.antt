-- The group that has a block.
use Rattle.std.proofs.Common.{ℕ, ◌*◌, ◌/◌, ◌<◌, ◌≤◌, arith}
use Rattle.std.proofs.Math.Nat.{div-lt_iff_lt-mul}

pub below : (block dblocks agblocks agcount : ℕ) → 1024 ≤ agblocks → dblocks ≤ agcount * agblocks → block < dblocks → block / agblocks < agcount
below block dblocks agblocks agcount some covered within =
    let part : 0 < agblocks = omega (arith, some) in
    let low : block < agcount * agblocks = omega (arith, covered, within) in
    (div-lt_iff_lt-mul part).1 low

pub ruleset group_below = (below)
