use Rattle.std.proofs.Common.{◌≡◌, arith}
use Rattle.xfs_empty.proofs.sizes.bits_of.Goals as goal

pub returns : goal.returns
returns c =
    let same : c.loop-bits.bits ≡ 26 = omega arith in
    let low = rw same at c.loop-bits.invariant in
    record { short = omega arith; enough = omega arith; least = omega (arith, low) }
