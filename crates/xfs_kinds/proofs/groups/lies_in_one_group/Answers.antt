use Rattle.std.proofs.Common.{◌≡◌, ℕ, ◌*◌, ◌/◌, ◌%◌, ◌^◌, ◌<◌, ◌≤◌, ap, ◌∙◌, one-mul, arith}
use Rattle.std.proofs.Math.Pow.{pow-lt}
use Rattle.std.proofs.Math.Nat.{mod-eq_of_lt}
use Rattle.xfs_geom.specs.Volumes.{volume_of}
use Rattle.xfs_kinds.specs.Groups.{lies_in_group}
use Rattle.xfs_kinds.proofs.groups.lies_in_one_group.Goals as goal

below : (k : ℕ) → k ≤ 26 → k < 64
below k short = omega arith

power_is : (k : ℕ) → k ≤ 26 → 1 * 2 ^ k % 2 ^ 64 ≡ 2 ^ k
power_is k short =
    let power : 2 ^ k < 2 ^ 64 = pow-lt (below k short) in
    mod-eq_of_lt (omega (arith, power)) ∙ one-mul (2 ^ k)

some : (n p size : ℕ) → 1024 ≤ n → n ≤ p → size ≡ p → 0 < size
some n p size large enough is = omega arith

pub overflow_shl-size : goal.overflow_shl-size
overflow_shl-size c = below c.args.g.now.agblklog c.args.g.now.shape.addresses.short

pub nonzero_div-address : goal.nonzero_div-address
nonzero_div-address c = some c.args.g.now.agblocks (2 ^ c.args.g.now.agblklog) (1 * 2 ^ c.args.g.now.agblklog % 2 ^ 64) c.args.g.now.shape.groups.large c.args.g.now.shape.addresses.enough (power_is c.args.g.now.agblklog c.args.g.now.shape.addresses.short)

pub nonzero_rem-address : goal.nonzero_rem-address
nonzero_rem-address c = some c.args.g.now.agblocks (2 ^ c.args.g.now.agblklog) (1 * 2 ^ c.args.g.now.agblklog % 2 ^ 64) c.args.g.now.shape.groups.large c.args.g.now.shape.addresses.enough (power_is c.args.g.now.agblklog c.args.g.now.shape.addresses.short)

pub returns : goal.returns
returns c =
    let v = volume_of c.args.g.now in
    c.lies_in_group.ensures.value
    ∙ ap (λ (size : ℕ). lies_in_group v (c.args.address / size) (c.args.address % size) c.args.count) (power_is c.args.g.now.agblklog c.args.g.now.shape.addresses.short)
