use Rattle.std.proofs.Common.{◌≡◌, ℕ, ◌+◌, ◌*◌, ◌/◌, ◌%◌, ◌^◌, ◌<◌, ◌≤◌, Fits, w32, w64, sym, ap, ◌∙◌, subst, one-mul, arith}
use Rattle.std.proofs.Math.Pow.{pow-lt}
use Rattle.std.proofs.Math.Nat.{mod-eq_of_lt}
use Rattle.xfs_geom.specs.Groups.{block_of_address}
use Rattle.xfs_dirs.proofs.Extents.{group_few, is_inside}
use Rattle.xfs_dirs.proofs.blocks.start_of.Goals as goal

below : (k : ℕ) → k ≤ 26 → k < 64
below k short = omega arith

power_is : (k : ℕ) → k ≤ 26 → 1 * 2 ^ k % 2 ^ 64 ≡ 2 ^ k
power_is k short =
    let power : 2 ^ k < 2 ^ 64 = pow-lt (below k short) in
    mod-eq_of_lt (omega (arith, power)) ∙ one-mul (2 ^ k)

some : (n p size : ℕ) → 1024 ≤ n → n ≤ p → size ≡ p → 0 < size
some n p size large enough is = omega arith

group_fits : (n most : ℕ) → n < most → most ≤ 512 → Fits w32 n
group_fits n most less few = omega arith

block_is : (start size power blocks first : ℕ) → first ≡ start / size * blocks → size ≡ power → first + start % size ≡ start / power * blocks + start % power
block_is start size power blocks first is same =
    ap (λ (n : ℕ). n + start % size) is ∙ ap (λ (s : ℕ). start / s * blocks + start % s) same

block_fits : (n block count most : ℕ) → n ≡ block → block + count ≤ most → most ≤ 2 ^ 26 → Fits w64 n
block_fits n block count most is inside small = omega arith

pub overflow_shl-size : goal.overflow_shl-size
overflow_shl-size c = below c.args.g.now.agblklog c.args.g.now.shape.addresses.short

pub nonzero_div-group : goal.nonzero_div-group
nonzero_div-group c = some c.args.g.now.agblocks (2 ^ c.args.g.now.agblklog) (1 * 2 ^ c.args.g.now.agblklog % 2 ^ 64) c.args.g.now.shape.groups.large c.args.g.now.shape.addresses.enough (power_is c.args.g.now.agblklog c.args.g.now.shape.addresses.short)

pub nonzero_rem-result : goal.nonzero_rem-result
nonzero_rem-result c = some c.args.g.now.agblocks (2 ^ c.args.g.now.agblklog) (1 * 2 ^ c.args.g.now.agblklog % 2 ^ 64) c.args.g.now.shape.groups.large c.args.g.now.shape.addresses.enough (power_is c.args.g.now.agblklog c.args.g.now.shape.addresses.short)

pub start_of_group-requires : goal.start_of_group-requires
start_of_group-requires c = subst (λ (size : ℕ). c.args.extent.now.start / size < c.args.g.now.agcount) (sym (power_is c.args.g.now.agblklog c.args.g.now.shape.addresses.short)) (group_few c.args.g.now c.args.extent.now c.requires)

pub overflow_cast-group : goal.overflow_cast-group
overflow_cast-group c = group_fits (c.args.extent.now.start / (1 * 2 ^ c.args.g.now.agblklog % 2 ^ 64)) c.args.g.now.agcount (subst (λ (size : ℕ). c.args.extent.now.start / size < c.args.g.now.agcount) (sym (power_is c.args.g.now.agblklog c.args.g.now.shape.addresses.short)) (group_few c.args.g.now c.args.extent.now c.requires)) c.args.g.now.shape.groups.few

pub returns : goal.returns
returns c = block_is c.args.extent.now.start (1 * 2 ^ c.args.g.now.agblklog % 2 ^ 64) (2 ^ c.args.g.now.agblklog) c.args.g.now.agblocks c.start_of_group.result c.start_of_group.ensures.value (power_is c.args.g.now.agblklog c.args.g.now.shape.addresses.short)

pub overflow_add-result : goal.overflow_add-result
overflow_add-result c =
    let g = c.args.g.now in
    let e = c.args.extent.now in
    block_fits (c.start_of_group.result + e.start % (1 * 2 ^ g.agblklog % 2 ^ 64)) (block_of_address g.agblocks g.agblklog e.start) e.count g.dblocks
    (block_is c.args.extent.now.start (1 * 2 ^ c.args.g.now.agblklog % 2 ^ 64) (2 ^ c.args.g.now.agblklog) c.args.g.now.agblocks c.start_of_group.result c.start_of_group.ensures.value (power_is c.args.g.now.agblklog c.args.g.now.shape.addresses.short)) (is_inside g e c.requires).inside g.shape.groups.small
