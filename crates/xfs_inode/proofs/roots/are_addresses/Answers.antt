use Rattle.std.proofs.Common.{◌≡◌, ℕ, ◌<◌, ◌≤◌, Bool, true, false, sym, ap, subst, ◌∙◌, arith}
use Rattle.xfs_geom.specs.Conversions.{block_at}
use Rattle.xfs_geom.specs.Volumes.{volume_of}
use Rattle.xfs_inode.specs.Forks.{are_addresses, names_block, root_count, root_pointer}
use Rattle.xfs_inode.proofs.Tested.{number_all, number_first, number_more, number_stop}
use Rattle.xfs_inode.proofs.roots.are_addresses.Goals as goal

pub loop-i-init : goal.loop-i-init
unfolding are_addresses
loop-i-init c = number_first (λ (i : ℕ). names_block (block_at (volume_of c.args.g.now) (root_pointer c.args.capacity c.args.slot.now i))) (root_count c.args.slot.now)

pub root_pointer-requires : goal.root_pointer-requires
root_pointer-requires c =
    let below = subst (λ (n : ℕ). c.loop-i.i < n) c.root_count-i-end.ensures c.loop-i-test.true in
    omega (arith, below, c.requires.count, c.requires.room, c.requires.whole)

pub returns-then-not-is_address : goal.returns-then-not-is_address
returns-then-not-is_address c =
    let v = volume_of c.args.g.now in
    let slot = c.args.slot.now in
    let capacity = c.args.capacity in
    number_stop (λ (i : ℕ). names_block (block_at v (root_pointer capacity slot i))) c.loop-i.i (root_count slot) (are_addresses v capacity slot)
    (subst (λ (n : ℕ). c.loop-i.i < n) c.root_count-i-end.ensures c.loop-i-test.true)
    (ap (λ (p : ℕ). names_block (block_at v p)) (sym c.root_pointer.ensures) ∙ sym c.is_address.ensures ∙ c.if-not-is_address.true) c.loop-i.invariant

pub loop-i-preserved : goal.loop-i-preserved
loop-i-preserved c =
    let v = volume_of c.args.g.now in
    let slot = c.args.slot.now in
    let capacity = c.args.capacity in
    number_more (λ (i : ℕ). names_block (block_at v (root_pointer capacity slot i))) c.loop-i.i (root_count slot) (are_addresses v capacity slot)
    (subst (λ (n : ℕ). c.loop-i.i < n) c.root_count-i-end.ensures c.loop-i-test.true)
    (ap (λ (p : ℕ). names_block (block_at v p)) (sym c.root_pointer.ensures) ∙ sym c.is_address.ensures ∙ c.if-not-is_address.false) c.loop-i.invariant

pub returns : goal.returns
returns c =
    let v = volume_of c.args.g.now in
    let slot = c.args.slot.now in
    let capacity = c.args.capacity in
    number_all (λ (i : ℕ). names_block (block_at v (root_pointer capacity slot i))) c.loop-i.i (root_count slot) (are_addresses v capacity slot)
    (subst (λ (n : ℕ). n ≤ c.loop-i.i) c.root_count-i-end.ensures c.loop-i-test.false) c.loop-i.invariant
