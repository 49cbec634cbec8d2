use Rattle.std.proofs.Common.{◌≡◌, ℕ, ◌-◌, ◌<◌, ◌≤◌, nat_lt, true, false, refl, subst, ◌∙◌}
use Rattle.std.proofs.lemmas.Bool.{le-ltb, lt-ltb}
use Rattle.xfs_inode.specs.Forks.{keys_ascend, root_count, root_key}
use Rattle.xfs_inode.proofs.Tested.{number_all, number_more, number_stop}
use Rattle.xfs_inode.proofs.roots.keys_ascend.Goals as goal

pub loop-i-init : goal.loop-i-init
unfolding keys_ascend
loop-i-init c = refl

pub returns-then-low-high : goal.returns-then-low-high
returns-then-low-high c =
    let slot = c.args.slot.now in
    number_stop (λ (i : ℕ). nat_lt (root_key slot (i - 1)) (root_key slot i)) c.loop-i.i (root_count slot) (keys_ascend slot)
    (subst (λ (n : ℕ). c.loop-i.i < n) c.root_count-i-end.ensures c.loop-i-test.true)
    (subst (λ (n : ℕ). nat_lt n (root_key slot c.loop-i.i) ≡ false) c.root_key-low.ensures (subst (λ (n : ℕ). nat_lt c.root_key-low.result n ≡ false) c.root_key-high.ensures (le-ltb _ _ c.if-low-high.true)))
    c.loop-i.invariant

pub loop-i-preserved : goal.loop-i-preserved
loop-i-preserved c =
    let slot = c.args.slot.now in
    number_more (λ (i : ℕ). nat_lt (root_key slot (i - 1)) (root_key slot i)) c.loop-i.i (root_count slot) (keys_ascend slot)
    (subst (λ (n : ℕ). c.loop-i.i < n) c.root_count-i-end.ensures c.loop-i-test.true)
    (subst (λ (n : ℕ). nat_lt n (root_key slot c.loop-i.i) ≡ true) c.root_key-low.ensures (subst (λ (n : ℕ). nat_lt c.root_key-low.result n ≡ true) c.root_key-high.ensures (lt-ltb _ _ c.if-low-high.false)))
    c.loop-i.invariant

pub returns : goal.returns
returns c =
    let slot = c.args.slot.now in
    number_all (λ (i : ℕ). nat_lt (root_key slot (i - 1)) (root_key slot i)) c.loop-i.i (root_count slot) (keys_ascend slot)
    (subst (λ (n : ℕ). n ≤ c.loop-i.i) c.root_count-i-end.ensures c.loop-i-test.false) c.loop-i.invariant
