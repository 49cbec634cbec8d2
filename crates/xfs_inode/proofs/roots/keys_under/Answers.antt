use Rattle.std.proofs.Common.{ℕ, ◌<◌, ◌≤◌, [], subst, arith}
use Rattle.std.proofs.lemmas.Result.{IfOk-from_err}
use Rattle.xfs_tree.proofs.Rest.{pushed, pushed_all, rest_all}
use Rattle.xfs_inode.specs.Forks.{root_count, root_key}
use Rattle.xfs_inode.proofs.roots.keys_under.Goals as goal

pub returns-in_err-keys : goal.returns-in_err-keys
returns-in_err-keys c = IfOk-from_err c.from_residual.result _ c.from_residual.ensures.0

pub root_key-requires : goal.root_key-requires
root_key-requires c =
    let below = subst (λ (n : ℕ). c.loop-i.i < n) c.root_count-i-end.ensures c.loop-i-test.true in
    omega (arith, below, c.requires.room)

pub returns-in_err-push : goal.returns-in_err-push
returns-in_err-push c = IfOk-from_err c.from_residual-in_err-push.result _ c.from_residual-in_err-push.ensures.0

pub loop-i-preserved : goal.loop-i-preserved
loop-i-preserved c =
    pushed (root_key c.args.slot.now) c.loop-i.i (root_count c.args.slot.now) c.loop-i.keys.items c.push.new.self.items _ c.root_key.result
    (subst (λ (n : ℕ). c.loop-i.i < n) c.root_count-i-end.ensures c.loop-i-test.true) c.in_ok-push.ensures.items c.root_key.ensures c.loop-i.invariant

pub returns : goal.returns
returns c =
    pushed_all (root_key c.args.slot.now) c.loop-i.i (root_count c.args.slot.now) [] c.loop-i.keys.items
    (subst (λ (n : ℕ). n ≤ c.loop-i.i) c.root_count-i-end.ensures c.loop-i-test.false) c.loop-i.invariant
