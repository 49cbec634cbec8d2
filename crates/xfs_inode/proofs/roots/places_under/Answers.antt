use Rattle.std.proofs.Common.{ℕ, ◌<◌, ◌≤◌, [], subst, arith}
use Rattle.std.proofs.lemmas.Result.{IfOk-from_err}
use Rattle.xfs_geom.specs.Volumes.{volume_of}
use Rattle.xfs_tree.proofs.Rest.{pushed, pushed_all, rest_all}
use Rattle.xfs_inode.specs.Forks.{place_under, root_count}
use Rattle.xfs_inode.proofs.roots.places_under.Goals as goal

pub returns-in_err-places : goal.returns-in_err-places
returns-in_err-places c = IfOk-from_err c.from_residual.result _ c.from_residual.ensures.0

pub place_under-requires : goal.place_under-requires
place_under-requires c =
    let below = subst (λ (n : ℕ). c.loop-i.i < n) c.root_count-i-end.ensures c.loop-i-test.true in
    omega (arith, below, c.requires.count, c.requires.room, c.requires.whole)

pub returns-in_err-push : goal.returns-in_err-push
returns-in_err-push c = IfOk-from_err c.from_residual-in_err-push.result _ c.from_residual-in_err-push.ensures.0

pub loop-i-preserved : goal.loop-i-preserved
loop-i-preserved c =
    pushed (place_under (volume_of c.args.g.now) c.args.capacity c.args.slot.now) c.loop-i.i (root_count c.args.slot.now) c.loop-i.places.items c.push.new.self.items _ c.place_under.result
    (subst (λ (n : ℕ). c.loop-i.i < n) c.root_count-i-end.ensures c.loop-i-test.true) c.in_ok-push.ensures.items c.place_under.ensures c.loop-i.invariant

pub returns : goal.returns
returns c =
    pushed_all (place_under (volume_of c.args.g.now) c.args.capacity c.args.slot.now) c.loop-i.i (root_count c.args.slot.now) [] c.loop-i.places.items
    (subst (λ (n : ℕ). n ≤ c.loop-i.i) c.root_count-i-end.ensures c.loop-i-test.false) c.loop-i.invariant
