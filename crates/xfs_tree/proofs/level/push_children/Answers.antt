use borrow.Author.Count.{falls}
use Rattle.std.proofs.Common.{◌≡◌, ℕ, ◌<◌, ◌≤◌, ◌++◌, ap, subst, arith}
use Rattle.std.proofs.lemmas.Result.{IfOk-from_err}
use Rattle.xfs_geom.specs.Volumes.{volume_of}
use Rattle.xfs_tree.specs.Blocks.{count_of, child_at}
use Rattle.xfs_tree.proofs.Rest.{pushed, pushed_all, rest_all}
use Rattle.xfs_tree.proofs.level.push_children.Goals as goal

pub loop-i-preserved : goal.loop-i-preserved
loop-i-preserved g c =
    record {
      ends = c.loop-i.invariant.ends;
      pushed = pushed (child_at (g.K.Kind.shape c.args.kind.now) (volume_of c.args.g.now) c.args.block.now) c.loop-i.i (count_of c.args.block.now)
          c.loop-i.next.items c.push.new.self.items _ c.child_at.result (subst (λ (m : ℕ). c.loop-i.i < m) c.loop-i.invariant.ends c.loop-i-test.true) c.in_ok-push.ensures.items c.child_at.ensures c.loop-i.invariant.pushed;
    }

pub returns : goal.returns
returns g c =
    pushed_all (child_at (g.K.Kind.shape c.args.kind.now) (volume_of c.args.g.now) c.args.block.now) c.loop-i.i (count_of c.args.block.now)
    c.args.next.now.items c.loop-i.next.items (subst (λ (m : ℕ). m ≤ c.loop-i.i) c.loop-i.invariant.ends c.loop-i-test.false) c.loop-i.invariant.pushed

-- a place below a count
under : (i end count cap : ℕ) → i < end → end ≡ count → count ≤ cap → i < cap
under i end count cap inside ends few = omega (arith, inside, ends, few)

pub loop-i-init : goal.loop-i-init
loop-i-init g c =
    record {
      ends = c.count_of-i-end.ensures.value;
      pushed = ap (λ xs. c.args.next.now.items ++ xs) (rest_all (count_of c.args.block.now) (child_at (g.K.Kind.shape c.args.kind.now) (volume_of c.args.g.now) c.args.block.now));
    }

pub count_of-i-end-requires : goal.count_of-i-end-requires
count_of-i-end-requires g c = c.requires.block

pub child_at-requires-clause-block : goal.child_at-requires-clause-block
child_at-requires-clause-block g c = λ κs lives. c.requires.block

pub child_at-requires-clause-inside : goal.child_at-requires-clause-inside
child_at-requires-clause-inside g c = λ κs lives. under _ _ _ _ c.loop-i-test.true c.loop-i.invariant.ends c.requires.count

pub returns-in_err-push : goal.returns-in_err-push
returns-in_err-push g c = IfOk-from_err c.from_residual.result _ c.from_residual.ensures.0

pub loop-i-smaller : goal.loop-i-smaller
loop-i-smaller g c = falls _ _ c.loop-i-test.true
