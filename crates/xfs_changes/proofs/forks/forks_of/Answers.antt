use Rattle.std.proofs.Common.{arith}
use Rattle.xfs_geom.specs.Volumes.{volume_of}
use Rattle.xfs_changes.proofs.Pushing.{fork_more, forks_done}
use Rattle.xfs_changes.proofs.forks.forks_of.Goals as goal

pub loop-directory-preserved : goal.loop-directory-preserved
loop-directory-preserved c =
    fork_more (volume_of c.args.g.now) c.args.files.now c.args.built.now c.loop-directory.directory-index c.directory-item.result c.in_ok-fork.field-0 c.loop-directory.forks.items c.push.new.self.items _ c.loop-directory.cuts_left.now
    c.behind-cuts_left.result.now c.loop-directory.runs_left.now c.behind-runs_left.result.now c.loop-directory-test.true c.directory-item.is
    c.in_ok-push.ensures.items c.in_ok-fork.ensures c.behind-cuts_left.ensures c.behind-runs_left.ensures c.loop-directory.invariant

pub returns : goal.returns
returns c =
    forks_done (volume_of c.args.g.now) c.args.files.now c.args.built.now c.loop-directory.directory-index c.loop-directory.forks.items _ c.loop-directory.cuts_left.now c.loop-directory.runs_left.now
    (omega (arith, c.loop-directory-test.false)) c.loop-directory.invariant
