use Rattle.std.proofs.Common.{rules}
use Rattle.xfs_inode.specs.Forks.{fork_extent}
use Rattle.xfs_tree.proofs.Rest.{pushed}
use Rattle.xfs_inode.proofs.held.list_extents.Goals as goal

pub loop-i-preserved : goal.loop-i-preserved
loop-i-preserved c =
    record {
      pushed = pushed (fork_extent c.args.slot.now) c.loop-i.i c.args.count
          c.loop-i.extents c.push.new.self _ c.fork_extent.result (search rules) c.in_ok-push.ensures c.fork_extent.ensures c.loop-i.invariant.pushed;
    }
