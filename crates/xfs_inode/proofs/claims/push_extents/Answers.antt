use Rattle.std.proofs.Common.{◌++◌, false, map}
use Rattle.xfs_word.specs.declared.extents.Extent.{Extent}
use Rattle.xfs_geom.specs.Volumes.{volume_of}
use Rattle.xfs_inode.specs.Files.{range_of}
use Rattle.xfs_inode.proofs.Pushed.{pushed, pushed_all}
use Rattle.xfs_inode.proofs.claims.push_extents.Goals as goal

abbrev no_extent : Extent
no_extent = record { offset = 0; start = 0; count = 0; unwritten = false }

pub loop-extent-preserved : goal.loop-extent-preserved
loop-extent-preserved c =
    let f = range_of (volume_of c.args.g.now) in
    let extents = c.args.extents.now in
    pushed f extents c.loop-extent.extent-index no_extent c.range_of.result c.loop-extent.runs.items c.push.new.self.items (c.args.runs.now.items ++ map f extents)
    c.loop-extent-test.true c.range_of.ensures c.in_ok-push.ensures.items c.loop-extent.invariant

pub returns : goal.returns
returns c =
    let f = range_of (volume_of c.args.g.now) in
    let extents = c.args.extents.now in
    pushed_all f extents c.loop-extent.extent-index c.loop-extent.runs.items (c.args.runs.now.items ++ map f extents) c.loop-extent-test.false c.loop-extent.invariant
