use Rattle.std.proofs.Common.{refl, false}
use Rattle.std.proofs.lemmas.Result.{IfOk-from_err}
use Rattle.xfs_geom.specs.Volumes.{volume_of}
use Rattle.xfs_word.specs.declared.extents.Extent.{Extent}
use Rattle.xfs_changes.specs.Replaced.{numbers_of_extent}
use Rattle.xfs_changes.proofs.Pushing.{rows_end, rows_more}
use Rattle.xfs_changes.proofs.replaced.push_extents.Goals as goal

-- what stands behind the last
abbrev no_extent : Extent
no_extent = record { offset = 0; start = 0; count = 0; unwritten = false }

pub loop-extent-init : goal.loop-extent-init
loop-extent-init c = refl

pub loop-extent-preserved : goal.loop-extent-preserved
loop-extent-preserved c =
    rows_more (numbers_of_extent (volume_of c.args.g.now)) c.args.extents.now c.loop-extent.extent-index no_extent c.loop-extent.blocks.items c.push_extent.new.blocks.items _
    c.loop-extent-test.true c.in_ok-push_extent.ensures c.loop-extent.invariant

pub returns : goal.returns
returns c =
    rows_end (numbers_of_extent (volume_of c.args.g.now)) c.args.extents.now c.loop-extent.extent-index c.loop-extent.blocks.items _ c.loop-extent-test.false c.loop-extent.invariant

pub returns-in_err-push_extent : goal.returns-in_err-push_extent
returns-in_err-push_extent c = IfOk-from_err c.from_residual.result _ c.from_residual.ensures.0
