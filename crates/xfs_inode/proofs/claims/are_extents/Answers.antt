use Rattle.std.proofs.Common.{None, false, refl}
use Rattle.xfs_word.specs.declared.extents.Extent.{Extent}
use Rattle.xfs_geom.specs.Volumes.{volume_of}
use Rattle.xfs_inode.specs.Files.{are_extents}
use Rattle.xfs_inode.proofs.Placed.{extents_all, extents_more, extents_stop}
use Rattle.xfs_inode.proofs.claims.are_extents.Goals as goal

abbrev no_extent : Extent
no_extent = record { offset = 0; start = 0; count = 0; unwritten = false }

pub loop-extent-init : goal.loop-extent-init
loop-extent-init c = refl

pub loop-extent-preserved : goal.loop-extent-preserved
loop-extent-preserved c =
    let v = volume_of c.args.g.now in
    let es = c.args.extents.now in
    extents_more v c.loop-extent.before _ es c.loop-extent.extent-index no_extent c.lawful.result (are_extents v None es)
    c.loop-extent-test.true c.lawful.ensures c.as_ref.ensures.value c.if-not-lawful.false c.loop-extent.invariant

pub returns-then-not-lawful : goal.returns-then-not-lawful
returns-then-not-lawful c =
    let v = volume_of c.args.g.now in
    let es = c.args.extents.now in
    extents_stop v c.loop-extent.before _ es c.loop-extent.extent-index no_extent c.lawful.result (are_extents v None es)
    c.loop-extent-test.true c.lawful.ensures c.as_ref.ensures.value c.if-not-lawful.true c.loop-extent.invariant

pub returns : goal.returns
returns c =
    let v = volume_of c.args.g.now in
    let es = c.args.extents.now in
    extents_all v c.loop-extent.before es c.loop-extent.extent-index (are_extents v None es) c.loop-extent-test.false c.loop-extent.invariant
