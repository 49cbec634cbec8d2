use Rattle.std.proofs.Common.{refl}
use Rattle.std.proofs.lemmas.Result.{IfOk-from_err}
use Rattle.xfs_geom.specs.Volumes.{volume_of}
use Rattle.xfs_changes.specs.Replaced.{blocks_replaced, replaced_blocks}
use Rattle.xfs_changes.proofs.Pushing.{rows_end, rows_item}
use Rattle.xfs_changes.proofs.replaced.push_replaced.Goals as goal

pub loop-file-init : goal.loop-file-init
loop-file-init c = refl

pub push_of_file-requires : goal.push_of_file-requires
push_of_file-requires c = record { rebuilt = c.requires.rebuilt }

pub loop-file-preserved : goal.loop-file-preserved
loop-file-preserved c =
    rows_item (blocks_replaced (volume_of c.args.g.now) c.args.rebuilt.now) c.args.files.now c.loop-file.file-index c.file-item.result c.loop-file.blocks.items
    c.push_of_file.new.blocks.items _ c.loop-file-test.true c.file-item.is c.in_ok-push_of_file.ensures c.loop-file.invariant

pub returns : goal.returns
unfolding replaced_blocks
returns c =
    rows_end (blocks_replaced (volume_of c.args.g.now) c.args.rebuilt.now) c.args.files.now c.loop-file.file-index c.loop-file.blocks.items _ c.loop-file-test.false
    c.loop-file.invariant

pub returns-in_err-push_of_file : goal.returns-in_err-push_of_file
returns-in_err-push_of_file c = IfOk-from_err c.from_residual.result _ c.from_residual.ensures.0
