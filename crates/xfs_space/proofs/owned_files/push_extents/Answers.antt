use Rattle.std.proofs.Common.{ℕ, false, get_or, ap₂, refl}
use Rattle.xfs_geom.specs.Volumes.{volume_of}
use Rattle.xfs_word.specs.declared.extents.Extent.{Extent}
use Rattle.xfs_space.specs.Owners.{extent_run, new_run}
use Rattle.xfs_space.proofs.OwnedRuns.{low_offset, run_next, runs_end}
use Rattle.xfs_space.proofs.owned_files.push_extents.Goals as goal

pub loop-extent-init : goal.loop-extent-init
loop-extent-init c = refl

pub block_of-block-requires : goal.block_of-block-requires
block_of-block-requires c = (c.requires.placed c.loop-extent.extent-index record { offset = 0; start = 0; count = 0; unwritten = false } c.loop-extent-test.true).group

pub word_of-requires-clause-flag : goal.word_of-requires-clause-flag
word_of-requires-clause-flag c = c.requires.flag

pub word_of-requires-clause-offset : goal.word_of-requires-clause-offset
word_of-requires-clause-offset c = low_offset _ _ (c.requires.placed c.loop-extent.extent-index record { offset = 0; start = 0; count = 0; unwritten = false } c.loop-extent-test.true).offsets

pub loop-extent-preserved : goal.loop-extent-preserved
loop-extent-preserved c =
    let none : Extent = record { offset = 0; start = 0; count = 0; unwritten = false } in
    let extent : Extent = get_or c.args.extents.now c.loop-extent.extent-index none in
    run_next (extent_run (volume_of c.args.g.now) c.args.ino c.args.flag) c.args.extents.now c.loop-extent.extent-index none
    (new_run c.block_of-block.result extent.count c.args.ino c.word_of.result) c.loop-extent.runs.items c.push_run.new.runs.items _ c.loop-extent-test.true
    (ap₂ (λ (block word : ℕ). new_run block extent.count c.args.ino word) c.block_of-block.ensures c.word_of.ensures) c.in_ok-push_run.ensures c.loop-extent.invariant

pub returns-clause-put : goal.returns-clause-put
returns-clause-put c =
    runs_end (extent_run (volume_of c.args.g.now) c.args.ino c.args.flag) c.args.extents.now c.loop-extent.extent-index c.loop-extent.runs.items _ c.loop-extent-test.false c.loop-extent.invariant
