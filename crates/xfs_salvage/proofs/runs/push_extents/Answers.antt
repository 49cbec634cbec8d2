-- One extent more has its run.
use borrow.Author.Count.{falls}
use Rattle.std.proofs.Common.{ℕ, false, get_or, length, ap₂, refl}
use Rattle.std.proofs.lemmas.Result.{IfOk-from_err}
use Rattle.xfs_geom.specs.Volumes.{volume_of}
use Rattle.xfs_word.specs.declared.extents.Extent.{Extent}
use Rattle.xfs_views.specs.xfs_space.Owners.{extent_run, new_run}
use Rattle.xfs_views.proofs.xfs_space.OwnedRuns.{low_offset, run_next, runs_end}
use Rattle.xfs_salvage.proofs.runs.push_extents.Goals as goal

pub loop-extent-init : goal.loop-extent-init
loop-extent-init c = refl

pub word_of-requires-clause-flag : goal.word_of-requires-clause-flag
word_of-requires-clause-flag c = c.requires.flag

pub word_of-requires-clause-offset : goal.word_of-requires-clause-offset
word_of-requires-clause-offset c = low_offset _ _ (c.requires.placed c.loop-extent.extent-index record { offset = 0; start = 0; count = 0; unwritten = false } c.loop-extent-test.true).offsets

pub loop-extent-smaller : goal.loop-extent-smaller
loop-extent-smaller c = falls (length c.args.extents.now) c.loop-extent.extent-index c.loop-extent-test.true

pub loop-extent-preserved : goal.loop-extent-preserved
loop-extent-preserved c =
    let none : Extent = record { offset = 0; start = 0; count = 0; unwritten = false } in
    let extent : Extent = get_or c.args.extents.now c.loop-extent.extent-index none in
    run_next (extent_run (volume_of c.args.g.now) c.args.ino c.args.flag) c.args.extents.now c.loop-extent.extent-index none
    (new_run c.number_of_address.result extent.count c.args.ino c.word_of.result) c.loop-extent.runs.items c.push.new.self.items _ c.loop-extent-test.true
    (ap₂ (λ (block word : ℕ). new_run block extent.count c.args.ino word) c.number_of_address.ensures c.word_of.ensures) c.in_ok-push.ensures.items c.loop-extent.invariant

pub returns-in_err-push : goal.returns-in_err-push
returns-in_err-push c = IfOk-from_err c.from_residual.result _ c.from_residual.ensures.0

pub returns : goal.returns
returns c =
    runs_end (extent_run (volume_of c.args.g.now) c.args.ino c.args.flag) c.args.extents.now c.loop-extent.extent-index c.loop-extent.runs.items _ c.loop-extent-test.false c.loop-extent.invariant
