use Rattle.std.proofs.Common.{length, refl, arith}
use Rattle.std.proofs.lemmas.Result.{IfOk-from_err}
use borrow.Author.Count.{falls}
use Rattle.xfs_image.specs.Lsns.{at}
use Rattle.xfs_journal.specs.Placed.{listed}
use Rattle.xfs_journal.proofs.Listing.{mapped_at, mapped_to_end}
use Rattle.xfs_journal.proofs.places.push_each.Goals as goal

pub loop-block-init : goal.loop-block-init
loop-block-init c = record { listed = refl; inside = c.requires.inside }

pub push-requires-clause-byte : goal.push-requires-clause-byte
push-requires-clause-byte c = c.requires.byte

pub push-requires-clause-inside : goal.push-requires-clause-inside
push-requires-clause-inside c = c.loop-block.invariant.inside

pub returns-in_err-push-clause-listed : goal.returns-in_err-push-clause-listed
returns-in_err-push-clause-listed c = IfOk-from_err c.from_residual.result _ c.from_residual.ensures.0

pub returns-in_err-push-clause-inside : goal.returns-in_err-push-clause-inside
returns-in_err-push-clause-inside c = c.push.ensures.inside

pub loop-block-smaller : goal.loop-block-smaller
loop-block-smaller c = falls (length c.args.blocks.now) c.loop-block.block-index c.loop-block-test.true

pub loop-block-preserved : goal.loop-block-preserved
loop-block-preserved c =
    record {
      listed = mapped_at (at c.args.byte) c.args.blocks.now c.loop-block.block-index 0 (listed c.loop-block.places.items) (listed c.push.new.places.items) _
          c.loop-block-test.true c.in_ok-push.ensures.listed c.loop-block.invariant.listed;
      inside = c.push.ensures.inside;
    }

pub returns-clause-listed : goal.returns-clause-listed
returns-clause-listed c = mapped_to_end (at c.args.byte) c.args.blocks.now c.loop-block.block-index (listed c.loop-block.places.items) _ (omega (arith, c.loop-block-test.false)) c.loop-block.invariant.listed

pub returns-clause-inside : goal.returns-clause-inside
returns-clause-inside c = c.loop-block.invariant.inside
