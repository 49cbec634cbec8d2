use Rattle.std.proofs.Common.{◌≡◌, ◌≤◌, ◌<◌, ◌+◌, ℕ, Bool, true, false, length, refl, ap, arith}
use Rattle.xfs_place.specs.Choice.{one_if}
use Rattle.std.proofs.lemmas.Result.{IfOk-from_err}
use borrow.Author.Count.{falls}
use Rattle.xfs_place.proofs.lowest.Lowest.first.Goals as goal

pub new-requires : goal.new-requires
new-requires c = c.requires.few

pub take_next-requires-clause-few : goal.take_next-requires-clause-few
take_next-requires-clause-few c = c.requires.few

pub take_next-requires-clause-header : goal.take_next-requires-clause-header
take_next-requires-clause-header c = c.requires.header

pub take_next-requires-clause-stands : goal.take_next-requires-clause-stands
take_next-requires-clause-stands c = c.loop-block.invariant.stands

pub loop-block-init : goal.loop-block-init
loop-block-init c = record { stands = c.in_ok-lowest.ensures.stands; all = ap length c.in_ok-lowest.ensures.none }

-- a block is taken, as some are left
one_more : (more : Bool) (old new i blocks all : ℕ) → new ≡ old + one_if more → (more ≡ false → all ≡ old) → old ≡ i → i < blocks → blocks ≤ all → new ≡ i + 1
one_more true old new i blocks all is none at low there = omega (arith, is, at)
one_more false old new i blocks all is none at low there = absurd (omega (arith, none refl, at, low, there))

pub loop-block-preserved : goal.loop-block-preserved
loop-block-preserved c = record {
  stands = c.in_ok-_taken.ensures.stands;
  all = one_more c.in_ok-_taken._taken (length c.loop-block.lowest.blocks.items) (length c.take_next.new.self.blocks.items) c.loop-block._block c.args.blocks _ c.in_ok-_taken.ensures.taken
      c.in_ok-_taken.ensures.all c.loop-block.invariant.all c.loop-block-test.true c.requires.there;
}

pub returns-clause-stands : goal.returns-clause-stands
returns-clause-stands c = c.loop-block.invariant.stands

pub returns-in_err-lowest-clause-stands : goal.returns-in_err-lowest-clause-stands
returns-in_err-lowest-clause-stands c = IfOk-from_err c.from_residual.result _ c.from_residual.ensures.0

pub returns-in_err-lowest-clause-all : goal.returns-in_err-lowest-clause-all
returns-in_err-lowest-clause-all c = IfOk-from_err c.from_residual.result _ c.from_residual.ensures.0

pub returns-in_err-_taken-clause-stands : goal.returns-in_err-_taken-clause-stands
returns-in_err-_taken-clause-stands c = IfOk-from_err c.from_residual-in_err-_taken.result _ c.from_residual-in_err-_taken.ensures.0

pub returns-in_err-_taken-clause-all : goal.returns-in_err-_taken-clause-all
returns-in_err-_taken-clause-all c = IfOk-from_err c.from_residual-in_err-_taken.result _ c.from_residual-in_err-_taken.ensures.0

pub loop-block-smaller : goal.loop-block-smaller
loop-block-smaller c = falls c.args.blocks c.loop-block._block c.loop-block-test.true
