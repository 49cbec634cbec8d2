use Rattle.std.proofs.Common.{◌≡◌, ℕ, subst, arith}
use Rattle.std.proofs.lemmas.Result.{IfOk-from_err}
use Rattle.xfs_geom.specs.Volumes.{volume_of}
use Rattle.xfs_rounds.specs.Judged.{ArePartsBelow}
use Rattle.xfs_rounds.proofs.judging.judge_block.Goals as goal

pub returns-in_err-parts : goal.returns-in_err-parts
returns-in_err-parts c = IfOk-from_err c.from_residual.result _ c.from_residual.ensures.0

pub push_slot-requires : goal.push_slot-requires
push_slot-requires c = record { volume = c.requires.volume; slot = c.loop-slot-test.true; whole = c.requires.whole; before = c.loop-slot.invariant }

pub returns-in_err-push_slot : goal.returns-in_err-push_slot
returns-in_err-push_slot c = IfOk-from_err c.from_residual-in_err-push_slot.result _ c.from_residual-in_err-push_slot.ensures.0

pub loop-slot-preserved : goal.loop-slot-preserved
loop-slot-preserved c = c.in_ok-push_slot.ensures

pub returns : goal.returns
returns c =
    let all : c.loop-slot.slot ≡ 8 = omega (arith, c.loop-slot-test.false, c.loop-slot.auto.slot-end) in
    subst (λ (n : ℕ). ArePartsBelow (volume_of c.args.g.now) c.args.block c.args.bytes.now n c.loop-slot.parts.items) all c.loop-slot.invariant
