use borrow.Author.Rules.{scaled_Fits}
use borrow.Author.Count.{falls}
use Rattle.std.proofs.Common.{refl, sym, subst, arith, length}
use Rattle.std.proofs.lemmas.List.{get_or_default}
use Rattle.xfs_geom.specs.Volumes.{volume_of}
use Rattle.xfs_forest.specs.Forest.{IsInRound, IsJudged}
use Rattle.xfs_forest.proofs.Forests.{done_after, rest_after}
use Rattle.xfs_forest.proofs.pieces.judge_piece.Goals as goal

pub loop-i-init : goal.loop-i-init
loop-i-init g c = record { rest = λ j d later. refl; done = λ j d before. absurd (omega arith) }

pub judge_one-requires-after_bounds : goal.judge_one-requires-after_bounds
judge_one-requires-after_bounds g c = λ κs lives.
    let i = c.loop-i.i in
    let cell = c.index-piece-i.result in
    subst (IsInRound c.args.plants.now c.args.bank.now c.args.g.now.dblocks) (sym (c.loop-i.invariant.rest i cell (omega arith))) (c.requires i cell (omega arith))

pub loop-i-preserved : goal.loop-i-preserved
loop-i-preserved g c =
    record {
      rest = rest_after c.args.piece.now c.loop-i.piece c.loop-i.i c.judge_one.new.cell c.loop-i.invariant.rest;
      done = done_after (IsJudged g.K.Kind.shape (volume_of c.args.g.now) c.args.plants.now c.args.bank.now) c.args.piece.now c.loop-i.piece c.loop-i.i _ c.judge_one.new.cell (omega arith)
          c.loop-i.invariant.rest c.loop-i.invariant.done (get_or_default c.loop-i.piece c.loop-i.i c.index-piece-i.result _ (omega arith)) c.judge_one.ensures;
    }

pub returns : goal.returns
returns g c = λ i d inside. c.loop-i.invariant.done i d (omega arith)

pub bounds-piece-i : goal.bounds-piece-i
bounds-piece-i g c = omega arith

pub loop-i-smaller : goal.loop-i-smaller
loop-i-smaller g c = falls _ c.loop-i.i c.loop-i-test.true

pub offset_bounds-piece-i : goal.offset_bounds-piece-i
offset_bounds-piece-i g c = scaled_Fits c.loop-i.i (length c.args.piece.now) _ (omega arith) c.well_formed.1.1.1.1.1.1.0.1
