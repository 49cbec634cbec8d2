use borrow.Author.Rules.{scaled_Fits}
use Rattle.std.proofs.Common.{◌<◌, length, get_or, refl, subst, ◌∙◌, arith}
use Rattle.std.proofs.lemmas.List.{get_or_default, get_or-set_other}
use Rattle.xfs_geom.specs.Volumes.{volume_of}
use Rattle.xfs_rounds.specs.declared.pieces.BlockParts.{BlockParts}
use Rattle.xfs_rounds.specs.Named.{AreFoundIn, IsDone}
use Rattle.xfs_rounds.proofs.Rounds.{one_more}
use Rattle.xfs_rounds.proofs.settling.settle_piece.Goals as goal

pub loop-i-init : goal.loop-i-init
loop-i-init g c = record { rest = λ j d later. refl; done = λ j d before. absurd (omega arith) }

pub loop-i-preserved : goal.loop-i-preserved
loop-i-preserved g c =
    let v = volume_of c.args.g.now in
    let k = c.loop-i.i in
    let xs = c.args.piece.now in
    let ys = c.loop-i.piece in
    let y = c.settle_block.new.block in
    let R : BlockParts → BlockParts → Type 0 = IsDone v (AreFoundIn v c.args.named.now c.args.found.now) c.args.bank.now in
    let inside : k < length ys = omega arith in
    record {
      rest = λ j d later. get_or-set_other ys k j y d (λ e. omega arith) ∙ c.loop-i.invariant.rest j d (omega arith);
      done = λ j d before. one_more (λ i block. R (get_or xs i d) block) ys k y d inside (λ i under. c.loop-i.invariant.done i d under)
          (subst (λ (x : BlockParts). R x y) (get_or_default ys k _ d inside ∙ c.loop-i.invariant.rest k d (omega arith)) c.settle_block.ensures)
          j before;
    }

pub settle_block-requires-clause-found : goal.settle_block-requires-clause-found
settle_block-requires-clause-found g c = c.requires.found

pub offset_bounds-piece-i : goal.offset_bounds-piece-i
offset_bounds-piece-i g c = scaled_Fits c.loop-i.i (length c.args.piece.now) _ (omega arith) c.well_formed.1.1.1.1.1.1.1.0.1
