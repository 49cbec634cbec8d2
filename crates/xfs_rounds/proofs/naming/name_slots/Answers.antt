use Rattle.std.proofs.Common.{ℕ, ◌<◌, length, refl, sym, subst, arith}
use Rattle.std.proofs.lemmas.Result.{IfOk-from_err}
use Rattle.std.specs.List.{All}
use Rattle.xfs_geom.specs.Volumes.{volume_of}
use Rattle.xfs_rounds.specs.declared.pieces.BlockParts.{BlockParts}
use Rattle.xfs_rounds.specs.Named.{IsAtHand, IsInPlace, IsNumbered}
use Rattle.xfs_rounds.proofs.Causes.{itself, none_under}
use Rattle.xfs_rounds.proofs.Numbering.{done_after, numbered_more, rest_after}
use Rattle.xfs_rounds.proofs.naming.name_slots.Goals as goal

pub loop-i-preserved : goal.loop-i-preserved
loop-i-preserved c =
    let v = volume_of c.args.g.now in
    let end = c.args.g.now.dblocks in
    let bank = c.args.bank.now in
    let xs = c.args.judged.now in
    let ys = c.loop-i.judged in
    let k = c.loop-i.i in
    let x = c.index-judged-i.result in
    let y = c.name_block.new.block in
    let old = c.loop-i.named in
    let new = c.name_block.new.named in
    let was = c.loop-i.invariant in
    let now = c.in_ok-name_block.ensures in
    let inside : k < length ys = omega arith in
    record {
      rest = rest_after xs ys k y was.rest;
      placed = done_after IsInPlace xs ys k x y inside was.rest was.placed now.placed;
      done = done_after (λ (a b : BlockParts). IsNumbered v end new bank b) xs ys k x y inside was.rest
          (λ j d under. numbered_more v end bank old new now.more _ (was.done j d under)) now.numbered;
      within = now.within;
    }

pub loop-i-init : goal.loop-i-init
loop-i-init c =
    let end = c.args.g.now.dblocks in
    record {
      rest = λ j d low. refl;
      placed = λ j d under. absurd (none_under j under);
      done = λ j d under. absurd (none_under j under);
      within = record {
        leaves = subst (All (λ (block : ℕ). block < end)) (sym c.new-named.ensures.leaves) (λ k d none. absurd (none_under k none));
        links = subst (All (λ (block : ℕ). block < end)) (sym c.new-named.ensures.links) (λ k d none. absurd (none_under k none));
      };
    }

pub name_block-requires-clause-at_hand : goal.name_block-requires-clause-at_hand
name_block-requires-clause-at_hand c =
    let k = c.loop-i.i in
    let x = c.index-judged-i.result in
    subst (IsAtHand (volume_of c.args.g.now) c.args.g.now.dblocks c.args.bank.now) (sym (c.loop-i.invariant.rest k x (itself k))) (c.requires.judged k x (omega arith))

pub returns : goal.returns
returns c =
    let all = c.loop-i.invariant in
    record {
      numbered = λ i d inside. all.done i d (omega arith);
      placed = λ i d inside. all.placed i d (omega arith);
      within = all.within;
    }

pub returns-in_err-name_block : goal.returns-in_err-name_block
returns-in_err-name_block c = record { numbered = IfOk-from_err c.from_residual.result _ c.from_residual.ensures.0; placed = IfOk-from_err c.from_residual.result _ c.from_residual.ensures.0; within = IfOk-from_err c.from_residual.result _ c.from_residual.ensures.0 }
