use Rattle.std.proofs.Common.{List, [], ℕ, IfOk, refl, sym, subst}
use Rattle.std.proofs.lemmas.Option.{get_or_from_slice_get}
use Rattle.xfs_geom.specs.Volumes.{volume_of}
use Rattle.xfs_rounds.specs.Judged.{ArePartsOf}
use Rattle.xfs_rounds.proofs.pieces.judge_one.Goals as goal

pub returns : goal.returns
returns c =
    let block = c.args.block.now in
    record {
      place = refl;
      at = refl;
      known = subst (λ (bytes : List ℕ). IfOk c.judge_block.result (λ parts. ArePartsOf (volume_of c.args.g.now) block.place bytes parts.items))
          (sym (get_or_from_slice_get c.args.bank.now block.at c.view.result.now [] c.view.ensures.block)) c.judge_block.ensures;
    }
