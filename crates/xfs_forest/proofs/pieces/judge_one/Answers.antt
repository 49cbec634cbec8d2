use Rattle.std.proofs.Common.{List, [], ℕ, IfOk, get_or, refl, sym, subst}
use Rattle.std.proofs.lemmas.List.{get_or_default}
use Rattle.std.proofs.lemmas.Option.{get_or_from_slice_get}
use Rattle.xfs_geom.specs.Volumes.{volume_of}
use Rattle.xfs_tree.specs.Alone.{IsFound}
use Rattle.xfs_forest.proofs.pieces.judge_one.Goals as goal

pub returns : goal.returns
returns g c =
    let spot = c.args.cell.now.spot in
    record {
      spot = refl;
      found = λ p.
          subst (λ plant. IfOk c.read_step.result (IsFound (g.K.Kind.shape plant.kind) (volume_of c.args.g.now) spot (get_or c.args.bank.now spot.at [])))
          (get_or_default c.args.plants.now spot.tree c.index-plants-cell.result p c.requires.tree)
          (subst (λ (bytes : List ℕ). IfOk c.read_step.result (IsFound (g.K.Kind.shape (get_or c.args.plants.now spot.tree c.index-plants-cell.result).kind) (volume_of c.args.g.now) spot bytes))
          (sym (get_or_from_slice_get c.args.bank.now spot.at c.view.result.now [] c.view.ensures.block)) c.read_step.ensures);
    }
