use borrow.Author.Rules.{scaled_Fits}
use borrow.Author.Count.{falls}
use Rattle.std.proofs.Common.{refl, sym, subst, arith, length}
use Rattle.std.proofs.lemmas.List.{get_or_default}
use Rattle.xfs_forest.specs.Forest.{IsDescended, IsThrough}
use Rattle.xfs_forest.proofs.Forests.{done_after, rest_after}
use Rattle.xfs_forest.proofs.levels.descend_all.Goals as goal

pub loop-i-init : goal.loop-i-init
loop-i-init g c = record { rest = λ j d later. refl; done = λ j d before. absurd (omega arith) }

pub descend-requires : goal.descend-requires
descend-requires g c =
    record {
      through = subst IsThrough (sym (c.loop-i.invariant.rest c.loop-i.i c.index-trees-i.result (omega arith))) (c.requires.through c.loop-i.i c.index-trees-i.result (omega arith));
    }

pub loop-i-preserved : goal.loop-i-preserved
loop-i-preserved g c =
    record {
      rest = rest_after c.args.trees.now c.loop-i.trees c.loop-i.i c.descend.new.tree c.loop-i.invariant.rest;
      done = done_after IsDescended c.args.trees.now c.loop-i.trees c.loop-i.i _ c.descend.new.tree (omega arith)
          c.loop-i.invariant.rest c.loop-i.invariant.done (get_or_default c.loop-i.trees c.loop-i.i c.index-trees-i.result _ (omega arith)) c.descend.ensures;
    }

pub returns : goal.returns
returns g c = λ i d inside. c.loop-i.invariant.done i d (omega arith)

pub bounds-trees-i : goal.bounds-trees-i
bounds-trees-i g c = omega arith

pub loop-i-smaller : goal.loop-i-smaller
loop-i-smaller g c = falls _ c.loop-i.i c.loop-i-test.true

pub offset_bounds-trees-i : goal.offset_bounds-trees-i
offset_bounds-trees-i g c = scaled_Fits c.loop-i.i (length c.args.trees.now) _ (omega arith) c.well_formed.1.0.1
