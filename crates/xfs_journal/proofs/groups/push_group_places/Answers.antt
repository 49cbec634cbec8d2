use Rattle.std.proofs.Common.{length, refl, arith}
use Rattle.std.proofs.lemmas.Result.{IfOk-from_err}
use borrow.Author.Count.{falls}
use Rattle.xfs_geom.specs.Volumes.{volume_of}
use Rattle.xfs_journal.specs.Placed.{listed}
use Rattle.xfs_journal.proofs.ByGroup.{group_more, groups_all}
use Rattle.xfs_journal.proofs.groups.push_group_places.Goals as goal

pub loop-ag-init : goal.loop-ag-init
loop-ag-init c = record { listed = refl; inside = c.requires.inside }

pub push_heads-requires : goal.push_heads-requires
push_heads-requires c = record { inside = c.loop-ag.invariant.inside }

pub returns-in_err-push_heads-clause-listed : goal.returns-in_err-push_heads-clause-listed
returns-in_err-push_heads-clause-listed c = IfOk-from_err c.from_residual.result _ c.from_residual.ensures.0

pub returns-in_err-push_heads-clause-inside : goal.returns-in_err-push_heads-clause-inside
returns-in_err-push_heads-clause-inside c = c.push_heads.ensures.inside

pub push_trees-requires : goal.push_trees-requires
push_trees-requires c = record { inside = c.push_heads.ensures.inside }

pub returns-in_err-push_trees-clause-listed : goal.returns-in_err-push_trees-clause-listed
returns-in_err-push_trees-clause-listed c = IfOk-from_err c.from_residual-in_err-push_trees.result _ c.from_residual-in_err-push_trees.ensures.0

pub returns-in_err-push_trees-clause-inside : goal.returns-in_err-push_trees-clause-inside
returns-in_err-push_trees-clause-inside c = c.push_trees.ensures.inside

pub loop-ag-smaller : goal.loop-ag-smaller
loop-ag-smaller c = falls (length c.args.groups.now) c.loop-ag.ag c.loop-ag-test.true

pub loop-ag-preserved : goal.loop-ag-preserved
loop-ag-preserved c =
    record {
      listed = group_more (volume_of c.args.g.now) c.index-groups-ag.result c.args.groups.now c.loop-ag.ag (listed c.loop-ag.places.items) (listed c.push_heads.new.places.items) (listed c.push_trees.new.places.items) _
          c.loop-ag-test.true c.index-groups-ag.is c.in_ok-push_heads.ensures.listed c.in_ok-push_trees.ensures.listed c.loop-ag.invariant.listed;
      inside = c.push_trees.ensures.inside;
    }

pub returns-clause-listed : goal.returns-clause-listed
returns-clause-listed c = groups_all (volume_of c.args.g.now) c.args.groups.now c.loop-ag.ag (listed c.loop-ag.places.items) _ (omega (arith, c.loop-ag-test.false)) c.loop-ag.invariant.listed

pub returns-clause-inside : goal.returns-clause-inside
returns-clause-inside c = c.loop-ag.invariant.inside
