use Rattle.std.proofs.Common.{rules, sym, ◌∙◌}
use Rattle.xfs_geom.specs.Volumes.{volume_of}
use Rattle.xfs_forest.proofs.Trees.{growing_broken, growing_joined}
use Rattle.xfs_forest.proofs.joining.join_cell.Goals as goal

pub returns-in-Some-clause-grows : goal.returns-in-Some-clause-grows
returns-in-Some-clause-grows g c = λ image whole spots judged growing.
    growing_broken (g.K.Kind.shape c.args.kind.now) (volume_of c.args.g.now) image whole c.args.tree.now c.args.cell.now c.in-Ok.found spots c.in-Some.rule
    (search rules) c.in-Ok.is (sym c.rule_behind.ensures ∙ c.in-Some.is) judged growing

pub returns-in_ok-add_found-in-None-clause-grows : goal.returns-in_ok-add_found-in-None-clause-grows
returns-in_ok-add_found-in-None-clause-grows g c = λ image whole spots judged growing.
    growing_joined (g.K.Kind.shape c.args.kind.now) (volume_of c.args.g.now) image whole c.args.tree.now c.add_found.new.tree c.args.cell.now c.in-Ok.found spots
    c.in-Ok.is (sym c.rule_behind.ensures ∙ c.in-None.is) (search rules) judged growing
