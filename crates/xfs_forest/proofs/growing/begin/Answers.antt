use Rattle.std.proofs.Common.{[], None, rules, refl}
use Rattle.xfs_tree.specs.Reading.{reading}
use Rattle.xfs_forest.proofs.Growth.{live_begins}
use Rattle.xfs_forest.proofs.Trees.{live_same}
use Rattle.xfs_forest.proofs.growing.begin.Goals as goal

pub returns-clause-grows : goal.returns-clause-grows
returns-clause-grows g c = λ v image.
    let s = g.K.Kind.shape c.args.plant.now.kind in
    let tops = c.args.plant.now.tops.items in
    let height = c.args.plant.now.height in
    live_same s v image (reading s v image tops height) height height [] c.new.result.blocks.items None None None None tops c.in_ok-from_slice.field-0.items
    [] c.new-2.result.items [] c.new-3.result.items [] [] refl c.new.ensures.none refl refl (search rules) c.new-2.ensures.items c.new-3.ensures.items refl
    (live_begins s v image tops height)
