use Rattle.std.proofs.Common.{Ok, sym, ◌∙◌}
use Rattle.xfs_forest.proofs.Trees.{growing_ends, growing_fault}
use Rattle.xfs_forest.proofs.planting.finish.Goals as goal

pub returns-in-Some : goal.returns-in-Some
returns-in-Some g c = λ s v image whole growing. sym (growing_fault s v image whole c.args.tree.now _ c.in-Some.fault c.in-Some.is growing)

pub returns-in-None : goal.returns-in-None
returns-in-None g c = λ s v image whole growing.
    (λ i. Ok (record { records = (c.replace.ensures.value i).items; blocks = (c.replace-in-None.ensures.value i).items }))
    ∙ sym (growing_ends s v image whole c.args.tree.now c.in-None.is c.requires.done growing)
