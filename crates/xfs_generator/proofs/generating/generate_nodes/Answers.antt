use Rattle.std.proofs.Common.{ap, ◌∙◌}
use Rattle.xfs_generator.specs.Files.{generated_node, node_of}
use Rattle.xfs_generator.proofs.Making.{next_made}
use Rattle.xfs_generator.proofs.generating.generate_nodes.Goals as goal

pub loop-place-preserved : goal.loop-place-preserved
loop-place-preserved c =
    next_made generated_node c.loop-place.place c.loop-place.nodes.items c.push.new.self.items c.in_ok-node.node c.loop-place.invariant c.in_ok-push.ensures.items
    (c.in_ok-node.ensures ∙ ap node_of c.spot_of.ensures.value)
