use Rattle.std.proofs.Common.{ap, ◌∙◌}
use Rattle.xfs_generator.specs.Files.{content_of, generated_content}
use Rattle.xfs_generator.proofs.Making.{next_made}
use Rattle.xfs_generator.proofs.generating.generate_contents.Goals as goal

pub loop-place-preserved : goal.loop-place-preserved
loop-place-preserved c =
    next_made generated_content c.loop-place.place c.loop-place.contents.items c.push.new.self.items c.in_ok-content.content c.loop-place.invariant c.in_ok-push.ensures.items
    (c.in_ok-content.ensures ∙ ap content_of c.spot_of.ensures.value)
