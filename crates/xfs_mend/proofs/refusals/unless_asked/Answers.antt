-- The log stands in the way, or not.
use Rattle.std.proofs.Common.{refl, sym, ◌∙◌}
use Rattle.xfs_mend.proofs.refusals.unless_asked.Goals as goal

pub returns-then-is_in_the_way : goal.returns-then-is_in_the_way
returns-then-is_in_the_way c = (sym c.is_in_the_way.ensures ∙ c.if-is_in_the_way.true, refl)

pub returns-else-is_in_the_way : goal.returns-else-is_in_the_way
returns-else-is_in_the_way c = (sym c.is_in_the_way.ensures ∙ c.if-is_in_the_way.false, refl)
