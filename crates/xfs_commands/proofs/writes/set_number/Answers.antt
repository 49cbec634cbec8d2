use Rattle.std.proofs.Common.{◌∙◌, sym}
use Rattle.xfs_commands.proofs.InBlocks.{sector_object, whole_object, whole_in}
use Rattle.xfs_commands.proofs.writes.set_number.Goals as goal

pub returns-then-is_sector-clause-block : goal.returns-then-is_sector-clause-block
returns-then-is_sector-clause-block c = rw (sector_object _ _ _ _ (sym c.is_sector.ensures ∙ c.if-is_sector.true)) c.set_in_sector.ensures.block

pub returns-else-is_sector-clause-block : goal.returns-else-is_sector-clause-block
returns-else-is_sector-clause-block c =
    rw (
      whole_object _ _ _ _ (sym c.is_sector.ensures ∙ c.if-is_sector.false),
      whole_in _ _ _ (sym c.is_sector.ensures ∙ c.if-is_sector.false),
    ) c.set_in_object.ensures.object
