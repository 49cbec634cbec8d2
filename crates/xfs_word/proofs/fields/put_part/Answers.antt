use Rattle.std.proofs.Common.{length}
use Rattle.xfs_word.proofs.Written.{keeps, keeps_parts}
use Rattle.xfs_word.proofs.fields.put_part.Goals as goal

pub returns-clause-keeps : goal.returns-clause-keeps
returns-clause-keeps c = keeps c.args.bytes.now c.copy.new.bytes c.args.at (length c.args.value.now) c.copy.ensures.others

pub returns-clause-keeps_parts : goal.returns-clause-keeps_parts
returns-clause-keeps_parts c =
    keeps_parts c.args.bytes.now c.copy.new.bytes c.args.at (length c.args.value.now) c.copy.auto.bytes c.copy.ensures.others
