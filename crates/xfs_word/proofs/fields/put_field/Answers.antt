use Rattle.xfs_word.proofs.Written.{keeps, keeps_parts}
use Rattle.xfs_word.proofs.fields.put_field.Goals as goal

pub returns-clause-keeps : goal.returns-clause-keeps
returns-clause-keeps c = keeps c.args.bytes.now c.write.new.bytes c.args.at c.args.width c.write.ensures.others

pub returns-clause-keeps_parts : goal.returns-clause-keeps_parts
returns-clause-keeps_parts c =
    keeps_parts c.args.bytes.now c.write.new.bytes c.args.at c.args.width c.write.auto.bytes c.write.ensures.others
