use Rattle.std.proofs.Common.{ap, sym}
use Rattle.xfs_tools.specs.Answers.{answer_of}
use Rattle.xfs_tools.proofs.answer.Answer.of_outcome.Goals as goal

pub returns-in-ReadFault : goal.returns-in-ReadFault
returns-in-ReadFault c = sym (ap answer_of c.in-ReadFault.is)
