-- What was taken is the disk that the tools were handed.
use Rattle.std.proofs.Common.{Some}
use Rattle.xfs_program.proofs.calling.call.Goals as goal

pub returns-in-Some : goal.returns-in-Some
returns-in-Some g c =
    let answered = c.answer.ensures in
    (Some c.in-Some.image, c.in-Some.ensures, (c.answer.new.disk, answered.0, answered.1, answered.2))
