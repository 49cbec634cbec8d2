use Rattle.std.proofs.Common.{rules, arith}
use Rattle.xfs_shell.proofs.Filling.{behind_taken}
use Rattle.xfs_shell.proofs.input.take_behind.Goals as goal

pub returns-in-Ok-clause-moved : goal.returns-in-Ok-clause-moved
returns-in-Ok-clause-moved g c =
    λ left told.
    let m = c.in-Ok.ensures.moved left told in
    (m.0, behind_taken c.args.buffer.now c.take.new.into _ left c.args.count c.in-Ok.taken (omega (arith, c.requires)) (search rules) m.1, m.2)
