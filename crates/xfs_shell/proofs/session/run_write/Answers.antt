use Rattle.std.proofs.Common.{Bool, sym, subst}
use Rattle.xfs_shell.specs.Steps.{IsStep, stop_told}
use Rattle.xfs_shell.proofs.Stepping.{may_here}
use Rattle.xfs_shell.proofs.session.run_write.Goals as goal

pub returns-clause-disk : goal.returns-clause-disk
returns-clause-disk g c =
    subst
    (λ (may : Bool). IsStep g.D.Disk.size g.D.Disk.holds g.D.Disk.faults g.D.Disk.write_faults g.D.Disk.reads g.D.Disk.writes g.D.Disk.tells_stops g.D.Disk.moment g.D.Disk.may_leave g.D.Disk.left_since may c.args.disk.now c.run_set.new.disk (stop_told c.run_set.result))
    (sym (may_here c.args.leave.expert c.args.leave.read_only c.if-not-leave.false c.if-leave.false)) c.run_set.ensures.disk
