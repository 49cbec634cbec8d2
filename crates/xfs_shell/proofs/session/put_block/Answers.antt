use Rattle.std.proofs.Common.{◌<◌, ℕ, sym, subst, rules}
use Rattle.xfs_shell.proofs.Passing.{goes_passes, write_passes}
use Rattle.xfs_shell.proofs.session.put_block.Goals as goal

pub returns-in-Ok-kept-clause-disk : goal.returns-in-Ok-kept-clause-disk
returns-in-Ok-kept-clause-disk g c = search rules

pub returns-in-Err-clause-passes : goal.returns-in-Err-clause-passes
returns-in-Err-clause-passes g c =
    λ image told.
    write_passes g.D.Disk.size g.D.Disk.holds g.D.Disk.faults g.D.Disk.write_faults g.D.Disk.reads g.D.Disk.writes g.D.Disk.tells_stops g.D.Disk.moment
    g.D.Disk.may_leave g.D.Disk.left_since
    image c.args.at c.args.block.now c.args.disk.now c.write.new.self told
    (subst (λ (n : ℕ). c.args.at < n) (sym (g.met.D.Disk.shape c.args.disk.now image told).count) c.requires.inside) c.write.ensures.time c.write.ensures.stops

pub returns-in-Ok-kept-clause-passes : goal.returns-in-Ok-kept-clause-passes
returns-in-Ok-kept-clause-passes g c =
    λ image told.
    goes_passes g.D.Disk.size g.D.Disk.holds g.D.Disk.faults g.D.Disk.write_faults g.D.Disk.reads g.D.Disk.writes g.D.Disk.tells_stops g.D.Disk.moment
    g.D.Disk.may_leave g.D.Disk.left_since
    image _ c.args.disk.now c.write.new.self c.sync-kept.new.self
    (write_passes g.D.Disk.size g.D.Disk.holds g.D.Disk.faults g.D.Disk.write_faults g.D.Disk.reads g.D.Disk.writes g.D.Disk.tells_stops g.D.Disk.moment
    g.D.Disk.may_leave g.D.Disk.left_since
    image c.args.at c.args.block.now c.args.disk.now c.write.new.self told
    (subst (λ (n : ℕ). c.args.at < n) (sym (g.met.D.Disk.shape c.args.disk.now image told).count) c.requires.inside) c.write.ensures.time c.write.ensures.stops)
    c.write.ensures.tells c.sync-kept.ensures.past

pub returns-in-Err-kept-clause-passes : goal.returns-in-Err-kept-clause-passes
returns-in-Err-kept-clause-passes g c =
    λ image told.
    goes_passes g.D.Disk.size g.D.Disk.holds g.D.Disk.faults g.D.Disk.write_faults g.D.Disk.reads g.D.Disk.writes g.D.Disk.tells_stops g.D.Disk.moment
    g.D.Disk.may_leave g.D.Disk.left_since
    image _ c.args.disk.now c.write.new.self c.sync-kept.new.self
    (write_passes g.D.Disk.size g.D.Disk.holds g.D.Disk.faults g.D.Disk.write_faults g.D.Disk.reads g.D.Disk.writes g.D.Disk.tells_stops g.D.Disk.moment
    g.D.Disk.may_leave g.D.Disk.left_since
    image c.args.at c.args.block.now c.args.disk.now c.write.new.self told
    (subst (λ (n : ℕ). c.args.at < n) (sym (g.met.D.Disk.shape c.args.disk.now image told).count) c.requires.inside) c.write.ensures.time c.write.ensures.stops)
    c.write.ensures.tells c.sync-kept.ensures.past
