use Rattle.std.proofs.Common.{◌≤◌, ◌∙◌, inl, arith}
use Rattle.xfs_writing.proofs.Mixing.{mixed_behind}
use Rattle.xfs_writing.specs.Writing.{writes_of_rows}
use Rattle.xfs_writing.proofs.writing.write_part.Goals as goal

pub returns-in-Ok-clause-stops : goal.returns-in-Ok-clause-stops
returns-in-Ok-clause-stops g c = λ tells image told t stopped low left.
    let D = g.D.Disk in
    let synced = c.in-Ok.ensures.past tells in
    let later : D.moment c.args.disk.now ≤ D.moment c.sync.new.self = synced.later in
    mixed_behind (writes_of_rows c.args.bank.now c.args.rows.now) image stopped t (D.moment c.args.disk.now) (D.moment c.sync.new.self)
    (D.left_since c.args.disk.now) (D.left_since c.sync.new.self) synced low
    (c.write_each.ensures.stops (c.in-Ok.ensures.tells tells) image (c.in-Ok.ensures.holds ∙ told) (c.in-Ok.ensures.kept tells image told) t stopped (omega (arith, low, later)) left)

pub returns-in-Err-clause-stops : goal.returns-in-Err-clause-stops
returns-in-Err-clause-stops g c = λ tells image told t stopped low left. let synced = c.in-Err.ensures.past tells in inl (synced.nothing_new t stopped low left)
