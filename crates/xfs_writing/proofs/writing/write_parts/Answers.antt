-- The first rows, and then the last.
use Rattle.std.proofs.Common.{◌≤◌, ◌∙◌, ap, refl, length, arith}
use Rattle.xfs_disk.specs.Counts.{raised_times}
use Rattle.xfs_writing.proofs.Counted.{raised_further}
use Rattle.xfs_writing.proofs.Mixing.{stopped_first, stopped_last}
use Rattle.xfs_writing.proofs.Steps.{all_partly, both_written, last_partly}
use Rattle.xfs_writing.specs.Writing.{written, writes_of_rows}
use Rattle.xfs_writing.proofs.writing.write_parts.Goals as goal

pub returns-in-Err-clause-stops : goal.returns-in-Err-clause-stops
returns-in-Err-clause-stops g c = λ tells image told t stopped low left.
    stopped_first (writes_of_rows c.args.bank.now c.args.first.now) (writes_of_rows c.args.bank.now c.args.last.now) image stopped
    (g.D.Disk.left_since c.args.disk.now t stopped) (c.in-Err.ensures.stops tells image told t stopped low left)

pub returns-in-Err-write_part-clause-partly : goal.returns-in-Err-write_part-clause-partly
returns-in-Err-write_part-clause-partly g c = λ image told.
    last_partly c.args.bank.now c.args.first.now c.args.last.now image c.in-Err-write_part.written _ (g.D.Disk.holds c.write_part-2.new.disk) refl
    (c.in-Err-write_part.ensures.partly _ (c.in-Ok.ensures.done image told))

pub returns-in-Err-write_part-clause-counted : goal.returns-in-Err-write_part-clause-counted
returns-in-Err-write_part-clause-counted g c =
    c.in-Err-write_part.ensures.counted
    ∙ ap (raised_times c.in-Err-write_part.written) c.in-Ok.ensures.counted
    ∙ raised_further (length c.args.first.now) c.in-Err-write_part.written (g.D.Disk.writes c.args.disk.now)

pub returns-in-Ok-sync-clause-done : goal.returns-in-Ok-sync-clause-done
returns-in-Ok-sync-clause-done g c = λ image told.
    both_written c.args.bank.now c.args.first.now c.args.last.now image (g.D.Disk.holds c.sync.new.self)
    (c.in-Ok-sync.ensures.holds ∙ c.in-Ok-write_part.ensures.done _ (c.in-Ok.ensures.done image told))

pub returns-in-Ok-sync-clause-counted : goal.returns-in-Ok-sync-clause-counted
returns-in-Ok-sync-clause-counted g c =
    c.in-Ok-sync.ensures.writes
    ∙ c.in-Ok-write_part.ensures.counted
    ∙ ap (raised_times (length c.args.last.now)) c.in-Ok.ensures.counted
    ∙ raised_further (length c.args.first.now) (length c.args.last.now) (g.D.Disk.writes c.args.disk.now)

pub returns-in-Err-sync-clause-partly : goal.returns-in-Err-sync-clause-partly
returns-in-Err-sync-clause-partly g c = λ image told.
    all_partly c.args.bank.now c.args.first.now c.args.last.now image _ (g.D.Disk.holds c.sync.new.self) refl
    (c.in-Err-sync.ensures.holds ∙ c.in-Ok-write_part.ensures.done _ (c.in-Ok.ensures.done image told))

pub returns-in-Err-sync-clause-counted : goal.returns-in-Err-sync-clause-counted
returns-in-Err-sync-clause-counted g c =
    c.in-Err-sync.ensures.writes
    ∙ c.in-Ok-write_part.ensures.counted
    ∙ ap (raised_times (length c.args.last.now)) c.in-Ok.ensures.counted
    ∙ raised_further (length c.args.first.now) (length c.args.last.now) (g.D.Disk.writes c.args.disk.now)

pub returns-in-Err-write_part-clause-stops : goal.returns-in-Err-write_part-clause-stops
returns-in-Err-write_part-clause-stops g c = λ tells image told t stopped low left.
    let D = g.D.Disk in
    let first = writes_of_rows c.args.bank.now c.args.first.now in
    let between = c.in-Ok.ensures.tells tells in
    let later : D.moment c.args.disk.now ≤ D.moment c.write_part.new.disk = c.in-Ok.ensures.later tells in
    let early : t ≤ D.moment c.write_part.new.disk = omega (arith, low, later) in
    stopped_last first (writes_of_rows c.args.bank.now c.args.last.now) image stopped (D.left_since c.args.disk.now t stopped)
    (D.left_since c.write_part.new.disk t stopped) (c.in-Ok.ensures.stops tells image told t stopped low)
    (c.in-Err-write_part.ensures.stops between (written first image) (c.in-Ok.ensures.done image told) t stopped early left)

pub returns-in-Ok-sync-clause-stops : goal.returns-in-Ok-sync-clause-stops
returns-in-Ok-sync-clause-stops g c = λ tells image told t stopped low left.
    let D = g.D.Disk in
    let first = writes_of_rows c.args.bank.now c.args.first.now in
    let between = c.in-Ok.ensures.tells tells in
    let later : D.moment c.args.disk.now ≤ D.moment c.write_part.new.disk = c.in-Ok.ensures.later tells in
    let early : t ≤ D.moment c.write_part.new.disk = omega (arith, low, later) in
    let latest : D.moment c.write_part.new.disk ≤ D.moment c.write_part-2.new.disk = c.in-Ok-write_part.ensures.later between in
    let synced = c.in-Ok-sync.ensures.past (c.in-Ok-write_part.ensures.tells between) in
    stopped_last first (writes_of_rows c.args.bank.now c.args.last.now) image stopped (D.left_since c.args.disk.now t stopped)
    (D.left_since c.write_part.new.disk t stopped) (c.in-Ok.ensures.stops tells image told t stopped low)
    (c.in-Ok-write_part.ensures.stops between (written first image) (c.in-Ok.ensures.done image told) t stopped early (synced.nothing_new t stopped (omega (arith, early, latest)) left))

pub returns-in-Err-sync-clause-stops : goal.returns-in-Err-sync-clause-stops
returns-in-Err-sync-clause-stops g c = λ tells image told t stopped low left.
    let D = g.D.Disk in
    let first = writes_of_rows c.args.bank.now c.args.first.now in
    let between = c.in-Ok.ensures.tells tells in
    let later : D.moment c.args.disk.now ≤ D.moment c.write_part.new.disk = c.in-Ok.ensures.later tells in
    let early : t ≤ D.moment c.write_part.new.disk = omega (arith, low, later) in
    let latest : D.moment c.write_part.new.disk ≤ D.moment c.write_part-2.new.disk = c.in-Ok-write_part.ensures.later between in
    let synced = c.in-Err-sync.ensures.past (c.in-Ok-write_part.ensures.tells between) in
    stopped_last first (writes_of_rows c.args.bank.now c.args.last.now) image stopped (D.left_since c.args.disk.now t stopped)
    (D.left_since c.write_part.new.disk t stopped) (c.in-Ok.ensures.stops tells image told t stopped low)
    (c.in-Ok-write_part.ensures.stops between (written first image) (c.in-Ok.ensures.done image told) t stopped early (synced.nothing_new t stopped (omega (arith, early, latest)) left))

pub returns-in-Err-sync-clause-done : goal.returns-in-Err-sync-clause-done
returns-in-Err-sync-clause-done g c = tt

pub returns-in-Err-sync-clause-kept : goal.returns-in-Err-sync-clause-kept
returns-in-Err-sync-clause-kept g c = tt
