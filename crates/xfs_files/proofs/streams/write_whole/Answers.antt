-- Each turn gives the next bytes, or none where it is interrupted.
use Rattle.std.proofs.Common.{◌-◌, ◌++◌, length, take, drop, Some, arith, refl, ap, ◌∙◌}
use Rattle.std.proofs.lemmas.List.{take_rest, take_all}
use Rattle.std.proofs.lemmas.Result.{on_ok_weaker}
use Rattle.xfs_files.proofs.Pieces.{HasGiven, has_given_more, has_given_none}
use Rattle.xfs_files.proofs.streams.write_whole.Goals as goal
use Rattle.xfs_files.proofs.streams.write_whole.Goals.{in-Ok, in-Err+else-not-is_interrupted}

pub loop-preserved : goal.loop-preserved
loop-preserved g c =
    let first = g.W.Outlet.contents c.args.writer.now in
    let now = g.W.Outlet.contents c.loop.writer in
    let next = g.W.Outlet.contents c.give_some.new.self in
    elim c.match-give_some.branch [
      | in-Ok w ↦ (has_given_more c.loop.done w.in-Ok.count c.match-give_some.done first now next c.args.from.now (take (length c.args.from.now - c.loop.done) (drop c.loop.done c.args.from.now))
          c.loop.invariant w.done-is (take_rest c.args.from.now c.loop.done) w.in-Ok.ensures.within w.in-Ok.ensures.contents)
      | in-Err+else-not-is_interrupted w ↦ (has_given_none c.loop.done c.match-give_some.done first now next c.args.from.now c.loop.invariant w.done-is w.in-Err.ensures.contents)
    ]

pub returns-then-done-from-clause-whole : goal.returns-then-done-from-clause-whole
returns-then-done-from-clause-whole g c =
    let now : HasGiven (g.W.Outlet.contents c.args.writer.now) (g.W.Outlet.contents c.pass_on.new.self) c.loop.done c.args.from.now =
    has_given_none c.loop.done c.loop.done (g.W.Outlet.contents c.args.writer.now) (g.W.Outlet.contents c.loop.writer) (g.W.Outlet.contents c.pass_on.new.self) c.args.from.now c.loop.invariant refl c.pass_on.ensures.contents in
    on_ok_weaker c.pass_on.result (λ _ before told. now.given before told ∙ ap (λ xs. Some (before ++ xs)) (take_all c.loop.done c.args.from.now (omega arith))) c.pass_on.ensures.flushed
