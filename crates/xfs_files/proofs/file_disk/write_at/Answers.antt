-- Each turn writes the next bytes, or none where it is interrupted.
use Rattle.std.proofs.Common.{◌≡◌, ℕ, ◌+◌, ◌-◌, ◌≤◌, List, length, take, drop, Some, arith, ap, ◌∙◌}
use Rattle.std.specs.Option.{ForSome}
use Rattle.xfs_files.specs.System.{with_piece}
use Rattle.std.proofs.lemmas.List.{take_all, take_rest}
use Rattle.xfs_files.proofs.Pieces.{HasWritten, has_written_more, has_written_none, ok_at}
use Rattle.xfs_files.proofs.file_disk.write_at.Goals as goal
use Rattle.xfs_files.proofs.file_disk.write_at.Goals.{in-Ok, in-Err+else-not-is_interrupted}

pub loop-preserved : goal.loop-preserved
loop-preserved g c =
    elim c.match-write_some.branch [
      | in-Ok w ↦ (has_written_more g.F.ByteFile.bytes c.args.start c.loop.done w.in-Ok.count c.match-write_some.done c.args.file.now c.loop.file c.write_some.new.self c.args.from.now (take (length c.args.from.now - c.loop.done) (drop c.loop.done c.args.from.now))
          c.loop.invariant w.done-is (take_rest c.args.from.now c.loop.done) w.in-Ok.ensures.within w.in-Ok.ensures.written)
      | in-Err+else-not-is_interrupted w ↦ (has_written_none g.F.ByteFile.bytes c.args.start c.loop.done c.match-write_some.done c.args.file.now c.loop.file c.write_some.new.self c.args.from.now
          c.loop.invariant w.done-is w.in-Err.ensures.bytes)
    ]

pub returns-in-Ok-eq0-clause-part : goal.returns-in-Ok-eq0-clause-part
returns-in-Ok-eq0-clause-part g c =
    let rest : List ℕ = take (length c.args.from.now - c.loop.done) (drop c.loop.done c.args.from.now) in
    let wrote : (all : List ℕ) → g.F.ByteFile.bytes c.loop.file ≡ Some all → c.args.start + c.loop.done ≤ length all →
    g.F.ByteFile.bytes c.write_some.new.self ≡ Some (with_piece (c.args.start + c.loop.done) (take 0 rest) all) =
    ok_at (λ n. ForSome (g.F.ByteFile.bytes c.loop.file) (λ all. c.args.start + c.loop.done ≤ length all →
    g.F.ByteFile.bytes c.write_some.new.self ≡ Some (with_piece (c.args.start + c.loop.done) (take n rest) all))) c.in-Ok-eq0.is c.in-Ok-eq0.field-0-test c.write_some.ensures.written in
    let now : HasWritten g.F.ByteFile.bytes c.args.start c.loop.done c.args.file.now c.write_some.new.self c.args.from.now =
    has_written_more g.F.ByteFile.bytes c.args.start c.loop.done 0 c.loop.done c.args.file.now c.loop.file c.write_some.new.self c.args.from.now rest
    c.loop.invariant (omega arith) (take_rest c.args.from.now c.loop.done) (omega arith) wrote in
    λ all told inside. (c.loop.done, now.within, now.written all told inside)

pub returns-then-done-from-clause-written : goal.returns-then-done-from-clause-written
returns-then-done-from-clause-written g c = λ all told inside.
    c.loop.invariant.written all told inside ∙ ap (λ xs. Some (with_piece c.args.start xs all)) (take_all c.loop.done c.args.from.now (omega arith))

pub returns-then-done-from-clause-part : goal.returns-then-done-from-clause-part
returns-then-done-from-clause-part g c = tt

pub returns-in-Ok-eq0-clause-written : goal.returns-in-Ok-eq0-clause-written
returns-in-Ok-eq0-clause-written g c = tt

pub returns-clause-written : goal.returns-clause-written
returns-clause-written g c = tt

pub returns-clause-part : goal.returns-clause-part
returns-clause-part g c = λ all told inside. (c.loop.done, c.loop.invariant.within, c.loop.invariant.written all told inside)

pub returns-then-not-is_interrupted-clause-written : goal.returns-then-not-is_interrupted-clause-written
returns-then-not-is_interrupted-clause-written g c = tt

pub returns-then-not-is_interrupted-clause-part : goal.returns-then-not-is_interrupted-clause-part
returns-then-not-is_interrupted-clause-part g c = λ all told inside. (c.loop.done, c.loop.invariant.within, c.in-Err.ensures.bytes ∙ c.loop.invariant.written all told inside)
