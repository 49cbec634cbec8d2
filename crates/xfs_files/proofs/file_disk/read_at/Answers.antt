-- Each turn reads the next bytes, or none where it is interrupted.
use Rattle.std.proofs.Common.{◌≡◌, ℕ, ◌-◌, length, rules, ◌∙◌}
use borrow.Rule.Slice.PartMut.{put_mid}
use Rattle.xfs_files.proofs.Pieces.{all_read, has_read_more, has_read_none}
use Rattle.xfs_files.proofs.file_disk.read_at.Goals as goal
use Rattle.xfs_files.proofs.file_disk.read_at.Goals.{in-Ok, in-Err+else-not-is_interrupted}

pub loop-preserved : goal.loop-preserved
loop-preserved g c =
    let rest : ℕ = length c.loop.into - c.loop.done in
    let same : length (put_mid c.loop.done rest c.loop.into c.read_some.new.into) ≡ length c.loop.into = search rules in
    let size : length c.read_some.new.into ≡ rest = search rules in
    elim c.match-read_some.branch [
      | in-Ok w ↦ (has_read_more g.F.ByteFile.bytes c.args.start c.loop.done w.in-Ok.count rest c.match-read_some.done c.args.file.now c.loop.file c.read_some.new.self c.args.into.now c.loop.into c.read_some.new.into
          c.loop.invariant w.done-is same size (search rules) c.read_some.ensures.bytes w.in-Ok.ensures.moved)
      | in-Err+else-not-is_interrupted w ↦ (has_read_none g.F.ByteFile.bytes c.args.start c.loop.done rest c.match-read_some.done c.args.file.now c.loop.file c.read_some.new.self c.args.into.now c.loop.into c.read_some.new.into
          c.loop.invariant w.done-is same size c.read_some.ensures.bytes)
    ]

pub returns-then-done-into-clause-read : goal.returns-then-done-into-clause-read
returns-then-done-into-clause-read g c = λ all told.
    all_read c.args.start c.loop.done c.loop.into c.args.into.now all c.if-done-into.true c.loop.invariant.same_size (c.loop.invariant.read all told)

pub returns-then-done-into-clause-bytes : goal.returns-then-done-into-clause-bytes
returns-then-done-into-clause-bytes g c = c.loop.invariant.same_bytes

pub returns-in-Ok-eq0-clause-read : goal.returns-in-Ok-eq0-clause-read
returns-in-Ok-eq0-clause-read g c = tt

pub returns-in-Ok-eq0-clause-bytes : goal.returns-in-Ok-eq0-clause-bytes
returns-in-Ok-eq0-clause-bytes g c = c.read_some.ensures.bytes ∙ c.loop.invariant.same_bytes

pub returns-clause-read : goal.returns-clause-read
returns-clause-read g c = tt

pub returns-clause-bytes : goal.returns-clause-bytes
returns-clause-bytes g c = c.loop.invariant.same_bytes

pub returns-then-not-is_interrupted-clause-read : goal.returns-then-not-is_interrupted-clause-read
returns-then-not-is_interrupted-clause-read g c = tt

pub returns-then-not-is_interrupted-clause-bytes : goal.returns-then-not-is_interrupted-clause-bytes
returns-then-not-is_interrupted-clause-bytes g c = c.read_some.ensures.bytes ∙ c.loop.invariant.same_bytes
