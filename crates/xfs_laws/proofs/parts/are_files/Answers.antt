use Rattle.std.proofs.Common.{sym, ◌∙◌, true≢false}
use Rattle.xfs_geom.specs.Volumes.{volume_of}
use Rattle.xfs_space.specs.Parts.{HasLawfulForks}
use Rattle.xfs_laws.proofs.Tests.{all_pass, none_yet, one_fails, one_more}
use Rattle.xfs_laws.proofs.parts.are_files.Goals as goal

pub loop-file-init : goal.loop-file-init
loop-file-init c = none_yet (HasLawfulForks (volume_of c.args.g.now)) c.args.files.now

pub loop-file-preserved : goal.loop-file-preserved
loop-file-preserved c =
    one_more (HasLawfulForks (volume_of c.args.g.now)) c.args.files.now c.loop-file.file-index c.loop-file.invariant c.file-item.result
    c.loop-file-test.true c.file-item.is (c.is_file.ensures.0 c.if-not-is_file.false)

pub returns-then-not-is_file : goal.returns-then-not-is_file
returns-then-not-is_file c =
    one_fails (HasLawfulForks (volume_of c.args.g.now)) c.args.files.now c.loop-file.file-index c.file-item.result c.loop-file-test.true
    c.file-item.is (λ lawful. true≢false (sym (c.is_file.ensures.1 lawful) ∙ c.if-not-is_file.true))

pub returns : goal.returns
returns c =
    all_pass (HasLawfulForks (volume_of c.args.g.now)) c.args.files.now c.loop-file.file-index c.loop-file-test.false c.loop-file.invariant
