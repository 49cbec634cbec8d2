use Rattle.std.proofs.Common.{List, subst}
use Rattle.std.specs.List.{All}
use Rattle.std.proofs.lemmas.List.{take_all}
use Rattle.std.proofs.lemmas.List.Elements.{All-more}
use Rattle.xfs_geom.specs.Volumes.{volume_of}
use Rattle.xfs_volume.specs.declared.files.FileRec.{FileRec}
use Rattle.xfs_space.specs.Parts.{HasLawfulForks}
use Rattle.xfs_volume_tests.proofs.space.judging.are_files.Goals as goal

pub loop-file-preserved : goal.loop-file-preserved
loop-file-preserved c =
    All-more (HasLawfulForks (volume_of c.args.g.now)) c.args.files.now c.loop-file.file-index c.file-item.result c.loop-file-test.true c.loop-file.invariant
    (subst (HasLawfulForks (volume_of c.args.g.now)) c.file-item.is (c.is_file.ensures c.if-not-is_file.false))

pub returns : goal.returns
returns c told = subst (λ (files : List FileRec). All (HasLawfulForks (volume_of c.args.g.now)) files) (take_all c.loop-file.file-index c.args.files.now c.loop-file-test.false) c.loop-file.invariant
