use Rattle.std.proofs.Common.{ap}
use Rattle.std.proofs.lemmas.Result.{IfOk-from_err}
use Rattle.xfs_volume.specs.declared.files.FileRec.{FileRec}
use Rattle.xfs_inode.specs.declared.files.FileRead.TheVariants as Reads
use Rattle.xfs_inode.proofs.outcomes.whole_file.Goals as goal

pub file_record-requires : goal.file_record-requires
file_record-requires c = record { slot = c.requires.slot; link = c.requires.link; fits = c.requires.fits; short = c.requires.short }

pub returns-in_err-file : goal.returns-in_err-file
returns-in_err-file c = IfOk-from_err c.from_residual.result _ c.from_residual.ensures.0

pub returns : goal.returns
returns c = ap (λ (f : FileRec). Reads.File f) c.in_ok-file.ensures
