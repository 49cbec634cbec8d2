use Rattle.std.proofs.Common.{ap, ◌∙◌}
use Rattle.std.specs.Option.{option_copied}
use Rattle.std.proofs.lemmas.Result.{IfOk-from_err}
use Rattle.xfs_volume.specs.declared.files.FileRec.{FileRec}
use Rattle.xfs_inode.specs.Files.{AttrFork, file_record}
use Rattle.xfs_inode.specs.declared.files.FileRead.TheVariants as Reads
use Rattle.xfs_inode.proofs.outcomes.without_attrs.Goals as goal

pub file_record-requires : goal.file_record-requires
file_record-requires c = record { slot = c.requires.slot; link = c.requires.link; fits = c.requires.fits; short = c.requires.short }

pub returns-in_err-file : goal.returns-in_err-file
returns-in_err-file c = IfOk-from_err c.from_residual.result _ c.from_residual.ensures.0

pub returns : goal.returns
returns c = ap (λ (f : FileRec). Reads.FileWithoutAttrs f) (c.in_ok-file.ensures
    ∙ ap (λ (f : AttrFork). file_record c.args.ino c.args.core.now c.args.slot.now (option_copied c.args.link) c.args.held f) c.none.ensures)
