use Rattle.std.proofs.Common.{◌==◌, sym, ◌∙◌}
use Rattle.xfs_naming.specs.declared.kinds.FileKind.{FileKind}
use Rattle.xfs_naming.proofs.FileKinds.{kind_says, none_says}
use Rattle.xfs_naming.proofs.lookups.is_directory_at.Goals as goal

pub returns-in-Some : goal.returns-in-Some
returns-in-Some c = kind_says (λ (k : FileKind). k.kind == 4) c.args.names.now.files.now c.requires.ascend c.args.ino c.in-Some.kind (sym c.in-Some.is ∙ c.kind_at.ensures)

pub returns-in-None : goal.returns-in-None
returns-in-None c = none_says (λ (k : FileKind). k.kind == 4) c.args.names.now.files.now c.requires.ascend c.args.ino (sym c.in-None.is ∙ c.kind_at.ensures)
