use Rattle.std.proofs.Common.{sym, ap, ◌∙◌}
use Rattle.std.specs.Option.{option_copied}
use Rattle.xfs_naming.specs.Naming.{file_at}
use Rattle.xfs_naming.proofs.ByKind.{system_says, missing_says}
use Rattle.xfs_naming.proofs.counts.system_links.Goals as goal

pub returns-in-Some : goal.returns-in-Some
returns-in-Some c =
    let n = c.args.names.now in
    c.empty_links.ensures ∙ system_says n.root n.files.now n.entries.now c.args.ino (file_at n.files.now c.args.ino) c.in-Some.file.now c.requires.system (ap option_copied (sym c.in-Some.is) ∙ c.file_at.ensures)

pub returns-in-None : goal.returns-in-None
returns-in-None c =
    let n = c.args.names.now in
    c.missing_law.ensures ∙ missing_says n.root n.files.now n.entries.now c.args.ino (file_at n.files.now c.args.ino) (ap option_copied (sym c.in-None.is) ∙ c.file_at.ensures)
