use Rattle.std.proofs.Common.{ℕ, sym, ap, ◌∙◌}
use Rattle.xfs_volume.specs.Laws.{law_at}
use Rattle.xfs_naming.specs.Naming.{file_at}
use Rattle.xfs_naming.proofs.ByKind.{other_says, missing_says, none_kind}
use Rattle.xfs_naming.proofs.counts.other_links.Goals as goal

pub returns-in-Some : goal.returns-in-Some
returns-in-Some c =
    let n = c.args.names.now in
    let k = c.in-Some.kind in
    c.law_nine.ensures ∙ ap (λ (due : ℕ). law_at 9 c.args.ino k.nlink due) c.links_due.ensures
    ∙ other_says n.root n.files.now n.entries.now c.args.ino (file_at n.files.now c.args.ino) k c.requires.other (sym c.in-Some.is ∙ c.kind_at.ensures)

pub returns-in-None : goal.returns-in-None
returns-in-None c =
    let n = c.args.names.now in
    c.missing_law.ensures ∙ missing_says n.root n.files.now n.entries.now c.args.ino (file_at n.files.now c.args.ino) (none_kind (file_at n.files.now c.args.ino) (sym c.in-None.is ∙ c.kind_at.ensures))
