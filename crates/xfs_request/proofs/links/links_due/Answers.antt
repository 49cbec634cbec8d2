use Rattle.std.proofs.Common.{Bool, cond, ap, sym, ◌∙◌}
use Rattle.xfs_naming.specs.Naming.{links_of}
use Rattle.xfs_request.proofs.Numbers.{links_by}
use Rattle.xfs_request.proofs.links.links_due.Goals as goal

pub returns-then-is_system : goal.returns-then-is_system
returns-then-is_system c = λ files are. sym (ap (λ (t : Bool). cond t 1 (links_of files c.args.entries.now c.args.file.now)) (sym c.is_system.ensures ∙ c.if-is_system.true))

pub returns : goal.returns
returns c = λ files are.
    c.links_of.ensures ∙ links_by files c.args.directories.now c.args.entries.now c.args.file.now are
    ∙ sym (ap (λ (t : Bool). cond t 1 (links_of files c.args.entries.now c.args.file.now)) (sym c.is_system.ensures ∙ c.if-is_system.false))
