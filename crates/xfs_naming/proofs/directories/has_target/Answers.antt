use Rattle.std.proofs.Common.{Bool, not, ◌&&◌, sym, ap, ◌∙◌}
use Rattle.xfs_naming.specs.Naming.{is_system}
use Rattle.xfs_naming.proofs.FileKinds.{used_some, used_none}
use Rattle.xfs_naming.proofs.directories.has_target.Goals as goal

pub returns-in-Some : goal.returns-in-Some
returns-in-Some c =
    ap not c.is_system.ensures
    ∙ sym (ap (λ (t : Bool). t && not (is_system c.args.names.now.root c.args.entry.now.ino)) (used_some c.args.names.now.files.now c.args.entry.now.ino c.in-Some.field-0 (sym c.in-Some.is ∙ c.requires.known)))

pub returns-in-None : goal.returns-in-None
returns-in-None c =
    sym (ap (λ (t : Bool). t && not (is_system c.args.names.now.root c.args.entry.now.ino)) (used_none c.args.names.now.files.now c.args.entry.now.ino (sym c.in-None.is ∙ c.requires.known)))
