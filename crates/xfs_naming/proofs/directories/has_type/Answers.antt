use Rattle.std.proofs.Common.{◌≡◌, ℕ, Bool, false, ◌==◌, ◌&&◌, ◌||◌, rules, sym, ap, ◌∙◌}
use Rattle.std.specs.List.{list_any}
use Rattle.xfs_volume.specs.declared.files.FileRec.{FileRec}
use Rattle.xfs_volume.specs.Names.{type_of, entry_type}
use Rattle.xfs_naming.specs.declared.kinds.FileKind.{FileKind}
use Rattle.xfs_naming.proofs.FileKinds.{kind_says, none_says}
use Rattle.xfs_naming.proofs.directories.has_type.Goals as goal

pub returns-in-Some : goal.returns-in-Some
returns-in-Some c =
    let ino = c.args.entry.now.ino in
    let ftype = c.args.entry.now.ftype in
    let files = c.args.names.now.files.now in
    let stated : ftype == 0 ≡ false = search rules in
    ap (λ (n : ℕ). n == ftype) c.entry_type.ensures
    ∙ kind_says (λ (k : FileKind). entry_type k.kind == ftype) files c.requires.ordered.ascend ino c.in-Some.kind (sym c.in-Some.is ∙ c.requires.known)
    ∙ sym (ap (λ (t : Bool). t || list_any (λ (f : FileRec). f.ino == ino && entry_type (type_of f) == ftype) files) stated)

pub returns-in-None : goal.returns-in-None
returns-in-None c =
    let ino = c.args.entry.now.ino in
    let ftype = c.args.entry.now.ftype in
    let files = c.args.names.now.files.now in
    let stated : ftype == 0 ≡ false = search rules in
    none_says (λ (k : FileKind). entry_type k.kind == ftype) files c.requires.ordered.ascend ino (sym c.in-None.is ∙ c.requires.known)
    ∙ sym (ap (λ (t : Bool). t || list_any (λ (f : FileRec). f.ino == ino && entry_type (type_of f) == ftype) files) stated)
