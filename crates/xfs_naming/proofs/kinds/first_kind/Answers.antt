use Rattle.std.proofs.Common.{◌==◌, List, filter, ap, ◌∙◌}
use Rattle.std.specs.List.{slice_get}
use Rattle.xfs_naming.specs.declared.kinds.FileKind.{FileKind}
use Rattle.xfs_naming.proofs.FileKinds.{first_kind}
use Rattle.xfs_naming.proofs.kinds.first_kind.Goals as goal

pub returns : goal.returns
returns c =
    c.copied.ensures ∙ c.first.ensures.value ∙ ap (λ (ks : List FileKind). slice_get ks 0) c.records_near.ensures
    ∙ ap (λ (ks : List FileKind). slice_get (filter (λ (k : FileKind). k.ino == c.args.ino) ks) 0) c.requires.kinds ∙ first_kind c.args.names.now.files.now c.args.ino
