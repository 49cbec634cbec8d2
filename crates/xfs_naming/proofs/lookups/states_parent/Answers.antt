use Rattle.std.proofs.Common.{Bool, ◌==◌, ap, ◌∙◌}
use Rattle.std.specs.List.{list_any}
use Rattle.xfs_volume.specs.declared.directories.DirRec.{DirRec}
use Rattle.xfs_naming.proofs.Chosen.{any_of_run}
use Rattle.xfs_naming.proofs.lookups.states_parent.Goals as goal

pub returns : goal.returns
returns c =
    let states : DirRec → Bool = λ d. d.parent == c.args.parent in
    c.have_parent.ensures ∙ ap (list_any states) c.records_by_number.ensures ∙ any_of_run (λ (d : DirRec). d.ino == c.args.ino) states c.args.names.now.dirs.now
