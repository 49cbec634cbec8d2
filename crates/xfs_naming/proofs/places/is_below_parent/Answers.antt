use Rattle.std.proofs.Common.{ap, ◌∙◌}
use Rattle.std.specs.List.{list_all}
use Rattle.xfs_naming.specs.declared.runs.Link.{Link}
use Rattle.xfs_naming.specs.Naming.{states_parent}
use Rattle.xfs_naming.proofs.places.is_below_parent.Goals as goal

pub returns : goal.returns
returns c =
    c.are_from_parent.ensures ∙ ap (list_all (λ (l : Link). states_parent c.args.names.now.dirs.now c.args.ino l.dir)) c.records_by_number.ensures
    ∙ c.requires.lists.linked.alike c.args.ino (states_parent c.args.names.now.dirs.now c.args.ino)
