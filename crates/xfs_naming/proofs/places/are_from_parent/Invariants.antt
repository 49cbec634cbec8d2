use Rattle.std.proofs.Common.{◌≡◌, true, take}
use Rattle.std.specs.List.{list_all}
use Rattle.xfs_naming.specs.declared.runs.Link.{Link}
use Rattle.xfs_naming.specs.Naming.{states_parent}
use Rattle.xfs_naming.proofs.places.are_from_parent.Given as goal

abbrev pub invariant-loop-link : goal.invariant-loop-link
invariant-loop-link l = list_all (λ (x : Link). states_parent l.names.dirs.now l.ino x.dir) (take l.link-index l.links) ≡ true
