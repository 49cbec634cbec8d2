use Rattle.std.proofs.Common.{◌≡◌, ◌++◌, drop}
use Rattle.xfs_names.specs.Rebuilt.{rebuilt_among}
use Rattle.xfs_names.proofs.comparing.rebuilt_among.Given as goal

abbrev pub invariant-loop-dir : goal.invariant-loop-dir
invariant-loop-dir l = l.rebuilt.items ++ rebuilt_among l.listed l.dirs l.wanted (drop l.dir-index l.parents) ≡ rebuilt_among l.listed l.dirs l.wanted l.parents
