-- Why a check may refuse.
use Rattle.std.specs.Prelude.{}
use Rattle.xfs_dirindex.specs.declared.seen.IndexFault.{IndexFault}
use Rattle.xfs_dirindex.specs.declared.seen.IndexFault.TheVariants.{Unsound, NoMemory}

-- where a fault says that a rule is broken, a fact holds
abbrev pub OnUnsoundIndex : IndexFault → Type 0 → Type 0
OnUnsoundIndex Unsound P = P
OnUnsoundIndex NoMemory P = Unit {0}
