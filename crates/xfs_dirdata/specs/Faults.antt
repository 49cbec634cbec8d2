-- Why a reader may refuse.
use Rattle.std.specs.Prelude.{}
use Rattle.xfs_dirdata.specs.declared.records.DirDataFault.{DirDataFault}
use Rattle.xfs_dirdata.specs.declared.records.DirDataFault.TheVariants.{Unsound, NoMemory}

-- where a fault says that a rule is broken, a fact holds
abbrev pub OnUnsound : DirDataFault → Type 0 → Type 0
OnUnsound Unsound P = P
OnUnsound NoMemory P = Unit {0}
