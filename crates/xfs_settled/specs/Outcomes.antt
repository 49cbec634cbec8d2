-- Outcomes of repairs that meet no fault.
use Rattle.std.specs.Prelude.{length, Option, MatchOption, ⊤}
use Rattle.xfs_disk.specs.Blocks.{Image, IsImage}
use Rattle.xfs_mend.specs.declared.outcome.Outcome.{Outcome}
use Rattle.xfs_mend.specs.declared.outcome.Outcome.TheVariants.{ReadFault, WriteFault, NoMemory}

-- no read and no write failed, and memory was not wanting
abbrev pub MeetsNoFault : Outcome → Type 0
MeetsNoFault (ReadFault faults) = ⊥
MeetsNoFault (WriteFault blocks) = ⊥
MeetsNoFault NoMemory = ⊥
MeetsNoFault outcome = ⊤

-- what a disk then holds, where that is told, are blocks of 4096 bytes, as many as before
abbrev pub IsWholeAs : Image → Option Image → Type 0
IsWholeAs image now = MatchOption now (Unit {0}) (λ left. IsImage (length image) left)
