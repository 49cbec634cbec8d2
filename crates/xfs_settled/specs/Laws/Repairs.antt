-- Laws about repairs. Each function does nothing; its contract is the laws.
use Rattle.std.specs.Prelude.{◌≡◌, ℕ, length, Option, Some}
use Rattle.xfs_disk.specs.Blocks.{Image, IsImage}
use Rattle.xfs_disk.specs.declared.stamp.Stamp.{Stamp}
use Rattle.xfs_mend.specs.Asked.{Asked}
use Rattle.xfs_mend.specs.Due.{IsDueRepair}
use Rattle.xfs_mend.specs.Outcome.{IsRebuilt, RepairLeaves}
use Rattle.xfs_mend.specs.declared.outcome.Outcome.{Outcome}
use Rattle.xfs_settled.specs.Outcomes.{IsWholeAs, MeetsNoFault}

-- Two repairs that rebuild one image, with one stamp, leave the same image, block by block (`image`), and have written as many blocks
-- (`blocks`), whatever was found first.
abbrev pub RepairsAreOneImage : Type 0
RepairsAreOneImage = (s : Stamp) (image now other : Image) (blocks kept cleared orphans : ℕ) (more files freed unnamed : ℕ)
    → IsRebuilt s image (Some now) blocks kept cleared orphans → IsRebuilt s image (Some other) more files freed unnamed
    → IsImage (length image) now → IsImage (length image) other → now ≡ other

-- of the same, `blocks`
abbrev pub RepairsAreOneBlocks : Type 0
RepairsAreOneBlocks = (s : Stamp) (image now other : Image) (blocks kept cleared orphans : ℕ) (more files freed unnamed : ℕ)
    → IsRebuilt s image (Some now) blocks kept cleared orphans → IsRebuilt s image (Some other) more files freed unnamed
    → IsImage (length image) now → IsImage (length image) other → blocks ≡ more

-- Two repairs of one image of which the same is asked, with one stamp, have the same outcome (`outcome`) and leave the same image
-- (`image`), where neither meets a fault of the disk or want of memory: how the work is shared out decides nothing.
abbrev pub OutcomesAreOneOutcome : Type 0
OutcomesAreOneOutcome = (o : Asked) (s : Stamp) (image : Image) (a b : Outcome) (x y : Option Image) → MeetsNoFault a → MeetsNoFault b
    → IsDueRepair o s image a → IsDueRepair o s image b → RepairLeaves s image x a → RepairLeaves s image y b
    → IsWholeAs image x → IsWholeAs image y → a ≡ b

-- of the same, `image`
abbrev pub OutcomesAreOneImage : Type 0
OutcomesAreOneImage = (o : Asked) (s : Stamp) (image : Image) (a b : Outcome) (x y : Option Image) → MeetsNoFault a → MeetsNoFault b
    → IsDueRepair o s image a → IsDueRepair o s image b → RepairLeaves s image x a → RepairLeaves s image y b
    → IsWholeAs image x → IsWholeAs image y → x ≡ y
