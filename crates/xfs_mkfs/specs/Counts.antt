-- How many blocks a call reads and writes, by a disk's counts.
use Rattle.std.specs.Prelude.{◌≡◌, ℕ, ◌≤◌, Bool, if◌then◌else◌, length, Option}
use Rattle.xfs_disk.specs.Counts.{raised_times}
use Rattle.xfs_disk.specs.Files.{Files}
use Rattle.xfs_disk.specs.declared.stamp.Stamp.{Stamp}
use Rattle.xfs_options.specs.declared.make_words.MakeOptions.{MakeOptions}
use Rattle.xfs_render.specs.Plans.{planned}
use Rattle.xfs_render.specs.declared.plan.Plan.{Plan}
use Rattle.xfs_mkfs.specs.Outcome.{IsPlanOf}
use Rattle.xfs_mkfs.specs.declared.outcome.MakeOutcome.{MakeOutcome}
use Rattle.xfs_mkfs.specs.declared.outcome.MakeOutcome.TheVariants as Out

-- the answer comes before anything is written
abbrev pub IsUnwritten : MakeOutcome → Type 0
IsUnwritten (Out.Made summary) = ⊥
IsUnwritten (Out.WriteFault n) = ⊥
IsUnwritten outcome = Unit {0}

-- all blocks of the plan were written
pub record WritesAll (o : MakeOptions) (s : Stamp) (told : Option Files) (blocks before now : ℕ) : Type 0 where
  pub plan : Plan
  pub due : IsPlanOf o s told blocks plan
  pub counted : now ≡ raised_times (length (planned plan)) before

-- n blocks of the plan were written
pub record WritesSome (o : MakeOptions) (s : Stamp) (told : Option Files) (blocks n before now : ℕ) : Type 0 where
  pub plan : Plan
  pub due : IsPlanOf o s told blocks plan
  pub most : n ≤ length (planned plan)
  pub counted : now ≡ raised_times n before

-- the count of writes: all blocks of the plan were written, or just as many as a write fault tells; after every other answer none was
abbrev pub CountsBlocks : MakeOptions → Stamp → Option Files → ℕ → ℕ → ℕ → MakeOutcome → Type 0
CountsBlocks o s told blocks before now (Out.Made summary) = WritesAll o s told blocks before now
CountsBlocks o s told blocks before now (Out.WriteFault n) = WritesSome o s told blocks n before now
CountsBlocks o s told blocks before now outcome = now ≡ before

-- the count of reads once the four blocks that have the marks were read, which is not done where they are written over anyway
abbrev pub looked : Bool → ℕ → ℕ
looked force before = if force then before else raised_times 4 before

-- a read failed: of these blocks those before it were read
abbrev pub LooksPartly : Bool → ℕ → ℕ → Type 0
LooksPartly force before now = (k : ℕ) × (k ≤ (if force then 0 else 3)) × (now ≡ raised_times k before)

-- the count of reads at an answer: nothing is read for one that is due before the look
abbrev pub CountsReads : Bool → ℕ → ℕ → MakeOutcome → Type 0
CountsReads force before now (Out.TooSmall what) = now ≡ before
CountsReads force before now (Out.ReadFault faults) = LooksPartly force before now
CountsReads force before now outcome = now ≡ looked force before
