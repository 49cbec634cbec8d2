-- The root that is damaged lies on the disk on which a volume was made.
use Rattle.std.proofs.Common.{◌≡◌, ℕ, Option, Some, None}
use Rattle.std.specs.Option.{ForSome}
use Rattle.xfs_disk.specs.Blocks.{Image}
use Rattle.xfs_disk.specs.Files.{Files}
use Rattle.xfs_disk.specs.declared.stamp.Stamp.{Stamp}
use Rattle.xfs_mkfs.proofs.Roots.{made_root}
use Rattle.xfs_mkfs.specs.Outcome.{IsDueMake, MakeLeaves}
use Rattle.xfs_mkfs.specs.Roots.{HasInodeRoot}
use Rattle.xfs_mkfs.specs.declared.outcome.MadeSummary.{MadeSummary}
use Rattle.xfs_mkfs.specs.declared.outcome.MakeOutcome.{MakeOutcome}
use Rattle.xfs_mkfs.specs.declared.outcome.MakeOutcome.TheVariants.{Made, TooSmall, HasVolume, BadProto, NoFile, LibraryFault, NoRoom, ReadFault, WriteFault, NoMemory}
use Rattle.xfs_options.specs.declared.make_words.MakeOptions.{MakeOptions}
use Rattle.xfs_tools.specs.Generating.{made_in}
use Rattle.xfs_tools.specs.Making.{made_answer}

no_summary : (summary : MadeSummary) → None ≡ Some summary → ⊥
no_summary summary e = cc

pub root_on_disk : (o : MakeOptions) (s : Stamp) (told : Option Files) (blocks : ℕ) (image : Image) (now : Option Image) (outcome : MakeOutcome)
    → IsDueMake o s told blocks image outcome → MakeLeaves o s told blocks image now outcome
    → ForSome (made_in (made_answer outcome)) (λ summary. ForSome now (HasInodeRoot blocks))
root_on_disk o s told blocks image now (Made made) due leaves = λ summary is. made_root o s told blocks image now made due leaves
root_on_disk o s told blocks image now (TooSmall what) due leaves = λ summary is. absurd (no_summary summary is)
root_on_disk o s told blocks image now HasVolume due leaves = λ summary is. absurd (no_summary summary is)
root_on_disk o s told blocks image now (BadProto line reason) due leaves = λ summary is. absurd (no_summary summary is)
root_on_disk o s told blocks image now (NoFile line) due leaves = λ summary is. absurd (no_summary summary is)
root_on_disk o s told blocks image now LibraryFault due leaves = λ summary is. absurd (no_summary summary is)
root_on_disk o s told blocks image now (NoRoom place) due leaves = λ summary is. absurd (no_summary summary is)
root_on_disk o s told blocks image now (ReadFault faults) due leaves = λ summary is. absurd (no_summary summary is)
root_on_disk o s told blocks image now (WriteFault written) due leaves = λ summary is. absurd (no_summary summary is)
root_on_disk o s told blocks image now NoMemory due leaves = λ summary is. absurd (no_summary summary is)
