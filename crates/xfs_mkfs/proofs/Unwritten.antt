-- What is said of an answer before which nothing is written.
use Rattle.std.proofs.Common.{◌≡◌, ℕ, List, Option, Some}
use Rattle.xfs_disk.specs.Blocks.{Image}
use Rattle.xfs_disk.specs.Files.{Files}
use Rattle.xfs_disk.specs.declared.stamp.Stamp.{Stamp}
use Rattle.xfs_options.specs.declared.make_words.MakeOptions.{MakeOptions}
use Rattle.xfs_mkfs.specs.Counts.{CountsBlocks, IsUnwritten}
use Rattle.xfs_mkfs.specs.Outcome.{MakeLeaves}
use Rattle.xfs_mkfs.specs.Stops.{IsDurableMake}
use Rattle.xfs_mkfs.specs.declared.outcome.MakeOutcome.{MakeOutcome}
use Rattle.xfs_mkfs.specs.declared.outcome.MakeOutcome.TheVariants as Out

-- the disk holds what it held
pub leaves_unwritten : (o : MakeOptions) (s : Stamp) (told : Option Files) (blocks : ℕ) (image : Image) (now : Option Image) (outcome : MakeOutcome) → IsUnwritten outcome
    → now ≡ Some image → MakeLeaves o s told blocks image now outcome
leaves_unwritten o s told blocks image now (Out.Made summary) is held = absurd is
leaves_unwritten o s told blocks image now (Out.WriteFault n) is held = absurd is
leaves_unwritten o s told blocks image now (Out.TooSmall what) is held = held
leaves_unwritten o s told blocks image now Out.HasVolume is held = held
leaves_unwritten o s told blocks image now (Out.BadProto line reason) is held = held
leaves_unwritten o s told blocks image now (Out.NoFile line) is held = held
leaves_unwritten o s told blocks image now Out.LibraryFault is held = held
leaves_unwritten o s told blocks image now (Out.NoRoom what) is held = held
leaves_unwritten o s told blocks image now (Out.ReadFault faults) is held = held
leaves_unwritten o s told blocks image now Out.NoMemory is held = held

-- its count of writes stays
pub counts_unwritten : (o : MakeOptions) (s : Stamp) (told : Option Files) (blocks before now : ℕ) (outcome : MakeOutcome) → IsUnwritten outcome → now ≡ before
    → CountsBlocks o s told blocks before now outcome
counts_unwritten o s told blocks before now (Out.Made summary) is same = absurd is
counts_unwritten o s told blocks before now (Out.WriteFault n) is same = absurd is
counts_unwritten o s told blocks before now (Out.TooSmall what) is same = same
counts_unwritten o s told blocks before now Out.HasVolume is same = same
counts_unwritten o s told blocks before now (Out.BadProto line reason) is same = same
counts_unwritten o s told blocks before now (Out.NoFile line) is same = same
counts_unwritten o s told blocks before now Out.LibraryFault is same = same
counts_unwritten o s told blocks before now (Out.NoRoom what) is same = same
counts_unwritten o s told blocks before now (Out.ReadFault faults) is same = same
counts_unwritten o s told blocks before now Out.NoMemory is same = same

-- nothing has to be kept
pub kept_unwritten : (tells : Type 0) (now : Option Image) (may_leave : ℕ → List ℕ → Type 0) (outcome : MakeOutcome) → IsUnwritten outcome
    → IsDurableMake tells now may_leave outcome
kept_unwritten tells now may_leave (Out.Made summary) is = absurd is
kept_unwritten tells now may_leave (Out.WriteFault n) is = tt
kept_unwritten tells now may_leave (Out.TooSmall what) is = tt
kept_unwritten tells now may_leave Out.HasVolume is = tt
kept_unwritten tells now may_leave (Out.BadProto line reason) is = tt
kept_unwritten tells now may_leave (Out.NoFile line) is = tt
kept_unwritten tells now may_leave Out.LibraryFault is = tt
kept_unwritten tells now may_leave (Out.NoRoom what) is = tt
kept_unwritten tells now may_leave (Out.ReadFault faults) is = tt
kept_unwritten tells now may_leave Out.NoMemory is = tt
