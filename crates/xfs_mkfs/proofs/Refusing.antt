-- What is answered where the files of a volume are not read.
use Rattle.std.proofs.Common.{◌≡◌, ℕ, ◌≤◌, Bool, List, Option, Some, None, Ok, Err, ap, ◌∙◌}
use Rattle.xfs_disk.specs.Blocks.{Image}
use Rattle.xfs_disk.specs.Files.{Files, file_named}
use Rattle.xfs_disk.specs.declared.stamp.Stamp.{Stamp}
use Rattle.xfs_options.specs.declared.make_words.MakeOptions.{MakeOptions}
use Rattle.xfs_proto.specs.Reading.{nodes_of}
use Rattle.xfs_proto.specs.declared.protofile.ProtoNode.{ProtoNode}
use Rattle.xfs_mkfs.specs.Counts.{CountsReads, IsUnwritten, looked}
use Rattle.xfs_mkfs.specs.Due.{refusal}
use Rattle.xfs_mkfs.specs.FilesAsked.{HasFilesCause, IsFilesAnswer, by_contents, by_nodes, by_proto, by_text, contents_in}
use Rattle.xfs_mkfs.specs.Outcome.{IsDueMake, IsMakingCause}
use Rattle.xfs_mkfs.specs.declared.outcome.MakeOutcome.{MakeOutcome}
use Rattle.xfs_mkfs.specs.declared.outcome.MakeOutcome.TheVariants as Out

-- the answer is due to the disk, as it is to the library
pub due_files : (o : MakeOptions) (s : Stamp) (told : Option Files) (blocks : ℕ) (image : Image) (outcome : MakeOutcome) → refusal o blocks image ≡ None
    → IsFilesAnswer o told outcome → IsDueMake o s told blocks image outcome
due_files o s told blocks image (Out.Made summary) none is = absurd is
due_files o s told blocks image (Out.TooSmall what) none is = absurd is
due_files o s told blocks image Out.HasVolume none is = absurd is
due_files o s told blocks image (Out.BadProto line reason) none is = (none, is)
due_files o s told blocks image (Out.NoFile line) none is = (none, is)
due_files o s told blocks image Out.LibraryFault none is = tt
due_files o s told blocks image (Out.NoRoom what) none is = absurd is
due_files o s told blocks image (Out.ReadFault faults) none is = absurd is
due_files o s told blocks image (Out.WriteFault n) none is = absurd is
due_files o s told blocks image Out.NoMemory none is = tt

-- a library fault comes only where the library failed
pub caused_files : (A : Type 0) (o : MakeOptions) (told : Option Files) (a b c d before now : ℕ) (outcome : MakeOutcome) → IsFilesAnswer o told outcome
    → HasFilesCause {A = A} before now (Err outcome) → IsMakingCause a b c d before now outcome
caused_files A o told a b c d before now (Out.Made summary) is cause = tt
caused_files A o told a b c d before now (Out.TooSmall what) is cause = tt
caused_files A o told a b c d before now Out.HasVolume is cause = tt
caused_files A o told a b c d before now (Out.BadProto line reason) is cause = tt
caused_files A o told a b c d before now (Out.NoFile line) is cause = tt
caused_files A o told a b c d before now Out.LibraryFault is cause = cause
caused_files A o told a b c d before now (Out.NoRoom what) is cause = tt
caused_files A o told a b c d before now (Out.ReadFault faults) is cause = absurd is
caused_files A o told a b c d before now (Out.WriteFault n) is cause = absurd is
caused_files A o told a b c d before now Out.NoMemory is cause = tt

-- nothing was written
pub early_files : (o : MakeOptions) (told : Option Files) (outcome : MakeOutcome) → IsFilesAnswer o told outcome → IsUnwritten outcome
early_files o told (Out.Made summary) is = absurd is
early_files o told (Out.TooSmall what) is = tt
early_files o told Out.HasVolume is = tt
early_files o told (Out.BadProto line reason) is = tt
early_files o told (Out.NoFile line) is = tt
early_files o told Out.LibraryFault is = tt
early_files o told (Out.NoRoom what) is = tt
early_files o told (Out.ReadFault faults) is = tt
early_files o told (Out.WriteFault n) is = absurd is
early_files o told Out.NoMemory is = tt

-- the blocks that have the marks were read
pub reads_files : (o : MakeOptions) (told : Option Files) (force : Bool) (before now : ℕ) (outcome : MakeOutcome) → IsFilesAnswer o told outcome
    → now ≡ looked force before → CountsReads force before now outcome
reads_files o told force before now (Out.Made summary) is looks = absurd is
reads_files o told force before now (Out.TooSmall what) is looks = absurd is
reads_files o told force before now Out.HasVolume is looks = looks
reads_files o told force before now (Out.BadProto line reason) is looks = looks
reads_files o told force before now (Out.NoFile line) is looks = looks
reads_files o told force before now Out.LibraryFault is looks = looks
reads_files o told force before now (Out.NoRoom what) is looks = looks
reads_files o told force before now (Out.ReadFault faults) is looks = absurd is
reads_files o told force before now (Out.WriteFault n) is looks = looks
reads_files o told force before now Out.NoMemory is looks = looks

-- the count of a library's failures has not fallen
pub files_rise : (A : Type 0) (before now : ℕ) (outcome : MakeOutcome) → HasFilesCause {A = A} before now (Err outcome) → before ≤ now
files_rise A before now (Out.Made summary) cause = cause
files_rise A before now (Out.TooSmall what) cause = cause
files_rise A before now Out.HasVolume cause = cause
files_rise A before now (Out.BadProto line reason) cause = cause
files_rise A before now (Out.NoFile line) cause = cause
files_rise A before now Out.LibraryFault cause = cause.0
files_rise A before now (Out.NoRoom what) cause = cause
files_rise A before now (Out.ReadFault faults) cause = cause
files_rise A before now (Out.WriteFault n) cause = cause
files_rise A before now Out.NoMemory cause = cause

-- the files of a protofile
pub files_listed : (map : Files) (name text : List ℕ) (nodes : List ProtoNode) → file_named name map ≡ Some text → nodes_of text ≡ Ok nodes
    → by_proto (Some name) map ≡ by_contents nodes (contents_in map nodes)
files_listed map name text nodes found read = ap (by_text map) found ∙ ap (by_nodes map) read
