-- Which files a new volume gets: none but its root, those of a protofile with the bytes that a library has of them, or generated ones
-- (mkfs.xfs(8)).
use Rattle.std.specs.Prelude.{◌≡◌, ℕ, ◌≤◌, List, [], ◌∷◌, length, Option, Some, None, Result, Ok, Err}
use Rattle.std.specs.Option.{ForSome}
use Rattle.xfs_disk.specs.Faults.{Rose}
use Rattle.xfs_disk.specs.Files.{Files, file_named}
use Rattle.xfs_disk.specs.declared.library.LibraryFault.{LibraryFault as LibraryCause}
use Rattle.xfs_disk.specs.declared.library.LibraryFault.TheVariants as library
use Rattle.xfs_proto.specs.Reading.{SyntaxError, nodes_of}
use Rattle.xfs_proto.specs.declared.protofile.ProtoFault.{ProtoFault}
use Rattle.xfs_proto.specs.declared.protofile.ProtoFault.TheVariants as proto
use Rattle.xfs_proto.specs.declared.protofile.ProtoKind.{ProtoKind}
use Rattle.xfs_proto.specs.declared.protofile.ProtoKind.TheVariants as Kind
use Rattle.xfs_proto.specs.declared.protofile.ProtoNode.{ProtoNode}
use Rattle.xfs_filled.specs.FileTrees.{AreProtoNodes}
use Rattle.xfs_generator.specs.Files.{generated_contents, generated_nodes}
use Rattle.xfs_options.specs.declared.make_words.MakeOptions.{MakeOptions}
use Rattle.xfs_mkfs.specs.declared.files.FilesAsked.{FilesAsked}
use Rattle.xfs_mkfs.specs.declared.files.FilesAsked.TheVariants.{Root, Listed}
use Rattle.xfs_mkfs.specs.declared.outcome.MakeOutcome.{MakeOutcome}
use Rattle.xfs_mkfs.specs.declared.outcome.MakeOutcome.TheVariants.{BadProto, NoFile, LibraryFault, NoMemory}

-- the answer where a library gives no file for the name in a line, and where a text is no protofile
abbrev pub library_outcome : LibraryCause → ℕ → MakeOutcome
library_outcome library.Missing line = NoFile line
library_outcome library.Failed line = LibraryFault
library_outcome library.NoMemory line = NoMemory

abbrev pub proto_outcome : ProtoFault → MakeOutcome
proto_outcome (proto.Bad line reason) = BadProto line reason
proto_outcome proto.NoMemory = NoMemory

-- the bytes of a file, where the library has its name; those of a file that is not regular are none
abbrev pub content_in : Files → ProtoKind → Option (List ℕ)
content_in map (Kind.Regular name line) = file_named name map
content_in map Kind.Directory = Some []
content_in map (Kind.Link target) = Some []
content_in map (Kind.Block major minor) = Some []
content_in map (Kind.Character major minor) = Some []
content_in map Kind.Pipe = Some []

-- the line in which its name stands
abbrev pub line_in : ProtoKind → ℕ
line_in (Kind.Regular name line) = line
line_in Kind.Directory = 0
line_in (Kind.Link target) = 0
line_in (Kind.Block major minor) = 0
line_in (Kind.Character major minor) = 0
line_in Kind.Pipe = 0

abbrev pub with_contents : List ℕ → Result (List (List ℕ)) ℕ → Result (List (List ℕ)) ℕ
with_contents bytes (Ok all) = Ok (bytes ∷ all)
with_contents bytes (Err line) = Err line

abbrev pub with_content : Option (List ℕ) → ℕ → Result (List (List ℕ)) ℕ → Result (List (List ℕ)) ℕ
with_content (Some bytes) line rest = with_contents bytes rest
with_content None line rest = Err line

-- the bytes of all files; or the line of the first name that the library lacks
abbrev pub contents_in : Files → List ProtoNode → Result (List (List ℕ)) ℕ
contents_in map [] = Ok []
contents_in map (n ∷ ns) = with_content (content_in map n.kind) (line_in n.kind) (contents_in map ns)

abbrev pub by_contents : List ProtoNode → Result (List (List ℕ)) ℕ → Result FilesAsked MakeOutcome
by_contents nodes (Ok contents) = Ok (Listed nodes contents)
by_contents nodes (Err line) = Err (NoFile line)

abbrev pub by_nodes : Files → Result (List ProtoNode) SyntaxError → Result FilesAsked MakeOutcome
by_nodes map (Ok nodes) = by_contents nodes (contents_in map nodes)
by_nodes map (Err error) = Err (BadProto error.line error.reason)

abbrev pub by_text : Files → Option (List ℕ) → Result FilesAsked MakeOutcome
by_text map (Some text) = by_nodes map (nodes_of text)
by_text map None = Err (NoFile 0)

-- the files that are asked for by the name of a protofile; or the answer: the library lacks the protofile, it is none, or the library
-- lacks a file of it
abbrev pub by_proto : Option (List ℕ) → Files → Result FilesAsked MakeOutcome
by_proto None map = Ok Root
by_proto (Some name) map = by_text map (file_named name map)

-- so many generated files
abbrev pub generated_files : ℕ → FilesAsked
generated_files n = Listed (generated_nodes n) (generated_contents n)

abbrev pub by_count : Option ℕ → Result FilesAsked MakeOutcome → Result FilesAsked MakeOutcome
by_count (Some n) later = Ok (generated_files n)
by_count None later = later

-- the files that are asked for, or the answer: generated ones, whatever the library has, or those of a protofile
abbrev pub files_or_answer : MakeOptions → Files → Result FilesAsked MakeOutcome
files_or_answer o map = by_count o.generate (by_proto o.proto map)

-- files can be planned: of each there are bytes
abbrev pub CanBePlanned : FilesAsked → Type 0
CanBePlanned Root = Unit {0}
CanBePlanned (Listed nodes contents) = AreProtoNodes nodes × (length contents ≡ length nodes)

abbrev pub AreListed : FilesAsked → Type 0
AreListed Root = ⊥
AreListed (Listed nodes contents) = CanBePlanned (Listed nodes contents)

-- without a protofile just the root, and with one some files
abbrev pub IsByProto : Option (List ℕ) → FilesAsked → Type 0
IsByProto None asked = asked ≡ Root
IsByProto (Some name) asked = AreListed asked

-- they are the ones that the protofile says, where the library tells what it has
pub record IsReadByProto (proto : Option (List ℕ)) (told : Option Files) (asked : FilesAsked) : Type 0 where
  pub kind : IsByProto proto asked
  pub due : ForSome told (λ map. by_proto proto map ≡ Ok asked)

-- no files of a protofile are read for want of memory, since the library failed, or for what is due to what it has
abbrev pub IsProtoRefusal : Option (List ℕ) → Option Files → MakeOutcome → Type 0
IsProtoRefusal proto told outcome = ForSome told (λ map. by_proto proto map ≡ Err outcome)

abbrev pub IsProtoAnswer : Option (List ℕ) → Option Files → MakeOutcome → Type 0
IsProtoAnswer proto told NoMemory = Unit {0}
IsProtoAnswer proto told LibraryFault = Unit {0}
IsProtoAnswer proto told (BadProto line reason) = IsProtoRefusal proto told (BadProto line reason)
IsProtoAnswer proto told (NoFile line) = IsProtoRefusal proto told (NoFile line)
IsProtoAnswer proto told outcome = ⊥

-- so many generated ones, which can be planned
abbrev pub AreGenerated : ℕ → FilesAsked → Type 0
AreGenerated n asked = (asked ≡ generated_files n) × CanBePlanned asked

abbrev pub IsByCount : Option ℕ → Option (List ℕ) → FilesAsked → Type 0
IsByCount (Some n) proto asked = AreGenerated n asked
IsByCount None proto asked = IsByProto proto asked

-- they are the ones that are asked for, where the library tells what it has
pub record IsAsked (o : MakeOptions) (told : Option Files) (asked : FilesAsked) : Type 0 where
  pub kind : IsByCount o.generate o.proto asked
  pub due : ForSome told (λ map. files_or_answer o map ≡ Ok asked)

-- the answer is due, where the library tells what it has
abbrev pub IsFilesRefusal : MakeOptions → Option Files → MakeOutcome → Type 0
IsFilesRefusal o told outcome = ForSome told (λ map. files_or_answer o map ≡ Err outcome)

-- no files are read for want of memory, since the library failed, or for what is due to what it has
abbrev pub IsFilesAnswer : MakeOptions → Option Files → MakeOutcome → Type 0
IsFilesAnswer o told NoMemory = Unit {0}
IsFilesAnswer o told LibraryFault = Unit {0}
IsFilesAnswer o told (BadProto line reason) = IsFilesRefusal o told (BadProto line reason)
IsFilesAnswer o told (NoFile line) = IsFilesRefusal o told (NoFile line)
IsFilesAnswer o told outcome = ⊥

-- the same of the bytes of the files of a protofile, and of one of them
abbrev pub IsContentsAnswer : Option Files → List ProtoNode → MakeOutcome → Type 0
IsContentsAnswer told nodes NoMemory = Unit {0}
IsContentsAnswer told nodes LibraryFault = Unit {0}
IsContentsAnswer told nodes (NoFile line) = ForSome told (λ map. contents_in map nodes ≡ Err line)
IsContentsAnswer told nodes outcome = ⊥

abbrev pub IsContentAnswer : Option Files → ProtoKind → MakeOutcome → Type 0
IsContentAnswer told kind NoMemory = Unit {0}
IsContentAnswer told kind LibraryFault = Unit {0}
IsContentAnswer told kind (NoFile line) = (line ≡ line_in kind) × ForSome told (λ map. content_in map kind ≡ None)
IsContentAnswer told kind outcome = ⊥

-- the library's count has not fallen, and a library fault is answered only where it rose
abbrev pub HasFilesCause : {A : Type 0} → ℕ → ℕ → Result A MakeOutcome → Type 0
HasFilesCause before now (Ok files) = before ≤ now
HasFilesCause before now (Err LibraryFault) = Rose before now
HasFilesCause before now (Err outcome) = before ≤ now
