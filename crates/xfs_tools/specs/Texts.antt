-- The text of each answer, which is a line but for help, the stream that it goes to, and the exit status.
use Rattle.std.specs.Prelude.{ℕ, Bool, true, false, if◌then◌else◌, codes, List, [], ◌∷◌, ◌++◌}
use Rattle.xfs_tools.specs.declared.answer.Answer.{Answer}
use Rattle.xfs_tools.specs.declared.answer.Answer.TheVariants.{Usage, NoGeometry, Unsupported, DirtyLog, TooLarge, UnsupportedFile, Clean, Damaged, Repaired, BadOption, TooSmall, HasVolume, BadProto, NoFile, LibraryFault, NoRoom, Made, ReadFault, WriteFault, OutputFault, NoMemory, Done, InputFault, InputLong, Help, Version}
use Rattle.xfs_mend.specs.declared.outcome.Summary.{Summary}
use Rattle.xfs_mend.specs.declared.outcome.Summary.TheVariants.{Backups, Rebuilt}
use Rattle.uuid.specs.Text.{hyphenated_text}
use Rattle.xfs_mkfs.specs.declared.outcome.MadeSummary.{MadeSummary}
use Rattle.xfs_place.specs.declared.faults.Unplaced.{Unplaced}
use Rattle.xfs_place.specs.declared.faults.Unplaced.TheVariants as Placed
use Rattle.xfs_image.specs.declared.findings.Finding.{Finding}
use Rattle.xfs_image.specs.declared.findings.Finding.TheVariants as Found
use Rattle.xfs_volume.specs.declared.findings.Law.{Law}
use Rattle.xfs_texts.specs.Help.{help_text, version_text}
use Rattle.xfs_texts.specs.Lines.{line}
use Rattle.xfs_texts.specs.declared.lines.Number.{Number}
use Rattle.xfs_texts.specs.declared.lines.Number.TheVariants.{Decimal, Large, Hexadecimal}

-- the line of a repair's summary
abbrev pub summary_text : Summary → List ℕ
summary_text (Backups count) = line ((codes "repaired: backups=", Decimal count) ∷ []) (codes "\n")
summary_text (Rebuilt blocks kept cleared orphans) =
    line ((codes "repaired: blocks=", Decimal blocks) ∷ (codes " kept=", Decimal kept) ∷ (codes " cleared=", Decimal cleared) ∷ (codes " orphans=", Decimal orphans) ∷ []) (codes "\n")

-- the line of a broken law
abbrev pub law_text : Law → List ℕ
law_text law =
    line ((codes "damaged: law ", Decimal law.law) ∷ (codes " at ", Decimal law.place) ∷ (codes ", held ", Large law.held) ∷ (codes ", due ", Large law.due) ∷ []) (codes "\n")

-- the line of a finding
abbrev pub finding_text : Finding → List ℕ
finding_text (Found.Law law) = law_text law
finding_text (Found.Part part place) = line ((codes "damaged: part ", Decimal part) ∷ (codes " at ", Decimal place) ∷ []) (codes "\n")

-- the line of what finds no room
abbrev pub no_room_text : Unplaced → List ℕ
no_room_text (Placed.Group ag) = line ((codes "xfs: no room: group ", Decimal ag) ∷ []) (codes "\n")
no_room_text (Placed.Directory ino) = line ((codes "xfs: no room: directory ", Decimal ino) ∷ []) (codes "\n")
no_room_text (Placed.File ino) = line ((codes "xfs: no room: file ", Decimal ino) ∷ []) (codes "\n")
no_room_text Placed.Chunk = line [] (codes "xfs: no room: chunk\n")
no_room_text Placed.LostFound = line [] (codes "xfs: no room: lost+found\n")

-- the line of a volume that was made: its blocks, its groups, where the log begins and how many blocks it has, its root, its identifier
abbrev pub made_numbers : MadeSummary → List (List ℕ × Number)
made_numbers made =
    (codes "made: blocks=", Decimal made.dblocks) ∷ (codes " groups=", Decimal made.agcount) ∷ (codes " log=", Decimal made.log)
    ∷ (codes "+", Decimal made.logblocks) ∷ (codes " root=", Decimal made.rootino) ∷ []

abbrev pub made_text : MadeSummary → List ℕ
made_text made = line (made_numbers made) (codes " uuid=") ++ (hyphenated_text 97 made.uuid ++ codes "\n")

-- the text of an answer
abbrev pub text_of : Answer → List ℕ
text_of (Usage word) = line ((codes "xfs: usage: word ", Decimal word) ∷ []) (codes "\n")
text_of (Unsupported word bits) = line ((codes "xfs: unsupported: word ", Decimal word) ∷ (codes " bits 0x", Hexadecimal bits) ∷ []) (codes "\n")
text_of (Damaged finding) = finding_text finding
text_of DirtyLog = line [] (codes "xfs: dirty log\n")
text_of (TooLarge what count) = line ((codes "xfs: too large: ", Decimal what) ∷ (codes " count ", Decimal count) ∷ []) (codes "\n")
text_of (UnsupportedFile ino what) = line ((codes "xfs: unsupported: inode ", Decimal ino) ∷ (codes " feature ", Decimal what) ∷ []) (codes "\n")
text_of NoGeometry = line [] (codes "xfs: no geometry\n")
text_of Clean = line [] (codes "clean\n")
text_of (Repaired summary) = summary_text summary
text_of (BadOption word item) = line ((codes "xfs: bad option: word ", Decimal word) ∷ (codes " item ", Decimal item) ∷ []) (codes "\n")
text_of (TooSmall what) = line ((codes "xfs: too small: ", Decimal what) ∷ []) (codes "\n")
text_of HasVolume = line [] (codes "xfs: has a volume\n")
text_of (BadProto at reason) = line ((codes "xfs: bad protofile: line ", Decimal at) ∷ (codes " reason ", Decimal reason) ∷ []) (codes "\n")
text_of (NoFile at) = line ((codes "xfs: no file: line ", Decimal at) ∷ []) (codes "\n")
text_of LibraryFault = line [] (codes "xfs: library fault\n")
text_of (NoRoom place) = no_room_text place
text_of (Made summary) = made_text summary
text_of (ReadFault faults) = line ((codes "xfs: read fault: ", Decimal faults) ∷ []) (codes "\n")
text_of (WriteFault written) = line ((codes "xfs: write fault after ", Decimal written) ∷ []) (codes " blocks\n")
text_of OutputFault = line [] []
text_of NoMemory = line [] (codes "xfs: no memory\n")
text_of Done = line [] []
text_of InputFault = line [] (codes "xfs: input fault\n")
text_of InputLong = line [] (codes "xfs: input too long\n")
text_of (Help tool) = help_text tool
text_of (Version tool) = version_text tool

-- the text goes to standard output, and else to standard error
abbrev pub is_for_out : Answer → Bool
is_for_out Clean = true
is_for_out (Damaged finding) = true
is_for_out (Repaired summary) = true
is_for_out (Made summary) = true
is_for_out (Help tool) = true
is_for_out (Version tool) = true
is_for_out answer = false

-- the exit status of an answer; under -e a repair ends with 4
abbrev pub code_of : Bool → Answer → ℕ
code_of tells Clean = 0
code_of tells Done = 0
code_of tells (Made summary) = 0
code_of tells (Help tool) = 0
code_of tells (Version tool) = 0
code_of tells (Repaired summary) = if tells then 4 else 0
code_of tells DirtyLog = 2
code_of tells answer = 1
