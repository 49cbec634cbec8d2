-- What the program says of itself: how each tool is called, its options with a line each, and its statuses; and its version.
use Rattle.std.specs.Prelude.{◌≡◌, ℕ, codes, List, [], ◌∷◌, ◌++◌, map, Option, Some, None}
use Rattle.std.specs.List.{flat_map}
use Rattle.xfs_options.specs.declared.options.OptionRow.{OptionRow}
use Rattle.xfs_texts.specs.Lines.{line}
use Rattle.xfs_texts.specs.declared.help.Tool.{Tool}
use Rattle.xfs_texts.specs.declared.help.Tool.TheVariants.{Repair, Make, Debug}
use Rattle.xfs_texts.specs.declared.lines.Number.{Number}
use Rattle.xfs_texts.specs.declared.lines.Number.TheVariants.{Letter}

abbrev pub repair_called : List ℕ
repair_called = codes "xfs xfs_repair [-n] [-L] [-e] [-f] [-v] [-w workers] IMAGE\nChecks an XFS volume in an image file, and repairs it.\n\n"

abbrev pub repair_rows : List (ℕ × List ℕ)
repair_rows =
    (110, codes "          check only, and write nothing\n")
    ∷ (76, codes "          go on where the log is not clean, and drop it\n")
    ∷ (101, codes "          end with 4 after a repair\n")
    ∷ (102, codes "          the image is a file; no effect\n")
    ∷ (118, codes "          say in words what was found\n")
    ∷ (119, codes " workers  so many pieces of work at once, 1 to 64; 4 by default\n")
    ∷ []

abbrev pub repair_ends : List ℕ
repair_ends = codes "  --help      alone: print this\n  --version   alone: print the version, as -V does\n\nstatus 0     the volume is consistent, or was repaired\nstatus 1     it is damaged, or something else is told in a line\nstatus 2     its log is not clean, and neither -n nor -L is given\nstatus 4     it was repaired, and -e is given\n"

abbrev pub make_called : List ℕ
make_called = codes "xfs mkfs.xfs [-d list] [-l list] [-m list] [-i list] [-s list] [-b list] [-n list] [-L label] [-p protofile | -G number] [-f] [-q] [-K] IMAGE\nMakes an XFS volume in an image file that is there, empty or with files. A list has items with commas between them.\n\n"

abbrev pub make_rows : List (ℕ × List ℕ)
make_rows =
    (100, codes " list       size=SIZE, agcount=N or agsize=SIZE: the volume, and its groups or the size of each\n")
    ∷ (108, codes " list       size=SIZE: the log\n")
    ∷ (109, codes " list       uuid=U: the identifier; crc=1, finobt=1, rmapbt=1, reflink=0, bigtime=0, inobtcount=0 are always so\n")
    ∷ (105, codes " list       size=512, sparse=1, nrext64=0 are always so\n")
    ∷ (115, codes " list       size=512 is always so\n")
    ∷ (98, codes " list       size=4096 is always so\n")
    ∷ (110, codes " list       ftype=1 is always so\n")
    ∷ (76, codes " label      the label, of at most 12 bytes\n")
    ∷ (112, codes " protofile  a text that says which files the volume has\n")
    ∷ (102, codes "            write over what is there\n")
    ∷ (113, codes "            print nothing of the volume that was made\n")
    ∷ (75, codes "            no effect\n")
    ∷ (71, codes " number     make so many files, then lose the root of a tree and repair the volume, each with its line\n")
    ∷ []

abbrev pub make_ends : List ℕ
make_ends = codes "  --help        alone: print this\n  --version     alone: print the version, as -V does\n\nA SIZE is in bytes, or has a letter behind it: b for blocks of 4096, s for sectors of 512, k, m, g for powers of 1024.\n\nstatus 0       the volume was made\nstatus 1       something else is told in a line\n"

abbrev pub debug_called : List ℕ
debug_called = codes "xfs xfs_db [-r] [-x] [-f] [-c command]... IMAGE\nLooks at the objects of an XFS volume in an image file, and changes their fields.\n\n"

abbrev pub debug_rows : List (ℕ × List ℕ)
debug_rows =
    (114, codes "          never write\n")
    ∷ (120, codes "          allow the command write\n")
    ∷ (102, codes "          the image is a file; no effect\n")
    ∷ (99, codes " command  run this command, and read no input; may be repeated\n")
    ∷ []

abbrev pub debug_ends : List ℕ
debug_ends = codes "  --help      alone: print this\n  --version   alone: print the version, as -V does\n\nstatus 0     all commands were run, each or a line in its place\nstatus 1     something else is told in a line\n"

abbrev pub program_help : List ℕ
program_help = codes "xfs TOOL [option]... IMAGE\nChecks, mends, makes and inspects XFS version 5 volumes that are image files. A link to the program with a tool's name is that tool.\n\n  xfs_repair  checks a volume, and repairs it\n  mkfs.xfs    makes a volume, empty or with files\n  xfs_db      looks at the objects of a volume, and changes their fields\n\n  --help      alone: print this; alone behind a tool: its options\n  --version   alone: print the version\n\nstatus 0, 2, 4  as the tool tells\nstatus 1        the words are no call of a tool, or something else is told in a line\n"

-- the line of an option: its letter, its value and what it does
abbrev pub option_line : ℕ × List ℕ → List ℕ
option_line row = line ((codes "  -", Letter row.0) ∷ []) row.1

abbrev pub option_lines : List (ℕ × List ℕ) → List ℕ
option_lines = flat_map option_line

-- how a tool is called, the lines of its options, and what stands behind them
abbrev pub page_text : List ℕ → List (ℕ × List ℕ) → List ℕ → List ℕ
page_text called rows ends = called ++ (option_lines rows ++ ends)

-- what is said of a tool
unfoldable pub tool_help : Tool → List ℕ
tool_help Repair = page_text repair_called repair_rows repair_ends
tool_help Make = page_text make_called make_rows make_ends
tool_help Debug = page_text debug_called debug_rows debug_ends

-- what is said of a tool, and of the program where there is none
abbrev pub help_text : Option Tool → List ℕ
help_text None = program_help
help_text (Some tool) = tool_help tool

-- the name by which a tool is called, and that of the program where there is none
abbrev pub called_by : Option Tool → List ℕ
called_by None = codes "xfs"
called_by (Some Repair) = codes "xfs_repair"
called_by (Some Make) = codes "mkfs.xfs"
called_by (Some Debug) = codes "xfs_db"

-- the version, behind the name
abbrev pub version_text : Option Tool → List ℕ
version_text tool = called_by tool ++ codes " version 0.5\n"

-- the rows have just the letters of these options, in their order
abbrev pub Names : List (ℕ × List ℕ) → List OptionRow → Type 0
Names rows options = map (λ (row : ℕ × List ℕ). row.0) rows ≡ map (λ (row : OptionRow). row.letter) options
