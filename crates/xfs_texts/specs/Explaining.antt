-- What is wrong with an image, said in words: the object, both numbers in their own terms, and what is usually done about it.
use Rattle.std.specs.Prelude.{ℕ, ◌-◌, ◌/◌, ◌%◌, ◌^◌, ◌==◌, nat_lt, if◌then◌else◌, codes, List, [], ◌∷◌, ◌++◌, Option, Some, None}
use Rattle.xfs_image.specs.declared.findings.Finding.{Finding}
use Rattle.xfs_image.specs.declared.findings.Finding.TheVariants.{Part, Law}
use Rattle.xfs_volume.specs.declared.findings.Law as broken
use Rattle.xfs_texts.specs.Lines.{line}
use Rattle.xfs_texts.specs.declared.lines.Number.{Number}
use Rattle.xfs_texts.specs.declared.lines.Number.TheVariants.{Large, Hexadecimal}
use Rattle.xfs_texts.specs.declared.explanation.Piece.{Piece}
use Rattle.xfs_texts.specs.declared.explanation.Piece.TheVariants.{Nothing, Count, Run, Chunk, Owner, Sequence, Chain}

-- an explanation: the object, its number, what is said of it, what is held, what is due, and what is usually done
pub record Explained : Type 0 where
  pub object : List ℕ
  pub place : Piece
  pub says : List ℕ
  pub held : Piece
  pub between : List ℕ
  pub due : Piece
  pub advice : List ℕ

abbrev pub repair_advice : List ℕ
repair_advice = codes "; usually xfs_repair without -n mends it\n"

abbrev pub log_advice : List ℕ
log_advice = codes "; usually the volume is mounted once and unmounted, or the log dropped by -L\n"

-- a statement of one object
abbrev pub lone : List ℕ → Piece → List ℕ → List ℕ → Explained
lone object place says advice = record { object = object; place = place; says = says; held = Nothing; between = []; due = Nothing; advice = advice }

-- what is held of an object, and what is due
abbrev pub compared : List ℕ → Piece → Piece → Piece → Explained
compared object place held due = record { object = object; place = place; says = codes ": held "; held = held; between = codes ", due "; due = due; advice = repair_advice }

-- the object that is a part of this number
abbrev pub part_object : ℕ → List ℕ
part_object part =
    if part == 0 then codes "the primary superblock of group "
    else if part == 1 then codes "the header of free space (AGF) of group "
    else if part == 2 then codes "the header of inodes (AGI) of group "
    else if part == 3 then codes "the free list (AGFL) of group "
    else if part == 4 then codes "the tree of free space by start (bnobt) of group "
    else if part == 5 then codes "the tree of free space by length (cntbt) of group "
    else if part == 6 then codes "the tree of inodes (inobt) of group "
    else if part == 7 then codes "the tree of free inodes (finobt) of group "
    else if part == 8 then codes "the tree of owners (rmapbt) of group "
    else if part == 9 then codes "inode "
    else codes "the backup superblock of group "

-- a part that is not right
abbrev pub part_explained : ℕ → ℕ → Explained
part_explained part place =
    lone (part_object part) (Count place)
    (if part == 0 then codes " is not accepted, and a backup is"
    else if part == 9 then codes " does not read: its slot, extents, link target or attributes"
    else if part == 10 then codes " does not agree with the primary"
    else codes " does not read")
    repair_advice

-- the trees of free space, and those of inodes, by the places of their laws
abbrev pub space_tree : ℕ → List ℕ
space_tree place = if place % 2 == 0 then part_object 4 else part_object 5

abbrev pub inode_tree : ℕ → List ℕ
inode_tree place = if place % 2 == 0 then part_object 6 else part_object 7

-- a counter of a group
abbrev pub counter_object : ℕ → List ℕ
counter_object counter =
    if counter == 0 then codes "freeblks of the AGF of group "
    else if counter == 1 then codes "longest of the AGF of group "
    else if counter == 2 then codes "btreeblks of the AGF of group "
    else if counter == 3 then codes "rmapblocks of the AGF of group "
    else if counter == 4 then codes "count of the AGI of group "
    else codes "freecount of the AGI of group "

-- a counter of the superblock
abbrev pub total_object : ℕ → List ℕ
total_object counter =
    if counter == 0 then codes "icount of the superblock"
    else if counter == 1 then codes "ifree of the superblock"
    else codes "fdblocks of the superblock"

-- a counter, which is the superblock's behind those of all groups, where their number is known
abbrev pub counter_explained : Option ℕ → broken.Law → Explained
counter_explained None law = compared (codes "the counter at place ") (Count law.place) (Count law.held) (Count law.due)
counter_explained (Some groups) law =
    if law.place / 8 == groups then compared (total_object (law.place % 8)) Nothing (Count law.held) (Count law.due)
    else compared (counter_object (law.place % 8)) (Count (law.place / 8)) (Count law.held) (Count law.due)

-- what a directory fails
abbrev pub directory_says : ℕ → List ℕ
directory_says test =
    if test == 1 then codes " has another index or other free space than its entries say"
    else if test == 2 then codes " has a name that can't be one, or one name twice"
    else if test == 3 then codes " names an inode that is not in use, or one of the system's"
    else codes " states another type than an inode of its has"

-- what an inode fails in the tree of directories
abbrev pub inode_says : ℕ → List ℕ
inode_says test =
    if test == 1 then codes ", a directory, is not named once, or it is the root, and named"
    else if test == 2 then codes ", a directory, has another parent than the directory that names it"
    else if test == 3 then codes ", a directory, is not reached from the root, or it is the root, and no directory"
    else codes " is in use, and nothing names it"

-- a count of links
abbrev pub links_explained : broken.Law → Explained
links_explained law =
    compared (if law.held == 0 then codes "links (0 also where one of the system's is not regular and empty) of inode " else codes "links of inode ")
    (Count law.place) (Count law.held) (Count law.due)

-- a chain of unlinked inodes that begins
abbrev pub chain_explained : broken.Law → Explained
chain_explained law = record {
  object = codes "the chain of unlinked inodes of group ";
  place = Chain (law.place - 1);
  says = codes " begins with inode ";
  held = Count law.held;
  between = codes " of the group, due none";
  due = Nothing;
  advice = repair_advice;
}

-- a log sequence number behind the end of the log
abbrev pub sequence_explained : broken.Law → Explained
sequence_explained law = record {
  object = codes "a log sequence number in block ";
  place = Count (law.place - 1099511627776);
  says = codes " is behind the end of the log: held ";
  held = Sequence law.held;
  between = codes ", the end ";
  due = Sequence law.due;
  advice = repair_advice;
}

-- the log, a chain of unlinked inodes, or a log sequence number
abbrev pub log_explained : broken.Law → Explained
log_explained law =
    if law.place == 0 then lone (codes "the log") Nothing (codes " is not clean") log_advice
    else if nat_lt law.place 1099511627776 then chain_explained law
    else sequence_explained law

-- a record of a tree of free space, of the tree of owners, or of a tree of inodes
abbrev pub records_explained : broken.Law → Explained
records_explained law =
    if law.law == 2 then compared (space_tree law.place) (Count (law.place / 2)) (Run law.held) (Run law.due)
    else if law.law == 3 then compared (codes "the owner of block ") (Count law.place) (Owner law.held) (Owner law.due)
    else compared (inode_tree law.place) (Count (law.place / 2)) (Chunk law.held) (Chunk law.due)

-- a law that is broken
abbrev pub law_explained : Option ℕ → broken.Law → Explained
law_explained groups law =
    if law.law == 1 then compared (codes "owners of block ") (Count law.place) (Count law.held) (Count law.due)
    else if law.law == 2 then records_explained law
    else if law.law == 3 then records_explained law
    else if law.law == 4 then records_explained law
    else if law.law == 5 then counter_explained groups law
    else if law.law == 6 then compared (codes "entries of the free list (AGFL) of group ") (Count law.place) (Count law.held) (Count law.due)
    else if law.law == 7 then lone (codes "directory inode ") (Count law.place) (directory_says law.held) repair_advice
    else if law.law == 8 then lone (codes "inode ") (Count law.place) (inode_says law.held) repair_advice
    else if law.law == 9 then links_explained law
    else if law.law == 10 then log_explained law
    else lone (codes "law ") (Count law.law) (codes " is broken") repair_advice

-- what is found, in words, where the primary superblock states so many groups, or that is not known
abbrev pub explanation : Option ℕ → Finding → Explained
explanation groups (Part part place) = part_explained part place
explanation groups (Law law) = law_explained groups law

-- what stands for no record and no owner
abbrev pub nothing_there : ℕ
nothing_there = 2 ^ 128 - 1

abbrev pub there : ℕ → Option ℕ
there number = if number == nothing_there then None else Some number

-- a run of free blocks
abbrev pub run_text : Option ℕ → List ℕ
run_text None = line [] (codes "no record")
run_text (Some run) = line ((codes "start ", Large (run / 2 ^ 32)) ∷ (codes " count ", Large (run % 2 ^ 32)) ∷ []) []

-- a chunk of inodes
abbrev pub chunk_text : Option ℕ → List ℕ
chunk_text None = line [] (codes "no record")
chunk_text (Some chunk) = line (
    (codes "startino ", Large (chunk / 2 ^ 96))
    ∷ (codes " holemask 0x", Hexadecimal (chunk / 2 ^ 80 % 2 ^ 16))
    ∷ (codes " count ", Large (chunk / 2 ^ 72 % 2 ^ 8))
    ∷ (codes " freecount ", Large (chunk / 2 ^ 64 % 2 ^ 8))
    ∷ (codes " free 0x", Hexadecimal (chunk % 2 ^ 64))
    ∷ []) []

-- the owners that are no files, below 0 in two's complement
abbrev pub owner_name : ℕ → List ℕ
owner_name owner =
    if owner == 18446744073709551613 then codes "the headers of its group"
    else if owner == 18446744073709551612 then codes "the log"
    else if owner == 18446744073709551611 then codes "the trees of space and the free list of its group"
    else if owner == 18446744073709551610 then codes "the trees of inodes of its group"
    else if owner == 18446744073709551609 then codes "inodes"
    else codes "an owner of no kind"

-- where a block of a file belongs: bit 63 of the word is the attribute fork, 62 the extent tree
abbrev pub fork_name : ℕ → List ℕ
fork_name bits =
    if bits == 0 then codes ", offset "
    else if bits == 1 then codes ", extent tree, offset "
    else if bits == 2 then codes ", attributes, offset "
    else codes ", extent tree of attributes, offset "

-- bit 61: it was not written yet
abbrev pub written_name : ℕ → List ℕ
written_name bit = if bit == 0 then [] else codes ", not written"

-- the inode that an owner with its offset word is, where it is a file
abbrev pub inode_in : ℕ → Option ℕ
inode_in owner = if nat_lt (owner / 2 ^ 64) 18446744073709551609 then Some (owner / 2 ^ 64) else None

abbrev pub user_text : ℕ → Option ℕ → List ℕ
user_text owner None = line [] (owner_name (owner / 2 ^ 64))
user_text owner (Some ino) =
    line ((codes "inode ", Large ino) ∷ (fork_name (owner / 2 ^ 62 % 4), Large (owner % 2 ^ 61)) ∷ []) (written_name (owner / 2 ^ 61 % 2))

-- an owner of a block
abbrev pub owner_text : Option ℕ → List ℕ
owner_text None = line [] (codes "no owner")
owner_text (Some owner) = user_text owner (inode_in owner)

-- a number in its own terms
unfoldable pub piece_text : Piece → List ℕ
piece_text Nothing = line [] []
piece_text (Count count) = line (([], Large count) ∷ []) []
piece_text (Run run) = run_text (there run)
piece_text (Chunk chunk) = chunk_text (there chunk)
piece_text (Owner owner) = owner_text (there owner)
piece_text (Sequence number) = line ((codes "cycle ", Large (number / 2 ^ 32)) ∷ (codes " sector ", Large (number % 2 ^ 32)) ∷ []) []
piece_text (Chain place) = line (([], Large (place / 64)) ∷ (codes ", number ", Large (place % 64)) ∷ []) []

-- an explanation from what is due on, from what is held on, and from its object on
abbrev pub due_text : Explained → List ℕ
due_text e = (e.between ++ piece_text e.due) ++ e.advice

abbrev pub held_text : Explained → List ℕ
held_text e = (e.says ++ piece_text e.held) ++ due_text e

abbrev pub object_text : Explained → List ℕ
object_text e = (e.object ++ piece_text e.place) ++ held_text e

-- the line of an explanation
abbrev pub line_of : Explained → List ℕ
line_of e = codes "xfs: " ++ object_text e

-- what is said of a finding
unfoldable pub explanation_text : Option ℕ → Finding → List ℕ
explanation_text groups finding = line_of (explanation groups finding)
