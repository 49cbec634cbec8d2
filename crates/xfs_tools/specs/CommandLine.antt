-- The words of a command line: a tool, its options and an image (xfs_repair(8), mkfs.xfs(8), xfs_db(8)).
use Rattle.std.specs.Prelude.{◌≡◌, ℕ, ◌+◌, ◌-◌, ◌*◌, ◌≤◌, Bool, true, false, ◌==◌, ◌&&◌, nat_le, if◌then◌else◌, codes, bytes_eq, List, [], ◌∷◌, ◌++◌, length, take, Option, Some, None}
use Rattle.xfs_options.specs.Numbers.{is_digit}
use Rattle.xfs_options.specs.Words.{Words, is_option}
use Rattle.xfs_mend.specs.declared.outcome.RepairOptions.{RepairOptions}
use Rattle.xfs_tools.specs.declared.command_line.Call.{Call}
use Rattle.xfs_tools.specs.declared.command_line.Call.TheVariants.{Repair, Refused}
use Rattle.xfs_tools.specs.declared.command_line.RepairWords.{RepairWords}
use Rattle.xfs_tools.specs.declared.command_line.Reading.{Reading}
use Rattle.xfs_tools.specs.declared.command_line.Reading.TheVariants.{Options, Workers, Image, Complete, Offended}

-- the options where none is given
abbrev pub no_options : RepairWords
no_options = record { check = false; drop_log = false; tells_repair = false; verbose = false; workers = 4 }

-- a number of workers: decimal from 1 to 64, without a leading zero
abbrev pub workers_of : List ℕ → Option ℕ
workers_of (ones ∷ []) = if is_digit ones && nat_le 49 ones then Some (ones - 48) else None
workers_of (tens ∷ ones ∷ []) =
    if is_digit tens && is_digit ones && nat_le 49 tens && nat_le ((tens - 48) * 10 + (ones - 48)) 64
    then Some ((tens - 48) * 10 + (ones - 48)) else None
workers_of value = None

-- the value of -w in the word of this number
abbrev pub after_workers : ℕ → Option ℕ → RepairWords → Reading
after_workers at (Some workers) o = Options (record o { workers = workers })
after_workers at None o = Offended at

-- the rest of a word behind the letter w: the value, or nothing where the next word is the value
abbrev pub after_letter_w : ℕ → List ℕ → RepairWords → Reading
after_letter_w at [] o = Workers o
after_letter_w at (digit ∷ digits) o = after_workers at (workers_of (digit ∷ digits)) o

-- the letters of the word of this number
abbrev pub after_repair_letters : ℕ → List ℕ → RepairWords → Reading
after_repair_letters at [] o = Options o
after_repair_letters at (letter ∷ rest) o =
    if letter == 110 then after_repair_letters at rest (record o { check = true })
    else if letter == 76 then after_repair_letters at rest (record o { drop_log = true })
    else if letter == 101 then after_repair_letters at rest (record o { tells_repair = true })
    else if letter == 102 then after_repair_letters at rest o
    else if letter == 118 then after_repair_letters at rest (record o { verbose = true })
    else if letter == 119 then after_letter_w at rest o
    else Offended at

-- a word where an option or the image may stand
abbrev pub after_repair_option : ℕ → List ℕ → RepairWords → Reading
after_repair_option at [] o = Complete o
after_repair_option at (first ∷ rest) o =
    if bytes_eq (first ∷ rest) (codes "--") then Image o
    else if is_option (first ∷ rest) then after_repair_letters at rest o
    else Complete o

-- what is read once the word of this number is read too
abbrev pub after_repair_word : ℕ → List ℕ → Reading → Reading
after_repair_word at word (Options o) = after_repair_option at word o
after_repair_word at word (Workers o) = after_workers at (workers_of word) o
after_repair_word at word (Image o) = Complete o
after_repair_word at word (Complete o) = Offended at
after_repair_word at word (Offended n) = Offended n

-- what is read once these words are read too, of which the first has this number
abbrev pub after_repair_words : ℕ → Words → Reading → Reading
after_repair_words at [] reading = reading
after_repair_words at (word ∷ words) reading = after_repair_words (at + 1) words (after_repair_word at word reading)

-- what was read of the words behind the tool's
abbrev pub repair_reading : Words → Reading
repair_reading rest = after_repair_words 1 rest (Options no_options)

-- a repair, or the number of the first word that offends, which is that of all words where one lacks
abbrev pub repair_call : ℕ → Reading → Call
repair_call count (Complete o) = Repair o
repair_call count (Offended n) = Refused n
repair_call count reading = Refused count

-- what the words ask for
unfoldable pub judged : Words → Call
judged [] = Refused 0
judged (tool ∷ rest) =
    if bytes_eq tool (codes "xfs_repair") then repair_call (length rest + 1) (repair_reading rest)
    else Refused 0

-- the tool is xfs_db
abbrev pub is_debugger : Words → Bool
is_debugger [] = false
is_debugger (tool ∷ rest) = bytes_eq tool (codes "xfs_db")

-- the tool is mkfs.xfs
abbrev pub is_maker : Words → Bool
is_maker [] = false
is_maker (tool ∷ rest) = bytes_eq tool (codes "mkfs.xfs")

-- what a repair is asked for
abbrev pub options_of_words : RepairWords → RepairOptions
options_of_words o = record { check = o.check; drop_log = o.drop_log; workers = o.workers }

-- a repair ends with 4: the words ask for it
abbrev pub tells_in : Call → Bool
tells_in (Repair o) = o.tells_repair
tells_in (Refused n) = false

abbrev pub tells_repair : Words → Bool
tells_repair words = tells_in (judged words)

-- the words behind xfs_repair are a command line, with these options
abbrev pub AreRepairWords : Words → RepairWords → Type 0
AreRepairWords rest o = repair_reading rest ≡ Complete o

-- more words can make them a command line
abbrev pub BeginRepairWords : Words → Type 0
BeginRepairWords rest = (more : Words) × (o : RepairWords) × AreRepairWords (rest ++ more) o

-- The word of number n is the first that offends: the words before it can be continued to a command
-- line, and with it they can't, or it is the one that lacks.
pub record OffendsRepairFirst (rest : Words) (n : ℕ) : Type 0 where
  pub within : n ≤ length rest + 1
  pub before : BeginRepairWords (take (n - 1) rest)
  pub with : (o : RepairWords) → AreRepairWords rest o → ⊥
  pub after : n ≤ length rest → BeginRepairWords (take n rest) → ⊥
