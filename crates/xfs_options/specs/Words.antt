-- The words of a command line behind the tool's: options as letters behind `-`, their values, and one image
-- (mkfs.xfs(8), xfs_db(8)).
use Rattle.std.specs.Prelude.{◌≡◌, ℕ, ◌+◌, ◌-◌, ◌≤◌, Bool, true, false, ◌==◌, not, if◌then◌else◌, codes, bytes_eq, List, [], ◌∷◌, ◌++◌, length, take, Option, Some, None, Result, Ok, Err}
use Rattle.std.specs.List.{list_any}
use Rattle.xfs_options.specs.Options.{accepts, row_of}
use Rattle.xfs_options.specs.declared.options.OptionRow.{OptionRow}
use Rattle.xfs_options.specs.declared.options.ValueForm.{ValueForm}
use Rattle.xfs_options.specs.declared.reading.Given.{Given}
use Rattle.xfs_options.specs.declared.reading.LineFault.{LineFault}
use Rattle.xfs_options.specs.declared.reading.LineFault.TheVariants.{Offends, NoMemory}
use Rattle.xfs_options.specs.declared.reading.Expected.{Expected}
use Rattle.xfs_options.specs.declared.reading.Expected.TheVariants.{Options, Value, Image, Complete, Offended}
use Rattle.xfs_options.specs.declared.reading.Reading.{Reading}

-- words, each a list of bytes
abbrev pub Words : Type 0
Words = List (List ℕ)

-- what was read: the options that were given, and what may follow
pub data Read : Type 0 where
  in_options : List Given → Read
  in_value : ℕ → ValueForm → List Given → Read
  in_image : List Given → Read
  complete : List Given → Read
  offended : ℕ → Read

abbrev pub read_of : Expected → List Given → Read
read_of Options given = in_options given
read_of (Value letter form) given = in_value letter form given
read_of Image given = in_image given
read_of Complete given = complete given
read_of (Offended n) given = offended n

abbrev pub held : Reading → Read
held reading = read_of reading.place reading.given.items

-- an option is given
abbrev pub is_given : ℕ → List Given → Bool
is_given letter given = list_any (λ (g : Given). g.letter == letter) given

-- the excluded option isn't given
abbrev pub is_not_excluded : Option ℕ → List Given → Bool
is_not_excluded None given = true
is_not_excluded (Some letter) given = not (is_given letter given)

abbrev pub free_row : Option OptionRow → List Given → Option OptionRow
free_row None given = None
free_row (Some row) given = if is_not_excluded row.excludes given then Some row else None

-- the row of a letter that may stand behind what was given
abbrev pub row_for : ℕ → List OptionRow → List Given → Option OptionRow
row_for letter rows given = free_row (row_of letter rows) given

-- an option with its value, in the word of this number
abbrev pub after_value : ℕ → ℕ → ValueForm → List ℕ → List Given → Read
after_value at letter form value given =
    if accepts form value then in_options (given ++ record { letter = letter; word = at; value = value } ∷ []) else offended at

-- the rest of a word behind a letter that takes a value: the value, or nothing where the next word is the value
abbrev pub after_rest : ℕ → ℕ → ValueForm → List ℕ → List Given → Read
after_rest at letter form [] given = in_value letter form given
after_rest at letter form (byte ∷ bytes) given = after_value at letter form (byte ∷ bytes) given

-- a letter with its row: a value follows, or else what is next
abbrev pub after_form : ℕ → ℕ → Option ValueForm → List ℕ → List Given → Read → Read
after_form at letter None rest given next = next
after_form at letter (Some form) rest given next = after_rest at letter form rest given

abbrev pub after_row : ℕ → ℕ → Option OptionRow → List ℕ → List Given → Read → Read
after_row at letter None rest given next = offended at
after_row at letter (Some row) rest given next = after_form at letter row.value rest given next

-- the letters of the word of this number
abbrev pub after_letters : List OptionRow → ℕ → List ℕ → List Given → Read
after_letters rows at [] given = in_options given
after_letters rows at (letter ∷ rest) given =
    after_row at letter (row_for letter rows given) rest given
    (after_letters rows at rest (given ++ record { letter = letter; word = at; value = [] } ∷ []))

-- a word of letters behind `-`; `-` alone is none
abbrev pub is_option : List ℕ → Bool
is_option [] = false
is_option (first ∷ []) = false
is_option (first ∷ second ∷ rest) = first == 45

-- a word where an option or the image may stand
abbrev pub after_option : List OptionRow → ℕ → List ℕ → List Given → Read
after_option rows at [] given = complete given
after_option rows at (first ∷ rest) given =
    if bytes_eq (first ∷ rest) (codes "--") then in_image given
    else if is_option (first ∷ rest) then after_letters rows at rest given
    else complete given

-- what is read once the word of this number is read too
abbrev pub after_word : List OptionRow → ℕ → List ℕ → Read → Read
after_word rows at word (in_options given) = after_option rows at word given
after_word rows at word (in_value letter form given) = after_value at letter form word given
after_word rows at word (in_image given) = complete given
after_word rows at word (complete given) = offended at
after_word rows at word (offended n) = offended n

-- what is read once these words are read too, of which the first has this number
abbrev pub after_words : List OptionRow → ℕ → Words → Read → Read
after_words rows at [] read = read
after_words rows at (word ∷ words) read = after_words rows (at + 1) words (after_word rows at word read)

-- what was read of the words behind the tool's
abbrev pub reading_of_words : List OptionRow → Words → Read
reading_of_words rows rest = after_words rows 1 rest (in_options [])

-- the options, or the number of the first word that offends, which is that of all words where one lacks
abbrev pub finished_reading : ℕ → Read → Result (List Given) ℕ
finished_reading count (complete given) = Ok given
finished_reading count (offended n) = Err n
finished_reading count read = Err count

-- the options that words give in front of an image, or the number of the first word that offends
unfoldable pub options_of : List OptionRow → Words → Result (List Given) ℕ
options_of rows rest = finished_reading (length rest + 1) (reading_of_words rows rest)

-- why words are refused
abbrev pub IsCause : {A : Type 0} → Result A ℕ → LineFault → Type 0
IsCause said (Offends n) = said ≡ Err n
IsCause said NoMemory = Unit {0}

-- the words are a command line, with these options
abbrev pub IsAccepted : List OptionRow → Words → List Given → Type 0
IsAccepted rows rest given = reading_of_words rows rest ≡ complete given

-- more words can make them a command line
abbrev pub IsBegun : List OptionRow → Words → Type 0
IsBegun rows rest = (more : Words) × (given : List Given) × IsAccepted rows (rest ++ more) given

-- The word of number n is the first that offends: the words before it can be continued to a command
-- line, and with it they can't, or it is the one that lacks.
pub record OffendsFirst (rows : List OptionRow) (rest : Words) (n : ℕ) : Type 0 where
  pub within : n ≤ length rest + 1
  pub before : IsBegun rows (take (n - 1) rest)
  pub with : (given : List Given) → IsAccepted rows rest given → ⊥
  pub after : n ≤ length rest → IsBegun rows (take n rest) → ⊥
