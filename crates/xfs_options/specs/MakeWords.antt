-- What a command line of mkfs.xfs says (mkfs.xfs(8)).
use Rattle.std.specs.Prelude.{◌≡◌, ℕ, ◌+◌, ◌<◌, Bool, true, false, ◌==◌, nat_le, if◌then◌else◌, List, [], ◌∷◌, ◌++◌, length, take, Option, Some, None, Result, Ok, Err}
use Rattle.std.specs.List.{find, slice_get}
use Rattle.xfs_options.specs.Identifiers.{identifier_of}
use Rattle.xfs_options.specs.Numbers.{bounded_number}
use Rattle.xfs_options.specs.Sizes.{blocks_of_text}
use Rattle.xfs_options.specs.SubOptions.{first_bad, is_item_of, is_fine, items_given, given_text}
use Rattle.xfs_options.specs.Words.{Words, is_given, options_of}
use Rattle.xfs_options.specs.declared.items.OptionItem.{OptionItem}
use Rattle.xfs_options.specs.declared.make_words.MakeFault.{MakeFault}
use Rattle.xfs_options.specs.declared.make_words.MakeFault.TheVariants.{Offends, BadOption, NoMemory}
use Rattle.xfs_options.specs.declared.make_words.MakeLine.{MakeLine}
use Rattle.xfs_options.specs.declared.make_words.MakeOptions.{MakeOptions}
use Rattle.xfs_options.specs.declared.options.OptionRow.{OptionRow}
use Rattle.xfs_options.specs.declared.options.ValueForm.{ValueForm}
use Rattle.xfs_options.specs.declared.options.ValueForm.TheVariants.{Any, Label, Number}
use Rattle.xfs_options.specs.declared.reading.Given.{Given}
use Rattle.xfs_options.specs.declared.sub_options.SubOption.{SubOption}
use Rattle.xfs_options.specs.declared.sub_options.SubOption.TheVariants.{DataSize, AgCount, AgSize, LogSize, Identifier}

abbrev pub option_row : ℕ → Option ValueForm → OptionRow
option_row letter form = record { letter = letter; value = form; excludes = None }

-- the options of mkfs.xfs: d, l, m, i, s, b and n with lists; L, p and G with values; f, q and K. p and G exclude each other.
abbrev pub make_options : List OptionRow
make_options =
    option_row 100 (Some Any) ∷ option_row 108 (Some Any) ∷ option_row 109 (Some Any) ∷ option_row 105 (Some Any)
    ∷ option_row 115 (Some Any) ∷ option_row 98 (Some Any) ∷ option_row 110 (Some Any)
    ∷ option_row 76 (Some Label)
    ∷ record { letter = 112; value = Some Any; excludes = Some 71 }
    ∷ option_row 102 None ∷ option_row 113 None ∷ option_row 75 None
    ∷ record { letter = 71; value = Some (Number 100000); excludes = Some 112 }
    ∷ []

abbrev pub last_from : ℕ → Option (List ℕ) → List Given → Option (List ℕ)
last_from letter last [] = last
last_from letter last (given ∷ rest) = last_from letter (if given.letter == letter then Some given.value else last) rest

-- the last value of an option
abbrev pub last_value : ℕ → List Given → Option (List ℕ)
last_value letter given = last_from letter None given

-- what stands behind the text of a sub-option in the item that gives it
abbrev pub value_of_item : SubOption → Option OptionItem → Option (List ℕ)
value_of_item sub None = None
value_of_item sub (Some item) = Some (given_text sub item)

abbrev pub value_in : SubOption → List OptionItem → Option (List ℕ)
value_in sub items = value_of_item sub (find (is_item_of sub) items)

abbrev pub sized : Option (List ℕ) → Option ℕ
sized None = None
sized (Some text) = blocks_of_text text

abbrev pub counted : Option (List ℕ) → Option ℕ
counted None = None
counted (Some text) = bounded_number text

abbrev pub identified : Option (List ℕ) → Option (List ℕ)
identified None = None
identified (Some text) = identifier_of text

abbrev pub small_count : Option ℕ → Option ℕ
small_count None = None
small_count (Some count) = if nat_le count 100000 then Some count else None

-- the number of files that a value says
abbrev pub generated : Option (List ℕ) → Option ℕ
generated value = small_count (counted value)

abbrev pub label_of : Option (List ℕ) → List ℕ
label_of None = []
label_of (Some label) = label

-- what these options and items say
abbrev pub make_line : List Given → List OptionItem → MakeLine
make_line given items = record {
  options = record {
    blocks = sized (value_in DataSize items);
    agcount = counted (value_in AgCount items);
    agblocks = sized (value_in AgSize items);
    logblocks = sized (value_in LogSize items);
    uuid = identified (value_in Identifier items);
    label = label_of (last_value 76 given);
    proto = last_value 112 given;
    force = is_given 102 given;
    generate = generated (last_value 71 given);
  };
  quiet = is_given 113 given;
}

-- why words are refused: a word offends, or an item of a word is bad
pub data Refusal : Type 0 where
  usage : ℕ → Refusal
  bad : ℕ → ℕ → Refusal

abbrev pub judged_by : Option OptionItem → List Given → List OptionItem → Result MakeLine Refusal
judged_by None given items = Ok (make_line given items)
judged_by (Some item) given items = Err (bad item.word item.number)

-- what these options say, or the word and the number of the first bad item
abbrev pub judged_making : List Given → Result MakeLine Refusal
judged_making given = judged_by (first_bad [] (items_given given)) given (items_given given)

abbrev pub make_from : Result (List Given) ℕ → Result MakeLine Refusal
make_from (Ok given) = judged_making given
make_from (Err n) = Err (usage n)

-- what the words behind the tool's say, or why they are refused: for a word that offends, or else for a bad item
unfoldable pub make_of : Words → Result MakeLine Refusal
make_of rest = make_from (options_of make_options rest)

abbrev pub IsMakeCause : Result MakeLine Refusal → MakeFault → Type 0
IsMakeCause said (Offends n) = said ≡ Err (usage n)
IsMakeCause said (BadOption word item) = said ≡ Err (bad word item)
IsMakeCause said NoMemory = Unit {0}

-- The item of this number in this word is the first that is bad: it can't stand behind those before it, each of these
-- can, and no word offends.
pub record OffendsFirstItem (rest : Words) (word number : ℕ) : Type 0 where
  pub given : List Given
  pub accepted : options_of make_options rest ≡ Ok given
  pub place : ℕ
  pub item : OptionItem
  pub here : slice_get (items_given given) place ≡ Some item
  pub named : (item.word ≡ word) × (item.number ≡ number)
  pub before : (k : ℕ) (other : OptionItem) → k < place → slice_get (items_given given) k ≡ Some other → is_fine (take k (items_given given)) other ≡ true
  pub refused : is_fine (take place (items_given given)) item ≡ false
