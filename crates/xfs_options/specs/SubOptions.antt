-- The sub-options of mkfs.xfs: items of the lists that some of its options take (mkfs.xfs(8)).
use Rattle.std.specs.Prelude.{ℕ, ◌+◌, Bool, true, false, ◌==◌, ◌&&◌, ◌||◌, not, if◌then◌else◌, codes, bytes_eq, List, [], ◌∷◌, ◌++◌, length, take, drop, Option, Some, None, is_some}
use Rattle.std.specs.List.{find, list_any}
use Rattle.xfs_options.specs.Identifiers.{identifier_of}
use Rattle.xfs_options.specs.Numbers.{bounded_number}
use Rattle.xfs_options.specs.Sizes.{blocks_of_text}
use Rattle.xfs_options.specs.declared.items.OptionItem.{OptionItem}
use Rattle.xfs_options.specs.declared.reading.Given.{Given}
use Rattle.xfs_options.specs.declared.sub_options.ItemForm.{ItemForm}
use Rattle.xfs_options.specs.declared.sub_options.ItemForm.TheVariants as Form
use Rattle.xfs_options.specs.declared.sub_options.SubOption.{SubOption}
use Rattle.xfs_options.specs.declared.sub_options.SubOption.TheVariants.{DataSize, AgCount, AgSize, LogSize, Identifier, Crc, Finobt, Rmapbt, Reflink, Bigtime, Inobtcount, InodeSize, Sparse, Nrext64, SectorSize, BlockSize, Ftype}

abbrev pub all_sub_options : List SubOption
all_sub_options =
    DataSize ∷ AgCount ∷ AgSize ∷ LogSize ∷ Identifier ∷ Crc ∷ Finobt ∷ Rmapbt ∷ Reflink ∷ Bigtime ∷ Inobtcount ∷ InodeSize ∷ Sparse ∷ Nrext64
    ∷ SectorSize ∷ BlockSize ∷ Ftype ∷ []

-- the letter of the option in whose lists it stands
abbrev pub option_of : SubOption → ℕ
option_of DataSize = 100
option_of AgCount = 100
option_of AgSize = 100
option_of LogSize = 108
option_of InodeSize = 105
option_of Sparse = 105
option_of Nrext64 = 105
option_of SectorSize = 115
option_of BlockSize = 98
option_of Ftype = 110
option_of sub = 109

-- the text with which its items begin; a fixed value is part of it
abbrev pub item_text : SubOption → List ℕ
item_text DataSize = codes "size="
item_text AgCount = codes "agcount="
item_text AgSize = codes "agsize="
item_text LogSize = codes "size="
item_text Identifier = codes "uuid="
item_text Crc = codes "crc=1"
item_text Finobt = codes "finobt=1"
item_text Rmapbt = codes "rmapbt=1"
item_text Reflink = codes "reflink=0"
item_text Bigtime = codes "bigtime=0"
item_text Inobtcount = codes "inobtcount=0"
item_text InodeSize = codes "size=512"
item_text Sparse = codes "sparse=1"
item_text Nrext64 = codes "nrext64=0"
item_text SectorSize = codes "size=512"
item_text BlockSize = codes "size=4096"
item_text Ftype = codes "ftype=1"

-- what follows the text
abbrev pub item_form : SubOption → ItemForm
item_form DataSize = Form.Size
item_form AgCount = Form.Count
item_form AgSize = Form.Size
item_form LogSize = Form.Size
item_form Identifier = Form.Identifier
item_form sub = Form.Fixed

-- the sub-option that can't stand beside it: its own, or the other one that says how many groups there are
abbrev pub rival_of : SubOption → SubOption
rival_of AgCount = AgSize
rival_of AgSize = AgCount
rival_of sub = sub

abbrev pub fits : ItemForm → List ℕ → Bool
fits Form.Fixed rest = length rest == 0
fits Form.Size rest = is_some (blocks_of_text rest)
fits Form.Count rest = is_some (bounded_number rest)
fits Form.Identifier rest = is_some (identifier_of rest)

-- the item gives the sub-option
abbrev pub is_item_of : SubOption → OptionItem → Bool
is_item_of sub item = option_of sub == item.option && bytes_eq (take (length (item_text sub)) item.text) (item_text sub)

-- the sub-option that an item gives
unfoldable pub sub_of : OptionItem → Option SubOption
sub_of item = find (λ (sub : SubOption). is_item_of sub item) all_sub_options

-- the item gives the sub-option, or the one that can't stand beside it
abbrev pub opposes : SubOption → OptionItem → Bool
opposes sub item = is_item_of sub item || is_item_of (rival_of sub) item

-- what stands behind the text of the sub-option
abbrev pub given_text : SubOption → OptionItem → List ℕ
given_text sub item = drop (length (item_text sub)) item.text

abbrev pub is_fine_as : Option SubOption → List OptionItem → OptionItem → Bool
is_fine_as None before item = false
is_fine_as (Some sub) before item = fits (item_form sub) (given_text sub item) && not (list_any (opposes sub) before)

-- the item can stand behind these: it gives a sub-option in its form, and none of these opposes it
abbrev pub is_fine : List OptionItem → OptionItem → Bool
is_fine before item = is_fine_as (sub_of item) before item

-- the first of the items that can't stand behind those before it
abbrev pub first_bad : List OptionItem → List OptionItem → Option OptionItem
first_bad before [] = None
first_bad before (item ∷ items) = if is_fine before item then first_bad (before ++ item ∷ []) items else Some item

-- the options that take a list: d, l, m, i, s, b and n
abbrev pub is_list_letter : ℕ → Bool
is_list_letter letter = letter == 100 || letter == 108 || letter == 109 || letter == 105 || letter == 115 || letter == 98 || letter == 110

abbrev pub new_item : Given → ℕ → List ℕ → OptionItem
new_item given number text = record { option = given.letter; word = given.word; number = number; text = text }

-- the items of an option from where one of this number has begun with this text: a comma ends it
abbrev pub items_from : Given → ℕ → List ℕ → List ℕ → List OptionItem
items_from given number text [] = new_item given number text ∷ []
items_from given number text (byte ∷ bytes) =
    if byte == 44 then new_item given number text ∷ items_from given (number + 1) [] bytes
    else items_from given number (text ++ byte ∷ []) bytes

-- the items of an option: what stands between commas, numbered from 1
abbrev pub items_in : Given → List OptionItem
items_in given = if is_list_letter given.letter then items_from given 1 [] given.value else []

-- the items of all options, in order
abbrev pub items_given : List Given → List OptionItem
items_given [] = []
items_given (given ∷ rest) = items_in given ++ items_given rest
