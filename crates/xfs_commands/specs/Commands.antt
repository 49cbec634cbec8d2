-- The commands of a line: what each prints and changes (xfs_db(8)).
use Rattle.std.specs.Prelude.{◌≡◌, ℕ, ◌+◌, ◌-◌, ◌*◌, ◌/◌, ◌^◌, ◌<◌, Bool, ◌==◌, nat_lt, if◌then◌else◌, codes, bytes_eq, decimal, List, [], ◌∷◌, ◌++◌, length, take, drop, Option, Some, None, is_none, slice_get, IfSome}
use Rattle.std.specs.Int.{to_be_bytes, to_le_bytes, w32, w64}
use Rattle.std.specs.List.{All, find, flat_map, range_with_len}
use Rattle.xfs_word.specs.Crc.{crc_of, cleared}
use Rattle.xfs_word.specs.Field.{field_of}
use Rattle.xfs_word.specs.Hash.{hash_of}
use Rattle.xfs_geom.specs.Conversions.{block_at, group_length}
use Rattle.xfs_geom.specs.Volumes.{Volume}
use Rattle.xfs_objects.specs.Hexadecimal.{hexadecimal}
use Rattle.xfs_objects.specs.Items.{item_named, number_width}
use Rattle.xfs_objects.specs.Numbers.{typed}
use Rattle.xfs_objects.specs.Objects.{object_in, object_size, type_name, type_named}
use Rattle.xfs_objects.specs.Places.{both_bases, first_sector, number_in, spot_of}
use Rattle.xfs_objects.specs.Tables.{Item}
use Rattle.xfs_objects.specs.Values.{item_line, whole_text}
use Rattle.xfs_commands.specs.declared.cursor.Cursor.{Cursor}
use Rattle.xfs_commands.specs.declared.cursor.Verdict.{Verdict}
use Rattle.xfs_commands.specs.declared.cursor.Verdict.TheVariants.{Done, Refused, Quit}
use Rattle.xfs_objects.specs.declared.convert.Measure.{Measure}
use Rattle.xfs_objects.specs.declared.items.ItemShape.{ItemShape}
use Rattle.xfs_objects.specs.declared.items.ItemShape.TheVariants.{Field, Pointer, Numbers}
use Rattle.xfs_objects.specs.declared.numbers.Typed.{Typed}
use Rattle.xfs_objects.specs.declared.numbers.Typed.TheVariants.{NoNumber, TooLarge, Number}
use Rattle.xfs_objects.specs.declared.objects.ObjectType.{ObjectType}
use Rattle.xfs_objects.specs.declared.objects.ObjectType.TheVariants as kind
use Rattle.xfs_objects.specs.declared.objects.ObjectPlace.{ObjectPlace}

-- where the language stands: the current place, and the stack of places, the top last
pub record Session : Type 0 where
  pub at : Option ObjectPlace
  pub stack : List ObjectPlace

abbrev pub session_of : Cursor → Session
session_of c = record { at = c.at; stack = c.stack.items }

-- a place in a volume of so many blocks
abbrev pub IsSectorPlace : ℕ → ObjectPlace → Type 0
IsSectorPlace dblocks place = (place.block < dblocks) × (place.sector < 8)

-- every place is
pub record IsWithin (dblocks : ℕ) (s : Session) : Type 0 where
  pub at_is : IfSome s.at (IsSectorPlace dblocks)
  pub stack_is : All (IsSectorPlace dblocks) s.stack

-- a block that is to be written: its number and its bytes
abbrev pub Put : Type 0
Put = Option (ℕ × List ℕ)

-- what a command does: how it ends, its lines, where it then stands, and the block that it writes
pub record Effect : Type 0 where
  pub verdict : Verdict
  pub text : List ℕ
  pub session : Session
  pub put : Put

-- a call did so: its lines stand behind the text, and the block is the one to be written
pub record IsEffect (e : Effect) (verdict : Verdict) (old new : List ℕ) (session : Session) (put : Put) : Type 0 where
  pub verdict_is : verdict ≡ e.verdict
  pub text_is : new ≡ old ++ e.text
  pub session_is : session ≡ e.session
  pub put_is : put ≡ e.put

-- a command that was run
abbrev pub does : List ℕ → Session → Effect
does text s = record { verdict = Done; text = text; session = s; put = None }

-- one that can't be run, with its line
abbrev pub refuses : List ℕ → Session → Effect
refuses line s = record { verdict = Refused; text = line; session = s; put = None }

abbrev pub refuses_word : List ℕ → List ℕ → Session → Effect
refuses_word reason word s = refuses (reason ++ word ++ codes "\n") s

abbrev pub no_address : Session → Effect
no_address s = refuses (codes "no address\n") s

abbrev pub bad_command : List ℕ → Session → Effect
bad_command word s = refuses_word (codes "bad command: ") word s

abbrev pub no_field : List ℕ → Session → Effect
no_field word s = refuses_word (codes "no field: ") word s

abbrev pub bad_number : List ℕ → Session → Effect
bad_number word s = refuses_word (codes "bad number: ") word s

abbrev pub out_of_image : Session → Effect
out_of_image s = refuses (codes "out of image\n") s

-- goes to a place
abbrev pub goes : ObjectType → ℕ × ℕ → Session → Effect
goes kind spot s = does [] (record s { at = Some (record { block = spot.0; sector = spot.1; kind = kind }) })

unfoldable pub goes_to : ObjectType → Option (ℕ × ℕ) → Session → Effect
goes_to kind None s = out_of_image s
goes_to kind (Some spot) s = goes kind spot s

-- sb, agf, agi, agfl: to the header of a group, which has a sector of its own
abbrev pub group_start : Volume → ℕ → Option ℕ
group_start v n = if nat_lt n v.agcount then Some (n * v.agblocks) else None

abbrev pub at_group : ObjectType → ℕ → Option ℕ → List ℕ → Session → Effect
at_group kind sector None word s = bad_number word s
at_group kind sector (Some block) word s = goes kind (block, sector) s

abbrev pub to_group : Volume → ObjectType → ℕ → Typed → List ℕ → Session → Effect
to_group v kind sector NoNumber word s = bad_number word s
to_group v kind sector TooLarge word s = bad_number word s
to_group v kind sector (Number n) word s = at_group kind sector (group_start v n) word s

unfoldable pub to_head : Volume → ObjectType → ℕ → List (List ℕ) → Session → Effect
to_head v kind sector [] s = goes kind (0, sector) s
to_head v kind sector (word ∷ rest) s = to_group v kind sector (typed word) word s

-- inode, fsblock, daddr
abbrev pub to_spot : Volume → Measure → ObjectType → Typed → List ℕ → Session → Effect
to_spot v measure kind NoNumber word s = bad_number word s
to_spot v measure kind TooLarge word s = out_of_image s
to_spot v measure kind (Number n) word s = goes_to kind (spot_of v measure n) s

unfoldable pub to_number : Volume → Measure → ObjectType → List ℕ → Session → Effect
to_number v measure kind word s = to_spot v measure kind (typed word) word s

-- convert
abbrev pub tells_spot : Volume → Measure → Option (ℕ × ℕ) → Session → Effect
tells_spot v measure None s = out_of_image s
tells_spot v measure (Some spot) s = does (both_bases (number_in v measure spot.0 spot.1)) s

abbrev pub converts_typed : Volume → Measure → Typed → List ℕ → Measure → Session → Effect
converts_typed v source NoNumber word target s = bad_number word s
converts_typed v source TooLarge word target s = out_of_image s
converts_typed v source (Number n) word target s = tells_spot v target (spot_of v source n) s

unfoldable pub converts : Volume → Measure → List ℕ → Measure → Session → Effect
converts v source word target s = converts_typed v source (typed word) word target s

-- hash
unfoldable pub hash_text : List ℕ → List ℕ
hash_text name = codes "0x" ++ hexadecimal (hash_of name) ++ codes "\n"

-- pop
abbrev pub pops_to : Option ObjectPlace → Session → Effect
pops_to None s = no_address s
pops_to (Some place) s = does [] (record { at = Some place; stack = take (length s.stack - 1) s.stack })

unfoldable pub pops : Session → Effect
pops s = pops_to (slice_get s.stack (length s.stack - 1)) s

-- stack: the top has number 0
abbrev pub stack_line : ℕ → Option ObjectPlace → List ℕ
stack_line i None = []
stack_line i (Some place) =
    decimal i ++ codes ": block " ++ decimal place.block ++ codes " sector " ++ decimal place.sector ++ codes " type " ++ type_name place.kind ++ codes "\n"

abbrev pub line_of_stack : List ObjectPlace → ℕ → List ℕ
line_of_stack stack i = stack_line i (slice_get stack (length stack - 1 - i))

unfoldable pub stack_text : List ObjectPlace → List ℕ
stack_text stack = flat_map (line_of_stack stack) (range_with_len 0 (length stack))

-- type
abbrev pub sets_type : ObjectPlace → List ℕ → Option ObjectType → Session → Effect
sets_type place word None s = refuses_word (codes "no type: ") word s
sets_type place word (Some kind) s = does [] (record s { at = Some (record place { kind = kind }) })

unfoldable pub types : ObjectPlace → List (List ℕ) → Session → Effect
types place [] s = does (codes "type = " ++ type_name place.kind ++ codes "\n") s
types place (word ∷ rest) s = sets_type place word (type_named word) s

-- print: each item, or those that the words name
abbrev pub line_named : List ℕ → Option Item → List ℕ
line_named object None = []
line_named object (Some i) = item_line object i

abbrev pub is_unknown : ObjectType → List ℕ → List ℕ → Bool
is_unknown kind object word = is_none (item_named kind object word)

abbrev pub lines_named : ObjectType → List ℕ → List (List ℕ) → List ℕ
lines_named kind object words = flat_map (λ word. line_named object (item_named kind object word)) words

abbrev pub prints_named : ObjectType → List ℕ → List (List ℕ) → Option (List ℕ) → Session → Effect
prints_named kind object words (Some unknown) s = no_field unknown s
prints_named kind object words None s = does (lines_named kind object words) s

unfoldable pub prints : ObjectType → List ℕ → List (List ℕ) → Session → Effect
prints kind object [] s = does (whole_text kind object) s
prints kind object (word ∷ words) s = prints_named kind object (word ∷ words) (find (is_unknown kind object) (word ∷ words)) s

-- addr: the type of the block that an item points at
abbrev pub root_type : ObjectType → List ℕ → Option ObjectType
root_type kind.Agf name =
    if bytes_eq name (codes "bnoroot") then Some kind.Bnobt
    else if bytes_eq name (codes "cntroot") then Some kind.Cntbt
    else if bytes_eq name (codes "rmaproot") then Some kind.Rmapbt
    else None
root_type kind.Agi name =
    if bytes_eq name (codes "root") then Some kind.Inobt
    else if bytes_eq name (codes "free_root") then Some kind.Finobt
    else None
root_type other name = None

abbrev pub target_type : ObjectType → List ℕ → ItemShape → Option ObjectType
target_type kind name (Pointer width) = Some kind
target_type kind name (Field width form) = root_type kind name
target_type kind name (Numbers row) = None

-- the block of a pointer: an address in the tree of a file, and else an AG block of the group of the block that holds it
abbrev pub in_group : Volume → ℕ → ℕ → Option ℕ
in_group v group ag_block = if nat_lt ag_block (group_length v group) then Some (group * v.agblocks + ag_block) else None

unfoldable pub target_block : Volume → ObjectType → ℕ → ℕ → Option ℕ
target_block v kind.Bmapbt block pointer = block_at v pointer
target_block v other block pointer = in_group v (block / v.agblocks) pointer

abbrev pub follows : Volume → ObjectPlace → List ℕ → List ℕ → ℕ → Option ObjectType → Option ℕ → Session → Effect
follows v place object word offset (Some kind) (Some width) s =
    goes_to kind (first_sector (target_block v place.kind place.block (field_of object offset width))) s
follows v place object word offset (Some kind) None s = no_field word s
follows v place object word offset None width s = no_field word s

abbrev pub follows_item : Volume → ObjectPlace → List ℕ → List ℕ → Option Item → Session → Effect
follows_item v place object word None s = no_field word s
follows_item v place object word (Some i) s =
    follows v place object word i.offset (target_type place.kind word i.shape) (number_width i.shape) s

unfoldable pub addresses : Volume → ObjectPlace → List ℕ → List ℕ → Session → Effect
addresses v place object word s = follows_item v place object word (item_named place.kind object word) s

-- write: bytes with others in their place
unfoldable pub patched : List ℕ → ℕ → List ℕ → List ℕ
patched bytes at piece = take at bytes ++ (piece ++ drop (at + length piece) bytes)

-- a number in so many bytes
abbrev pub number_bytes : ℕ → ℕ → List ℕ
number_bytes width n = drop (8 - width) (to_be_bytes w64 n)

-- where the checksum of an object stands
abbrev pub checksum_at : ObjectType → ℕ
checksum_at kind.Sb = 224
checksum_at kind.Agf = 216
checksum_at kind.Agi = 312
checksum_at kind.Agfl = 32
checksum_at kind.Inode = 100
checksum_at kind.Bmapbt = 64
checksum_at other = 52

-- an object with its checksum written anew
unfoldable pub resealed : ℕ → List ℕ → List ℕ
resealed at object = patched object at (to_le_bytes w32 (crc_of (cleared object at)))

-- an object with a number in the place of what was there, sealed anew
unfoldable pub with_field_number : ObjectType → ℕ → ℕ → ℕ → List ℕ → List ℕ
with_field_number kind offset width n object = resealed (checksum_at kind) (patched object offset (number_bytes width n))

-- a block with an object in a sector of it, or in its place
unfoldable pub with_object : ObjectType → ℕ → List ℕ → List ℕ → List ℕ
with_object kind sector object block = if object_size kind == 512 then patched block (512 * sector) object else object

-- the number that was typed, where it fits so many bytes
abbrev pub fitting : ℕ → Typed → Option ℕ
fitting width NoNumber = None
fitting width TooLarge = None
fitting width (Number n) = if nat_lt n (256 ^ width) then Some n else None

abbrev pub sets_number : ObjectPlace → List ℕ → Item → ℕ → ℕ → Session → Effect
sets_number place block i width n s =
    let object = with_field_number place.kind i.offset width n (object_in place.kind place.sector block) in
    record { verdict = Done; text = item_line object i; session = s; put = Some (place.block, with_object place.kind place.sector object block) }

abbrev pub sets_fitting : ObjectPlace → List ℕ → List ℕ → Item → ℕ → Option ℕ → Session → Effect
sets_fitting place block value i width None s = bad_number value s
sets_fitting place block value i width (Some n) s = sets_number place block i width n s

abbrev pub sets_width : ObjectPlace → List ℕ → List ℕ → List ℕ → Item → Option ℕ → Session → Effect
sets_width place block name value i None s = no_field name s
sets_width place block name value i (Some width) s = sets_fitting place block value i width (fitting width (typed value)) s

abbrev pub sets_item : ObjectPlace → List ℕ → List ℕ → List ℕ → Option Item → Session → Effect
sets_item place block name value None s = no_field name s
sets_item place block name value (Some i) s = sets_width place block name value i (number_width i.shape) s

unfoldable pub sets : ObjectPlace → List ℕ → List ℕ → List ℕ → Session → Effect
sets place block name value s = sets_item place block name value (item_named place.kind (object_in place.kind place.sector block) name) s

-- the block that is to be written where a command was run
abbrev pub put_of : Verdict → ℕ → List ℕ → Put
put_of Done at block = Some (at, block)
put_of Refused at block = None
put_of Quit at block = None
