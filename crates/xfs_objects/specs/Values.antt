-- How the value of an item is printed.
use Rattle.std.specs.Prelude.{ℕ, ◌+◌, ◌*◌, ◌/◌, ◌%◌, Bool, false, not, ◌==◌, ◌&&◌, nat_le, if◌then◌else◌, codes, decimal, List, [], ◌∷◌, ◌++◌}
use Rattle.std.specs.Fmt.{digit_glyph}
use Rattle.std.specs.Int.{to_be_bytes, w32}
use Rattle.std.specs.List.{flat_map, range_with_len, take_while}
use Rattle.uuid.specs.Text.{hyphenated_text}
use Rattle.xfs_word.specs.Crc.{has_checksum, little_field_of}
use Rattle.xfs_word.specs.Field.{field_of, part_of}
use Rattle.xfs_word.specs.declared.layout.Form.{Form}
use Rattle.xfs_word.specs.declared.layout.Form.TheVariants.{Decimal, Hexadecimal, Identifier, Text, Checksum}
use Rattle.xfs_kinds.specs.FileTrees.{extent_of}
use Rattle.xfs_word.specs.declared.extents.Extent.{Extent}
use Rattle.xfs_objects.specs.Items.{items_of}
use Rattle.xfs_objects.specs.Tables.{Item}
use Rattle.xfs_objects.specs.declared.objects.ObjectType.{ObjectType}
use Rattle.xfs_objects.specs.declared.objects.ObjectType.TheVariants as kind
use Rattle.xfs_objects.specs.declared.items.ItemShape.{ItemShape}
use Rattle.xfs_objects.specs.declared.items.ItemShape.TheVariants.{Field, Pointer, Numbers}
use Rattle.xfs_objects.specs.declared.items.PrintedRow.{PrintedRow}
use Rattle.xfs_objects.specs.declared.items.PrintedRow.TheVariants.{Span, Chunk, ChunkStart, Owner, OwnerKeys, FileExtent, FileOffset}

-- a byte in two digits, lower case
abbrev pub pair : ℕ → List ℕ
pair byte = digit_glyph false (byte / 16) ∷ digit_glyph false (byte % 16) ∷ []

-- two digits a byte
unfoldable pub pairs : List ℕ → List ℕ
pairs bytes = flat_map pair bytes

-- a byte of a text: as it is where it prints, and else its number as a backslash and three octal digits
abbrev pub escaped : ℕ → List ℕ
escaped byte =
    if nat_le 0x20 byte && nat_le byte 0x7e then byte ∷ []
    else 0x5c ∷ (48 + byte / 64) ∷ (48 + byte / 8 % 8) ∷ (48 + byte % 8) ∷ []

-- a text in double quotes, up to the first zero byte
unfoldable pub quoted : List ℕ → List ℕ
quoted bytes = codes "\"" ++ flat_map escaped (take_while (λ byte. not (byte == 0)) bytes) ++ codes "\""

-- numbers with commas between them
unfoldable pub joined_numbers : List ℕ → List ℕ
joined_numbers [] = []
joined_numbers (first ∷ rest) = decimal first ++ flat_map (λ n. 44 ∷ decimal n) rest

-- an extent's numbers, of which the first is 1 where it is unwritten
abbrev pub extent_numbers : Extent → List ℕ
extent_numbers e = (if e.unwritten then 1 else 0) ∷ e.offset ∷ e.start ∷ e.count ∷ []

-- the numbers of a record or a key
abbrev pub row_numbers : PrintedRow → List ℕ → ℕ → List ℕ
row_numbers Span b at = field_of b at 4 ∷ field_of b (at + 4) 4 ∷ []
row_numbers Chunk b at = field_of b at 4 ∷ field_of b (at + 4) 2 ∷ field_of b (at + 6) 1 ∷ field_of b (at + 7) 1 ∷ field_of b (at + 8) 8 ∷ []
row_numbers ChunkStart b at = field_of b at 4 ∷ []
row_numbers Owner b at = field_of b at 4 ∷ field_of b (at + 4) 4 ∷ field_of b (at + 8) 8 ∷ field_of b (at + 16) 8 ∷ []
row_numbers OwnerKeys b at =
    field_of b at 4 ∷ field_of b (at + 4) 8 ∷ field_of b (at + 12) 8 ∷ field_of b (at + 20) 4 ∷ field_of b (at + 24) 8 ∷ field_of b (at + 32) 8 ∷ []
row_numbers FileExtent b at = extent_numbers (extent_of (part_of b at 16))
row_numbers FileOffset b at = field_of b at 8 ∷ []

-- a checksum as the number that it is, and whether it is right
abbrev pub verdict : Bool → List ℕ
verdict right = if right then codes " (correct)" else codes " (bad)"

-- the value of a field
abbrev pub field_text : Form → List ℕ → ℕ → ℕ → List ℕ
field_text Decimal object at width = decimal (field_of object at width)
field_text Hexadecimal object at width = codes "0x" ++ pairs (part_of object at width)
field_text Identifier object at width = hyphenated_text 97 (part_of object at width)
field_text Text object at width = quoted (part_of object at width)
field_text Checksum object at width = codes "0x" ++ pairs (to_be_bytes w32 (little_field_of object at 4)) ++ verdict (has_checksum object at)

abbrev pub shape_text : ItemShape → List ℕ → ℕ → List ℕ
shape_text (Field width form) object at = field_text form object at width
shape_text (Pointer width) object at = decimal (field_of object at width)
shape_text (Numbers row) object at = joined_numbers (row_numbers row object at)

-- the value of an item of an object
abbrev pub value_text : List ℕ → Item → List ℕ
value_text object i = shape_text i.shape object i.offset

-- its line
unfoldable pub item_line : List ℕ → Item → List ℕ
item_line object i = i.name ++ codes " = " ++ value_text object i ++ codes "\n"

-- the lines of items
unfoldable pub item_lines : List ℕ → List Item → List ℕ
item_lines object items = flat_map (item_line object) items

-- a line of a dump: the offset of its 32 bytes in three digits, and eight groups of four bytes
abbrev pub offset_text : ℕ → List ℕ
offset_text n = digit_glyph false (n / 256) ∷ digit_glyph false (n / 16 % 16) ∷ digit_glyph false (n % 16) ∷ []

abbrev pub group_text : List ℕ → ℕ → List ℕ
group_text block at = 32 ∷ pairs (part_of block at 4)

unfoldable pub dump_line : List ℕ → ℕ → List ℕ
dump_line block i =
    offset_text (32 * i) ++ codes ":" ++ flat_map (λ g. group_text block (32 * i + 4 * g)) (range_with_len 0 8) ++ codes "\n"

unfoldable pub dump : List ℕ → List ℕ
dump block = flat_map (dump_line block) (range_with_len 0 128)

-- everything in an object that has a name, and bytes of no type as they are
unfoldable pub whole_text : ObjectType → List ℕ → List ℕ
whole_text kind.Data object = dump object
whole_text other object = item_lines object (items_of other object)
