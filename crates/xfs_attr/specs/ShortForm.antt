-- The short form of attributes, which stands in an inode (chapter "Extended Attributes").
use Rattle.std.specs.Prelude.{◌≡◌, ℕ, zero, suc, Bool, ◌+◌, ◌-◌, ◌≤◌, ◌==◌, ◌&&◌, nat_le, if◌then◌else◌, List, [], ◌∷◌, ◌++◌, length, drop, Option, Some, None, option_map, Result, Err}
use Rattle.std.specs.List.{All, flat_map}
use Rattle.std.specs.Option.{ok_or}
use Rattle.xfs_word.specs.Field.{field_of, part_of}
use Rattle.xfs_attr.specs.declared.attributes.Attr.{Attr}
use Rattle.xfs_attr.specs.declared.attributes.AttrFault.{AttrFault}
use Rattle.xfs_attr.specs.declared.attributes.AttrFault.TheVariants.{Unsound}

-- the bytes of the entry that these bytes begin with: three, its name and its value
abbrev pub size_of_entry : List ℕ → ℕ
size_of_entry bytes = 3 + field_of bytes 0 1 + field_of bytes 1 1

-- the bytes begin with an entry, whose name is not empty
abbrev pub begin_with_entry : List ℕ → Bool
begin_with_entry bytes = nat_le 3 (length bytes) && nat_le 1 (field_of bytes 0 1) && nat_le (size_of_entry bytes) (length bytes)

-- the attribute of the entry that these bytes begin with
abbrev pub attribute_of_entry : List ℕ → Attr
attribute_of_entry bytes = record {
  flags = field_of bytes 2 1;
  name = part_of bytes 3 (field_of bytes 0 1);
  value = part_of bytes (3 + field_of bytes 0 1) (field_of bytes 1 1);
}

-- the attributes of so many entries, where these fill the bytes one behind the other
unfoldable pub attributes_of : ℕ → List ℕ → Option (List Attr)
attributes_of zero bytes = if length bytes == 0 then Some [] else None
attributes_of (suc n) bytes =
    if begin_with_entry bytes
    then option_map (λ attrs. attribute_of_entry bytes ∷ attrs) (attributes_of n (drop (size_of_entry bytes) bytes))
    else None

-- the attributes of a fork that begins with a short form of its own size
unfoldable pub short_attributes : List ℕ → Result (List Attr) AttrFault
short_attributes fork =
    if nat_le 4 (field_of fork 0 2) && nat_le (field_of fork 0 2) (length fork)
    then ok_or (attributes_of (field_of fork 2 1) (part_of fork 4 (field_of fork 0 2 - 4))) Unsound
    else Err Unsound

-- an attribute's entry: the sizes of its name and its value, its flags, then the name and the value
abbrev pub short_form_entry : Attr → List ℕ
short_form_entry a = length a.name ∷ length a.value ∷ a.flags ∷ (a.name ++ a.value)

-- the fork begins with a short form that has just the entries of these attributes, which all have names
pub record BeginsWith (fork : List ℕ) (attrs : List Attr) : Type 0 where
  pub inside : 4 + length (flat_map short_form_entry attrs) ≤ length fork
  pub size : field_of fork 0 2 ≡ 4 + length (flat_map short_form_entry attrs)
  pub count : field_of fork 2 1 ≡ length attrs
  pub entries : part_of fork 4 (length (flat_map short_form_entry attrs)) ≡ flat_map short_form_entry attrs
  pub named : All (λ a. 1 ≤ length a.name) attrs
