-- Shape words 1 to 7: the fields of a superblock that hold one number in every volume of the profile.
use Rattle.std.specs.Prelude.{ℕ, Bool, ◌+◌, ◌==◌, ◌&&◌, nat_le, List, [], ◌∷◌, map, Option}
use Rattle.xfs_word.specs.Field.{field_of, is_width}
use Rattle.xfs_geom.specs.First.{first_false}
use Rattle.xfs_geom.specs.declared.fixed.Fixed.{Fixed}

-- a shape word: its number, the offset and width of its field, and the number that is right
pub record FixedWord : Type 0 where
  pub word : ℕ
  pub offset : ℕ
  pub width : ℕ
  pub number : ℕ

abbrev pub fixed_row : ℕ → ℕ → ℕ → ℕ → FixedWord
fixed_row word offset width number = record { word = word; offset = offset; width = width; number = number }

-- blocklog, sectlog, inodelog, inopblock, inopblog, rextents, rbmblocks
abbrev pub fixed_words : List FixedWord
fixed_words =
    fixed_row 1 120 1 12 ∷ fixed_row 2 121 1 9 ∷ fixed_row 3 122 1 9 ∷ fixed_row 4 106 2 8 ∷ fixed_row 5 123 1 3 ∷ fixed_row 6 24 8 0 ∷ fixed_row 7 92 4 0 ∷ []

-- the word's field is a number inside a sector
abbrev pub is_readable_fixed : FixedWord → Bool
is_readable_fixed w = is_width w.width && nat_le (w.offset + w.width) 512

-- each word with whether the sector holds its number
abbrev pub fixed_tests : List FixedWord → List ℕ → List (ℕ × Bool)
fixed_tests words sector = map (λ (w : FixedWord). (w.word, field_of sector w.offset w.width == w.number)) words

-- the first of the words that holds another number
unfoldable pub fixed_fault : List ℕ → Option ℕ
fixed_fault sector = first_false (fixed_tests fixed_words sector)

-- a word of the code's table as the definition has it
abbrev pub fixed_word : Fixed → FixedWord
fixed_word f = fixed_row f.word f.offset f.width f.number
