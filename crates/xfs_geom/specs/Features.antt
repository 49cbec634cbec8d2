-- The feature words of a superblock (chapter "Superblocks", the feature fields): which volumes are of
-- the profile that the tools know.
use Rattle.std.specs.Prelude.{ℕ, Bool, ◌==◌, ◌||◌, ◌&&◌, ◌+◌, nat_le, ◌-◌, ◌^◌, if◌then◌else◌, bit_and, bit_xor, List, [], ◌∷◌, Option, Some, None}
use Rattle.xfs_word.specs.Field.{field_of, is_width}
use Rattle.xfs_geom.specs.declared.features.Rule.{Rule}
use Rattle.xfs_geom.specs.declared.features.Rule.TheVariants.{Exactly, NotZero, ZeroOrOnes, Without}
use Rattle.xfs_geom.specs.declared.features.Departure.{Departure}

-- the bits by which a number departs from a rule, None where it keeps it
abbrev pub departing_bits : Rule → ℕ → Option ℕ
departing_bits (Exactly required) held = if held == required then None else Some (bit_xor held required)
departing_bits NotZero held = if held == 0 then Some 0 else None
departing_bits ZeroOrOnes held = if held == 0 || held == 2 ^ 64 - 1 then None else Some held
departing_bits (Without bits) held = if bit_and held bits == 0 then None else Some (bit_and held bits)

-- a feature word: its number, the offset and width of its field, and its rule
pub record FeatureWord : Type 0 where
  pub word : ℕ
  pub offset : ℕ
  pub width : ℕ
  pub rule : Rule

abbrev pub feature_row : ℕ → ℕ → ℕ → Rule → FeatureWord
feature_row word offset width rule = record { word = word; offset = offset; width = width; rule = rule }

-- the word's field is a number inside a sector
abbrev pub is_readable_feature : FeatureWord → Bool
is_readable_feature w = is_width w.width && nat_le (w.offset + w.width) 512

-- the feature words in the order in which they are tested
abbrev pub feature_words : List FeatureWord
feature_words =
    -- blocksize, sectsize, inodesize, dirblklog
    feature_row 1 4 4 (Exactly 4096) ∷ feature_row 2 102 2 (Exactly 512) ∷ feature_row 3 104 2 (Exactly 512) ∷ feature_row 4 192 1 (Exactly 0) ∷
    -- logstart, rblocks
    feature_row 5 48 8 NotZero ∷ feature_row 6 16 8 (Exactly 0) ∷
    -- uquotino, gquotino, pquotino
    feature_row 7 160 8 ZeroOrOnes ∷ feature_row 8 168 8 ZeroOrOnes ∷ feature_row 9 232 8 ZeroOrOnes ∷
    -- features_compat, features_ro_compat, features_incompat, features_log_incompat
    feature_row 10 208 4 (Exactly 0) ∷ feature_row 11 212 4 (Exactly 3) ∷ feature_row 12 216 4 (Exactly 3) ∷ feature_row 13 220 4 (Exactly 0) ∷
    -- inoalignmt, spino_align, versionnum
    feature_row 14 180 4 (Exactly 8) ∷ feature_row 15 228 4 (Exactly 4) ∷ feature_row 16 100 2 (Without 16384) ∷ []

-- the first answer, or else the second
abbrev pub or_else : {A : Type 0} → Option A → Option A → Option A
or_else (Some x) rest = Some x
or_else None rest = rest

-- a departure of this word, where there are departing bits
abbrev pub departure_by : ℕ → Option ℕ → Option Departure
departure_by word (Some bits) = Some (record { word = word; bits = bits })
departure_by word None = None

-- the first word of a list that departs from its rule
abbrev pub first_departure : List FeatureWord → List ℕ → Option Departure
first_departure [] sector = None
first_departure (w ∷ words) sector =
    or_else (departure_by w.word (departing_bits w.rule (field_of sector w.offset w.width))) (first_departure words sector)

-- the first feature word of a superblock that is refused
unfoldable pub refused_feature : List ℕ → Option Departure
refused_feature sector = first_departure feature_words sector
