-- The superblock of a new volume (chapter "Superblocks").
use Rattle.std.specs.Prelude.{◌≡◌, ℕ, ◌+◌, ◌-◌, List, [], ◌∷◌, length, replicate, IsTrue}
use Rattle.xfs_word.specs.Field.{field_of, part_of}
use Rattle.xfs_word.specs.Seal.{is_sealed}
use Rattle.xfs_geom.specs.Conversions.{address_of}
use Rattle.xfs_geom.specs.Superblocks.{super_seal}
use Rattle.xfs_geom.specs.Volumes.{Volume}

-- a number in so many bytes at an offset
pub record PlacedNumber : Type 0 where
  pub offset : ℕ
  pub width : ℕ
  pub value : ℕ

abbrev pub number : ℕ → ℕ → ℕ → PlacedNumber
number offset width value = record { offset = offset; width = width; value = value }

-- the sector has each of these numbers
abbrev pub HasNumbers : List ℕ → List PlacedNumber → Type 0
HasNumbers sector [] = Unit {0}
HasNumbers sector (n ∷ numbers) = (field_of sector n.offset n.width ≡ n.value) × HasNumbers sector numbers

-- magicnum, blocksize, dblocks, rblocks, rextents, logstart
abbrev pub place_numbers : Volume → List PlacedNumber
place_numbers v =
    number 0 4 0x5846_5342 ∷ number 4 4 4096 ∷ number 8 8 v.dblocks ∷ number 16 8 0 ∷ number 24 8 0 ∷ number 48 8 (address_of v v.log) ∷ []

-- rootino, rbmino, rsumino, rextsize, agblocks, agcount, rbmblocks, logblocks
abbrev pub part_numbers : Volume → List PlacedNumber
part_numbers v =
    number 56 8 v.rootino ∷ number 64 8 (v.rootino + 1) ∷ number 72 8 (v.rootino + 2) ∷ number 80 4 1 ∷ number 84 4 v.agblocks
    ∷ number 88 4 v.agcount ∷ number 92 4 0 ∷ number 96 4 v.logblocks ∷ []

-- versionnum, sectsize, inodesize, inopblock, blocklog, sectlog, inodelog, inopblog, agblklog, rextslog, inprogress, imax_pct
abbrev pub size_numbers : Volume → List PlacedNumber
size_numbers v =
    number 100 2 0xb4a5 ∷ number 102 2 512 ∷ number 104 2 512 ∷ number 106 2 8 ∷ number 120 1 12 ∷ number 121 1 9 ∷ number 122 1 9
    ∷ number 123 1 3 ∷ number 124 1 v.agblklog ∷ number 125 1 0 ∷ number 126 1 0 ∷ number 127 1 25 ∷ []

-- icount, ifree, fdblocks, frextents, uquotino, gquotino, qflags, flags, shared_vn
abbrev pub counter_numbers : List PlacedNumber
counter_numbers =
    number 128 8 0 ∷ number 136 8 0 ∷ number 144 8 0 ∷ number 152 8 0 ∷ number 160 8 0 ∷ number 168 8 0 ∷ number 176 2 0 ∷ number 178 1 0
    ∷ number 179 1 0 ∷ []

-- inoalignmt, unit, width, dirblklog, logsectlog, logsectsize, logsunit, features2, bad_features2, features_compat,
-- features_ro_compat, features_incompat, features_log_incompat, spino_align, pquotino, lsn
abbrev pub feature_numbers : List PlacedNumber
feature_numbers =
    number 180 4 8 ∷ number 184 4 0 ∷ number 188 4 0 ∷ number 192 1 0 ∷ number 193 1 0 ∷ number 194 2 0 ∷ number 196 4 1 ∷ number 200 4 0x18a
    ∷ number 204 4 0x18a ∷ number 208 4 0 ∷ number 212 4 3 ∷ number 216 4 3 ∷ number 220 4 0 ∷ number 228 4 4 ∷ number 232 8 0 ∷ number 240 8 0
    ∷ []

-- the label, with zeros behind it
pub record HasLabel (label sector : List ℕ) : Type 0 where
  pub text : part_of sector 108 (length label) ≡ label
  pub zero' : part_of sector (108 + length label) (12 - length label) ≡ replicate (12 - length label) 0

-- a sealed superblock of a volume with a label, whose counters are 0; it states no further identifier, and nothing behind its fields
pub record IsNewSuper (v : Volume) (label sector : List ℕ) : Type 0 where
  pub places : HasNumbers sector (place_numbers v)
  pub parts : HasNumbers sector (part_numbers v)
  pub sizes : HasNumbers sector (size_numbers v)
  pub counters : HasNumbers sector counter_numbers
  pub features : HasNumbers sector feature_numbers
  pub uuid' : part_of sector 32 16 ≡ v.uuid
  pub label' : HasLabel label sector
  pub no_uuid : part_of sector 248 16 ≡ replicate 16 0
  pub rest : part_of sector 264 248 ≡ replicate 248 0
  pub sealed : IsTrue (is_sealed super_seal sector)
