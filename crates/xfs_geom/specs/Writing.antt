-- Superblocks that are written anew from an accepted one (chapter "Superblocks").
use Rattle.std.specs.Prelude.{◌≡◌, ℕ, Bool, ◌+◌, ◌&&◌, ◌||◌, nat_le, IsTrue, List, None}
use Rattle.xfs_word.specs.Field.{field_of, part_of}
use Rattle.xfs_word.specs.Seal.{is_sealed}
use Rattle.xfs_geom.specs.Superblocks.{super_seal, super_fault}
use Rattle.xfs_geom.specs.declared.records.Counts.{Counts}

-- the superblock is accepted at some block of some image
pub record IsAcceptedSector (sector : List ℕ) : Type 0 where
  pub place : ℕ
  pub blocks : ℕ
  pub none : super_fault sector place blocks ≡ None

-- the w bytes from a on lie beside the width bytes from at on
abbrev pub is_beside : ℕ → ℕ → ℕ → ℕ → Bool
is_beside at width a w = nat_le (a + w) at || nat_le (at + width) a

-- the w bytes from a on lie beside all that is written anew: rbmino and rsumino, inprogress, the
-- counters with frextents, the checksum, lsn
abbrev pub is_kept_field : ℕ → ℕ → Bool
is_kept_field a w =
    is_beside 64 16 a w && is_beside 126 1 a w && is_beside 128 32 a w && is_beside 224 4 a w && is_beside 240 8 a w

-- the superblock has these counters and is sealed; it states its system inodes, no log sequence number,
-- and that it is complete; all else is the base's
pub record IsSuperOf (base : List ℕ) (counts : Counts) (sector : List ℕ) : Type 0 where
  pub rbmino : field_of sector 64 8 ≡ field_of base 56 8 + 1
  pub rsumino : field_of sector 72 8 ≡ field_of base 56 8 + 2
  pub inprogress : field_of sector 126 1 ≡ 0
  pub icount : field_of sector 128 8 ≡ counts.icount
  pub ifree : field_of sector 136 8 ≡ counts.ifree
  pub fdblocks : field_of sector 144 8 ≡ counts.fdblocks
  pub frextents : field_of sector 152 8 ≡ 0
  pub lsn : field_of sector 240 8 ≡ 0
  pub numbers : (a w : ℕ) → IsTrue (is_kept_field a w) → field_of sector a w ≡ field_of base a w
  pub parts : (a w : ℕ) → IsTrue (is_kept_field a w) → part_of sector a w ≡ part_of base a w
  pub sealed : IsTrue (is_sealed super_seal sector)
