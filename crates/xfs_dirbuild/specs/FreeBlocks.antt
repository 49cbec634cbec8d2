-- The free blocks that are written (chapter "Directories", "Free Index").
use Rattle.std.specs.Prelude.{◌≡◌, ℕ, ◌*◌, List, length, take, drop}
use Rattle.xfs_word.specs.Field.{field_of}
use Rattle.xfs_dirbuild.specs.Index.{AreValues}

-- a free block with these values, of data blocks from one on; all of them are mapped
pub record IsBuiltFreeBlock (first : ℕ) (values : List ℕ) (bytes : List ℕ) : Type 0 where
  pub magic : field_of bytes 0 4 ≡ 0x58444633
  pub first_is : field_of bytes 48 4 ≡ first
  pub count : field_of bytes 52 4 ≡ length values
  pub used : field_of bytes 56 4 ≡ length values
  pub values_are : AreValues values 64 bytes

-- the values of free block i
abbrev pub values_in : List ℕ → ℕ → List ℕ
values_in values i = take 2016 (drop (2016 * i) values)
