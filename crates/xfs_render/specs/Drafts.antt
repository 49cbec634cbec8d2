-- Blocks that are put down one after the other, each with its place.
use Rattle.std.specs.Prelude.{◌≡◌, ℕ, ◌+◌, ◌-◌, ◌<◌, List, [], ◌∷◌, ◌++◌, length, map, slice_index_or}
use Rattle.std.specs.List.{All}
use Rattle.xfs_disk.specs.Blocks.{Image, bytes_of_block}
use Rattle.xfs_treebuild.specs.Packing.{HoldsParts}
use Rattle.xfs_writing.specs.declared.rows.Row.{Row}
use Rattle.xfs_render.specs.declared.draft.Draft.{Draft}

-- the numbers of the blocks of rows
abbrev pub row_places : List Row → List ℕ
row_places rows = map (λ (r : Row). r.at) rows

-- the bank has the bytes of each row
abbrev pub AreInBank : List Row → Image → Type 0
AreInBank rows bank = All (λ (r : Row). r.index < length bank) rows

-- the image has them at its block
abbrev pub HoldsRows : List Row → Image → Image → Type 0
HoldsRows rows bank image = All (λ (r : Row). bytes_of_block image r.at ≡ slice_index_or bank r.index []) rows

-- the bank has the bytes of each block that was put down; several blocks may have the same
pub record IsDraft (d : Draft) : Type 0 where
  pub inside : AreInBank d.rows.items d.bank

-- the image has the blocks of a draft at their places
abbrev pub HoldsDraft : Image → Draft → Type 0
HoldsDraft image d = HoldsRows d.rows.items d.bank image

-- blocks at these places were put behind the others, and so many into the bank: an image that has all of them has those before
pub record Adds (old new : Draft) (places : List ℕ) (blocks : ℕ) : Type 0 where
  pub whole : IsDraft new
  pub places' : row_places new.rows.items ≡ row_places old.rows.items ++ places
  pub count : length new.bank ≡ length old.bank + blocks
  pub before : (image : Image) → HoldsDraft image new → HoldsDraft image old

-- and it has what was put
pub record AddsPart (old new : Draft) (places part : List ℕ) : Type 0 where
  pub adds : Adds old new places (length places)
  pub held : (image : Image) → HoldsDraft image new → HoldsParts image places part

-- the block that stands last in a bank
abbrev pub last_block : Image → List ℕ
last_block bank = slice_index_or bank (length bank - 1) []

-- one block was put behind the others, and stands last in the bank
pub record AddsBlock (old new : Draft) (place : ℕ) (block : List ℕ) : Type 0 where
  pub adds : Adds old new (place ∷ []) 1
  pub held : (image : Image) → HoldsDraft image new → bytes_of_block image place ≡ block
  pub last : last_block new.bank ≡ block

-- a place was put behind the others, for the same bytes as the last one
pub record AddsAgain (old new : Draft) (place : ℕ) : Type 0 where
  pub adds : Adds old new (place ∷ []) 0
  pub held : (image : Image) → HoldsDraft image new → bytes_of_block image place ≡ last_block old.bank
  pub last : last_block new.bank ≡ last_block old.bank
