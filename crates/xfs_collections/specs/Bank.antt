-- A bank of blocks: its parts by cuts, and what it holds after it was filled from a disk.
use Rattle.std.specs.Prelude.{◌≡◌, ℕ, ◌+◌, ◌-◌, ◌≤◌, ◌<◌, List, [], ◌∷◌, ◌*◌, ◌++◌, length, take, drop, map, Option, slice_index_or}
use Rattle.std.specs.List.{concat}
use Rattle.std.specs.Option.{ForSome}
use Rattle.xfs_disk.specs.Blocks.{Image}
use Rattle.xfs_disk.specs.Memory.{blocks_of_bytes}

-- numbers of blocks at which a bank is cut: none is below the one before, none below the low end or above the high end
abbrev pub AreCuts : ℕ → ℕ → List ℕ → Type 0
AreCuts low high [] = low ≤ high
AreCuts low high (cut ∷ cuts) = (low ≤ cut) × AreCuts cut high cuts

-- the bytes of the blocks up to each cut from the cut before it on, and then those of the rest; the first of the blocks has the number `low`
abbrev pub parts_from : ℕ → List ℕ → Image → List (List ℕ)
parts_from low [] blocks = concat blocks ∷ []
parts_from low (cut ∷ cuts) blocks = concat (take (cut - low) blocks) ∷ parts_from cut cuts (drop (cut - low) blocks)

-- the parts of a bank: part j has the bytes of its blocks from cut j - 1 (0 for the first) up to cut j, and the last part has the rest
abbrev pub parts_of : List ℕ → Image → List (List ℕ)
parts_of cuts blocks = parts_from 0 cuts blocks

-- the blocks of these numbers
abbrev pub blocks_at : Image → List ℕ → Image
blocks_at image places = map (λ place. slice_index_or image place []) places

-- the first blocks of a bank became those of a disk at the places, where the disk tells what it holds, and the others stayed
pub record IsFilledBank (held : Option Image) (places : List ℕ) (old new : Image) : Type 0 where
  pub first : ForSome held (λ image. take (length places) new ≡ blocks_at image places)
  pub rest : drop (length places) new ≡ drop (length places) old

-- a bank whose bytes were overwritten by these from block i on; where they are 4096, they are block i
abbrev pub overwritten : Image → ℕ → List ℕ → Image
overwritten bank i bytes = blocks_of_bytes (length bank) (take (i * 4096) (concat bank) ++ (bytes ++ drop (length bytes) (drop (i * 4096) (concat bank))))

-- a bank with the blocks of these bytes in the place of so many of its own from block i on
abbrev pub with_run : Image → ℕ → ℕ → List ℕ → Image
with_run bank i count bytes = take i bank ++ (blocks_of_bytes count bytes ++ drop (i + count) bank)

-- so many blocks of a bank from block i on are those of an image from a place on
abbrev pub HasRun : Image → ℕ → ℕ → ℕ → Image → Type 0
HasRun image place i count bank = (k : ℕ) → k < count → slice_index_or bank (i + k) [] ≡ slice_index_or image (place + k) []

-- so many numbers at the front of a list follow one another
abbrev pub AreNeighbours : ℕ → List ℕ → Type 0
AreNeighbours count numbers = (k : ℕ) → k < count → slice_index_or numbers k 0 ≡ slice_index_or numbers 0 0 + k
