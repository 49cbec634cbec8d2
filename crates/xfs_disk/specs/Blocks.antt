-- Images: what a disk holds, as a list of blocks.
use Rattle.std.specs.Prelude.{◌≡◌, ℕ, ◌+◌, ◌*◌, ◌<◌, List, [], length, take, drop, Some, slice_get, slice_index, slice_index_or}

-- an image is a list of blocks, and a block a list of byte values
abbrev pub Image : Type 0
Image = List (List ℕ)

-- the bytes of a block of an image, none where it is outside
abbrev pub bytes_of_block : Image → ℕ → List ℕ
bytes_of_block image block = slice_index_or image block []

-- a block has 4096 bytes
pub record IsBlock (block : List ℕ) : Type 0 where
  pub size : length block ≡ 4096
  pub bytes : (i : ℕ) → slice_index block i < 256

-- an image of so many blocks
pub record IsImage (blocks : ℕ) (image : Image) : Type 0 where
  pub count : length image ≡ blocks
  pub each : (k : ℕ) (block : List ℕ) → slice_get image k ≡ Some block → IsBlock block

-- the bytes hold so many blocks of an image, those from block `at` on, one behind the other
abbrev pub AreBlocksFrom : Image → ℕ → ℕ → List ℕ → Type 0
AreBlocksFrom image at count bytes = (k : ℕ) → k < count → slice_get image (at + k) ≡ Some (take 4096 (drop (k * 4096) bytes))
