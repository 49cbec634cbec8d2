-- Two images in which the same blocks hold the same bytes.
use Rattle.std.specs.Prelude.{◌≡◌, ℕ, List, All}
use Rattle.xfs_disk.specs.Blocks.{Image, bytes_of_block}

-- each of these blocks holds the same bytes in both images
abbrev pub HoldSameBytes : Image → Image → List ℕ → Type 0
HoldSameBytes image now blocks = All (λ block. bytes_of_block now block ≡ bytes_of_block image block) blocks
