-- Blocks that begin as those of clusters do.
use Rattle.std.specs.Prelude.{ℕ, Bool, List}
use Rattle.std.specs.List.{list_all}
use Rattle.xfs_word.specs.Seal.{begins_as_slot}
use Rattle.xfs_disk.specs.Blocks.{Image, bytes_of_block}

-- each of some blocks of an image begins as a slot does
abbrev pub all_begin : Image → List ℕ → Bool
all_begin image blocks = list_all (λ block. begins_as_slot (bytes_of_block image block)) blocks
