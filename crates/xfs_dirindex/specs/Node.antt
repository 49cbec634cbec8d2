-- The node form of a directory (chapter "Directories", "Node Directories").
use Rattle.std.specs.Prelude.{ℕ, Bool, ◌*◌, ◌==◌, ◌&&◌, List}
use Rattle.xfs_dirindex.specs.Mapped.{Mapped}
use Rattle.xfs_dirindex.specs.Data.{are_data, all_pairs, all_bests}
use Rattle.xfs_dirindex.specs.Leaf.{end_of}
use Rattle.xfs_dirindex.specs.IndexTree.{is_tree}
use Rattle.xfs_dirindex.specs.FreeBlocks.{are_free}

-- a directory of this size and with these mapped blocks is whole in the node form
unfoldable pub is_whole_node : ℕ → ℕ → List Mapped → Bool
is_whole_node dir size ms =
    are_data dir ms
    && size == 4096 * end_of (all_bests dir ms)
    && is_tree ms (all_pairs dir ms)
    && are_free (all_bests dir ms) ms
