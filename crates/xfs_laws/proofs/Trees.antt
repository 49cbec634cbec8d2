-- The blocks of a tree by its place among the trees.
use Rattle.std.proofs.Common.{◌≡◌, ℕ, zero, suc, ◌<◌, ◌≤◌, List, [], ◌∷◌, length, get_or, refl, arith}
use Rattle.xfs_volume.specs.declared.groups.TreeBlocks.{TreeBlocks}
use Rattle.xfs_laws.specs.Counting.{count_tree_blocks}

pub size_past : (trees : List TreeBlocks) (tree : ℕ) → length trees ≤ tree → count_tree_blocks trees tree ≡ 0
size_past [] tree past = refl
size_past (t ∷ ts) zero past = absurd (omega arith)
size_past (t ∷ ts) (suc tree) past = size_past ts tree (omega arith)

pub size_at : (trees : List TreeBlocks) (tree : ℕ) (d : TreeBlocks) → tree < length trees → count_tree_blocks trees tree ≡ length (get_or trees tree d).blocks
size_at [] tree d inside = absurd (omega arith)
size_at (t ∷ ts) zero d inside = refl
size_at (t ∷ ts) (suc tree) d inside = size_at ts tree d (omega arith)
