-- The trees of one kind of all groups, in order: what they read as, and what is left of them once some are taken.
use Rattle.std.specs.Prelude.{◌≡◌, ℕ, ◌+◌, ◌-◌, List, [], ◌∷◌, Option, Some, None, Result, slice_get}
use Rattle.std.specs.List.{flat_map, range_with_len}
use Rattle.std.specs.Option.{option_and_then}
use Rattle.xfs_disk.specs.Blocks.{Image}
use Rattle.xfs_geom.specs.Volumes.{Volume}
use Rattle.xfs_tree.specs.Shape.{Shape}
use Rattle.xfs_tree.specs.Reading.{Contents, reading, root_seat}
use Rattle.xfs_tree.specs.declared.tree.Tree.{Tree}
use Rattle.xfs_tree.specs.declared.unread.Unread.{Unread}
use Rattle.xfs_image.specs.Groups.{contents, head_block, tree_at}
use Rattle.xfs_forest.specs.Forest.{contents_of}
use Rattle.xfs_groups.specs.declared.heads.Heads.{Heads}
use Rattle.xfs_groups.specs.declared.roots.Root.{Root}

module _ {T R K : Type 0} (shape : T → Shape R K) (kind_of : ℕ → T) (v : Volume) (image : Image) where
  -- what the tree of a group reads as from its root, where there is one
  abbrev pub grown_at : ℕ → Option Root → List (Result (Contents R) Unread)
  grown_at ag None = []
  grown_at ag (Some root) = reading (shape (kind_of ag)) v image (root_seat (head_block v ag + root.block) ∷ []) (root.levels - 1) ∷ []

  -- those of so many groups from one on
  abbrev pub grown_from : (Heads → Option Root) → List Heads → ℕ → ℕ → List (Result (Contents R) Unread)
  grown_from root_of heads first count = flat_map (λ ag. grown_at ag (option_and_then root_of (slice_get heads ag))) (range_with_len first count)

  -- the tree of a group from its root, where there is one and the tree reads
  abbrev pub tree_from : ℕ → Option Root → Option (Contents R)
  tree_from ag root = option_and_then (λ (root : Root). tree_at (shape (kind_of ag)) v image ag root.block root.levels) root

-- the first of the trees that are left is taken where the group has a root
abbrev pub IsTaken : {P R K : Type 0} → Option Root → List (Result (Tree P R K) Unread) → Option (Contents R) → List (Result (Tree P R K) Unread) → Type 0
IsTaken None old tree new = (tree ≡ None) × (new ≡ old)
IsTaken {P} {R} {K} (Some root) old tree new =
    (first : Result (Tree P R K) Unread) (more : List (Result (Tree P R K) Unread)) → old ≡ first ∷ more → (tree ≡ contents (contents_of first)) × (new ≡ more)
