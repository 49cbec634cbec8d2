-- How many blocks a packed tree has.
use Rattle.std.specs.Prelude.{ℕ, zero, suc, ◌+◌, ◌-◌, ◌/◌, ◌==◌, nat_le, if◌then◌else◌, List, [], ◌∷◌}

-- the blocks that hold so many items, at most so many each: at least one
abbrev pub blocks_for : ℕ → ℕ → ℕ
blocks_for most items = if items == 0 then 1 else ((items - 1) / most + 1)

-- the sizes of the levels above a level of so many blocks, up to one block; the first number bounds how many
unfoldable pub rows_above : ℕ → ℕ → ℕ → List ℕ
rows_above zero most blocks = []
rows_above (suc fuel) most blocks = if nat_le blocks 1 then [] else (blocks_for most blocks ∷ rows_above fuel most (blocks_for most blocks))

-- the sizes of all levels, the leaves first
unfoldable pub rows_of : ℕ → ℕ → ℕ → List ℕ
rows_of leaf_cap node_cap records =
    let leaves = blocks_for leaf_cap records in
    leaves ∷ rows_above leaves node_cap leaves
