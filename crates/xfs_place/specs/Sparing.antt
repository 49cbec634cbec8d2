-- Which blocks objects and chunks leave to the trees of their group (chapters "AG Free Space Management" and "Reverse-Mapping B+tree").
use Rattle.std.specs.Prelude.{ℕ, zero, suc, Bool, ◌+◌, ◌*◌, ◌/◌, if◌then◌else◌}
use Rattle.xfs_geom.specs.Conversions.{group_length}
use Rattle.xfs_geom.specs.Volumes.{Volume}
use Rattle.xfs_place.specs.Choice.{blocks_of_size}

-- the trees of owners and of inodes of a group of so many blocks, where each block or each eight have a record
abbrev pub lasting_room : ℕ → ℕ
lasting_room blocks = blocks_of_size 168 91 blocks + blocks_of_size 252 505 (blocks / 8)

-- all five trees of such a group, of which each second block is free, and a free list of six blocks
abbrev pub tree_room : ℕ → ℕ
tree_room blocks = lasting_room blocks + blocks_of_size 252 505 (blocks / 8) + 2 * blocks_of_size 505 336 ((blocks + 1) / 2) + 6

-- with the trees that a repair leaves alone until its own are written, where these are not there yet
abbrev pub room_for : Bool → ℕ → ℕ
room_for anew blocks = if anew then tree_room blocks + lasting_room blocks else tree_room blocks

abbrev pub by_left : ℕ → ℕ → (ℕ → ℕ) → ℕ
by_left zero end next = end
by_left (suc left) end next = next left

module _ (pool : ℕ → Bool) where
  -- the least number from which on at most so many numbers below n are of the pool
  unfoldable pub spared_below : ℕ → ℕ → ℕ
  spared_below left zero = 0
  spared_below left (suc n) = if pool n then by_left left (suc n) (λ less. spared_below less n) else spared_below left n

-- the AG block from which on as many blocks of the pool of a group are spared as its trees may need, or all where it has fewer
abbrev pub spared_of : Volume → (ℕ → Bool) → Bool → ℕ → ℕ
spared_of v pool anew ag = spared_below (λ block. pool (ag * v.agblocks + block)) (room_for anew (group_length v ag)) (group_length v ag)
