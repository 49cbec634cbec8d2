-- Numbers with the greatest of the two, four, eight and so on that each stands among.
use Rattle.std.specs.Prelude.{◌≡◌, ◌≢◌, ℕ, ◌+◌, ◌*◌, ◌^◌, ◌≤◌, ◌<◌, max, List, length, slice_index}
use Rattle.xfs_place.specs.declared.greatest.Greatest.{Greatest}

-- the leaves, which are the numbers, are the second half of the nodes
abbrev pub leaf_at : List ℕ → ℕ → ℕ → ℕ
leaf_at nodes leaves k = slice_index nodes (leaves + k)

-- a node is the greater one of the two below it
abbrev pub IsBranch : List ℕ → ℕ → Type 0
IsBranch nodes i = slice_index nodes i ≡ max (slice_index nodes (2 * i)) (slice_index nodes (2 * i + 1))

-- each node of the first half is
pub record AreGreatest (nodes : List ℕ) (leaves depth : ℕ) : Type 0 where
  pub all : length nodes ≡ 2 * leaves
  pub deep : leaves ≡ 2 ^ depth
  pub few : depth ≤ 32
  pub branches : (i : ℕ) → 1 ≤ i → i < leaves → IsBranch nodes i

abbrev pub leaves_of : Greatest → ℕ → ℕ
leaves_of g k = leaf_at g.nodes.items g.leaves k

-- these numbers, with zeros behind them
pub record Holds (numbers : List ℕ) (g : Greatest) : Type 0 where
  pub stands : AreGreatest g.nodes.items g.leaves g.depth
  pub there : length numbers ≤ g.leaves
  pub each : (k : ℕ) → k < g.leaves → leaves_of g k ≡ slice_index numbers k

-- one of the numbers is another one now
pub record SetsNumber (old new : Greatest) (k number : ℕ) : Type 0 where
  pub stands : AreGreatest new.nodes.items new.leaves new.depth
  pub leaves' : new.leaves ≡ old.leaves
  pub here : leaves_of new k ≡ number
  pub others : (j : ℕ) → j < old.leaves → j ≢ k → leaves_of new j ≡ leaves_of old j
