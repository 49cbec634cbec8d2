-- Blocks of a level with the keys that their parents state.
use Rattle.std.specs.Prelude.{ℕ, List, length, slice_get, slice_index}
use Rattle.xfs_tree.specs.declared.seats.Seat.{Seat}
use Rattle.xfs_tree.specs.Blocks.{each_of}

-- block i of a level, with its low key and its high key where they are stated
abbrev pub seat_at : {K : Type 0} → List ℕ → List K → List K → ℕ → Seat K
seat_at places lows highs i = record { place = slice_index places i; low = slice_get lows i; high = slice_get highs i }

abbrev pub seats_of : {K : Type 0} → List ℕ → List K → List K → List (Seat K)
seats_of places lows highs = each_of (length places) (seat_at places lows highs)
