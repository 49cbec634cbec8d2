-- Runs of blocks in order.
use Rattle.std.specs.Prelude.{◌≡◌, ℕ, Bool, true, ◌&&◌, nat_le, List, [], ◌∷◌}
use Rattle.std.specs.List.{list_all}
use Rattle.xfs_inode.specs.declared.claims.BlockRange.{BlockRange}

-- each begins where the one in front of it ends, or behind
abbrev pub in_turn : ℕ → List BlockRange → Bool
in_turn end [] = true
in_turn end (run ∷ runs) = nat_le end run.start && in_turn run.end runs

-- each begins no later than those behind it
abbrev pub begins_before : BlockRange → BlockRange → Bool
begins_before a b = nat_le a.start b.start

abbrev pub RangesRanked : List BlockRange → Type 0
RangesRanked [] = Unit {0}
RangesRanked (run ∷ runs) = (list_all (begins_before run) runs ≡ true) × RangesRanked runs
