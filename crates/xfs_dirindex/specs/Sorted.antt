-- Pairs in order.
use Rattle.std.specs.Prelude.{Bool, ◌==◌, ◌&&◌, ◌||◌, nat_le, nat_lt, List, []}
use Rattle.xfs_disk.specs.Lists.{AreInOrder}
use Rattle.xfs_dirindex.specs.declared.pairs.Pair.{Pair}

-- a pair comes no later than another: its hash is less, or it is the same and its address is no greater
abbrev pub is_pair_upto : Pair → Pair → Bool
is_pair_upto a b = nat_lt a.hash b.hash || (a.hash == b.hash && nat_le a.address b.address)

abbrev pub PairsRanked : List Pair → Type 0
PairsRanked pairs = AreInOrder is_pair_upto pairs
