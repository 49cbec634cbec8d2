-- Pairs, put in order.
use Rattle.std.specs.Prelude.{if◌then◌else◌, List, [], ◌∷◌}
use Rattle.xfs_dirindex.specs.declared.pairs.Pair.{Pair}
use Rattle.xfs_dirindex.specs.Sorted.{is_pair_upto}

-- pairs in order with one more in its place
abbrev pub with_pair : Pair → List Pair → List Pair
with_pair p [] = p ∷ []
with_pair p (q ∷ qs) = if is_pair_upto p q then p ∷ q ∷ qs else q ∷ with_pair p qs

-- the pairs by hash, and those of a hash by address
unfoldable pub in_rank : List Pair → List Pair
in_rank [] = []
in_rank (p ∷ ps) = with_pair p (in_rank ps)
