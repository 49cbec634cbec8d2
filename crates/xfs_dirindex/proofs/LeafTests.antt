-- The tests of an index block in leaf form, joined.
use Rattle.std.proofs.Common.{◌≡◌, ℕ, ◌+◌, ◌-◌, ◌*◌, Bool, ◌&&◌, ◌==◌, nat_le, List}
use Rattle.xfs_word.specs.Field.{field_of}
use Rattle.xfs_dirindex.specs.declared.data.Best.{Best}
use Rattle.xfs_dirindex.specs.declared.pairs.Pair.{Pair}
use Rattle.xfs_dirindex.specs.Pairs.{is_index, pairs_at}
use Rattle.xfs_dirindex.specs.Leaf.{are_values, end_of, is_leaf, leaf_count, leaf_stale, value_count}

pub leaf_by : (bests : List Best) (due : List Pair) (bytes : List ℕ) (a b c d e : Bool) → (field_of bytes 8 2 == 0x3df1) ≡ a → nat_le (64 + 8 * leaf_count bytes + 2 * value_count bytes) 4092 ≡ b
    → is_index (pairs_at bytes 64 (leaf_count bytes)) (leaf_stale bytes) due ≡ c → nat_le (end_of bests) (value_count bytes) ≡ d
    → are_values bests bytes (4092 - 2 * value_count bytes) 0 (value_count bytes) ≡ e → is_leaf bests due bytes ≡ (a && b && c && d && e)
unfolding is_leaf
leaf_by bests due bytes a b c d e is_a is_b is_c is_d is_e = λ i. is_a i && is_b i && is_c i && is_d i && is_e i
