use Rattle.std.proofs.Common.{◌≡◌, ℕ, ◌⊎◌, ◌++◌, ◌+◌, ◌<◌, ◌≤◌, [], true, false, List, map, take, length, get_or}
use Rattle.std.specs.List.{All, range_with_len}
use Rattle.xfs_disk.specs.Shares.{first_of_share}
use Rattle.xfs_dirindex.specs.declared.pairs.Pair.{Pair}
use Rattle.xfs_dirindex.specs.Mapped.{Mapped}
use Rattle.xfs_dirindex.specs.IndexTree.{next_link, pairs_of_places, are_members, pairs_below}
use Rattle.xfs_dirbuild.specs.Blocks.{link_at, row_block, bank_part}
use Rattle.xfs_dirbuild.specs.Index.{IsPointer, IsIndexed, before_at, next_at, HoldsIndex, leaf_places}
use Rattle.xfs_dirbuild.proofs.tree.put_row.Given as goal

abbrev pub invariant-loop-i : goal.invariant-loop-i
invariant-loop-i l = record {
  start_is : l.start ≡ first_of_share (length l.pairs) l.count l.i;
  members : (ms : List Mapped) → HoldsIndex ms l.blocks l.base l.first l.i → (rest : List Pair) → next_link rest ≡ next_at l.first l.count l.i
      → are_members ms false l.level (before_at l.first l.i) rest ≡ true → are_members ms false l.level 0 (l.links.items ++ rest) ≡ true;
  below : (ms : List Mapped) → HoldsIndex ms l.blocks l.base l.first l.i → pairs_below ms l.links.items ≡ take l.start l.pairs;
  places : pairs_of_places l.links.items ≡ leaf_places l.first l.i;
  pointers : All IsPointer l.links.items;
  indexed : (k : ℕ) → k < l.i → IsIndexed (get_or l.blocks (l.base + l.first + k) []);
  row : l.links.items ≡ map (link_at l.first l.count l.pairs) (range_with_len 0 l.i);
  bytes_are : bank_part l.blocks (l.base + l.first) l.i ≡ map (row_block l.level l.first l.count l.pairs) (range_with_len 0 l.i);
  links_are : length l.links.items ≡ l.i;
  blocks_count : length l.blocks ≡ length l.fn.blocks;
  others : (k : ℕ) → (k < l.base + l.first) ⊎ (l.base + l.first + l.i ≤ k) → get_or l.blocks k [] ≡ get_or l.fn.blocks k [];
}
