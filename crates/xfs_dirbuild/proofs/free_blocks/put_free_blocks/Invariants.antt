use Rattle.std.proofs.Common.{◌≡◌, ℕ, ◌+◌, ◌*◌, ◌<◌, [], map, length, get_or}
use Rattle.std.specs.List.{range_with_len}
use Rattle.xfs_dirbuild.specs.Blocks.{free_block_at, bank_part}
use Rattle.xfs_dirbuild.specs.FreeBlocks.{IsBuiltFreeBlock, values_in}
use Rattle.xfs_dirbuild.proofs.free_blocks.put_free_blocks.Given as goal

abbrev pub invariant-loop-i : goal.invariant-loop-i
invariant-loop-i l = record {
  blocks_are : (k : ℕ) → k < l.i → IsBuiltFreeBlock (2016 * k) (values_in l.values k) (get_or l.blocks (l.base + k) []);
  bytes_are : bank_part l.blocks l.base l.i ≡ map (free_block_at l.values) (range_with_len 0 l.i);
  count : length l.blocks ≡ length l.initial.blocks;
  others : (k : ℕ) → k < l.base → get_or l.blocks k [] ≡ get_or l.initial.blocks k [];
}
