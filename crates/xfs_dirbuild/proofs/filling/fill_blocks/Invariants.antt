use Rattle.std.proofs.Common.{◌≡◌, ℕ, ◌++◌, ◌+◌, ◌-◌, ◌<◌, ◌≤◌, [], drop, take, length, map, get_or}
use Rattle.std.specs.List.{All}
use Rattle.xfs_dirbuild.specs.Filling.{filled_shares, pairs_from, rest_in}
use Rattle.xfs_dirbuild.specs.Index.{IsPointer}
use Rattle.xfs_dirbuild.specs.Blocks.{data_block, bank_part}
use Rattle.xfs_dirbuild.specs.Placed.{IsBuiltDataBlock}
use Rattle.xfs_dirbuild.proofs.Filled.{later}
use Rattle.xfs_dirbuild.proofs.filling.fill_blocks.Given as goal

abbrev pub invariant-loop-start : goal.invariant-loop-start
invariant-loop-start l = record {
  within : l.start ≤ length l.entries;
  left : drop l.number (filled_shares l.dir l.parent l.entries) ≡ later (drop l.start l.entries);
  number_in : l.number ≤ length (filled_shares l.dir l.parent l.entries);
  pairs : l.stated.pairs.items ++ pairs_from l.number (drop l.number (filled_shares l.dir l.parent l.entries)) ≡ pairs_from 0 (filled_shares l.dir l.parent l.entries);
  added : length l.stated.pairs.items ≡ l.start + 2;
  sound : All IsPointer l.stated.pairs.items;
  rests : l.stated.rests.items ≡ map rest_in (take l.number (filled_shares l.dir l.parent l.entries));
  blocks_are : (k : ℕ) → k < l.number → IsBuiltDataBlock (get_or (filled_shares l.dir l.parent l.entries) k []) (get_or l.blocks k []);
  bytes_are : bank_part l.blocks 0 l.number ≡ map data_block (take l.number (filled_shares l.dir l.parent l.entries));
  count : length l.blocks ≡ length l.fn.blocks;
}

abbrev pub decreases-loop-start : goal.decreases-loop-start
decreases-loop-start l = length l.entries - l.start
