-- The one block of the single-block form that is written (chapter "Directories", "Block Directories").
use Rattle.std.specs.Prelude.{◌≡◌, ℕ, ◌-◌, ◌*◌, List, length, Some}
use Rattle.xfs_word.specs.Field.{field_of, part_of}
use Rattle.xfs_dirdata.specs.declared.records.EntryRec.{EntryRec}
use Rattle.xfs_dirdata.specs.Data.{area_of}
use Rattle.xfs_dirdata.specs.Written.{written_area}
use Rattle.xfs_dirindex.specs.declared.pairs.Pair.{Pair}
use Rattle.xfs_dirindex.specs.Pairs.{pairs_at}
use Rattle.xfs_dirbuild.specs.Filling.{all_entries}

-- a block with these entries, those of the directory and its parent ahead, and these pairs in front of its tail
pub record IsSingleBlock (dir parent : ℕ) (entries : List EntryRec) (pairs : List Pair) (bytes : List ℕ) : Type 0 where
  pub magic : field_of bytes 0 4 ≡ 0x58444233
  pub count : field_of bytes 4088 4 ≡ length pairs
  pub stale : field_of bytes 4092 4 ≡ 0
  pub pairs_is : pairs_at bytes (4088 - 8 * length pairs) (length pairs) ≡ pairs
  pub area : (d : ℕ) → area_of d (part_of bytes 0 (4088 - 8 * length pairs)) ≡ Some (written_area d (all_entries dir parent entries) (4088 - 8 * length pairs))
