use Rattle.std.proofs.Common.{◌≡◌, ℕ, drop}
use Rattle.std.specs.List.{list_all}
use Rattle.xfs_inode.specs.Files.{is_apart, range_of_block}
use Rattle.xfs_inode.proofs.counts.miss.Given as goal

abbrev pub invariant-loop-block : goal.invariant-loop-block
invariant-loop-block l = list_all (λ (block : ℕ). list_all (is_apart (range_of_block block)) l.runs) (drop l.block-index l.blocks) ≡ list_all (λ (block : ℕ). list_all (is_apart (range_of_block block)) l.runs) l.blocks
