use Rattle.std.proofs.Common.{◌≡◌, ◌∙◌, lit≤, rules}
use Rattle.xfs_word.specs.Field.{part_of}
use Rattle.xfs_heads.proofs.inodes.put_values.Goals as goal

pub returns-clause-zero_behind_crc : goal.returns-clause-zero_behind_crc
returns-clause-zero_behind_crc c =
    let kept : part_of c.put_unlinked.new.sector 316 4 ≡ part_of c.clear.new.sector 316 4 = search rules in kept ∙ c.clear.ensures 316 4 (lit≤ tt)

pub returns-clause-zero_behind_levels : goal.returns-clause-zero_behind_levels
returns-clause-zero_behind_levels c =
    let kept : part_of c.put_unlinked.new.sector 336 176 ≡ part_of c.clear.new.sector 336 176 = search rules in kept ∙ c.clear.ensures 336 176 (lit≤ tt)
