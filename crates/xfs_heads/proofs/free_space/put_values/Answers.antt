use Rattle.std.proofs.Common.{◌≡◌, ◌∙◌, lit≤, rules}
use Rattle.xfs_word.specs.Field.{part_of}
use Rattle.xfs_heads.proofs.free_space.put_values.Goals as goal

pub returns-clause-zero_before_lsn : goal.returns-clause-zero_before_lsn
returns-clause-zero_before_lsn c =
    let kept : part_of c.put64.new.bytes 84 124 ≡ part_of c.clear.new.sector 84 124 = search rules in kept ∙ c.clear.ensures 84 124 (lit≤ tt)

pub returns-clause-zero_behind_crc : goal.returns-clause-zero_behind_crc
returns-clause-zero_behind_crc c =
    let kept : part_of c.put64.new.bytes 220 292 ≡ part_of c.clear.new.sector 220 292 = search rules in kept ∙ c.clear.ensures 220 292 (lit≤ tt)
