use Rattle.std.proofs.Common.{◌≡◌, ◌∙◌}
use Rattle.xfs_word.specs.Crc.{little_field_of, crc_of, cleared}
use Rattle.xfs_word.specs.Field.{KeepsParts}
use Rattle.xfs_word.proofs.Written.{keeps, keeps_parts, has_checksum-put}
use Rattle.xfs_word.proofs.checksum.put_checksum.Goals as goal

pub returns-clause-keeps : goal.returns-clause-keeps
returns-clause-keeps c = keeps c.args.bytes.now c.write.new.bytes c.args.at 4 c.write.ensures.others

pub returns-clause-keeps_parts : goal.returns-clause-keeps_parts
returns-clause-keeps_parts c =
    keeps_parts c.args.bytes.now c.write.new.bytes c.args.at 4 c.write.auto.bytes c.write.ensures.others

pub returns-clause-right : goal.returns-clause-right
returns-clause-right c =
    let old = c.args.bytes.now in
    let new = c.write.new.bytes in
    let put : little_field_of new c.args.at 4 ≡ crc_of (cleared old c.args.at) =
    c.write.ensures.put ∙ c.crc_skipping-checksum.ensures in
    let same : KeepsParts old new c.args.at 4 = keeps_parts old new c.args.at 4 c.write.auto.bytes c.write.ensures.others in
    has_checksum-put old new c.args.at c.write.auto.bytes same put
