use Rattle.std.proofs.Common.{ap, ◌∙◌}
use Rattle.std.proofs.lemmas.List.{take_rest}
use Rattle.xfs_word.specs.Crc.{after_bytes}
use Rattle.xfs_word.proofs.Register.{first_few}
use Rattle.xfs_word.proofs.checksum.after_fewer.Goals as goal

pub returns : goal.returns
returns c =
    let bytes = c.args.bytes.now in
    let next = c.after_four.result in
    c.after_each-2.ensures ∙ ap (after_bytes next) (take_rest bytes 4) ∙ first_few 4 c.args.register next bytes c.after_four.ensures
