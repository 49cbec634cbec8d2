use Rattle.std.proofs.Common.{◌∙◌}
use Rattle.std.specs.Int.{from_bool}
use Rattle.std.proofs.lemmas.List.{append-nil}
use Rattle.xfs_word.proofs.Parts.{joined-packed, flag-number}
use Rattle.xfs_word.proofs.extents.pack_extent.Goals as goal

pub returns : goal.returns
returns c =
    let extent = c.args.extent.now in
    let joined = joined-packed extent (from_bool extent.unwritten) c.requires (flag-number extent.unwritten) in
    c.write_u128.ensures ∙ append-nil _ ∙ joined
