use Rattle.std.proofs.Common.{◌≡◌, [], Some, sym, ap, ◌∙◌}
use Rattle.xfs_options.proofs.Few.{small_number}
use Rattle.xfs_options.specs.SubOptions.{first_bad, items_given}
use Rattle.xfs_options.proofs.make_words.judge.Goals as goal

pub bad_option-requires : goal.bad_option-requires
bad_option-requires c =
    let found : first_bad [] (items_given c.args.given.now) ≡ Some c.in-Some.item.now =
    ap (first_bad []) (sym c.in-Ok.ensures ∙ sym c.deref.ensures.value) ∙ sym c.in-Some.ensures in
    small_number c.args.given.now c.in-Some.item.now found
