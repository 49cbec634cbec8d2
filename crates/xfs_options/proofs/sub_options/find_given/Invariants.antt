use Rattle.std.proofs.Common.{◌≡◌, drop}
use Rattle.std.specs.List.{find}
use Rattle.xfs_options.specs.SubOptions.{is_item_of}
use Rattle.xfs_options.specs.declared.sub_options.SubOption.{SubOption}
use Rattle.xfs_options.proofs.sub_options.find_given.Given as goal

abbrev pub invariant-loop-sub : goal.invariant-loop-sub
invariant-loop-sub l =
    let given : SubOption → _ = λ sub. is_item_of sub l.item in find given (drop l.sub-index l.subs) ≡ find given l.subs
