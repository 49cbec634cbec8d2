use Rattle.std.proofs.Common.{◌≡◌, drop}
use Rattle.std.specs.List.{find}
use Rattle.xfs_options.specs.SubOptions.{is_item_of}
use Rattle.xfs_options.proofs.make_words.value_in.Given as goal

abbrev pub invariant-loop-item : goal.invariant-loop-item
invariant-loop-item l = find (is_item_of l.sub) (drop l.item-index l.items) ≡ find (is_item_of l.sub) l.items
