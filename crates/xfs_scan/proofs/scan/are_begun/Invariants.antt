use Rattle.std.proofs.Common.{◌≡◌, true, take}
use Rattle.std.specs.List.{list_all}
use Rattle.xfs_word.specs.Seal.{begins_as_slot}
use Rattle.xfs_scan.proofs.scan.are_begun.Given as goal

abbrev pub invariant-loop-i : goal.invariant-loop-i
invariant-loop-i l = list_all begins_as_slot (take l.i l.bank) ≡ true
