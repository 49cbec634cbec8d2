use Rattle.std.proofs.Common.{◌≡◌, ◌++◌, take}
use Rattle.xfs_collections.proofs.block_list.BlockList.push_bank.Given as goal

abbrev pub invariant-loop-i : goal.invariant-loop-i
invariant-loop-i l = record { all : l.self ≡ l.initial.self ++ take l.i l.bank }
