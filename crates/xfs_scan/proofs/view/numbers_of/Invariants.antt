use Rattle.std.proofs.Common.{◌≡◌, take, map}
use Rattle.xfs_rounds.specs.declared.facts.SlotFact.{SlotFact}
use Rattle.xfs_scan.proofs.view.numbers_of.Given as goal

abbrev pub invariant-loop-fact : goal.invariant-loop-fact
invariant-loop-fact l = l.numbers.items ≡ map (λ (fact : SlotFact). fact.lsn) (take l.fact-index l.facts)
