use Rattle.std.proofs.Common.{ℕ, List, Bor}
use Rattle.std.specs.HashSet.{contains}
use Rattle.std.specs.Str.{bytes_eq}
use Rattle.xfs_naming.proofs.Different.{HasSeen}
use Rattle.xfs_naming.proofs.texts.are_different.Given as goal

abbrev pub invariant-loop-entry : goal.invariant-loop-entry
invariant-loop-entry l = HasSeen l.own l.entry-index (λ (q : Bor (List ℕ)). contains (λ (a b : Bor (List ℕ)). bytes_eq a.now b.now) l.seen q)
