use Rattle.std.proofs.Common.{◌≡◌, ℕ, ◌-◌, List, Bool}
use Rattle.xfs_links.specs.Connected.{free_name}
use Rattle.xfs_links.specs.Private.Taken.{AreTaken}
use Rattle.xfs_links.proofs.orphans.free_name.Given as goal

abbrev pub invariant-loop-k : goal.invariant-loop-k
invariant-loop-k l = (f : List ℕ → Bool) → AreTaken l.taken f → free_name f l.ino (l.steps - l.k) l.k ≡ free_name f l.ino l.steps 0
