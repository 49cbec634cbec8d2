use Rattle.std.proofs.Common.{◌≡◌, ◌+◌, ◌-◌, ◌≤◌, drop, length}
use Rattle.xfs_shell.specs.Running.{pushes_in}
use Rattle.xfs_shell.proofs.session.count_pushes.Given as goal

abbrev pub invariant-loop-count : goal.invariant-loop-count
invariant-loop-count l = record { value : l.count + pushes_in (drop l.count l.words) ≡ pushes_in l.words; inside : l.count ≤ length l.words }

abbrev pub decreases-loop-count : goal.decreases-loop-count
decreases-loop-count l = length l.words - l.count
