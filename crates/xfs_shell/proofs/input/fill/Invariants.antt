use Rattle.std.proofs.Common.{◌≡◌, ℕ, ◌-◌, ◌≤◌, List, ◌++◌, length, take, Some}
use Rattle.xfs_shell.proofs.input.fill.Given as goal

abbrev pub invariant-loop-count : goal.invariant-loop-count
invariant-loop-count g l =
    record {
      within : l.count ≤ length l.buffer;
      left : (left : List ℕ) → g.S.Source.left l.fn.input ≡ Some left
          → (rest : List ℕ) × (g.S.Source.left l.input ≡ Some rest) × (left ≡ take l.count l.buffer ++ rest);
      faults : g.S.Source.faults l.fn.input ≤ g.S.Source.faults l.input;
    }

abbrev pub decreases-loop-count : goal.decreases-loop-count
decreases-loop-count g l = length l.buffer - l.count
