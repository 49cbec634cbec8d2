use Rattle.std.proofs.Common.{◌≡◌, ℕ, ◌<◌, false, length, get_or, take}
use Rattle.xfs_links.specs.Places.{is_target}
use Rattle.xfs_links.proofs.walk.named_places.Given as goal

abbrev pub invariant-loop-candidate : goal.invariant-loop-candidate
invariant-loop-candidate l = record {
  size : length l.named.items ≡ l.count;
  named : (p : ℕ) → p < l.count → get_or l.named.items p false ≡ is_target (take l.candidate-index l.candidates) p;
}
