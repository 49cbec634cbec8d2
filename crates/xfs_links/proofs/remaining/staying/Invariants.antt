use Rattle.std.proofs.Common.{◌≡◌, ℕ, ◌<◌, ◌++◌, [], false, length, get_or, drop}
use Rattle.xfs_links.specs.Places.{is_target, staying_at}
use Rattle.xfs_links.proofs.remaining.staying.Given as goal

abbrev pub invariant-loop-candidate : goal.invariant-loop-candidate
invariant-loop-candidate l = record {
  size : length l.met.items ≡ length l.files;
  flags : (p : ℕ) → p < length l.files → get_or l.met.items p false ≡ is_target l.staying.items p;
  leads : l.staying.items ++ staying_at l.files l.parents l.staying.items (drop l.candidate-index l.candidates) ≡ staying_at l.files l.parents [] l.candidates;
}
