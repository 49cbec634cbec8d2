use Rattle.std.proofs.Common.{◌≡◌, ℕ, ◌==◌, ◌&&◌, List, ◌++◌, map, drop}
use Rattle.std.specs.List.{All, list_any, filter}
use Rattle.std.specs.Str.{bytes_eq}
use Rattle.xfs_links.specs.Entries.{passes, firsts, candidate_entries}
use Rattle.xfs_links.specs.Places.{candidate_entry, IsPlacedCandidate}
use Rattle.xfs_links.specs.Met.{is_met}
use Rattle.xfs_links.proofs.candidates.find_candidates.Given as goal

abbrev pub invariant-loop-i : goal.invariant-loop-i
invariant-loop-i l = record {
  placed : All (IsPlacedCandidate l.files l.entries) l.found.items;
  met : (d : ℕ) (q : List ℕ) → is_met l.met d q ≡ list_any (λ f. f.dir == d && bytes_eq f.name q) (map (candidate_entry l.entries) l.found.items);
  leads : map (candidate_entry l.entries) l.found.items ++ firsts (map (candidate_entry l.entries) l.found.items) (filter (passes l.files l.root) (drop l.i l.entries)) ≡ candidate_entries l.files l.root l.entries;
}
