-- What entries name, in order.
use Rattle.std.specs.Prelude.{◌≡◌, ℕ, ◌==◌, List, filter, length}
use Rattle.std.specs.List.Sorted.{IsNonDecreasingBy}
use Rattle.xfs_dirdata.specs.declared.records.EntryRec.{EntryRec}
use Rattle.xfs_naming.specs.Naming.{entries_to}
use Rattle.xfs_names.specs.declared.linking.Target.{Target}

abbrev pub target_of : EntryRec → Target
target_of e = record { ino = e.ino }

-- numbers ascend, and are as often there as entries name them
pub record AreTargets (entries : List EntryRec) (targets : List Target) : Type 0 where
  pub rise : IsNonDecreasingBy (λ (t : Target). t.ino) targets
  pub as_many : (n : ℕ) → length (filter (λ (t : Target). t.ino == n) targets) ≡ length (entries_to entries n)
