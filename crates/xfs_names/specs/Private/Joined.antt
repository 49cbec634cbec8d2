-- Names together, parents and targets from the lists that were decided.
use Rattle.std.specs.Prelude.{ℕ, ◌==◌, if◌then◌else◌, List, ◌++◌, map, Option, unwrap_or}
use Rattle.xfs_dirdata.specs.declared.records.EntryRec.{EntryRec}
use Rattle.xfs_links.specs.Together.{orphan_entry, lost_directory, new_entries}
use Rattle.xfs_names.specs.Pairs.{parent_among}

-- the entries that stay, the orphans in lost+found, and lost+found where it is new
abbrev pub joined : List EntryRec → List (ℕ × List ℕ) → ℕ → Option ℕ → ℕ → List EntryRec
joined kept orphans root old new = kept ++ map (orphan_entry (lost_directory old new)) orphans ++ new_entries root old new orphans

-- the parent of a directory, where the pairs tell those that were decided
abbrev pub parent_told : List (ℕ × ℕ) → ℕ → ℕ → ℕ → ℕ → ℕ
parent_told parents root lost new d = if d == new then root else unwrap_or (parent_among parents d) lost

abbrev pub told_parents : List (ℕ × ℕ) → ℕ → ℕ → ℕ → ℕ → ℕ × ℕ
told_parents parents root lost new d = (d, parent_told parents root lost new d)
