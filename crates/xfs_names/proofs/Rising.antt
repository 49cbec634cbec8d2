-- Entries in the order of their directories.
use Rattle.std.proofs.Common.{ℕ, ◌+◌, ◌≤◌, List, [], ◌∷◌, map, arith}
use Rattle.std.specs.List.Sorted.{IsNonDecreasingBy}
use Rattle.xfs_dirdata.specs.declared.records.EntryRec.{EntryRec}
use Rattle.xfs_volume.specs.declared.directories.DirRec.{DirRec}
use Rattle.xfs_naming.specs.Naming.{NumbersAscend}
use Rattle.xfs_naming.proofs.Order.{Rises, rises_by}
use Rattle.xfs_links.specs.declared.records.NodeRec.{NodeRec}
use Rattle.xfs_links.specs.Entries.{DirectoriesAscend}
use Rattle.xfs_names.specs.Wanted.{with_type}
use Rattle.xfs_names.proofs.Grouping.{ascends}

ascend_rise : (low : ℕ) (es : List EntryRec) → DirectoriesAscend low es → Rises low (map (λ (e : EntryRec). e.dir) es)
ascend_rise low [] up = tt
ascend_rise low (e ∷ es) up = (up.0, ascend_rise e.dir es up.1)

-- entries that are grouped by directory
pub listed_rise : (es : List EntryRec) → DirectoriesAscend 0 es → IsNonDecreasingBy (λ (e : EntryRec). e.dir) es
listed_rise es up = rises_by (λ (e : EntryRec). e.dir) 0 es (ascend_rise 0 es up)

-- entries whose types are set
typed_ascend : (nodes : List NodeRec) (low : ℕ) (es : List EntryRec) → DirectoriesAscend low es → DirectoriesAscend low (map (with_type nodes) es)
typed_ascend nodes low [] up = tt
typed_ascend nodes low (e ∷ es) up = (up.0, typed_ascend nodes e.dir es up.1)

pub typed_rise : (nodes : List NodeRec) (es : List EntryRec) → IsNonDecreasingBy (λ (e : EntryRec). e.dir) es → IsNonDecreasingBy (λ (e : EntryRec). e.dir) (map (with_type nodes) es)
typed_rise nodes es up = listed_rise (map (with_type nodes) es) (typed_ascend nodes 0 es (ascends 0 es up (λ d h. omega arith)))

-- directories by number
numbers_rise : (low v : ℕ) (xs : List ℕ) → low ≤ v → NumbersAscend v xs → Rises low xs
numbers_rise low v [] le up = tt
numbers_rise low v (x ∷ xs) le up = (omega (arith, up.0), numbers_rise x (x + 1) xs (omega arith) up.1)

pub dirs_rise : (dirs : List DirRec) → NumbersAscend 0 (map (λ (d : DirRec). d.ino) dirs) → IsNonDecreasingBy (λ (d : DirRec). d.ino) dirs
dirs_rise dirs up = rises_by (λ (d : DirRec). d.ino) 0 dirs (numbers_rise 0 0 (map (λ (d : DirRec). d.ino) dirs) (omega arith) up)
