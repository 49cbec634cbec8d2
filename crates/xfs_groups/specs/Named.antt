-- The clusters that trees name, in one sweep over the records of owners.
use Rattle.std.specs.Prelude.{◌≡◌, ℕ, Bool, false, ◌+◌, ◌≤◌, ◌&&◌, ◌||◌, ◌==◌, nat_le, List, [], ◌∷◌, Option, Some, None, option_map}
use Rattle.xfs_kinds.specs.Owners.{clusters_owner}
use Rattle.xfs_geom.specs.Volumes.{Volume}
use Rattle.xfs_geom.specs.declared.records.InoRec.{InoRec}
use Rattle.xfs_geom.specs.declared.records.RmapRec.{RmapRec}
use Rattle.xfs_image.specs.Clusters.{chunk_clusters, given_clusters, is_given_block, names}
use Rattle.xfs_tree.specs.Reading.{Contents}

-- the records ascend, and no two have a block in common; the first begins at an AG block or behind it
abbrev pub RecordsApart : ℕ → List RmapRec → Type 0
RecordsApart low [] = Unit {0}
RecordsApart low (r ∷ rs) = (low ≤ r.start) × RecordsApart (r.start + r.count) rs

abbrev pub ends_before : ℕ → RmapRec → Bool
ends_before block r = nat_le (r.start + r.count) block

-- a record of clusters begins at an AG block or before it
abbrev pub begins_by : ℕ → RmapRec → Bool
begins_by block r = r.owner == clusters_owner && nat_le r.start block

-- the first record, where there is one, ends behind an AG block
abbrev pub EndBehind : ℕ → List RmapRec → Type 0
EndBehind block [] = Unit {0}
EndBehind block (r ∷ rs) = ends_before block r ≡ false

-- the same AG blocks are given from one on
abbrev pub GiveAlike : ℕ → List RmapRec → List RmapRec → Type 0
GiveAlike block xs ys = (b : ℕ) → block ≤ b → is_given_block ys b ≡ is_given_block xs b

-- a tree that reads names the cluster
abbrev pub is_named : Option (List ℕ) → Option (List ℕ) → ℕ → Bool
is_named chunks owners cluster = names chunks cluster || names owners cluster

-- the clusters that a tree names, none where it does not read
abbrev pub named_in : Option (List ℕ) → List ℕ
named_in None = []
named_in (Some clusters) = clusters

-- the records of a tree of owners are apart, where it reads
abbrev pub AreOwnersApart : Option (Contents RmapRec) → Type 0
AreOwnersApart None = Unit {0}
AreOwnersApart (Some tree) = RecordsApart 0 tree.records

-- the clusters of a tree of chunks, and those that a tree of owners gives, where it reads
abbrev pub chunks_in : Volume → ℕ → Option (Contents InoRec) → Option (List ℕ)
chunks_in v ag tree = option_map (λ tree. chunk_clusters v ag tree.records) tree

abbrev pub owners_in : Volume → ℕ → Option (Contents RmapRec) → Option (List ℕ)
owners_in v ag tree = option_map (λ tree. given_clusters v ag tree.records) tree
