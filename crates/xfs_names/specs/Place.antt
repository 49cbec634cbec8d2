-- Where the directory for orphans stands (chapters "Directories" and "Inode Allocation").
use Rattle.std.specs.Prelude.{ℕ, Bool, ◌==◌, ◌&&◌, not, if◌then◌else◌, List, length, Option, None, Some}
use Rattle.std.specs.List.{find, flat_map, range_with_len}
use Rattle.xfs_dirdata.specs.declared.records.EntryRec.{EntryRec}
use Rattle.xfs_links.specs.declared.records.NodeRec.{NodeRec}
use Rattle.xfs_links.specs.Entries.{is_kept_node, is_reserved_inode}
use Rattle.xfs_links.specs.Together.{orphans_of, old_lost}
use Rattle.xfs_names.specs.declared.place.LostPlace.{LostPlace}
use Rattle.xfs_names.specs.declared.place.LostPlace.TheVariants.{Unneeded, Old, Slot, Cluster}

-- the inodes of a cluster, of which this is the first
abbrev pub inodes_from : ℕ → List ℕ
inodes_from first = range_with_len first 32

-- no file that is kept has the inode, and it is none of the root's and the system's
abbrev pub is_free_inode : List NodeRec → ℕ → ℕ → Bool
is_free_inode nodes root n = not (is_kept_node nodes n) && not (is_reserved_inode root n)

-- the first free inode of some clusters
abbrev pub free_inode : List NodeRec → ℕ → List ℕ → Option ℕ
free_inode nodes root clusters = find (is_free_inode nodes root) (flat_map inodes_from clusters)

-- a new lost+found takes a free inode, or else a new cluster
abbrev pub new_place : Option ℕ → LostPlace
new_place None = Cluster
new_place (Some n) = Slot n

-- orphans go into the lost+found that is there, or else a new one
abbrev pub old_or_new : Option ℕ → Option ℕ → LostPlace
old_or_new (Some l) free = Old l
old_or_new None free = new_place free

abbrev pub place_for : List (ℕ × List ℕ) → Option ℕ → Option ℕ → LostPlace
place_for orphans old free = if length orphans == 0 then Unneeded else old_or_new old free

abbrev pub lost_place : List NodeRec → List EntryRec → ℕ → List ℕ → LostPlace
lost_place nodes listed root clusters = place_for (orphans_of nodes listed root) (old_lost nodes listed root) (free_inode nodes root clusters)
