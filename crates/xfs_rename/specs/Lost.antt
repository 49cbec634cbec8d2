-- Where lost+found stands, and the cluster that is made for it where no inode of a kept one is free (chapters "Directories" and "AG
-- Inode Management").
use Rattle.std.specs.Prelude.{◌≡◌, ℕ, Bool, true, false, ◌-◌, ◌^◌, List, [], ◌∷◌, map, Option, Some, None}
use Rattle.std.specs.List.{range_with_len}
use Rattle.xfs_geom.specs.Volumes.{volume_of}
use Rattle.xfs_geom.specs.declared.geometry.Geometry.{Geometry}
use Rattle.xfs_names.specs.Place.{lost_place}
use Rattle.xfs_names.specs.declared.place.LostPlace.{LostPlace}
use Rattle.xfs_names.specs.declared.place.LostPlace.TheVariants as place
use Rattle.xfs_place.specs.Chunks.{asked_rooms}
use Rattle.xfs_place.specs.Pool.{is_pool}
use Rattle.xfs_place.specs.Sparing.{spared_of}
use Rattle.xfs_place.specs.declared.chunk_search.ChunkAsk.{ChunkAsk}
use Rattle.xfs_place.specs.declared.faults.Unplaced.TheVariants.{LostFound}
use Rattle.xfs_rebuild.specs.declared.names_due.NamesDue.{NamesDue}
use Rattle.xfs_changes.specs.Nodes.{first_of_cluster, firsts_of_clusters, nodes_of_files}
use Rattle.xfs_changes.specs.declared.lost_found.Lost.{Lost}

-- a number that no inode has
abbrev pub no_inode : ℕ
no_inode = 2 ^ 32 - 1

abbrev pub first_of : List ℕ → List ℕ → List ℕ
first_of [] [] = []
first_of [] (other ∷ others) = other ∷ []
first_of (start ∷ starts) others = start ∷ []

-- the first of some numbers, where there are some
abbrev pub IsFirst : Option ℕ → List ℕ → Type 0
IsFirst None starts = starts ≡ []
IsFirst (Some start) starts = (rest : List ℕ) × (starts ≡ start ∷ rest)

module _ (g : Geometry) (n : NamesDue) where
  -- of each group the AG block from which on its blocks are spared, by the pool as it is before anything is placed
  abbrev pub spared : List ℕ
  spared = map (spared_of (volume_of g) (is_pool (volume_of g) n.wanted.taken n.wanted.reserved) false) (range_with_len 0 g.agcount)

  -- where lost+found stands, by the names that are decided
  abbrev pub place_due : LostPlace
  place_due = lost_place (nodes_of_files n.files) n.entries g.rootino (firsts_of_clusters (volume_of g) n.clusters)

  abbrev pub cluster_ask : List ℕ → ChunkAsk
  cluster_ask sparing = record {
    geometry = g;
    taken = n.wanted.taken;
    reserved = n.wanted.reserved;
    size = 4;
    from = 0;
    spared_from = sparing;
    count = 1;
    what = LostFound;
  }

  -- a new cluster takes the lowest room that leaves what is spared, else the lowest of all; none where there is none
  abbrev pub cluster_found : List ℕ
  cluster_found = first_of (asked_rooms (cluster_ask spared)) (asked_rooms (cluster_ask []))

  abbrev pub added_for : LostPlace → List ℕ
  added_for place.Unneeded = []
  added_for (place.Old ino) = []
  added_for (place.Slot ino) = []
  added_for place.Cluster = cluster_found

  -- the new clusters: one, or none
  abbrev pub added : List ℕ
  added = added_for place_due

  abbrev pub first_added : List ℕ → ℕ
  first_added [] = no_inode
  first_added (cluster ∷ clusters) = first_of_cluster (volume_of g) cluster

  abbrev pub new_for : LostPlace → ℕ
  new_for place.Unneeded = no_inode
  new_for (place.Old ino) = no_inode
  new_for (place.Slot ino) = ino
  new_for place.Cluster = first_added cluster_found

  -- the inode of a new lost+found; a number that no inode has where there is none
  abbrev pub new_inode : ℕ
  new_inode = new_for place_due

-- lost+found is made anew
abbrev pub is_lost_made : LostPlace → Bool
is_lost_made place.Unneeded = false
is_lost_made (place.Old ino) = false
is_lost_made (place.Slot ino) = true
is_lost_made place.Cluster = true

-- it is what is due where lost+found stands there
abbrev pub lost_in : Geometry → NamesDue → LostPlace → Lost
lost_in g n p = record { made = is_lost_made p; new = new_for g n p; added = added_for g n p; spared = spared g n }

-- it is what is due
abbrev pub lost_due : Geometry → NamesDue → Lost
lost_due g n = lost_in g n (place_due g n)
