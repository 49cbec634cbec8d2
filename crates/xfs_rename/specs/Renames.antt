-- What a rebuild is in which names change: the names that are wanted, the directories that are built, where they stand, the bytes of the
-- plan, and what of it is written.
use Rattle.std.specs.Prelude.{◌≡◌, ℕ, Bool, ◌==◌, ◌&&◌, not, ◌⊎◌, List, [], length, map, ⊤}
use Rattle.std.specs.List.{All, filter}
use Rattle.xfs_disk.specs.Blocks.{Image}
use Rattle.xfs_disk.specs.declared.stamp.Stamp.{Stamp}
use Rattle.xfs_geom.specs.Volumes.{volume_of}
use Rattle.xfs_geom.specs.declared.geometry.Geometry.{Geometry}
use Rattle.xfs_changes.specs.xfs_empty.Planning.{StandsFor}
use Rattle.xfs_links.specs.Together.{orphans_of}
use Rattle.xfs_naming.specs.Naming.{NumbersAscend}
use Rattle.xfs_names.specs.Built.{CanBeBuilt, IsBuiltAsWanted}
use Rattle.xfs_names.specs.declared.building.BuiltDirectory.{BuiltDirectory}
use Rattle.xfs_names.specs.declared.records.WantedNames.{WantedNames}
use Rattle.xfs_volume.specs.declared.files.FileRec.{FileRec}
use Rattle.xfs_place.specs.Objects.{ServeAsks, asks_of}
use Rattle.xfs_place.specs.Wanted.{FindsNoRoom}
use Rattle.xfs_place.specs.declared.faults.Unplaced.{Unplaced}
use Rattle.xfs_place.specs.declared.faults.Unplaced.TheVariants.{LostFound}
use Rattle.xfs_place.specs.declared.placed.Placed.{Placed}
use Rattle.xfs_place.specs.declared.wanted.Wanted.{Wanted}
use Rattle.xfs_names.specs.declared.place.LostPlace.TheVariants.{Cluster}
use Rattle.xfs_render.specs.declared.bytes.Bytes.{Bytes}
use Rattle.xfs_render.specs.declared.wanted_slots.SlotWanted.{SlotWanted}
use Rattle.xfs_rebuild.specs.xfs_request.Cycles.{kept_lsns}
use Rattle.xfs_rebuild.specs.xfs_request.Requests.{is_freed}
use Rattle.xfs_rebuild.specs.xfs_request.declared.seen.SlotSeen.{SlotSeen}
use Rattle.xfs_salvage.specs.declared.found.Salvaged.{Salvaged}
use Rattle.xfs_rebuild.specs.Bytes.{AreAtHand, AreReadOf, file_lsns}
use Rattle.xfs_rebuild.specs.Rebuilds.{HasNamesDue, IsRenderedLeft}
use Rattle.xfs_rebuild.specs.declared.faults.RebuildFault.{RebuildFault}
use Rattle.xfs_rebuild.specs.declared.faults.RebuildFault.TheVariants as faults
use Rattle.xfs_rebuild.specs.declared.names_due.NamesDue.{NamesDue}
use Rattle.xfs_changes.specs.Forks.{forks_of}
use Rattle.xfs_rename.specs.Lost.{cluster_found, lost_due, place_due}
use Rattle.xfs_changes.specs.Nodes.{nodes_of_files}
use Rattle.xfs_changes.specs.xfs_built.Asks.{blocks_of_built, objects_of}
use Rattle.xfs_rename.specs.Objects.{wanted_with}
use Rattle.xfs_rename.specs.Settled.{AreWanted, settled, staying_files}
use Rattle.xfs_changes.specs.Rooms.{fork_rooms}
use Rattle.xfs_changes.specs.Slots.{changes_of, with_changes}
use Rattle.xfs_changes.specs.declared.forks.DirectoryFork.{DirectoryFork}
use Rattle.xfs_changes.specs.declared.lost_found.Lost.{Lost}
use Rattle.xfs_rename.specs.declared.planning.Renamed.{Renamed}
use Rattle.xfs_rename.specs.declared.settling.Settling.{Settling}
use Rattle.xfs_rename.specs.declared.wanting.SettledAsk.{SettledAsk}

-- the names that are wanted where lost+found finds a place, and the directories that are built anew of them
pub record AreBuilt (g : Geometry) (n : NamesDue) (w : WantedNames) (built : List BuiltDirectory) : Type 0 where
  pub wanted : AreWanted g n (lost_due g n) w
  pub numbers : map (λ (b : BuiltDirectory). b.ino) built ≡ w.rebuilt
  pub each : All (IsBuiltAsWanted w (fork_rooms w.rebuilt n.files)) built

-- what is asked of the volume with these
abbrev pub renamed_wanted : Geometry → NamesDue → WantedNames → List BuiltDirectory → Wanted
renamed_wanted g n w built = wanted_with g n (lost_due g n) w (objects_of (fork_rooms w.rebuilt n.files) built)

-- the files that were there before, the forks of the directories where they stand, and what is then wanted of slots
abbrev pub old_files : NamesDue → WantedNames → List FileRec
old_files n w = staying_files w.rebuilt n.fresh n.files

abbrev pub placed_forks : Geometry → NamesDue → WantedNames → List BuiltDirectory → Placed → List DirectoryFork
placed_forks g n w built p = forks_of (volume_of g) (old_files n w) built p.cuts p.runs

abbrev pub renamed_slots : Geometry → Stamp → NamesDue → WantedNames → List DirectoryFork → List SlotWanted
renamed_slots g s n w forks = with_changes (changes_of (volume_of g) s (lost_due g n) (old_files n w) forks w.links) n.slots

-- the slots that were to be freed, but for that of lost+found
abbrev pub stays_freed : Lost → SlotWanted → Bool
stays_freed l w = is_freed w && not (l.made && w.ino == l.new)

abbrev pub cleared_beside : Lost → List SlotWanted → ℕ
cleared_beside l slots = length (filter (stays_freed l) slots)

-- the log sequence numbers that then stay
abbrev pub lsns_due : Geometry → Image → Salvaged → List SlotSeen → List ℕ
lsns_due g image kept seen = kept_lsns (volume_of g) kept seen (file_lsns (volume_of g) image kept.files)

-- the blocks of the plan are made of what was at hand and read as for a rebuild without them, and of the blocks of the directories
pub record AreRenamedBytes (g : Geometry) (sector : List ℕ) (s : Stamp) (image : Image) (n : NamesDue) (w : WantedNames) (built : List BuiltDirectory) (p : Placed) (b : Bytes) : Type 0 where
  pub read : Bytes
  pub at_hand : AreAtHand g sector s (settled n (lost_due g n) w).clusters (renamed_slots g s n w (placed_forks g n w built p)) read
  pub reads : AreReadOf image (lsns_due g image (settled n (lost_due g n) w) n.seen) n.log read
  pub with_objects : b ≡ record read { objects = blocks_of_built built }

-- a new cluster is asked for lost+found, and there is none
abbrev pub LacksCluster : Geometry → NamesDue → Type 0
LacksCluster g n = (place_due g n ≡ Cluster) × (cluster_found g n ≡ [])

-- what is settled about names, with the directories that are built
pub record IsSettling (g : Geometry) (n : NamesDue) (t : Settling) : Type 0 where
  pub found : LacksCluster g n → ⊥
  pub lost' : t.lost ≡ lost_due g n
  pub built' : AreBuilt g n t.names t.built
  pub rooms' : t.rooms ≡ fork_rooms t.names.rebuilt n.files
  pub ascend : NumbersAscend 0 t.names.rebuilt
  pub can' : CanBeBuilt t.names
  pub orphans' : t.orphans ≡ length (orphans_of (nodes_of_files n.files) n.entries g.rootino)

-- what is asked of the volume once the names are settled
pub record IsAskedFor (g : Geometry) (s : Stamp) (n : NamesDue) (t : Settling) (a : SettledAsk) : Type 0 where
  pub due : HasNamesDue g s n
  pub settling : IsSettling g n t
  pub wanted' : a.wanted ≡ wanted_with g n t.lost t.names (objects_of t.rooms t.built)
  pub kept' : a.kept ≡ settled n t.lost t.names
  pub slots' : a.slots ≡ n.slots
  pub seen' : a.seen ≡ n.seen
  pub log' : a.log ≡ n.log

-- What is to be written where names change, and how many inodes are then in use, how many slots are freed, and how many files are put into
-- lost+found.
pub record IsRenamed (g : Geometry) (sector : List ℕ) (s : Stamp) (image : Image) (n : NamesDue) (r : Renamed) : Type 0 where
  pub found : LacksCluster g n → ⊥
  pub w : WantedNames
  pub built : List BuiltDirectory
  pub names : AreBuilt g n w built
  pub buildable : CanBeBuilt w
  pub ascend : NumbersAscend 0 w.rebuilt
  pub placed : Placed
  pub stands : StandsFor (renamed_wanted g n w built) placed
  pub cuts : ServeAsks (asks_of (renamed_wanted g n w built).objects) placed.cuts placed.runs
  pub bytes : Bytes
  pub made : AreRenamedBytes g sector s image n w built placed bytes
  pub left : IsRenderedLeft (renamed_wanted g n w built) placed bytes image r.rebuilt
  pub count : r.rebuilt.kept ≡ length w.links
  pub freed : r.rebuilt.cleared ≡ cleared_beside (lost_due g n) n.slots
  pub orphans' : r.orphans ≡ length (orphans_of (nodes_of_files n.files) n.entries g.rootino)

-- the directories, the cluster of lost+found or the trees of a group find no room
pub record FindsNoRoomRenamed (g : Geometry) (n : NamesDue) (what : Unplaced) : Type 0 where
  pub found : LacksCluster g n → ⊥
  pub w : WantedNames
  pub built : List BuiltDirectory
  pub names : AreBuilt g n w built
  pub finds : FindsNoRoom (renamed_wanted g n w built) what

-- room is wanting, or memory
abbrev pub IsRoomFault : RebuildFault → Type 0
IsRoomFault (faults.Names due) = ⊥
IsRoomFault (faults.NoRoom what) = ⊤
IsRoomFault faults.ReadFault = ⊥
IsRoomFault faults.NoMemory = ⊤

-- why nothing is planned: room is wanting, of lost+found before all else; a fault of the disk or want of memory may stand in its place
abbrev pub IsRenameRefused : Geometry → NamesDue → RebuildFault → Type 0
IsRenameRefused g n (faults.Names due) = ⊥
IsRenameRefused g n (faults.NoRoom what) = ((what ≡ LostFound) × LacksCluster g n) ⊎ FindsNoRoomRenamed g n what
IsRenameRefused g n faults.ReadFault = ⊤
IsRenameRefused g n faults.NoMemory = ⊤
