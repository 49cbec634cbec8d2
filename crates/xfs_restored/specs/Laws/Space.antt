-- Laws about the space of a volume in which names were changed. Each function does nothing; its contract is the laws.
use Rattle.std.specs.Prelude.{◌≡◌, ℕ, List}
use Rattle.std.specs.List.{flat_map}
use Rattle.xfs_disk.specs.Blocks.{Image}
use Rattle.xfs_disk.specs.declared.stamp.Stamp.{Stamp}
use Rattle.xfs_geom.specs.Volumes.{volume_of}
use Rattle.xfs_geom.specs.declared.geometry.Geometry.{Geometry}
use Rattle.xfs_image.specs.Files.{clusters_of, inodes_of}
use Rattle.xfs_image.specs.Slots.{cluster_inodes}
use Rattle.xfs_laws.specs.Counting.{by_group, chunk_laws, counter_laws, group_chains, list_laws}
use Rattle.xfs_rename.specs.xfs_scan.declared.evidence.Evidence.{Evidence}
use Rattle.xfs_space.specs.SpaceLaws.{space_laws}
use Rattle.xfs_volume.specs.Laws.{AreKept}
use Rattle.xfs_rename.specs.xfs_made.Groups.{due_groups}
use Rattle.xfs_place.specs.declared.placed.GroupPlaced.{GroupPlaced}
use Rattle.xfs_rename.specs.xfs_request.Chunks.{inodes_wanted}
use Rattle.xfs_rename.specs.xfs_rebuild.declared.names_due.NamesDue.{NamesDue}
use Rattle.xfs_rename.specs.Lost.{lost_due}
use Rattle.xfs_rename.specs.Renames.{old_files}
use Rattle.xfs_rename.specs.Settled.{settled}
use Rattle.xfs_rename.specs.declared.planning.Renamed.{Renamed}
use Rattle.xfs_restored.specs.Numbered.{AreNumbered}
use Rattle.xfs_restored.specs.Relinking.{IsRelinked, renamed_files}

-- The chunks of the groups, whatever is placed in these, have the kept clusters, and a new one where lost+found has one (`clusters`);
-- so their inodes are those of these clusters (`inodes`).
abbrev pub RenamedChunksAreSettledClusters : Type 0
RenamedChunksAreSettledClusters = (g : Geometry) (sector : List ℕ) (s : Stamp) (image now : Image) (e : Evidence) (n : NamesDue) (r : Renamed) → (has : IsRelinked g sector s image now e n r)
    → (placed : List GroupPlaced) (agf_crc agi_crc : ℕ → ℕ)
    → clusters_of (volume_of g) (due_groups (volume_of g) (inodes_wanted (volume_of g) (settled n (lost_due g n) has.is.w)) placed agf_crc agi_crc) ≡ (settled n (lost_due g n) has.is.w).clusters

-- of the same, `inodes`
abbrev pub RenamedChunksAreSettledInodes : Type 0
RenamedChunksAreSettledInodes = (g : Geometry) (sector : List ℕ) (s : Stamp) (image now : Image) (e : Evidence) (n : NamesDue) (r : Renamed) → (has : IsRelinked g sector s image now e n r)
    → (placed : List GroupPlaced) (agf_crc agi_crc : ℕ → ℕ)
    → inodes_of (volume_of g) (due_groups (volume_of g) (inodes_wanted (volume_of g) (settled n (lost_due g n) has.is.w)) placed agf_crc agi_crc)
    ≡ flat_map (cluster_inodes (volume_of g)) (settled n (lost_due g n) has.is.w).clusters

-- Where the numbers of links are those of the files (`AreNumbered`): each block has the owner that the groups record, those that have
-- none are free (`space`), the counters count what is there (`counters`), chunks say which inodes are in use (`chunks`), free lists
-- have each block once (`lists`), and no inode waits to be removed (`chains`).
abbrev pub RenamedSpaceIsLawfulSpace : Type 0
RenamedSpaceIsLawfulSpace = (g : Geometry) (sector : List ℕ) (s : Stamp) (image now : Image) (e : Evidence) (n : NamesDue) (r : Renamed) → (has : IsRelinked g sector s image now e n r)
    → AreNumbered g.rootino has.on.kept (lost_due g n) has.is.w (old_files n has.is.w) → (agf_crc agi_crc : ℕ → ℕ)
    → AreKept (space_laws (volume_of g) (due_groups (volume_of g) (inodes_wanted (volume_of g) (settled n (lost_due g n) has.is.w)) has.is.placed.groups agf_crc agi_crc)
    (renamed_files g s now has.on n has.is.w has.is.built has.is.placed))

-- of the same, `counters`
abbrev pub RenamedSpaceIsLawfulCounters : Type 0
RenamedSpaceIsLawfulCounters = (g : Geometry) (sector : List ℕ) (s : Stamp) (image now : Image) (e : Evidence) (n : NamesDue) (r : Renamed) → (has : IsRelinked g sector s image now e n r)
    → AreNumbered g.rootino has.on.kept (lost_due g n) has.is.w (old_files n has.is.w) → (agf_crc agi_crc : ℕ → ℕ)
    → AreKept (counter_laws (volume_of g) (due_groups (volume_of g) (inodes_wanted (volume_of g) (settled n (lost_due g n) has.is.w)) has.is.placed.groups agf_crc agi_crc) has.is.placed.counts)

-- of the same, `chunks`
abbrev pub RenamedSpaceIsLawfulChunks : Type 0
RenamedSpaceIsLawfulChunks = (g : Geometry) (sector : List ℕ) (s : Stamp) (image now : Image) (e : Evidence) (n : NamesDue) (r : Renamed) → (has : IsRelinked g sector s image now e n r)
    → AreNumbered g.rootino has.on.kept (lost_due g n) has.is.w (old_files n has.is.w) → (agf_crc agi_crc : ℕ → ℕ)
    → AreKept (chunk_laws (volume_of g) (renamed_files g s now has.on n has.is.w has.is.built has.is.placed)
    (due_groups (volume_of g) (inodes_wanted (volume_of g) (settled n (lost_due g n) has.is.w)) has.is.placed.groups agf_crc agi_crc))

-- of the same, `lists`
abbrev pub RenamedSpaceIsLawfulLists : Type 0
RenamedSpaceIsLawfulLists = (g : Geometry) (sector : List ℕ) (s : Stamp) (image now : Image) (e : Evidence) (n : NamesDue) (r : Renamed) → (has : IsRelinked g sector s image now e n r)
    → AreNumbered g.rootino has.on.kept (lost_due g n) has.is.w (old_files n has.is.w) → (agf_crc agi_crc : ℕ → ℕ)
    → AreKept (list_laws (due_groups (volume_of g) (inodes_wanted (volume_of g) (settled n (lost_due g n) has.is.w)) has.is.placed.groups agf_crc agi_crc))

-- of the same, `chains`
abbrev pub RenamedSpaceIsLawfulChains : Type 0
RenamedSpaceIsLawfulChains = (g : Geometry) (sector : List ℕ) (s : Stamp) (image now : Image) (e : Evidence) (n : NamesDue) (r : Renamed) → (has : IsRelinked g sector s image now e n r)
    → AreNumbered g.rootino has.on.kept (lost_due g n) has.is.w (old_files n has.is.w) → (agf_crc agi_crc : ℕ → ℕ)
    → AreKept (by_group group_chains 0 (due_groups (volume_of g) (inodes_wanted (volume_of g) (settled n (lost_due g n) has.is.w)) has.is.placed.groups agf_crc agi_crc))
