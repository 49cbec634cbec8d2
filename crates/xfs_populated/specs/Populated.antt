-- What an image says in which a new volume with the files of a protofile was made.
use Rattle.std.specs.Prelude.{◌≡◌, ℕ, ◌+◌, ◌-◌, ◌*◌, ◌^◌, ◌≤◌, ◌==◌, true, if◌then◌else◌, List, [], ◌∷◌, length, map}
use Rattle.std.specs.List.{flat_map, range_with_len}
use Rattle.xfs_disk.specs.Blocks.{Image, IsImage}
use Rattle.xfs_disk.specs.declared.stamp.Stamp.{Stamp}
use Rattle.xfs_geom.specs.Volumes.{Volume, volume_of}
use Rattle.xfs_geom.specs.declared.geometry.Geometry.{Geometry}
use Rattle.xfs_geom.specs.declared.records.Run.{Run}
use Rattle.xfs_log.specs.xfs_heads.declared.log_state.LogState.TheVariants.{Clean}
use Rattle.xfs_dirdata.specs.declared.records.EntryRec.{EntryRec}
use Rattle.xfs_volume.specs.declared.catalogs.Catalog.{Catalog}
use Rattle.xfs_volume.specs.declared.cores.Core.{Core}
use Rattle.xfs_volume.specs.declared.directories.DirRec.{DirRec}
use Rattle.xfs_volume.specs.declared.files.FileRec.{FileRec}
use Rattle.xfs_volume.specs.declared.groups.GroupRec.{GroupRec}
use Rattle.xfs_inodebuild.specs.declared.forks.ForkWanted.{ForkWanted}
use Rattle.xfs_image.specs.Lsns.{lsn_places_in_order, lsn_places}
use Rattle.xfs_made.specs.Groups.{due_groups}
use Rattle.xfs_empty.specs.Geometry.{HasFirstChunk}
use Rattle.xfs_empty.specs.Inodes.{system_core}
use Rattle.xfs_place.specs.declared.placed.Placed.{Placed}
use Rattle.xfs_render.specs.Plans.{HoldsPlan}
use Rattle.xfs_render.specs.declared.plan.Plan.{Plan}
use Rattle.xfs_made.specs.Files.{plain_file}
use Rattle.xfs_made.specs.Volumes.{Checksums, no_lsn}
use Rattle.xfs_proto.specs.declared.protofile.ProtoKind.{ProtoKind}
use Rattle.xfs_proto.specs.declared.protofile.ProtoKind.TheVariants as Kind
use Rattle.xfs_proto.specs.declared.protofile.ProtoNode.{ProtoNode}
use Rattle.xfs_filled.specs.Chunks.{inodes_filled, chunk_starts}
use Rattle.xfs_filled.specs.Entries.{entries_at, parent_of_place}
use Rattle.xfs_filled.specs.FileTrees.{AreProtoNodes, node_at, places_of_kind}
use Rattle.xfs_filled.specs.Forks.{extents_of_owner}
use Rattle.xfs_filled.specs.Numbers.{number_of}
use Rattle.xfs_filled.specs.Planning.{HoldsFiles, IsFilledPlan}
use Rattle.xfs_filled.specs.Slots.{core_at, fork_of_place}

-- an image has the whole plan of a new volume with these files, for which there is room
pub record IsPopulated (g : Geometry) (sector : List ℕ) (s : Stamp) (ns : List ProtoNode) (contents : List (List ℕ)) (plan : Plan) (blocks : ℕ) (image : Image) : Type 0 where
  pub filled : IsFilledPlan g sector s ns contents plan
  pub files : AreProtoNodes ns
  pub bytes : length contents ≡ length ns
  pub first : HasFirstChunk (volume_of g)
  pub room : HoldsFiles g ns contents
  pub sized : IsImage blocks image
  pub enough : g.dblocks ≤ blocks
  pub holds : HoldsPlan image plan

-- a core with what goes with its fork, and with the checksum of its slot
abbrev pub with_fork : Core → ForkWanted → ℕ → Core
with_fork core fork crc = record core { format = fork.format; size = fork.size; nblocks = fork.nblocks; nextents = fork.nextents; crc = crc }

abbrev pub target_of_kind : ProtoKind → List ℕ
target_of_kind (Kind.Regular name line) = []
target_of_kind Kind.Directory = []
target_of_kind (Kind.Link target) = target
target_of_kind (Kind.Block major minor) = []
target_of_kind (Kind.Character major minor) = []
target_of_kind Kind.Pipe = []

abbrev pub device_of_kind : ProtoKind → ℕ
device_of_kind (Kind.Regular name line) = 0
device_of_kind Kind.Directory = 0
device_of_kind (Kind.Link target) = 0
device_of_kind (Kind.Block major minor) = major * 2 ^ 18 + minor
device_of_kind (Kind.Character major minor) = major * 2 ^ 18 + minor
device_of_kind Kind.Pipe = 0

module _ (v : Volume) (s : Stamp) (starts : List ℕ) (ns : List ProtoNode) (contents : List (List ℕ)) (runs : List Run) (crc : ℕ → ℕ) where
  -- the file at a place, with its fork: extents where this states some, else none
  abbrev pub filled_fork : ℕ → ForkWanted
  filled_fork k = fork_of_place v starts ns contents (extents_of_owner v (number_of v starts k) runs) k

  abbrev pub filled_file : ℕ → FileRec
  filled_file k = record {
    ino = number_of v starts k;
    core = with_fork (core_at v s starts ns k) (filled_fork k) (crc (number_of v starts k));
    extents = if (filled_fork k).format == 2 then extents_of_owner v (number_of v starts k) runs else [];
    rest = record {
      attr_extents = [];
      tree = [];
      attrs = [];
      target = target_of_kind (node_at ns k).kind;
      device = device_of_kind (node_at ns k).kind;
    };
  }

  -- all files by number: the root, the two system inodes, and the others behind them
  unfoldable pub filled_files : List FileRec
  filled_files =
      filled_file 0 ∷ plain_file (system_core v s 129) (crc 129) ∷ plain_file (system_core v s 130) (crc 130) ∷ map filled_file (range_with_len 1 (length ns - 1))

module _ (v : Volume) (starts : List ℕ) (ns : List ProtoNode) where
  -- the entries of all directories, by directory, in the order of the protofile; and the directories, each whole
  unfoldable pub filled_entries : List EntryRec
  filled_entries = flat_map (entries_at v starts ns) (places_of_kind ns true)

  abbrev pub directory_due : ℕ → DirRec
  directory_due k = record { ino = number_of v starts k; parent = parent_of_place v starts ns k; whole = true }

  unfoldable pub dirs_due : List DirRec
  dirs_due = map directory_due (places_of_kind ns true)

-- the groups, with the chunks and what is placed in each
abbrev pub filled_groups : Geometry → List ProtoNode → Placed → (ℕ → ℕ) → (ℕ → ℕ) → List GroupRec
filled_groups g ns p agf agi = due_groups (volume_of g) (inodes_filled g (length ns) (chunk_starts g (length ns))) p.groups agf agi

-- the volume: these groups, files, entries and directories, the counts that were placed, and a blank log of cycle 1
abbrev pub filled_catalog : Geometry → Stamp → List ProtoNode → List (List ℕ) → Placed → Checksums → Catalog
filled_catalog g s ns contents p crcs =
    let starts = chunk_starts g (length ns) in
    let groups = filled_groups g ns p crcs.agf crcs.agi in
    let files = filled_files (volume_of g) s starts ns contents p.runs crcs.slot in
    record {
      geometry = g;
      groups = groups;
      files = files;
      entries = filled_entries (volume_of g) starts ns;
      dirs = dirs_due (volume_of g) starts ns;
      counts = p.counts;
      log = Clean (2 ^ 32 + 2);
      lsns = map no_lsn (lsn_places_in_order (lsn_places (volume_of g) groups files));
    }
