-- What is known of the numbers of files and of what is wanted of their slots, where names were changed.
use Rattle.std.proofs.Common.{◌≡◌, ◌⊎◌, ℕ, true, ◌+◌, ◌<◌, ◌==◌, if◌then◌else◌, List, [], ◌∷◌, map, Option, Some, None}
use Rattle.std.specs.List.{flat_map}
use Rattle.std.specs.Option.{option_map}
use Rattle.xfs_disk.specs.Blocks.{Image}
use Rattle.xfs_disk.specs.Lists.{is_among}
use Rattle.xfs_disk.specs.declared.stamp.Stamp.{Stamp}
use Rattle.xfs_geom.specs.Features.{or_else}
use Rattle.xfs_geom.specs.Volumes.{Volume, volume_of}
use Rattle.xfs_geom.specs.declared.geometry.Geometry.{Geometry}
use Rattle.xfs_image.specs.Slots.{cluster_inodes}
use Rattle.xfs_inodebuild.specs.declared.forks.ForkWanted.{ForkWanted}
use Rattle.xfs_names.specs.declared.records.WantedNames.{WantedNames}
use Rattle.xfs_volume.specs.Names.{type_of}
use Rattle.xfs_volume.specs.declared.files.FileRec.{FileRec}
use Rattle.xfs_views.proofs.Members.{Member}
use Rattle.xfs_render.specs.Slots.{wanted_of}
use Rattle.xfs_render.specs.declared.wanted_slots.SlotBase.TheVariants.{Fresh}
use Rattle.xfs_render.specs.declared.wanted_slots.SlotWanted.{SlotWanted}
use Rattle.xfs_salvage.specs.declared.found.Salvaged.{Salvaged}
use Rattle.xfs_rename.specs.xfs_scan.declared.evidence.Evidence.{Evidence}
use Rattle.xfs_rename.specs.xfs_request.Fresh.{new_root_fork}
use Rattle.xfs_rename.specs.xfs_request.Slots.{attrs_wanted, freed_slot, is_free, state_at}
use Rattle.xfs_rename.specs.xfs_request.declared.seen.SlotSeen.{SlotSeen}
use Rattle.xfs_rename.specs.xfs_rebuild.Names as Names
use Rattle.xfs_rename.specs.xfs_rebuild.declared.names_due.NamesDue.{NamesDue}
use Rattle.xfs_restored.specs.DueFiles.{kept_inodes, new_core}
use Rattle.xfs_rename.specs.xfs_changes.Forks.{attribute_blocks, attribute_blocks_at}
use Rattle.xfs_rename.specs.Lost.{lost_due}
use Rattle.xfs_rename.specs.Renames.{old_files, placed_forks, renamed_slots}
use Rattle.xfs_rename.specs.Settled.{settled, staying_file}
use Rattle.xfs_rename.specs.xfs_changes.Slots.{lost_core}
use Rattle.xfs_rename.specs.xfs_changes.declared.lost_found.Lost.{Lost}
use Rattle.xfs_rename.specs.declared.planning.Renamed.{Renamed}
use Rattle.xfs_naming.specs.Naming.{file_at}
use Rattle.xfs_restored.specs.Changes.{LinksAscend}
use Rattle.xfs_rename.specs.xfs_built.Directories.{BuiltRuns, with_runs}
use Rattle.xfs_restored.specs.RunForks.{fork_of_runs}
use Rattle.xfs_restored.specs.Relinking.{IsRelinked, built_at}
use Rattle.xfs_restored.proofs.PlainSlots.{IsLinked, kept_change}

-- the data fork of a file that is made anew
abbrev pub fresh_fork : Volume → ℕ → Option ForkWanted
fresh_fork v ino = if ino == v.rootino then Some (new_root_fork v) else None

module _ (g : Geometry) (sector : List ℕ) (s : Stamp) (image now : Image) (e : Evidence) (n : NamesDue) (r : Renamed) (has : IsRelinked g sector s image now e n r) where
  abbrev pub v : Volume
  v = volume_of g

  abbrev pub kept : Salvaged
  kept = has.on.kept

  abbrev pub seen : List SlotSeen
  seen = has.on.seen

  abbrev pub l : Lost
  l = lost_due g n

  abbrev pub w : WantedNames
  w = has.is.w

  abbrev pub old : List FileRec
  old = old_files n has.is.w

  abbrev pub built : List BuiltRuns
  built = with_runs has.is.built has.is.placed.cuts has.is.placed.runs

  abbrev pub slots : List SlotWanted
  slots = renamed_slots g s n has.is.w (placed_forks g n has.is.w has.is.built has.is.placed)

  abbrev pub all_inodes : List ℕ
  all_inodes = flat_map (cluster_inodes (volume_of g)) (settled n (lost_due g n) has.is.w).clusters

  -- what is wanted of the slot of a kept file that is to have so many names
  pub record IsKeptWanted (f : FileRec) (k : ℕ) : Type 0 where
    pub nlink : Option ℕ
    pub wanted' : wanted_of slots f.ino ≡ kept_change f.ino (attrs_wanted f (state_at seen f.ino)) (option_map (fork_of_runs v old) (built_at built f.ino)) nlink
    pub named : IsLinked f.core nlink k

  -- a pair is that of a kept file, and that of lost+found where it is made
  abbrev pub IsOfKept : ℕ × ℕ → Type 0
  IsOfKept p = (f : FileRec) × (Member f kept.files) × (f.ino ≡ p.0)

  abbrev pub IsOfLost : ℕ × ℕ → Type 0
  IsOfLost p = (l.made ≡ true) × (p.0 ≡ l.new)

  pub record AreKnown : Type 0 where
    -- the numbers
    pub rise : LinksAscend l 0 w.links
    pub kept_at : (f : FileRec) → Member f kept.files → file_at kept.files f.ino ≡ Some f
    pub kept_inode : (f : FileRec) → Member f kept.files → Member f.ino (kept_inodes v kept)
    pub fresh_inode : (ino : ℕ) → Member ino kept.fresh → Member ino (kept_inodes v kept)
    pub fresh_not_kept : (ino : ℕ) → Member ino kept.fresh → file_at kept.files ino ≡ None
    pub lost_not_kept : l.made ≡ true → file_at kept.files l.new ≡ None
    pub fresh_is_not_lost : (ino : ℕ) → Member ino kept.fresh → l.new ≡ ino → ⊥
    pub file_not_lost : (x : FileRec) → Member x n.files → l.new ≡ x.ino → ⊥
    pub kept_there : (f : FileRec) → Member f kept.files → Member (Names.linked_file g.rootino kept f) n.files
    pub fresh_there : (ino : ℕ) → Member ino kept.fresh → Member (Names.new_file ino (new_core v s ino)) n.files
    pub lost_linked : l.made ≡ true → (k : ℕ) × Member (l.new, k) w.links
    pub pair_cases : (p : ℕ × ℕ) → Member p w.links → IsOfKept p ⊎ (Member p.0 kept.fresh ⊎ IsOfLost p)
    pub inode_cases : (ino : ℕ) → Member ino all_inodes → Member ino (kept_inodes v kept) ⊎ ((cluster : ℕ) × (l.added ≡ cluster ∷ []) × Member ino (cluster_inodes v cluster))
    pub new_inode : (cluster ino : ℕ) → l.added ≡ cluster ∷ [] → Member ino (cluster_inodes v cluster) → (ino ≡ l.new) ⊎ ((j : ℕ) × (j < 31) × (ino ≡ l.new + 1 + j))
    -- the files as they were
    pub old_are : old ≡ map (staying_file w.rebuilt) (Names.linked_files g.rootino kept)
    pub own_attributes : (f : FileRec) → Member f kept.files → attribute_blocks_at old f.ino ≡ attribute_blocks f
    pub no_attributes : (ino : ℕ) → file_at kept.files ino ≡ None → attribute_blocks_at old ino ≡ 0
    -- the directories that are built
    pub built_is : (ino : ℕ) (d : BuiltRuns) → built_at built ino ≡ Some d → (Member d built) × (d.directory.ino ≡ ino) × (is_among w.rebuilt ino ≡ true)
    pub built_has : (ino : ℕ) → is_among w.rebuilt ino ≡ true → (d : BuiltRuns) × (built_at built ino ≡ Some d)
    pub kept_built_directory : (f : FileRec) (d : BuiltRuns) → Member f kept.files → built_at built f.ino ≡ Some d → type_of f ≡ 4
    pub system_not_built : (ino : ℕ) → Member ino kept.fresh → (ino ≡ g.rootino → ⊥) → built_at built ino ≡ None
    pub lost_built : l.made ≡ true → (d : BuiltRuns) × (built_at built l.new ≡ Some d)
    -- what is wanted
    pub kept_wanted : (f : FileRec) (k : ℕ) → Member f kept.files → Member (f.ino, k) w.links → IsKeptWanted f k
    pub fresh_wanted : (ino k : ℕ) → Member ino kept.fresh → Member (ino, k) w.links
        → wanted_of slots ino
        ≡ Some (record {
          ino = ino;
          base = Fresh (new_core v s ino);
          drop_attrs = None;
          fork = or_else (option_map (fork_of_runs v old) (built_at built ino)) (fresh_fork v ino);
          nlink = Some k;
        })
    pub lost_wanted : (k : ℕ) → l.made ≡ true → Member (l.new, k) w.links
        → wanted_of slots l.new
        ≡ Some (record { ino = l.new; base = Fresh (lost_core v s l.new); drop_attrs = None; fork = option_map (fork_of_runs v old) (built_at built l.new); nlink = Some k })
    pub free_wanted : (ino : ℕ) → Member ino (kept_inodes v kept) → ((k : ℕ) → Member (ino, k) w.links → ⊥) → wanted_of slots ino ≡ (if is_free (state_at seen ino) then None else Some (freed_slot ino))
    pub behind_wanted : (cluster j : ℕ) → l.added ≡ cluster ∷ [] → j < 31 → wanted_of slots (l.new + 1 + j) ≡ Some (freed_slot (l.new + 1 + j))
