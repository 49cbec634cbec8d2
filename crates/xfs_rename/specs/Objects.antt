-- What is asked of a volume in which directories are built anew.
use Rattle.std.specs.Prelude.{ℕ, true, List, ◌++◌, map}
use Rattle.xfs_geom.specs.Volumes.{volume_of}
use Rattle.xfs_geom.specs.declared.geometry.Geometry.{Geometry}
use Rattle.xfs_geom.specs.declared.records.Run.{Run}
use Rattle.xfs_names.specs.declared.records.WantedNames.{WantedNames}
use Rattle.xfs_place.specs.declared.wanted.Object.{Object}
use Rattle.xfs_place.specs.declared.wanted.Wanted.{Wanted}
use Rattle.xfs_rebuild.specs.xfs_request.Chunks.{inodes_wanted}
use Rattle.xfs_salvage.specs.Kept.{run_of_cluster, taken_of}
use Rattle.xfs_salvage.specs.declared.found.Salvaged.{Salvaged}
use Rattle.xfs_rebuild.specs.declared.names_due.NamesDue.{NamesDue}
use Rattle.xfs_changes.specs.xfs_built.Asks.{objects_of}
use Rattle.xfs_changes.specs.Replaced.{replaced_blocks}
use Rattle.xfs_rename.specs.Settled.{settled, staying_files, with_numbers}
use Rattle.xfs_rename.specs.declared.settling.Settling.{Settling}
use Rattle.xfs_changes.specs.declared.lost_found.Lost.{Lost}

-- what is asked of the volume
unfoldable pub wanted_with : Geometry → NamesDue → Lost → WantedNames → List Object → Wanted
wanted_with g n l w objects = record {
  geometry = g;
  taken = taken_of (volume_of g) n.clusters (staying_files w.rebuilt n.fresh n.files);
  new = map run_of_cluster l.added;
  reserved = n.wanted.reserved ++ replaced_blocks (volume_of g) w.rebuilt n.files;
  from = 0;
  spared_from = l.spared;
  takes_spared = true;
  objects = objects;
  inodes = inodes_wanted (volume_of g) (settled n l w);
}

-- what is kept, with new clusters
abbrev pub with_added : List ℕ → Salvaged → Salvaged
with_added added kept = record kept { clusters = with_numbers added kept.clusters }

-- what is asked, by the runs that were taken, the blocks that are reserved and what is kept
abbrev pub asked_with : Geometry → Settling → List Run → List ℕ → Salvaged → Wanted
asked_with g t taken reserved kept = record {
  geometry = g;
  taken = taken;
  new = map run_of_cluster t.lost.added;
  reserved = reserved;
  from = 0;
  spared_from = t.lost.spared;
  takes_spared = true;
  objects = objects_of t.rooms t.built;
  inodes = inodes_wanted (volume_of g) kept;
}
