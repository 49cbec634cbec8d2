-- A volume by the numbers of its geometry.
use Rattle.std.specs.Prelude.{ℕ, List}
use Rattle.xfs_word.specs.Field.{part_of}
use Rattle.xfs_geom.specs.Stated.{stated, stated_log}
use Rattle.xfs_geom.specs.declared.geometry.Geometry.{Geometry}

-- the numbers of a geometry; log is a block number
pub record Volume : Type 0 where
  pub dblocks : ℕ
  pub agblocks : ℕ
  pub agcount : ℕ
  pub agblklog : ℕ
  pub log : ℕ
  pub logblocks : ℕ
  pub rootino : ℕ
  pub logsectlog : ℕ
  pub uuid : List ℕ

-- the volume of a geometry
abbrev pub volume_of : Geometry → Volume
volume_of g = record {
  dblocks = g.dblocks;
  agblocks = g.agblocks;
  agcount = g.agcount;
  agblklog = g.agblklog;
  log = g.log;
  logblocks = g.logblocks;
  rootino = g.rootino;
  logsectlog = g.logsectlog;
  uuid = g.uuid;
}

-- the volume that a superblock states (chapter "Superblocks")
abbrev pub stated_volume : List ℕ → Volume
stated_volume sector = record {
  dblocks = (stated sector).dblocks;
  agblocks = (stated sector).agblocks;
  agcount = (stated sector).agcount;
  agblklog = (stated sector).agblklog;
  log = stated_log (stated sector);
  logblocks = (stated sector).logblocks;
  rootino = (stated sector).rootino;
  logsectlog = (stated sector).logsectlog;
  uuid = part_of sector 32 16;
}
