-- What is asked of a volume, by what a rebuild goes by, and what is planned for it.
use Rattle.std.specs.Prelude.{◌≡◌, ℕ, List}
use Rattle.xfs_disk.specs.Blocks.{Image}
use Rattle.xfs_disk.specs.declared.stamp.Stamp.{Stamp}
use Rattle.xfs_geom.specs.declared.geometry.Geometry.{Geometry}
use Rattle.xfs_log.specs.xfs_heads.declared.log_state.LogState.{LogState}
use Rattle.xfs_render.specs.declared.bytes.Bytes.{Bytes}
use Rattle.xfs_request.specs.Requests.{cleared_count, kept_count}
use Rattle.xfs_request.specs.declared.asking.Request.{Request}
use Rattle.xfs_rebuild.specs.Bytes.{AreAtHand, AreReadOf}
use Rattle.xfs_rebuild.specs.Rebuilds.{Ground, IsPlannedFor, asked, slots_asked}
use Rattle.xfs_rebuild.specs.declared.planning.Rebuilt.{Rebuilt}

-- it is what is asked by what a rebuild goes by
pub record IsRequestOf (g : Geometry) (s : Stamp) (on : Ground) (r : Request) : Type 0 where
  pub wanted' : r.wanted ≡ asked g on
  pub slots' : r.slots ≡ slots_asked g s on
  pub count : r.kept ≡ kept_count on.kept
  pub freed : r.cleared ≡ cleared_count (slots_asked g s on)

-- what is planned for a request, of bytes that were at hand and that were read
pub record IsMadeOf (g : Geometry) (sector : List ℕ) (s : Stamp) (image : Image) (clusters : List ℕ) (q : Request) (lsns : List ℕ) (log : LogState) (r : Rebuilt) : Type 0 where
  pub bytes : Bytes
  pub hand : AreAtHand g sector s clusters q.slots bytes
  pub read : AreReadOf image lsns log bytes
  pub planned : IsPlannedFor q.wanted bytes image r
  pub count : r.kept ≡ q.kept
  pub freed : r.cleared ≡ q.cleared
