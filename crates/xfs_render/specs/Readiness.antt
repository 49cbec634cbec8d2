-- What is asked of a request, and of the bytes beside it, so that what is placed for it can be written.
use Rattle.std.specs.Prelude.{◌≡◌, ℕ, ◌-◌, ◌^◌, ◌≤◌, ◌<◌, true, false, IsTrue, length, None, MatchOption}
use Rattle.std.specs.List.{All}
use Rattle.std.specs.List.Sorted.{IsNonDecreasingBy}
use Rattle.xfs_geom.specs.Volumes.{stated_volume}
use Rattle.xfs_geom.specs.Writing.{IsAcceptedSector}
use Rattle.xfs_geom.specs.declared.records.Run.{Run}
use Rattle.xfs_kinds.specs.InodeTrees.{ino_shape}
use Rattle.xfs_place.specs.Objects.{IsAsk, asks_of}
use Rattle.xfs_place.specs.Pool.{is_taken}
use Rattle.xfs_place.specs.Wanted.{kept_runs}
use Rattle.xfs_place.specs.declared.wanted.Object.{Object}
use Rattle.xfs_place.specs.declared.wanted.RunAsk.{RunAsk}
use Rattle.xfs_place.specs.declared.wanted.Wanted.{Wanted}
use Rattle.xfs_tree.specs.Rules.{are_lawful, is_of_root_cluster}
use Rattle.xfs_render.specs.Clusters.{CanCluster}
use Rattle.xfs_render.specs.Objects.{written_blocks}
use Rattle.xfs_render.specs.Rendering.{wanted_inodes, is_head, old_at, byte_place, volume}
use Rattle.xfs_render.specs.declared.bytes.Bytes.{Bytes}
use Rattle.xfs_render.specs.declared.wanted_slots.SlotWanted.{SlotWanted}

-- a run has an owner, which is not all ones; both its words have 64 bits (chapter "Reverse-Mapping B+tree")
pub record HasOwner (r : Run) : Type 0 where
  pub owner : r.owner < 2 ^ 64 - 1
  pub offset : r.offset_word < 2 ^ 64

-- a run that is asked for has an owner too
pub record HasAsker (ask : RunAsk) : Type 0 where
  pub owner : ask.owner < 2 ^ 64 - 1
  pub offset : ask.offset_word < 2 ^ 64

-- the runs of objects can be asked for, the records of inodes of each group are lawful in their order, what is kept has owners, and no new
-- block can stand on the root's cluster: each of its blocks is kept or of a new chunk
pub record IsWritable (w : Wanted) : Type 0 where
  pub asks : All (λ (o : Object). All IsAsk o.runs) w.objects
  pub askers : All (λ (o : Object). All HasAsker o.runs) w.objects
  pub inodes : length w.inodes ≡ w.geometry.agcount
  pub chunks : (ag : ℕ) → ag < w.geometry.agcount → IsTrue (are_lawful (ino_shape ag) (volume w) None (wanted_inodes w ag))
  pub owned : All HasOwner (kept_runs w)
  pub root : (block : ℕ) → is_of_root_cluster (volume w) block ≡ true → is_taken (kept_runs w) block ≡ true

-- the superblock is accepted and states the volume, the blocks that are written of objects were built, the bytes of each place are at hand,
-- what is wanted of slots can be made of them, and the cycle of a blank log is one
pub record HasBytes (w : Wanted) (b : Bytes) : Type 0 where
  pub accepted : IsAcceptedSector b.sector
  pub states : stated_volume b.sector ≡ volume w
  pub objects : length b.objects ≡ written_blocks (asks_of w.objects)
  pub old : length b.old ≡ length b.places
  pub inside : All (λ place. place < w.geometry.dblocks) b.places
  pub order : IsNonDecreasingBy (λ (s : SlotWanted). s.ino) b.slots
  pub slots : (i : ℕ) → i < length b.places → is_head (volume w) (byte_place b i) ≡ false → CanCluster (volume w) b.slots (byte_place b i) (old_at b i)
  pub cycle : MatchOption b.cycle (Unit {0}) (λ cycle. (1 ≤ cycle) × (cycle < 2 ^ 31))
