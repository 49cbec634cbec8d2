-- What a disk holds once the plan of a volume was written is that volume.
use Rattle.std.proofs.Common.{◌≡◌, ℕ, ◌<◌, ◌≤◌, List, length, Option, Some, sym, subst, arith}
use Rattle.std.specs.List.{All}
use Rattle.xfs_disk.specs.Blocks.{Image, IsImage}
use Rattle.xfs_disk.specs.declared.stamp.Stamp.{Stamp}
use Rattle.xfs_geom.specs.Volumes.{volume_of}
use Rattle.xfs_geom.specs.declared.geometry.Geometry.{Geometry}
use Rattle.xfs_render.specs.Plans.{HoldsPlan, IsOnce, planned}
use Rattle.xfs_render.specs.declared.plan.Plan.{Plan}
use Rattle.xfs_empty.specs.Geometry.{HasFirstChunk}
use Rattle.xfs_populated.proofs.xfs_made.Made.{volume_made}
use Rattle.xfs_populated.proofs.xfs_made.Once.{planned_once}
use Rattle.xfs_populated.proofs.VolumesFilled.{volume_filled}
use Rattle.xfs_writing.specs.Writing.{written}
use Rattle.xfs_mkfs.proofs.FilledOnce.{filled_once}
use Rattle.xfs_mkfs.proofs.Held.{plan_held}
use Rattle.xfs_mkfs.specs.FilesAsked.{CanBePlanned}
use Rattle.xfs_mkfs.specs.Order.{all_writes}
use Rattle.xfs_mkfs.specs.Outcome.{HasRoomFor, IsPlanWith, SaysVolume}
use Rattle.xfs_mkfs.specs.Putting.{IsPut}
use Rattle.xfs_mkfs.specs.declared.files.FilesAsked.{FilesAsked}
use Rattle.xfs_mkfs.specs.declared.files.FilesAsked.TheVariants.{Root, Listed}

-- what the disk holds has the plan, where no block is planned twice
put_holds : (plan : Plan) (blocks most : ℕ) (image held : Image) (now : Option Image) → IsOnce (planned plan) → IsImage blocks image → most ≤ blocks → All (λ place. place < most) (planned plan)
    → IsPut plan image now → now ≡ Some held → HoldsPlan held plan
put_holds plan blocks most image held now once whole enough inside put told =
    let due : Image = written (all_writes plan put.rows) image in
    let same : held ≡ due = some_same held due now told put.held in
    let low : All (λ place. place < length image) (planned plan) = λ k d within.
    let below = inside k d within in
    let count = whole.count in
    omega (arith, below, enough, count) in
    subst (λ (i : Image). HoldsPlan i plan) (sym same) (plan_held plan put.rows image put.order once low)
  where
    some_same : (a b : Image) (o : Option Image) → o ≡ Some a → o ≡ Some b → a ≡ b
    some_same a b o one other = cc

pub put_is_volume : (g : Geometry) (sector : List ℕ) (s : Stamp) (asked : FilesAsked) (plan : Plan) (blocks : ℕ) (image : Image) (now : Option Image)
    → IsPlanWith g sector s asked plan → CanBePlanned asked → HasRoomFor g asked → HasFirstChunk (volume_of g) → IsImage blocks image → g.dblocks ≤ blocks
    → All (λ place. place < g.dblocks) (planned plan) → IsPut plan image now → ((held : Image) → now ≡ Some held → IsImage blocks held) → SaysVolume g s asked now
put_is_volume g sector s (Listed nodes contents) plan blocks image now is can room first whole enough inside put whole_now = λ held told.
    volume_filled g sector s nodes contents plan blocks held
    (record {
      filled = is;
      files = can.0;
      bytes = can.1;
      first = first;
      room = room;
      sized = whole_now held told;
      enough = enough;
      holds = put_holds plan blocks g.dblocks image held now (filled_once g sector s nodes contents plan is first) whole enough inside put told;
    })
put_is_volume g sector s Root plan blocks image now is can room first whole enough inside put whole_now = λ held told.
    volume_made g sector s plan blocks held is first (whole_now held told) enough
    (put_holds plan blocks g.dblocks image held now (planned_once g sector s plan is first) whole enough inside put told)
