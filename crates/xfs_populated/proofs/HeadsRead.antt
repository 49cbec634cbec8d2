-- The headers, the counts and the log of a new volume with files.
use Rattle.std.proofs.Common.{◌≡◌, ℕ, ◌+◌, ◌^◌, ◌≤◌, ◌<◌, true, List, Ok, refl}
use Rattle.xfs_disk.specs.Blocks.{Image}
use Rattle.xfs_disk.specs.declared.stamp.Stamp.{Stamp}
use Rattle.xfs_geom.specs.Volumes.{Volume, volume_of}
use Rattle.xfs_geom.specs.declared.geometry.Geometry.{Geometry}
use Rattle.xfs_log.specs.xfs_heads.declared.log_state.LogState.TheVariants.{Clean}
use Rattle.xfs_image.specs.Consistent.{IsElected, backup_agrees}
use Rattle.xfs_image.specs.Groups.{groups_read}
use Rattle.xfs_image.specs.View.{counts_of, log_of}
use Rattle.xfs_place.specs.declared.placed.Placed.{Placed}
use Rattle.xfs_place.specs.declared.wanted.Wanted.{Wanted}
use Rattle.xfs_proto.specs.declared.protofile.ProtoNode.{ProtoNode}
use Rattle.xfs_render.specs.declared.bytes.Bytes.{Bytes}
use Rattle.xfs_render.specs.declared.plan.Plan.{Plan}
use Rattle.xfs_made.proofs.Groups.{groups_stand, log_stands}
use Rattle.xfs_made.proofs.Supers.{backups_agree, counts_stand, primary_stands}
use Rattle.xfs_made.specs.Standing.{IsStanding, agf_crc_at, agi_crc_at}
use Rattle.xfs_filled.specs.Wanting.{filled_bytes, filled_wanted}
use Rattle.xfs_populated.specs.Populated.{IsPopulated, filled_groups}
use Rattle.xfs_populated.proofs.SlotStanding.{populated_stands}

module _ (g : Geometry) (sector : List ℕ) (s : Stamp) (ns : List ProtoNode) (contents : List (List ℕ)) (plan : Plan) (blocks : ℕ) (image : Image)
    (is : IsPopulated g sector s ns contents plan blocks image) where
  abbrev v : Volume
  v = volume_of g

  abbrev w : Wanted
  w = filled_wanted g ns contents

  abbrev p : Placed
  p = is.filled.placed

  abbrev b : Bytes
  b = filled_bytes g sector s ns contents p.runs

  abbrev super : List ℕ
  super = is.filled.rendered.super

  stands : IsStanding w p b super image
  stands = populated_stands g sector s ns contents plan blocks image is

  pub groups_are : groups_read (volume_of g) image ≡ Ok (filled_groups g ns is.filled.placed (agf_crc_at (volume_of g) image) (agi_crc_at (volume_of g) image))
  groups_are = groups_stand w p b super image stands

  pub super_is : (elects : IsElected (volume_of g) image) × (elects.vote.place ≡ 0)
  super_is = primary_stands w p b super image stands

  pub backups_are : (ag : ℕ) → 1 ≤ ag → ag < g.agcount → backup_agrees (volume_of g) image ag ≡ true
  backups_are = backups_agree w p b super image stands

  pub counts_are : counts_of image ≡ is.filled.placed.counts
  counts_are = counts_stand w p b super image stands

  pub log_is : log_of (volume_of g) image ≡ Clean (2 ^ 32 + 2)
  log_is = log_stands w p b super image 1 stands refl
