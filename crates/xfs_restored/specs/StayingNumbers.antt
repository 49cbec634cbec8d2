-- Which log sequence numbers of slots stay where names were changed.
use Rattle.std.specs.Prelude.{◌≡◌, ◌⊎◌, ℕ, true, not, ◌||◌, ◌&&◌, List, Option, Some, None}
use Rattle.std.specs.List.{All, Contains, flat_map}
use Rattle.xfs_disk.specs.Blocks.{Image}
use Rattle.xfs_disk.specs.Lists.{is_among}
use Rattle.xfs_geom.specs.Volumes.{Volume}
use Rattle.xfs_image.specs.Claims.{candidate_inodes}
use Rattle.xfs_image.specs.Slots.{cluster_inodes}
use Rattle.xfs_naming.specs.Naming.{is_in_use}
use Rattle.xfs_volume.specs.Names.{type_of}
use Rattle.xfs_volume.specs.declared.files.FileRec.{FileRec}
use Rattle.xfs_views.specs.SameFiles.{HasSameClaims}
use Rattle.xfs_render.specs.Slots.{wanted_of}
use Rattle.xfs_rename.specs.xfs_built.Bases.{StartsAtZero}
use Rattle.xfs_render.specs.declared.wanted_slots.SlotBase.TheVariants as Base
use Rattle.xfs_render.specs.declared.wanted_slots.SlotWanted.{SlotWanted}
use Rattle.xfs_salvage.specs.declared.found.Salvaged.{Salvaged}
use Rattle.xfs_rename.specs.xfs_request.Slots.{is_free}
use Rattle.xfs_restored.specs.Kept.{slot_seen}

abbrev pub IsMadeAnew : Option SlotWanted → Type 0
IsMadeAnew None = ⊥
IsMadeAnew (Some w) = StartsAtZero w.base

-- one that is kept has its number still
abbrev pub StaysKept : Option SlotWanted → Type 0
StaysKept None = Unit {0}
StaysKept (Some w) = w.base ≡ Base.Kept

-- the slot of an inode stays: it was known, and is that of a file that there was before, or free
pub record IsStayingSlot (v : Volume) (image : Image) (after : Salvaged) (slots : List SlotWanted) (ino : ℕ) : Type 0 where
  pub base : StaysKept (wanted_of slots ino)
  pub candidate : Contains (candidate_inodes v image) ino
  pub stays : (is_in_use after.files ino || (is_free (slot_seen v image ino).state && not (is_among after.fresh ino))) ≡ true

-- each slot of the clusters is made anew or stays; the blocks of the files that were there before stay, but for those of data that is built
-- anew
pub record AreStaying (v : Volume) (image now : Image) (after : Salvaged) (slots : List SlotWanted) : Type 0 where
  pub slots' : (ino : ℕ) → Contains (flat_map (cluster_inodes v) after.clusters) ino → IsMadeAnew (wanted_of slots ino) ⊎ IsStayingSlot v image after slots ino
  pub claims : All (HasSameClaims v image now) after.files

-- files that are built anew are directories
abbrev pub AreDirectories : List ℕ → List FileRec → Type 0
AreDirectories rebuilt files = All (λ (f : FileRec). is_among rebuilt f.ino ≡ true → type_of f ≡ 4) files
