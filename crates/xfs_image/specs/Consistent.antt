-- When an image is consistent, and what is found first where it is not.
use Rattle.std.specs.Prelude.{◌≡◌, ◌≤◌, ◌<◌, ℕ, Bool, true, false, not, ◌-◌, ◌==◌, ◌&&◌, if◌then◌else◌, Option, Some, None, Result, Ok, Err}
use Rattle.std.specs.List.{find, range_with_len}
use Rattle.xfs_disk.specs.Blocks.{Image}
use Rattle.xfs_geom.specs.Election.{Vote, choice, elected, same_volume}
use Rattle.xfs_geom.specs.Superblocks.{is_agreeing}
use Rattle.xfs_geom.specs.Volumes.{Volume, volume_of}
use Rattle.xfs_geom.specs.declared.election.ElectFault.{ElectFault}
use Rattle.xfs_geom.specs.declared.geometry.Geometry.{Geometry}
use Rattle.xfs_volume.specs.declared.catalogs.Catalog.{Catalog}
use Rattle.xfs_volume.specs.declared.findings.Law.{Law}
use Rattle.xfs_image.specs.declared.findings.Finding.{Finding}
use Rattle.xfs_image.specs.declared.findings.Finding.TheVariants as Found
use Rattle.xfs_image.specs.Groups.{head_block}
use Rattle.xfs_log.specs.Sectors.{sector_in}
use Rattle.xfs_image.specs.View.{view}

-- what is elected is the primary superblock, and it states this volume
abbrev pub is_primary : Volume → Result Vote ElectFault → Bool
is_primary v (Ok vote) = vote.place == 0 && same_volume (choice vote) v
is_primary v (Err fault) = false

-- the volume is elected from block 0
unfoldable pub is_from_primary : Volume → Image → Bool
is_from_primary v image = is_primary v (elected image)

-- the backup superblock of a group, its first sector, agrees with the volume
abbrev pub backup_agrees : Volume → Image → ℕ → Bool
backup_agrees v image ag = is_agreeing v (sector_in image (head_block v ag) 0)

abbrev pub backup_differs : Volume → Image → ℕ → Bool
backup_differs v image ag = not (backup_agrees v image ag)

-- the least group whose backup does not agree
unfoldable pub backup_fault : Volume → Image → Option ℕ
backup_fault v image = find (backup_differs v image) (range_with_len 1 (v.agcount - 1))

abbrev pub backup_found : Option ℕ → Option Finding
backup_found None = None
backup_found (Some ag) = Some (Found.Part 10 ag)

-- a broken law, or else what is found later
abbrev pub law_found : Option Law → Option Finding → Option Finding
law_found None later = later
law_found (Some law) later = Some (Found.Law law)

-- the laws are handed in, as the first that a catalog breaks
module _ (broken : Catalog → Option Law) where
  -- what is found of a view: the part that does not read, or the first broken law, or what is found later
  abbrev pub view_found : Result Catalog Finding → Option Finding → Option Finding
  view_found (Err found) later = Some found
  view_found (Ok c) later = law_found (broken c) later

  -- the first thing that is wrong with an image, given the geometry that is elected: it comes from block 0; the parts of the
  -- groups, then the slots; the laws; the backups
  unfoldable pub finding : Geometry → Image → Option Finding
  finding g image =
      if is_from_primary (volume_of g) image
      then view_found (view g image) (backup_found (backup_fault (volume_of g) image))
      else Some (Found.Part 0 0)

-- a superblock is elected, the primary or a backup, and it states this volume
pub record IsElected (v : Volume) (image : Image) : Type 0 where
  pub vote : Vote
  pub due : elected image ≡ Ok vote
  pub states : same_volume (choice vote) v ≡ true

-- an image is consistent: its geometry is elected from block 0, all its parts read, no law is broken, and all backups agree
pub record IsConsistent (broken : Catalog → Option Law) (g : Geometry) (image : Image) : Type 0 where
  pub elected : IsElected (volume_of g) image
  pub first : elected.vote.place ≡ 0
  pub catalog : Catalog
  pub reads : view g image ≡ Ok catalog
  pub lawful : broken catalog ≡ None
  pub backups : (ag : ℕ) → 1 ≤ ag → ag < g.agcount → backup_agrees (volume_of g) image ag ≡ true

-- an image is consistent, or something is found in it first: both by the geometry that it elects
abbrev pub IsConsistentImage : (Catalog → Option Law) → Image → Type 0
IsConsistentImage broken image = (g : Geometry) × IsConsistent broken g image

pub record HasFinding (broken : Catalog → Option Law) (image : Image) (found : Finding) : Type 0 where
  pub geometry : Geometry
  pub elected : IsElected (volume_of geometry) image
  pub is : finding broken geometry image ≡ Some found

-- nothing is wrong with an image but backups: this group's is the first that does not agree
pub record HasBackupFault (broken : Catalog → Option Law) (g : Geometry) (image : Image) (ag : ℕ) : Type 0 where
  pub elected : IsElected (volume_of g) image
  pub first : elected.vote.place ≡ 0
  pub catalog : Catalog
  pub reads : view g image ≡ Ok catalog
  pub lawful : broken catalog ≡ None
  pub some : 1 ≤ ag
  pub few : ag < g.agcount
  pub differs : backup_agrees (volume_of g) image ag ≡ false
  pub least : (before : ℕ) → 1 ≤ before → before < ag → backup_agrees (volume_of g) image before ≡ true

-- the part is one of a group of the volume, or a slot
abbrev pub IsPartOf : Volume → Finding → Type 0
IsPartOf v (Found.Part part place) = (1 ≤ part) × (part ≤ 9) × (part ≤ 8 → place < v.agcount)
IsPartOf v (Found.Law law) = ⊥
