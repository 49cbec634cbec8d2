-- The root of the inode records of the first group lies in the volume.
use Rattle.std.proofs.Common.{◌≡◌, ℕ, ◌+◌, ◌*◌, ◌≤◌, ◌<◌, ◌==◌, ◌&&◌, nat_le, nat_lt, Bool, true, false, if◌then◌else◌, List, [], ◌∷◌, length, Option, Some, None, Ok, refl, ap, subst, ◌∙◌, arith}
use Rattle.std.specs.Option.{ForSome}
use Rattle.std.proofs.lemmas.Bool.{eqb-true, leb-true, ltb-true}
use Rattle.xfs_word.specs.Field.{field_of, part_of}
use Rattle.xfs_word.specs.Seal.{is_sealed}
use Rattle.xfs_word.specs.declared.kinds.SealKind.TheVariants as Kind
use Rattle.xfs_disk.specs.Blocks.{Image, bytes_of_block}
use Rattle.xfs_disk.specs.Files.{Files}
use Rattle.xfs_disk.specs.declared.stamp.Stamp.{Stamp}
use Rattle.xfs_geom.proofs.Votes.{left, right}
use Rattle.xfs_geom.specs.Conversions.{group_length}
use Rattle.xfs_geom.specs.Volumes.{Volume, volume_of}
use Rattle.xfs_geom.specs.declared.geometry.Geometry.{Geometry}
use Rattle.xfs_heads.specs.Heads.{head_seal, is_level, is_root_block}
use Rattle.xfs_heads.specs.Inodes.{agi_of, is_agi_shaped, stated_agi}
use Rattle.xfs_log.specs.Sectors.{sector_in}
use Rattle.xfs_heads.specs.declared.inodes.Agi.{Agi}
use Rattle.xfs_volume.specs.declared.catalogs.Catalog.{Catalog}
use Rattle.xfs_volume.specs.declared.groups.GroupRec.{GroupRec}
use Rattle.xfs_image.specs.GroupParts.{AreGroupsRead}
use Rattle.xfs_image.specs.Groups.{agi_at}
use Rattle.xfs_image.specs.View.{view}
use Rattle.xfs_image.proofs.GroupReads.{all_have_parts}
use Rattle.xfs_image.proofs.Views.{view_of}
use Rattle.xfs_space.proofs.RecordedMaps.{group_inside}
use Rattle.xfs_populated.proofs.xfs_made.Numbers.{number_in_part}
use Rattle.xfs_options.specs.declared.make_words.MakeOptions.{MakeOptions}
use Rattle.xfs_empty.specs.Sizes.{too_small}
use Rattle.xfs_mkfs.specs.Due.{asked_of, by_size, refusal}
use Rattle.xfs_mkfs.specs.Outcome.{IsDueMake, IsMade, SaysVolume}
use Rattle.xfs_mkfs.specs.Roots.{HasInodeRoot, inode_root}
use Rattle.xfs_mkfs.specs.declared.files.FilesAsked.{FilesAsked}
use Rattle.xfs_mkfs.specs.declared.files.FilesAsked.TheVariants.{Root, Listed}
use Rattle.xfs_mkfs.specs.declared.outcome.MadeSummary.{MadeSummary}
use Rattle.xfs_mkfs.specs.declared.outcome.MakeOutcome.{MakeOutcome}
use Rattle.xfs_mkfs.specs.declared.outcome.MakeOutcome.TheVariants.{Made}
use Rattle.xfs_mkfs.proofs.Geometries.{geometry_on_disk}

-- the header of the first group reads, where all do
first_header : (v : Volume) (image : Image) (gs : List GroupRec) → AreGroupsRead v image 0 gs → 1 ≤ length gs → (agi : Agi) × (agi_at v image 0 ≡ Some agi)
first_header v image [] read some = absurd (omega (arith, some))
first_header v image (g ∷ gs) read some = (g.agi, read.0.agi)

-- what reads has its shape
shaped : (sealed fits : Bool) (held agi : Agi) → (if sealed && fits then Some held else None) ≡ Some agi → fits ≡ true
shaped true true held agi is = refl
shaped true false held agi is = absurd cc
shaped false fits held agi is = absurd cc

header_shaped : (v : Volume) (sector : List ℕ) (agi : Agi) → agi_of v 0 sector ≡ Some agi → is_agi_shaped v 0 (stated_agi sector) ≡ true
unfolding agi_of
header_shaped v sector agi is = shaped (is_sealed (head_seal Kind.Agi v 0) sector) (is_agi_shaped v 0 (stated_agi sector)) (stated_agi sector) agi is

-- its root is a block of the group, behind the first
pub record IsRootOf (root blocks : ℕ) : Type 0 where
  pub behind : 1 ≤ root
  pub inside : root < blocks

shaped_root : (v : Volume) (agi : Agi) → is_agi_shaped v 0 agi ≡ true → IsRootOf agi.root (group_length v 0)
shaped_root v agi is =
    let five = left _ (is_root_block agi.free_root agi.length) is in
    let root : is_root_block agi.root agi.length ≡ true = right _ (is_root_block agi.root agi.length) five in
    let four = left _ (is_root_block agi.root agi.length) five in
    let two = left _ (is_level agi.level) (left _ (is_level agi.free_level) four) in
    let whole : agi.length ≡ group_length v 0 = eqb-true agi.length (group_length v 0) (right (agi.versionnum == 1) (agi.length == group_length v 0) two) in
    record {
      behind = leb-true 1 agi.root (left (nat_le 1 agi.root) (nat_lt agi.root agi.length) root);
      inside = subst (λ (n : ℕ). agi.root < n) whole (ltb-true agi.root agi.length (right (nat_le 1 agi.root) (nat_lt agi.root agi.length) root));
    }

-- the bytes of its sector are those of block 0
root_there : (v : Volume) (image : Image) → (stated_agi (sector_in image (0 * v.agblocks) 2)).root ≡ inode_root image
root_there v image =
    let none : 0 * v.agblocks ≡ 0 = omega arith in
    ap (λ (b : ℕ). field_of (part_of (bytes_of_block image b) 1024 512) 20 4) none ∙ number_in_part (bytes_of_block image 0) 1024 512 20 4 (omega arith)

pub view_root : (g : Geometry) (image : Image) (c : Catalog) → view g image ≡ Ok c → HasInodeRoot g.dblocks image
view_root g image c reads =
    let v : Volume = volume_of g in
    let read = view_of g image c reads in
    let all = all_have_parts v image read.groups read.groups_read in
    let two = g.shape.groups.two in
    let header = first_header v image read.groups all.0 (omega (arith, all.1, two)) in
    let sector : List ℕ = sector_in image (0 * g.agblocks) 2 in
    let root : IsRootOf (stated_agi sector).root (group_length v 0) = shaped_root v (stated_agi sector) (header_shaped v sector header.0 header.1) in
    let short : 0 * g.agblocks + group_length v 0 ≤ g.dblocks = group_inside v 0 (omega (arith, two)) g.shape.groups.last in
    let same : (stated_agi sector).root ≡ inode_root image = root_there v image in
    record { behind = omega (arith, root.behind, same); inside = omega (arith, root.inside, same, short) }

-- so has each volume that was made
pub volume_root : (g : Geometry) (s : Stamp) (asked : FilesAsked) (now : Option Image) → SaysVolume g s asked now → ForSome now (HasInodeRoot g.dblocks)
volume_root g s Root now says = λ held told. view_root g held _ (says held told).says
volume_root g s (Listed nodes contents) now says = λ held told. view_root g held _ (says held told).says

-- nothing is refused for its size where nothing is refused
fits_by : (size : Option ℕ) (later : Option MakeOutcome) → by_size size later ≡ None → size ≡ None
fits_by (Some what) later is = absurd cc
fits_by None later is = refl

fits_where : (o : MakeOptions) (blocks : ℕ) (image : Image) → refusal o blocks image ≡ None → too_small (asked_of o) blocks ≡ None
unfolding refusal
fits_where o blocks image none = fits_by (too_small (asked_of o) blocks) _ none

pub made_root : (o : MakeOptions) (s : Stamp) (told : Option Files) (blocks : ℕ) (image : Image) (now : Option Image) (summary : MadeSummary)
    → IsDueMake o s told blocks image (Made summary) → IsMade o s told blocks image now summary → ForSome now (HasInodeRoot blocks)
made_root o s told blocks image now summary due made = λ held tells.
    let root = volume_root made.geometry s made.asked now made.volume held tells in
    let small = geometry_on_disk o s blocks made.geometry made.volume_asked.chosen (fits_where o blocks image due.0) in
    record { behind = root.behind; inside = omega (arith, root.inside, small) }
