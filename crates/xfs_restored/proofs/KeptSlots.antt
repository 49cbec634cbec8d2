-- The slot of a directory that is kept and built anew reads as it.
use Rattle.std.proofs.Common.{◌≡◌, ℕ, Bool, true, false, not, ◌+◌, ◌-◌, ◌*◌, ◌^◌, ◌≤◌, ◌<◌, ◌==◌, ◌&&◌, nat_le, if◌then◌else◌, List, [], length, map, Option, Some, None, MatchOption, refl, sym, ap, ap₂, ◌∙◌, subst, arith}
use Rattle.std.specs.List.{AllByRecursion}
use Rattle.std.specs.Option.{option_map}
use Rattle.std.proofs.lemmas.Bool.{and_left, and_right}
use Rattle.xfs_disk.specs.Blocks.{Image, bytes_of_block}
use Rattle.xfs_word.specs.Crc.{little_field_of}
use Rattle.xfs_word.specs.Field.{part_of}
use Rattle.xfs_word.specs.declared.extents.Extent.{Extent}
use Rattle.xfs_attr.specs.ShortForm.{short_attributes}
use Rattle.xfs_geom.specs.Volumes.{Volume}
use Rattle.xfs_geom.specs.declared.records.Run.{Run}
use Rattle.xfs_names.specs.declared.building.BuiltDirectory.{BuiltDirectory}
use Rattle.xfs_volume.specs.declared.cores.Core.{Core}
use Rattle.xfs_volume.specs.declared.files.FileRec.{FileRec}
use Rattle.xfs_inode.specs.Files.{AttrFork, attr_fork, extent_blocks, fork_with, is_off_attributes, leaf_held, no_attrs}
use Rattle.xfs_inode.specs.Forks.{attr_extent, attr_place, core_type, only_block}
use Rattle.xfs_inode.specs.Named.{named_attr, named_link, named_top, slot_reads, tree_under}
use Rattle.xfs_inode.specs.Slots.{attribute_start, fork_bytes, slot_read}
use Rattle.xfs_inode.specs.declared.files.FileRead.TheVariants as Reads
use Rattle.xfs_inode.specs.declared.reading.SlotRead.TheVariants as Read
use Rattle.xfs_inodebuild.specs.declared.forks.ForkWanted.{ForkWanted}
use Rattle.xfs_render.specs.Slots.{DropsAttrs, IsMadeSlot, SetsFork, SetsLinks}
use Rattle.xfs_rename.specs.xfs_built.Extents.{extent_of_run}
use Rattle.xfs_rename.specs.xfs_changes.Forks.{extents_fork, short_fork}
use Rattle.xfs_restored.specs.DueFiles.{plain_core}
use Rattle.xfs_restored.proofs.Changes.{attr_is, drops_read, links_forks, links_read, with_core}
use Rattle.xfs_restored.proofs.Readings.{HasData, file_has, stated}
use Rattle.xfs_rename.specs.xfs_built.Directories.{FitsExtent}
use Rattle.xfs_restored.specs.Reading.{AreExtents, KeepsAttributes, ReadsBefore, StandsBeside, bare_core, forked_core, forked_file, fork_contents, kept_directory_slot, rebuilt_file}
use Rattle.xfs_restored.proofs.ForkedSlots.{forked_blocks, forked_short}

-- without attributes none are read, and no block of them is named
bare_fork : (v : Volume) (ino : ℕ) (core : Core) (slot : List ℕ) (leaf : Option (List ℕ)) → core.aformat ≡ 2 → core.anextents ≡ 0 → attr_fork v ino core slot leaf ≡ Some no_attrs
bare_fork v ino core slot leaf format none = by_case (core.forkoff == 0)
  where
    by_case : (t : Bool) → (if t then Some no_attrs
        else if core.aformat == 1 then fork_with [] [] (short_attributes (part_of slot (attribute_start core.forkoff) (512 - attribute_start core.forkoff)))
        else if core.aformat == 2 then (if core.anextents == 0 then Some no_attrs else leaf_held v ino core slot (attr_place v core slot) leaf) else None) ≡ Some no_attrs
    by_case true = refl
    by_case false =
        ap₂ (λ (a n : ℕ). if a == 1 then fork_with [] [] (short_attributes (part_of slot (attribute_start core.forkoff) (512 - attribute_start core.forkoff)))
        else if a == 2 then (if n == 0 then Some no_attrs else leaf_held v ino core slot (attr_place v core slot) leaf) else None) format none

bare_place : (v : Volume) (core : Core) (slot : List ℕ) → core.anextents ≡ 0 → attr_place v core slot ≡ None
bare_place v core slot none =
    ap (λ (t : Bool). if t then only_block v (attr_extent core slot) else None)
    (and_left (not (core.forkoff == 0) && core.aformat == 2 && core.anextents == 1) (nat_le (attribute_start core.forkoff + 16) 512)
    (and_right (not (core.forkoff == 0) && core.aformat == 2) (core.anextents == 1) (ap (λ (n : ℕ). n == 1) none)))

module _ (v : Volume) (ino n : ℕ) (old bare : List ℕ) (drops : DropsAttrs v ino n old bare) where
  bare_format : (core : Core) → slot_read v ino bare ≡ Read.InUse core → core.aformat ≡ 2
  bare_format core in_use = ap (λ (c : Core). c.aformat) (sym (stated v ino bare core in_use) ∙ drops.stated)

  bare_none : (core : Core) → slot_read v ino bare ≡ Read.InUse core → core.anextents ≡ 0
  bare_none core in_use = ap (λ (c : Core). c.anextents) (sym (stated v ino bare core in_use) ∙ drops.stated)

  bare_beside : (image : Image) (fork : ForkWanted) (es : List Extent) → fork.nblocks ≡ extent_blocks es → StandsBeside v image ino bare fork es
  bare_beside image fork es counted core held in_use reads =
      let same : held ≡ no_attrs = cc_held held no_attrs (sym reads ∙ bare_fork v ino core bare (option_map (bytes_of_block image) (named_attr v ino bare)) (bare_format core in_use) (bare_none core in_use)) in
      subst (λ (h : AttrFork). (fork.nblocks ≡ extent_blocks es + length h.blocks) × (is_off_attributes v (fork_contents es) h ≡ true)) (sym same) (omega (arith, counted), refl)
    where
      cc_held : (a b : AttrFork) → Some a ≡ Some b → a ≡ b
      cc_held a b is = cc

  bare_named : (core : Core) → slot_read v ino bare ≡ Read.InUse core → named_attr v ino bare ≡ None
  bare_named core in_use = attr_is v ino bare core in_use ∙ bare_place v core bare (bare_none core in_use)

-- what one step does to a slot that reads as a file
abbrev Forks : Volume → ℕ → Image → Image → ForkWanted → List Extent → ℕ → List ℕ → Type 0
Forks v ino image now fork es forkoff forked =
    (bare : List ℕ) (file : FileRec) → SetsFork v ino fork bare forked → slot_reads v image ino bare ≡ Reads.File file → core_type file.core ≡ 4 → file.core.forkoff ≡ forkoff
    → option_map (bytes_of_block now) (named_attr v ino bare) ≡ option_map (bytes_of_block image) (named_attr v ino bare) → StandsBeside v image ino bare fork es
    → slot_reads v now ino forked ≡ Reads.File (forked_file file (forked_core file.core fork (little_field_of forked 100 4)) es)

module _ (v : Volume) (ino : ℕ) (image now : Image) (f : FileRec) (type : core_type f.core ≡ 4) (fork : ForkWanted) (es : List Extent) where
  kept_forked : (drop : Option ℕ) (old bare forked : List ℕ) → MatchOption drop (bare ≡ old) (λ n. DropsAttrs v ino n old bare) → ReadsBefore v image ino old f drop
      → KeepsAttributes v image now ino old fork es drop → SetsFork v ino fork bare forked → Forks v ino image now fork es f.core.forkoff forked
      → slot_reads v now ino forked ≡ Reads.File (forked_file f (forked_core (bare_core drop f.core) fork (little_field_of forked 100 4)) es)
  kept_forked None old bare forked same reads keeps sets step =
      step old f (subst (λ (slot : List ℕ). SetsFork v ino fork slot forked) same sets) reads type refl keeps.0 keeps.1
  kept_forked (Some n) old bare forked drops reads keeps sets step =
      let file : FileRec = with_core f (plain_core f.core n (little_field_of bare 100 4)) in
      let bare_reads : slot_reads v image ino bare ≡ Reads.File file = drops_read v ino n old bare drops image f reads.0 reads.1 in
      let is : HasData v ino bare (tree_under v image ino (named_top v ino bare)) (option_map (bytes_of_block image) (named_attr v ino bare)) (option_map (bytes_of_block image) (named_link v ino bare)) (Reads.File file) =
      file_has v ino bare (tree_under v image ino (named_top v ino bare)) (option_map (bytes_of_block image) (named_attr v ino bare)) (option_map (bytes_of_block image) (named_link v ino bare)) (Reads.File file) tt bare_reads in
      let named : named_attr v ino bare ≡ None = bare_named v ino n old bare drops is.core is.in_use in
      step bare file sets bare_reads type refl (ap (option_map (bytes_of_block now)) named ∙ sym (ap (option_map (bytes_of_block image)) named))
      (bare_beside v ino n old bare drops image fork es keeps)

  kept_named : (nlink drop : Option ℕ) (forked new : List ℕ) → MatchOption nlink (new ≡ forked) (λ n. SetsLinks v ino n forked new)
      → slot_reads v now ino forked ≡ Reads.File (forked_file f (forked_core (bare_core drop f.core) fork (little_field_of forked 100 4)) es)
      → slot_reads v now ino new ≡ Reads.File (rebuilt_file f drop fork es nlink (little_field_of new 100 4))
  kept_named None drop forked new same reads =
      subst (λ (slot : List ℕ). slot_reads v now ino slot ≡ Reads.File (forked_file f (forked_core (bare_core drop f.core) fork (little_field_of slot 100 4)) es)) (sym same) reads
  kept_named (Some n) drop forked new sets reads =
      links_read v ino n forked new sets now (forked_file f (forked_core (bare_core drop f.core) fork (little_field_of forked 100 4)) es) reads

  kept_reads : (generation : ℕ) (drop nlink : Option ℕ) (old new : List ℕ) (made : IsMadeSlot v generation (kept_directory_slot ino drop fork nlink) old new) → ReadsBefore v image ino old f drop
      → KeepsAttributes v image now ino old fork es drop → Forks v ino image now fork es f.core.forkoff made.forked
      → slot_reads v now ino new ≡ Reads.File (rebuilt_file f drop fork es nlink (little_field_of new 100 4))
  kept_reads generation drop nlink old new made reads keeps step =
      kept_named nlink drop made.forked new made.links
      (kept_forked drop old made.bare made.forked
      (subst (λ (slot : List ℕ). MatchOption drop (made.bare ≡ slot) (λ n. DropsAttrs v ino n slot made.bare)) made.base made.attrs) reads keeps made.fork step)

-- in blocks, and in short form
pub kept_blocks : (v : Volume) (generation ino : ℕ) (image now : Image) (f : FileRec) (drop nlink : Option ℕ) (attributes : ℕ) (b : BuiltDirectory) (runs : List Run) (old new : List ℕ)
    → IsMadeSlot v generation (kept_directory_slot ino drop (extents_fork v attributes runs b) nlink) old new → ReadsBefore v image ino old f drop
    → KeepsAttributes v image now ino old (extents_fork v attributes runs b) (map (extent_of_run v) runs) drop → core_type f.core ≡ 4 → b.image.data_blocks < 2 ^ 21
    → 16 * length runs ≤ fork_bytes f.core.forkoff → AllByRecursion (FitsExtent v) runs → AreExtents v runs
    → slot_reads v now ino new ≡ Reads.File (rebuilt_file f drop (extents_fork v attributes runs b) (map (extent_of_run v) runs) nlink (little_field_of new 100 4))
kept_blocks v generation ino image now f drop nlink attributes b runs old new made reads keeps type few room fit extents =
    kept_reads v ino image now f type (extents_fork v attributes runs b) (map (extent_of_run v) runs) generation drop nlink old new made reads keeps
    (λ bare file sets bare_reads own forkoff leaf beside.
    forked_blocks v ino (extents_fork v attributes runs b) bare made.forked sets image now file bare_reads own leaf (map (extent_of_run v) runs) (omega (arith, few)) beside runs refl refl refl refl
    (subst (λ (k : ℕ). 16 * length runs ≤ fork_bytes k) (sym forkoff) room) fit extents)

pub kept_short : (v : Volume) (generation ino : ℕ) (image now : Image) (f : FileRec) (drop nlink : Option ℕ) (attributes : ℕ) (b : BuiltDirectory) (old new : List ℕ)
    → IsMadeSlot v generation (kept_directory_slot ino drop (short_fork attributes b) nlink) old new → ReadsBefore v image ino old f drop
    → KeepsAttributes v image now ino old (short_fork attributes b) [] drop → core_type f.core ≡ 4 → length b.image.short.items < 2 ^ 63
    → length b.image.short.items ≤ fork_bytes f.core.forkoff
    → slot_reads v now ino new ≡ Reads.File (rebuilt_file f drop (short_fork attributes b) [] nlink (little_field_of new 100 4))
kept_short v generation ino image now f drop nlink attributes b old new made reads keeps type few room =
    kept_reads v ino image now f type (short_fork attributes b) [] generation drop nlink old new made reads keeps
    (λ bare file sets bare_reads own forkoff leaf beside.
    forked_short v ino (short_fork attributes b) bare made.forked sets image now file bare_reads own leaf [] few beside refl refl refl
    (subst (λ (k : ℕ). length b.image.short.items ≤ fork_bytes k) (sym forkoff) room))

-- its fork has the bytes that were wanted
fork_bytes_are : (v : Volume) (ino : ℕ) (fork : ForkWanted) (nlink : Option ℕ) (bare forked new : List ℕ) → SetsFork v ino fork bare forked
    → MatchOption nlink (new ≡ forked) (λ n. SetsLinks v ino n forked new) → part_of new 176 (length fork.bytes) ≡ fork.bytes
fork_bytes_are v ino fork None bare forked new sets same = subst (λ (slot : List ℕ). part_of slot 176 (length fork.bytes) ≡ fork.bytes) (sym same) sets.put
fork_bytes_are v ino fork (Some n) bare forked new sets links = (links_forks v ino n forked new links).part 176 (length fork.bytes) (omega arith) ∙ sets.put

pub kept_bytes : (v : Volume) (generation ino : ℕ) (drop nlink : Option ℕ) (fork : ForkWanted) (old new : List ℕ)
    → IsMadeSlot v generation (kept_directory_slot ino drop fork nlink) old new → part_of new 176 (length fork.bytes) ≡ fork.bytes
kept_bytes v generation ino drop nlink fork old new made = fork_bytes_are v ino fork nlink made.bare made.forked new made.fork made.links
