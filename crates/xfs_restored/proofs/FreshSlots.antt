-- The slot of a directory that is made anew reads as it.
use Rattle.std.proofs.Common.{◌≡◌, inr, ℕ, Bool, true, not, ◌+◌, ◌-◌, ◌*◌, ◌^◌, ◌≤◌, ◌<◌, ◌==◌, ◌&&◌, nat_le, if◌then◌else◌, List, [], length, map, Option, Some, None, MatchOption, unwrap_or, refl, sym, ap, ◌∙◌, subst, arith}
use Rattle.std.specs.List.{AllByRecursion}
use Rattle.std.proofs.lemmas.Bool.{eq-eqb, or_right}
use Rattle.std.specs.Option.{option_map}
use Rattle.xfs_disk.specs.Blocks.{Image, bytes_of_block}
use Rattle.xfs_word.specs.Crc.{little_field_of}
use Rattle.xfs_word.specs.Field.{part_of}
use Rattle.xfs_word.specs.declared.extents.Extent.{Extent}
use Rattle.xfs_geom.specs.Volumes.{Volume}
use Rattle.xfs_geom.specs.declared.records.Run.{Run}
use Rattle.xfs_tree.specs.Reading.{Contents}
use Rattle.xfs_inode.specs.Cores.{stated_core}
use Rattle.xfs_inode.specs.Files.{by_slot, extent_blocks, feature_of, file_read, fork_with, has_forkoff, leaf_held, no_attrs, ranges_apart, states_no_fork}
use Rattle.xfs_inode.specs.Forks.{attr_extent, attr_place, only_block}
use Rattle.xfs_inode.specs.Named.{named_attr, named_link, named_top, slot_reads, tree_under}
use Rattle.xfs_inode.specs.Slots.{attribute_start, slot_read}
use Rattle.xfs_inode.specs.declared.files.FileRead.TheVariants as Reads
use Rattle.xfs_inode.specs.declared.reading.SlotRead.{SlotRead}
use Rattle.xfs_inode.specs.declared.reading.SlotRead.TheVariants as Read
use Rattle.xfs_attr.specs.ShortForm.{short_attributes}
use Rattle.xfs_inodebuild.specs.declared.forks.ForkWanted.{ForkWanted}
use Rattle.xfs_volume.specs.declared.cores.Core.{Core}
use Rattle.xfs_names.specs.declared.building.BuiltDirectory.{BuiltDirectory}
use Rattle.xfs_render.specs.Slots.{IsFreshSlot, IsMadeSlot, SetsFork, SetsLinks}
use Rattle.xfs_rename.specs.xfs_built.Extents.{extent_of_run}
use Rattle.xfs_rename.specs.xfs_changes.Forks.{extents_fork, short_fork}
use Rattle.xfs_rename.specs.xfs_built.Directories.{FitsExtent}
use Rattle.xfs_restored.specs.Reading.{AreExtents, HasAttributes, IsDirectoryCore, IsFreshDirectory, directory_file, forked_core, fresh_directory_slot, made_core}
use Rattle.xfs_restored.proofs.Extents.{extents_back}
use Rattle.xfs_restored.proofs.UsedSlots.{directory_reads, extents_fork_held, extents_local, short_fork_held, short_local}

-- the slot of a directory that was made, with its fork
pub record IsFreshMade (v : Volume) (core : Core) (fork : ForkWanted) (nlink : ℕ) (slot : List ℕ) : Type 0 where
  pub read : slot_read v core.ino slot ≡ Read.InUse (made_core core fork nlink (little_field_of slot 100 4))
  pub put : part_of slot 176 (length fork.bytes) ≡ fork.bytes

forked_is : (core : Core) (fork : ForkWanted) (crc : ℕ) → core.next_unlinked ≡ 0xffff_ffff → forked_core core fork crc ≡ made_core core fork core.nlink crc
forked_is core fork crc last = ap (λ (u : ℕ). let c : Core = record core { format = fork.format; size = fork.size; nblocks = fork.nblocks; nextents = fork.nextents; next_unlinked = u; crc = crc } in c) last

module _ (v : Volume) (core : Core) (fork : ForkWanted) (last : core.next_unlinked ≡ 0xffff_ffff) where
  stated_forked : (bare forked : List ℕ) → IsFreshSlot v core bare → SetsFork v core.ino fork bare forked → stated_core forked ≡ forked_core core fork (little_field_of forked 100 4)
  stated_forked bare forked fresh sets = sets.stated ∙ ap (λ (c : Core). forked_core c fork (little_field_of forked 100 4)) fresh.stated

  read_forked : (bare forked : List ℕ) → IsFreshSlot v core bare → SetsFork v core.ino fork bare forked → slot_read v core.ino forked ≡ Read.InUse (stated_core forked)
  read_forked bare forked fresh sets = sets.read (record core { crc = little_field_of bare 100 4 }) fresh.read

  linked : (bare forked new : List ℕ) (nlink : Option ℕ) → IsFreshSlot v core bare → SetsFork v core.ino fork bare forked
      → MatchOption nlink (new ≡ forked) (λ n. SetsLinks v core.ino n forked new) → IsFreshMade v core fork (unwrap_or nlink core.nlink) new
  linked bare forked new None fresh sets same =
      subst (λ (slot : List ℕ). IsFreshMade v core fork core.nlink slot) (sym same)
      (record {
        read =
            read_forked bare forked fresh sets
            ∙ ap (λ (c : Core). Read.InUse c) (stated_forked bare forked fresh sets ∙ forked_is core fork (little_field_of forked 100 4) last);
        put = sets.put;
      })
  linked bare forked new (Some n) fresh sets links = record {
    read =
        links.read (stated_core forked) (read_forked bare forked fresh sets)
        ∙ ap (λ (c : Core). Read.InUse c)
        (links.stated ∙ ap (λ (c : Core). let x : Core = record c { nlink = n; next_unlinked = 0xffff_ffff; crc = little_field_of new 100 4 } in x) (stated_forked bare forked fresh sets));
    put = (links.others 176 (length fork.bytes) (inr (omega arith), (inr (omega arith), (inr (omega arith), tt)))).1 ∙ sets.put;
  }

  pub fresh_made : (generation : ℕ) (nlink : Option ℕ) (old new : List ℕ) → IsMadeSlot v generation (fresh_directory_slot core fork nlink) old new → IsFreshMade v core fork (unwrap_or nlink core.nlink) new
  fresh_made generation nlink old new made =
      linked made.bare made.forked new nlink (subst (λ (slot : List ℕ). IsFreshSlot v core slot) (sym made.attrs) made.base) made.fork made.links

-- without an attribute fork
no_attributes : (v : Volume) (ino : ℕ) (core : Core) (slot : List ℕ) (leaf : Option (List ℕ)) (es : List Extent) → core.forkoff ≡ 0 → states_no_fork core ≡ true
    → HasAttributes v ino core slot leaf es no_attrs
no_attributes v ino core slot leaf es none states = record {
  forkoff' = ap (has_forkoff 4) none;
  stated' = or_right (not (core.forkoff == 0)) (states_no_fork core) states;
  feature =
      ap (λ (k : ℕ). feature_of v ino (if not (k == 0) && core.aformat == 2 && core.anextents == 1 && nat_le (attribute_start core.forkoff + 16) 512 then only_block v (attr_extent core slot) else None) leaf) none;
  fork' =
      ap (λ (t : Bool). if t then Some no_attrs
      else if core.aformat == 1 then fork_with [] [] (short_attributes (part_of slot (attribute_start core.forkoff) (512 - attribute_start core.forkoff)))
      else if core.aformat == 2 then (if core.anextents == 0 then Some no_attrs else leaf_held v ino core slot (attr_place v core slot) leaf)
      else None) (eq-eqb core.forkoff 0 none);
  off = refl;
}

module _ (v : Volume) (image : Image) (core : Core) (nlink : ℕ) (slot : List ℕ) (is : IsFreshDirectory core) where
  by_used : (fork : ForkWanted) (es : List Extent) → IsFreshMade v core fork nlink slot → IsDirectoryCore (made_core core fork nlink (little_field_of slot 100 4)) es no_attrs
      → ((tree : Option (Contents Extent)) (leaf link : Option (List ℕ))
      → by_slot v core.ino (Read.InUse (made_core core fork nlink (little_field_of slot 100 4))) slot tree leaf link ≡ Reads.File (directory_file core.ino (made_core core fork nlink (little_field_of slot 100 4)) es no_attrs))
      → slot_reads v image core.ino slot ≡ Reads.File (directory_file core.ino (made_core core fork nlink (little_field_of slot 100 4)) es no_attrs)
  unfolding file_read
  by_used fork es made own used =
      let tree : Option (Contents Extent) = tree_under v image core.ino (named_top v core.ino slot) in
      let leaf : Option (List ℕ) = option_map (bytes_of_block image) (named_attr v core.ino slot) in
      let link : Option (List ℕ) = option_map (bytes_of_block image) (named_link v core.ino slot) in
      ap (λ (r : SlotRead). by_slot v core.ino r slot tree leaf link) made.read ∙ used tree leaf link

  -- in short form
  pub fresh_short : (b : BuiltDirectory) → IsFreshMade v core (short_fork 0 b) nlink slot → length b.image.short.items ≤ 336
      → slot_reads v image core.ino slot ≡ Reads.File (directory_file core.ino (made_core core (short_fork 0 b) nlink (little_field_of slot 100 4)) [] no_attrs)
  unfolding ranges_apart
  fresh_short b made room =
      let now : Core = made_core core (short_fork 0 b) nlink (little_field_of slot 100 4) in
      let own : IsDirectoryCore now [] no_attrs = record { type' = is.type'; size' = omega (arith, room); nblocks' = refl } in
      by_used (short_fork 0 b) [] made own (λ tree leaf link.
      directory_reads v core.ino now slot tree leaf link [] no_attrs own (no_attributes v core.ino now slot leaf [] is.forkoff' is.states)
      refl (short_local now is.type' refl (subst (λ (k : ℕ). length b.image.short.items ≤ (if k == 0 then 336 else 8 * k)) (sym is.forkoff') room))
      (short_fork_held now slot tree refl refl) refl refl)

  -- in blocks
  pub fresh_blocks : (b : BuiltDirectory) (runs : List Run) → IsFreshMade v core (extents_fork v 0 runs b) nlink slot → AreExtents v runs → AllByRecursion (FitsExtent v) runs
      → 16 * length runs ≤ 336 → b.image.data_blocks < 2 ^ 21 → b.image.data_blocks + b.image.index_blocks + b.image.free_blocks ≡ extent_blocks (map (extent_of_run v) runs)
      → slot_reads v image core.ino slot ≡ Reads.File (directory_file core.ino (made_core core (extents_fork v 0 runs b) nlink (little_field_of slot 100 4)) (map (extent_of_run v) runs) no_attrs)
  fresh_blocks b runs made extents fit room few count =
      let now : Core = made_core core (extents_fork v 0 runs b) nlink (little_field_of slot 100 4) in
      let es : List Extent = map (extent_of_run v) runs in
      let own : IsDirectoryCore now es no_attrs = record { type' = is.type'; size' = omega (arith, few); nblocks' = omega (arith, count) } in
      by_used (extents_fork v 0 runs b) es made own (λ tree leaf link.
      directory_reads v core.ino now slot tree leaf link es no_attrs own (no_attributes v core.ino now slot leaf es is.forkoff' is.states)
      refl (extents_local now refl)
      (extents_fork_held now slot tree (length runs) es refl refl (subst (λ (k : ℕ). 16 * length runs ≤ (if k == 0 then 336 else 8 * k)) (sym is.forkoff') room)
      (extents_back v slot runs fit made.put))
      extents.placed' extents.apart')
