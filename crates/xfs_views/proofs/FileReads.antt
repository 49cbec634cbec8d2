-- A slot reads as a file where it does in words.
use Rattle.std.proofs.Common.{◌≡◌, ℕ, ◌+◌, Bool, true, false, ◌&&◌, ◌==◌, if◌then◌else◌, List, length, Option, Some, None, refl, sym, ap, ◌∙◌}
use Rattle.std.specs.List.{All, list_all}
use Rattle.std.proofs.lemmas.Bool.{and_parts, and_from, eqb-true, eq-eqb}
use Rattle.xfs_word.specs.declared.extents.Extent.{Extent}
use Rattle.xfs_geom.specs.Volumes.{Volume}
use Rattle.xfs_tree.specs.Reading.{Contents}
use Rattle.xfs_volume.specs.declared.cores.Core.{Core}
use Rattle.xfs_volume.specs.declared.files.FileRec.{FileRec}
use Rattle.xfs_inode.specs.Files.{AttrFork, ranges_apart, attr_fork, extent_blocks, by_slot, data_fork, feature_of, file_record, file_read, has_leaf, has_link_target, is_apart, is_off_attributes, is_core, is_counted, is_link, is_placed, is_whole_fork, no_attrs, range_of_block, ranges_of, used_file, with_attrs, with_data, with_feature}
use Rattle.xfs_inode.specs.Forks.{attr_place, link_place, core_type}
use Rattle.xfs_inode.specs.Slots.{slot_read}
use Rattle.xfs_inode.specs.declared.files.FileRead.{FileRead}
use Rattle.xfs_inode.specs.declared.files.FileRead.TheVariants as Reads
use Rattle.xfs_inode.specs.declared.reading.SlotRead.{SlotRead}
use Rattle.xfs_inode.specs.declared.reading.SlotRead.TheVariants as Read
use Rattle.xfs_views.specs.FilesInWords.{RangesApart, IsReadFile}
use Rattle.xfs_views.proofs.FileTests.{apart_passes, apart_says, asked_passes, asked_says, core_passes, core_says, placed_passes, placed_says, runs_pass}
use Rattle.xfs_views.proofs.Tests.{all_pass, all_say}

-- a choice that gives a file gives it by its first branch
chosen : {P : Type 0} (t : Bool) (a b due : FileRead) → (b ≡ due → P) → (t ≡ true → a ≡ due → P) → (if t then a else b) ≡ due → P
chosen true a b due other one is = one refl is
chosen false a b due other one is = other is

module _ (v : Volume) (ino : ℕ) (slot : List ℕ) (tree : Option (Contents Extent)) (attr_leaf link : Option (List ℕ)) (file : FileRec) where
  record HasFork (core : Core) (held : Contents Extent) : Type 0 where
    fork : AttrFork
    reads : attr_fork v ino core slot attr_leaf ≡ Some fork
    counted : is_counted core held fork ≡ true
    clear : is_off_attributes v held fork ≡ true
    is : file ≡ file_record ino core slot link held fork

  record HasData (core : Core) : Type 0 where
    held : Contents Extent
    reads : data_fork core slot tree ≡ Some held
    whole : is_whole_fork v ino core slot link held ≡ true
    attrs : HasFork core held

  attrs_say : (core : Core) (held : Contents Extent) (fork : Option AttrFork) → attr_fork v ino core slot attr_leaf ≡ fork → with_attrs v ino core slot link held fork ≡ Reads.File file
      → HasFork core held
  attrs_say core held None reads is = absurd cc
  attrs_say core held (Some fork) reads is =
      chosen (is_counted core held fork && is_off_attributes v held fork) (Reads.File (file_record ino core slot link held fork)) _ (Reads.File file)
      (chosen (has_leaf fork) (Reads.FileWithoutAttrs (file_record ino core slot link held no_attrs)) Reads.Unsound (Reads.File file) (λ h. absurd cc) (λ t h. absurd cc))
      (λ t h. let parts = and_parts (is_counted core held fork) (is_off_attributes v held fork) t in
      record { fork = fork; reads = reads; counted = parts.0; clear = parts.1; is = cc }) is

  data_say : (core : Core) (held : Option (Contents Extent)) → data_fork core slot tree ≡ held → with_data v ino core slot attr_leaf link held ≡ Reads.File file → HasData core
  data_say core None reads is = absurd cc
  data_say core (Some held) reads is =
      chosen (is_whole_fork v ino core slot link held) (with_attrs v ino core slot link held (attr_fork v ino core slot attr_leaf)) Reads.Unsound (Reads.File file) (λ h. absurd cc)
      (λ t h. record { held = held; reads = reads; whole = t; attrs = attrs_say core held (attr_fork v ino core slot attr_leaf) refl h }) is

  feature_says : (feature : Option ℕ) (read : FileRead) → with_feature feature read ≡ Reads.File file → (feature ≡ None) × (read ≡ Reads.File file)
  feature_says None read is = (refl, is)
  feature_says (Some what) read is = absurd cc

  all_told : (core : Core) → slot_read v ino slot ≡ Read.InUse core → feature_of v ino (attr_place v core slot) attr_leaf ≡ None → is_core core ≡ true → HasData core
      → IsReadFile v ino slot tree attr_leaf link file
  all_told core in_use supported keeps has =
      let held = has.held in
      let fork = has.attrs.fork in
      let both = and_parts (has_link_target v ino core slot link && is_placed v held) (ranges_apart (ranges_of v held)) has.whole in
      let parts = and_parts (has_link_target v ino core slot link) (is_placed v held) both.0 in
      record {
        core = core;
        held = held;
        fork = fork;
        in_use = in_use;
        supported = supported;
        keeps = core_says core keeps;
        data_reads = has.reads;
        placed = placed_says v held parts.1 both.1;
        target = λ type format. asked_says (core_type core == 10 && core.format == 2) (is_link v ino core slot (link_place v core slot) link) parts.0
            (and_from (core_type core == 10) (core.format == 2) (eq-eqb (core_type core) 10 type) (eq-eqb core.format 2 format));
        attrs_read = has.attrs.reads;
        clear = all_say (λ block. list_all (is_apart (range_of_block block)) (ranges_of v held)) (λ block. All (RangesApart (range_of_block block)) (ranges_of v held))
            (λ block is. all_say (is_apart (range_of_block block)) (RangesApart (range_of_block block)) (apart_says (range_of_block block)) (ranges_of v held) is) fork.blocks has.attrs.clear;
        counted = eqb-true core.nblocks (extent_blocks held.records + length held.blocks + length fork.blocks) has.attrs.counted;
        is = has.attrs.is;
      }

  used_says : (core : Core) → slot_read v ino slot ≡ Read.InUse core → used_file v ino core slot tree attr_leaf link ≡ Reads.File file → IsReadFile v ino slot tree attr_leaf link file
  used_says core in_use is =
      let feature = feature_says (feature_of v ino (attr_place v core slot) attr_leaf) _ is in
      chosen (is_core core) (with_data v ino core slot attr_leaf link (data_fork core slot tree)) Reads.Unsound (Reads.File file) (λ h. absurd cc)
      (λ t h. all_told core in_use feature.0 t (data_say core (data_fork core slot tree) refl h)) feature.1

  slot_says : (read : SlotRead) → slot_read v ino slot ≡ read → by_slot v ino read slot tree attr_leaf link ≡ Reads.File file → IsReadFile v ino slot tree attr_leaf link file
  slot_says Read.Unsound reads is = absurd cc
  slot_says Read.Free reads is = absurd cc
  slot_says (Read.Unsupported what) reads is = absurd cc
  slot_says (Read.InUse core) reads is = used_says core reads is

  pub file_says : file_read v ino slot tree attr_leaf link ≡ Reads.File file → IsReadFile v ino slot tree attr_leaf link file
  unfolding file_read
  file_says is = slot_says (slot_read v ino slot) refl is

  -- the other way round, from the inside
  fork_passes : (is : IsReadFile v ino slot tree attr_leaf link file) → with_attrs v ino is.core slot link is.held (Some is.fork) ≡ Reads.File file
  fork_passes is =
      let core = is.core in
      let held = is.held in
      let fork = is.fork in
      let tests : (is_counted core held fork && is_off_attributes v held fork) ≡ true = and_from (is_counted core held fork) (is_off_attributes v held fork)
      (eq-eqb core.nblocks (extent_blocks held.records + length held.blocks + length fork.blocks) is.counted)
      (all_pass (λ block. list_all (is_apart (range_of_block block)) (ranges_of v held)) (λ block. All (RangesApart (range_of_block block)) (ranges_of v held))
      (λ block each. all_pass (is_apart (range_of_block block)) (RangesApart (range_of_block block)) (apart_passes (range_of_block block)) (ranges_of v held) each) fork.blocks is.clear) in
      ap (λ (t : Bool). if t then Reads.File (file_record ino core slot link held fork) else if has_leaf fork then Reads.FileWithoutAttrs (file_record ino core slot link held no_attrs) else Reads.Unsound) tests
      ∙ ap (λ (f : FileRec). Reads.File f) (sym is.is)

  whole_passes : (is : IsReadFile v ino slot tree attr_leaf link file) → is_whole_fork v ino is.core slot link is.held ≡ true
  whole_passes is =
      let core = is.core in
      let held = is.held in
      and_from (has_link_target v ino core slot link && is_placed v held) (ranges_apart (ranges_of v held))
      (and_from (has_link_target v ino core slot link) (is_placed v held)
      (asked_passes (core_type core == 10 && core.format == 2) (is_link v ino core slot (link_place v core slot) link) (λ t.
      let parts = and_parts (core_type core == 10) (core.format == 2) t in is.target (eqb-true (core_type core) 10 parts.0) (eqb-true core.format 2 parts.1)))
      (placed_passes v held is.placed))
      (runs_pass (ranges_of v held) is.placed.apart)

  data_passes : (is : IsReadFile v ino slot tree attr_leaf link file) → with_data v ino is.core slot attr_leaf link (Some is.held) ≡ Reads.File file
  data_passes is =
      ap (λ (t : Bool). if t then with_attrs v ino is.core slot link is.held (attr_fork v ino is.core slot attr_leaf) else Reads.Unsound) (whole_passes is)
      ∙ (ap (with_attrs v ino is.core slot link is.held) is.attrs_read ∙ fork_passes is)

  used_passes : (is : IsReadFile v ino slot tree attr_leaf link file) → used_file v ino is.core slot tree attr_leaf link ≡ Reads.File file
  used_passes is =
      ap (λ (what : Option ℕ). with_feature what (if is_core is.core then with_data v ino is.core slot attr_leaf link (data_fork is.core slot tree) else Reads.Unsound)) is.supported
      ∙ (ap (λ (t : Bool). if t then with_data v ino is.core slot attr_leaf link (data_fork is.core slot tree) else Reads.Unsound) (core_passes is.core is.keeps)
      ∙ (ap (with_data v ino is.core slot attr_leaf link) is.data_reads ∙ data_passes is))

  pub file_passes : IsReadFile v ino slot tree attr_leaf link file → file_read v ino slot tree attr_leaf link ≡ Reads.File file
  unfolding file_read
  file_passes is = ap (λ (read : SlotRead). by_slot v ino read slot tree attr_leaf link) is.in_use ∙ used_passes is

  pub file_both : (file_read v ino slot tree attr_leaf link ≡ Reads.File file → IsReadFile v ino slot tree attr_leaf link file)
      × (IsReadFile v ino slot tree attr_leaf link file → file_read v ino slot tree attr_leaf link ≡ Reads.File file)
  file_both = (file_says, file_passes)
