-- The slot of a directory whose data fork was replaced reads as it, with the attributes that it had.
use Rattle.std.proofs.Common.{◌≡◌, inr, ℕ, Bool, true, false, not, ◌+◌, ◌-◌, ◌*◌, ◌^◌, ◌≤◌, ◌<◌, ◌==◌, ◌&&◌, ◌||◌, nat_le, nat_lt, if◌then◌else◌, List, [], ◌∷◌, length, map, Option, Some, None, refl, sym, ap, ◌∙◌, subst, arith}
use Rattle.std.specs.List.{AllByRecursion, flat_map}
use Rattle.std.specs.Option.{option_map}
use Rattle.std.proofs.lemmas.Bool.{and_parts}
use Rattle.xfs_disk.specs.Blocks.{Image, bytes_of_block}
use Rattle.xfs_word.specs.Crc.{little_field_of}
use Rattle.xfs_word.specs.Field.{field_of, part_of}
use Rattle.xfs_word.specs.Seal.{is_sealed}
use Rattle.xfs_word.specs.declared.extents.Extent.{Extent}
use Rattle.xfs_attr.specs.Leaf.{leaf_of}
use Rattle.xfs_attr.specs.ShortForm.{short_attributes}
use Rattle.xfs_geom.specs.Volumes.{Volume}
use Rattle.xfs_geom.specs.declared.records.Run.{Run}
use Rattle.xfs_tree.specs.Reading.{Contents}
use Rattle.xfs_kinds.specs.FileTrees.{extent_of}
use Rattle.xfs_volume.specs.declared.cores.Core.{Core}
use Rattle.xfs_volume.specs.declared.files.FileRec.{FileRec}
use Rattle.xfs_inode.specs.Files.{are_extents, attr_fork, by_slot, data_fork, feature_of, file_read, fork_with, has_forkoff, has_format, index_seal, is_local_whole, leaf_held, no_attrs, range_of, ranges_apart, states_no_fork}
use Rattle.xfs_inode.specs.Forks.{attr_extent, attr_place, core_type, only_block}
use Rattle.xfs_inode.specs.Named.{named_attr, named_link, named_top, slot_reads, tree_under}
use Rattle.xfs_inode.specs.Slots.{attribute_start, fork_bytes, slot_read}
use Rattle.xfs_inode.specs.declared.files.FileRead.TheVariants as Reads
use Rattle.xfs_inode.specs.declared.reading.SlotRead.{SlotRead}
use Rattle.xfs_inode.specs.declared.reading.SlotRead.TheVariants as Read
use Rattle.xfs_inodebuild.specs.declared.forks.ForkWanted.{ForkWanted}
use Rattle.xfs_render.specs.Slots.{SetsFork}
use Rattle.xfs_rename.specs.xfs_built.Extents.{extent_of_run}
use Rattle.xfs_rename.specs.xfs_changes.Forks.{run_bytes}
use Rattle.xfs_restored.proofs.Changes.{attr_is}
use Rattle.xfs_restored.proofs.Readings.{attrs_have, file_has, stated}
use Rattle.xfs_rename.specs.xfs_built.Directories.{FitsExtent}
use Rattle.xfs_restored.specs.Reading.{AreExtents, HasAttributes, IsDirectoryCore, StandsBeside, directory_file, forked_core, forked_file, fork_contents}
use Rattle.xfs_restored.proofs.Extents.{extents_back}
use Rattle.xfs_restored.proofs.UsedSlots.{directory_reads, extents_fork_held, extents_local, short_fork_held, short_local}

module _ (v : Volume) (ino : ℕ) (fork : ForkWanted) (old new : List ℕ) (sets : SetsFork v ino fork old new) where
  abbrev crc : ℕ
  crc = little_field_of new 100 4

  fork_in_use : (core : Core) → slot_read v ino old ≡ Read.InUse core → slot_read v ino new ≡ Read.InUse (forked_core core fork crc)
  fork_in_use core in_use =
      sets.read core in_use ∙ ap (λ (c : Core). Read.InUse c) (sets.stated ∙ ap (λ (c : Core). forked_core c fork crc) (stated v ino old core in_use))

  -- what stands behind the data fork
  module _ (core : Core) (in_use : slot_read v ino old ≡ Read.InUse core) where
    behind : (a w : ℕ) → 176 + fork_bytes core.forkoff ≤ a → part_of new a w ≡ part_of old a w
    behind a w low =
        let forkoff : field_of old 82 1 ≡ core.forkoff = ap (λ (c : Core). c.forkoff) (stated v ino old core in_use) in
        let far : 176 + fork_bytes (field_of old 82 1) ≤ a = subst (λ (k : ℕ). 176 + fork_bytes k ≤ a) (sym forkoff) low in
        (sets.others a w (inr (omega (arith, low)), (inr (omega (arith, low)), (inr (omega (arith, low)), (inr (omega (arith, low)), (inr far, (inr (omega (arith, low)), tt))))))).1

    start_is : (core.forkoff == 0) ≡ false → 176 + fork_bytes core.forkoff ≤ attribute_start core.forkoff
    start_is some = subst (λ (t : Bool). 176 + (if t then 336 else 8 * core.forkoff) ≤ attribute_start core.forkoff) (sym some) (omega arith)

    extent_same : (core.forkoff == 0) ≡ false → attr_extent core new ≡ attr_extent core old
    extent_same some = ap extent_of (behind (attribute_start core.forkoff) 16 (start_is some))

    place_if : (t : Bool) → (core.forkoff == 0) ≡ t
        → (if not t && core.aformat == 2 && core.anextents == 1 && nat_le (attribute_start core.forkoff + 16) 512 then only_block v (attr_extent core new) else None)
        ≡ (if not t && core.aformat == 2 && core.anextents == 1 && nat_le (attribute_start core.forkoff + 16) 512 then only_block v (attr_extent core old) else None)
    place_if true is = refl
    place_if false is =
        ap (λ (e : Extent). if core.aformat == 2 && core.anextents == 1 && nat_le (attribute_start core.forkoff + 16) 512 then only_block v e else None) (extent_same is)

    place_same : attr_place v core new ≡ attr_place v core old
    place_same = place_if (core.forkoff == 0) refl

    leaf_same : (core.forkoff == 0) ≡ false → (place : Option ℕ) (leaf : Option (List ℕ)) → leaf_held v ino core new place leaf ≡ leaf_held v ino core old place leaf
    leaf_same some None leaf = refl
    leaf_same some (Some place) None = refl
    leaf_same some (Some place) (Some block) =
        ap (λ (e : Extent). if e.offset == 0 && is_sealed (index_seal v ino 0x3bee place) block then fork_with (e ∷ []) (place ∷ []) (leaf_of block) else None) (extent_same some)

    attrs_if : (leaf : Option (List ℕ)) (t : Bool) → (core.forkoff == 0) ≡ t
        → (if t then Some no_attrs
        else if core.aformat == 1 then fork_with [] [] (short_attributes (part_of new (attribute_start core.forkoff) (512 - attribute_start core.forkoff)))
        else if core.aformat == 2 then (if core.anextents == 0 then Some no_attrs else leaf_held v ino core new (attr_place v core new) leaf) else None)
        ≡ (if t then Some no_attrs
        else if core.aformat == 1 then fork_with [] [] (short_attributes (part_of old (attribute_start core.forkoff) (512 - attribute_start core.forkoff)))
        else if core.aformat == 2 then (if core.anextents == 0 then Some no_attrs else leaf_held v ino core old (attr_place v core old) leaf) else None)
    attrs_if leaf true is = refl
    attrs_if leaf false is =
        let short : part_of new (attribute_start core.forkoff) (512 - attribute_start core.forkoff) ≡ part_of old (attribute_start core.forkoff) (512 - attribute_start core.forkoff) =
        behind (attribute_start core.forkoff) (512 - attribute_start core.forkoff) (start_is is) in
        let held : leaf_held v ino core new (attr_place v core new) leaf ≡ leaf_held v ino core old (attr_place v core old) leaf =
        ap (λ (place : Option ℕ). leaf_held v ino core new place leaf) place_same ∙ leaf_same is (attr_place v core old) leaf in
        λ i. if core.aformat == 1 then fork_with [] [] (short_attributes (short i))
        else if core.aformat == 2 then (if core.anextents == 0 then Some no_attrs else held i) else None

    attrs_same : (leaf : Option (List ℕ)) → attr_fork v ino core new leaf ≡ attr_fork v ino core old leaf
    attrs_same leaf = attrs_if leaf (core.forkoff == 0) refl

  -- the whole reading
  module _ (image now : Image) (file : FileRec) (reads : slot_reads v image ino old ≡ Reads.File file) (type : core_type file.core ≡ 4)
      (leaf_stays : option_map (bytes_of_block now) (named_attr v ino old) ≡ option_map (bytes_of_block image) (named_attr v ino old)) (es : List Extent) (size : fork.size < 2 ^ 63)
      (beside : StandsBeside v image ino old fork es) where
    abbrev old_leaf : Option (List ℕ)
    old_leaf = option_map (bytes_of_block image) (named_attr v ino old)

    forked_reads : has_format 4 fork.format ≡ true → ((core : Core) → core.forkoff ≡ file.core.forkoff → core_type core ≡ 4 → is_local_whole (forked_core core fork crc) ≡ true)
        → ((core : Core) (tree : Option (Contents Extent)) → core.forkoff ≡ file.core.forkoff → data_fork (forked_core core fork crc) new tree ≡ Some (fork_contents es))
        → are_extents v None es ≡ true → ranges_apart (map (range_of v) es) ≡ true
        → slot_reads v now ino new ≡ Reads.File (forked_file file (forked_core file.core fork crc) es)
    unfolding file_read
    forked_reads format local held placed apart =
        let old_tree : Option (Contents Extent) = tree_under v image ino (named_top v ino old) in
        let old_link : Option (List ℕ) = option_map (bytes_of_block image) (named_link v ino old) in
        let is = file_has v ino old old_tree old_leaf old_link (Reads.File file) tt reads in
        let core : Core = is.core in
        let after : Core = forked_core core fork crc in
        let has = attrs_have v ino old old_tree old_leaf old_link core is.held file is.attrs in
        let core_same : core ≡ file.core = ap (λ (f : FileRec). f.core) has.is in
        let own_type : core_type core ≡ 4 = ap (λ (c : Core). core_type c) core_same ∙ type in
        let own_forkoff : core.forkoff ≡ file.core.forkoff = ap (λ (c : Core). c.forkoff) core_same in
        let in_use : slot_read v ino new ≡ Read.InUse after = fork_in_use core is.in_use in
        let attr : named_attr v ino new ≡ named_attr v ino old = attr_is v ino new after in_use ∙ (place_same core is.in_use ∙ sym (attr_is v ino old core is.in_use)) in
        let leaf_now : option_map (bytes_of_block now) (named_attr v ino new) ≡ old_leaf = ap (option_map (bytes_of_block now)) attr ∙ leaf_stays in
        let four = and_parts (has_format (core_type core) core.format && has_forkoff (core_type core) core.forkoff && nat_lt core.size (2 ^ 63) && (not (core.forkoff == 0) || states_no_fork core)) (is_local_whole core) is.keeps in
        let three = and_parts (has_format (core_type core) core.format && has_forkoff (core_type core) core.forkoff && nat_lt core.size (2 ^ 63)) (not (core.forkoff == 0) || states_no_fork core) four.0 in
        let two = and_parts (has_format (core_type core) core.format && has_forkoff (core_type core) core.forkoff) (nat_lt core.size (2 ^ 63)) three.0 in
        let one = and_parts (has_format (core_type core) core.format) (has_forkoff (core_type core) core.forkoff) two.0 in
        let fits = beside core has.fork is.in_use has.reads in
        let attributes : HasAttributes v ino after new old_leaf es has.fork = record {
          forkoff' = ap (λ (t : ℕ). has_forkoff t core.forkoff) (sym own_type) ∙ one.1;
          stated' = three.1;
          feature = ap (λ (place : Option ℕ). feature_of v ino place old_leaf) (place_same core is.in_use) ∙ is.supported;
          fork' = attrs_same core is.in_use old_leaf ∙ has.reads;
          off = fits.1;
        } in
        let own : IsDirectoryCore after es has.fork = record { type' = own_type; size' = size; nblocks' = fits.0 } in
        let read : slot_reads v now ino new ≡ Reads.File (directory_file ino after es has.fork) =
        ap (λ (r : SlotRead). by_slot v ino r new (tree_under v now ino (named_top v ino new)) (option_map (bytes_of_block now) (named_attr v ino new)) (option_map (bytes_of_block now) (named_link v ino new))) in_use
        ∙ (ap (λ (leaf : Option (List ℕ)). by_slot v ino (Read.InUse after) new (tree_under v now ino (named_top v ino new)) leaf (option_map (bytes_of_block now) (named_link v ino new))) leaf_now
        ∙ directory_reads v ino after new (tree_under v now ino (named_top v ino new)) old_leaf (option_map (bytes_of_block now) (named_link v ino new)) es has.fork own attributes
        format (local core own_forkoff own_type) (held core (tree_under v now ino (named_top v ino new)) own_forkoff) placed apart) in
        read ∙ ap (λ (f : FileRec). Reads.File (forked_file f (forked_core f.core fork crc) es)) has.is

    -- with extents
    pub forked_blocks : (runs : List Run) → es ≡ map (extent_of_run v) runs → fork.format ≡ 2 → fork.nextents ≡ length runs → fork.bytes ≡ flat_map (run_bytes v) runs
        → 16 * length runs ≤ fork_bytes file.core.forkoff → AllByRecursion (FitsExtent v) runs → AreExtents v runs
        → slot_reads v now ino new ≡ Reads.File (forked_file file (forked_core file.core fork crc) es)
    forked_blocks runs es_are format nextents bytes room fit extents =
        forked_reads (ap (has_format 4) format) (λ core forkoff own. extents_local (forked_core core fork crc) format)
        (λ core tree forkoff.
        extents_fork_held (forked_core core fork crc) new tree (length runs) es format nextents (subst (λ (k : ℕ). 16 * length runs ≤ fork_bytes k) (sym forkoff) room)
        (extents_back v new runs fit (subst (λ (xs : List ℕ). part_of new 176 (length xs) ≡ xs) bytes sets.put) ∙ sym es_are))
        (subst (λ (xs : List Extent). are_extents v None xs ≡ true) (sym es_are) extents.placed')
        (subst (λ (xs : List Extent). ranges_apart (map (range_of v) xs) ≡ true) (sym es_are) extents.apart')

    -- in short form
    pub forked_short : es ≡ [] → fork.format ≡ 1 → fork.nextents ≡ 0 → fork.size ≤ fork_bytes file.core.forkoff
        → slot_reads v now ino new ≡ Reads.File (forked_file file (forked_core file.core fork crc) es)
    unfolding ranges_apart
    forked_short none format nextents room =
        forked_reads (ap (has_format 4) format)
        (λ core forkoff own. short_local (forked_core core fork crc) own format (subst (λ (k : ℕ). fork.size ≤ fork_bytes k) (sym forkoff) room))
        (λ core tree forkoff. short_fork_held (forked_core core fork crc) new tree format nextents ∙ ap (λ (xs : List Extent). Some (fork_contents xs)) (sym none))
        (subst (λ (xs : List Extent). are_extents v None xs ≡ true) (sym none) refl)
        (subst (λ (xs : List Extent). ranges_apart (map (range_of v) xs) ≡ true) (sym none) refl)
