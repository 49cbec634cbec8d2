-- A slot that was changed reads as the same file, but for what was changed.
use Rattle.std.proofs.Common.{◌≡◌, ℕ, Bool, true, false, not, ◌+◌, ◌-◌, ◌^◌, ◌≤◌, inl, inr, ◌==◌, ◌&&◌, ◌||◌, nat_lt, if◌then◌else◌, List, [], ◌∷◌, length, Option, Some, None, refl, sym, ap, ap₂, ◌∙◌, subst, arith}
use Rattle.std.specs.Option.{option_map}
use Rattle.std.proofs.lemmas.Bool.{and_from, and_left, and_parts, and_right, eq-eqb, or_right}
use Rattle.xfs_disk.specs.Blocks.{Image, bytes_of_block}
use Rattle.xfs_word.specs.Crc.{little_field_of}
use Rattle.xfs_word.specs.Field.{field_of, part_of}
use Rattle.xfs_word.specs.declared.extents.Extent.{Extent}
use Rattle.xfs_attr.specs.Leaf.{leaf_of}
use Rattle.xfs_attr.specs.ShortForm.{short_attributes}
use Rattle.xfs_geom.specs.Volumes.{Volume}
use Rattle.xfs_tree.specs.Reading.{Contents}
use Rattle.xfs_kinds.specs.FileTrees.{extent_of}
use Rattle.xfs_volume.specs.declared.cores.Core.{Core}
use Rattle.xfs_volume.specs.declared.files.FileRec.{FileRec}
use Rattle.xfs_inode.specs.Files.{attr_fork, extent_blocks, feature_of, file_record, file_read, fork_with, has_forkoff, has_format, index_seal, is_core, is_local_whole, leaf_held, no_attrs, states_no_fork}
use Rattle.xfs_inode.specs.Forks.{attr_extent, attr_place, core_type, has_attr_extent, link_place, only_block, top_of}
use Rattle.xfs_inode.specs.Named.{attr_named, link_named, named_attr, named_link, named_top, slot_reads, top_named, tree_under}
use Rattle.xfs_inode.specs.Slots.{attribute_start, fork_bytes, slot_read}
use Rattle.xfs_inode.specs.declared.files.FileRead.TheVariants as Reads
use Rattle.xfs_inode.specs.declared.reading.SlotRead.{SlotRead}
use Rattle.xfs_inode.specs.declared.reading.SlotRead.TheVariants as Read
use Rattle.xfs_inodebuild.specs.Writing.{IsBesideEach, field_place}
use Rattle.xfs_render.specs.Slots.{DropsAttrs, SetsLinks}
use Rattle.xfs_word.specs.Seal.{is_sealed}
use Rattle.xfs_rename.specs.xfs_request.Slots.{own_blocks}
use Rattle.xfs_restored.specs.DueFiles.{linked_core, plain_core}
use Rattle.xfs_restored.proofs.Forks.{HasSameFork, data_same, device_same, place_same, target_same, top_same, whole_same}
use Rattle.xfs_restored.proofs.Readings.{attrs_have, bare_is, file_has, reads_file, stated}

-- a file with another core
abbrev pub with_core : FileRec → Core → FileRec
with_core f core = record f { core = core }

-- the bytes behind the core are the same
pub record HasSameForks (old new : List ℕ) : Type 0 where
  pub number : (a w : ℕ) → 176 ≤ a → field_of new a w ≡ field_of old a w
  pub part : (a w : ℕ) → 176 ≤ a → part_of new a w ≡ part_of old a w

abbrev data_fork_same : (forkoff : ℕ) (old new : List ℕ) → HasSameForks old new → HasSameFork forkoff old new
data_fork_same forkoff old new same = record { number = λ a w low high. same.number a w low; part = λ a w low high. same.part a w low }

-- what a slot in use names
pub top_is : (v : Volume) (ino : ℕ) (slot : List ℕ) (core : Core) → slot_read v ino slot ≡ Read.InUse core → named_top v ino slot ≡ top_of v core slot
unfolding named_top
top_is v ino slot core in_use = ap (λ (read : SlotRead). top_named v read slot) in_use

pub attr_is : (v : Volume) (ino : ℕ) (slot : List ℕ) (core : Core) → slot_read v ino slot ≡ Read.InUse core → named_attr v ino slot ≡ attr_place v core slot
unfolding named_attr
attr_is v ino slot core in_use = ap (λ (read : SlotRead). attr_named v read slot) in_use

pub link_is : (v : Volume) (ino : ℕ) (slot : List ℕ) (core : Core) → slot_read v ino slot ≡ Read.InUse core → named_link v ino slot ≡ link_place v core slot
unfolding named_link
link_is v ino slot core in_use = ap (λ (read : SlotRead). link_named v read slot) in_use

-- attributes whose bytes are the same
module _ (v : Volume) (ino : ℕ) (core : Core) (old new : List ℕ) (same : HasSameForks old new) where
  attr_extent_same : attr_extent core new ≡ attr_extent core old
  attr_extent_same = ap extent_of (same.part (attribute_start core.forkoff) 16 (omega arith))

  attr_place_same : attr_place v core new ≡ attr_place v core old
  attr_place_same = ap (λ (e : Extent). if has_attr_extent core then only_block v e else None) attr_extent_same

  leaf_same : (place : Option ℕ) (attr_leaf : Option (List ℕ)) → leaf_held v ino core new place attr_leaf ≡ leaf_held v ino core old place attr_leaf
  leaf_same None attr_leaf = refl
  leaf_same (Some place) None = refl
  leaf_same (Some place) (Some block) =
      ap (λ (e : Extent). if e.offset == 0 && is_sealed (index_seal v ino 0x3bee place) block then fork_with (e ∷ []) (place ∷ []) (leaf_of block) else None) attr_extent_same

  attrs_same : (attr_leaf : Option (List ℕ)) → attr_fork v ino core new attr_leaf ≡ attr_fork v ino core old attr_leaf
  attrs_same attr_leaf =
      let short : part_of new (attribute_start core.forkoff) (512 - attribute_start core.forkoff) ≡ part_of old (attribute_start core.forkoff) (512 - attribute_start core.forkoff) =
      same.part (attribute_start core.forkoff) (512 - attribute_start core.forkoff) (omega arith) in
      let leaf : leaf_held v ino core new (attr_place v core new) attr_leaf ≡ leaf_held v ino core old (attr_place v core old) attr_leaf =
      ap (λ (place : Option ℕ). leaf_held v ino core new place attr_leaf) attr_place_same ∙ leaf_same (attr_place v core old) attr_leaf in
      λ i. if core.forkoff == 0 then Some no_attrs
      else if core.aformat == 1 then fork_with [] [] (short_attributes (short i))
      else if core.aformat == 2 then (if core.anextents == 0 then Some no_attrs else leaf i)
      else None

-- a slot whose number of names was set
module _ (v : Volume) (ino nlink : ℕ) (old new : List ℕ) (sets : SetsLinks v ino nlink old new) where
  pub links_forks : HasSameForks old new
  links_forks = record {
    number = λ a w low. (sets.others a w (inr (omega (arith, low)), (inr (omega (arith, low)), (inr (omega (arith, low)), tt)))).0;
    part = λ a w low. (sets.others a w (inr (omega (arith, low)), (inr (omega (arith, low)), (inr (omega (arith, low)), tt)))).1;
  }

  links_in_use : (core : Core) → slot_read v ino old ≡ Read.InUse core → slot_read v ino new ≡ Read.InUse (linked_core core nlink (little_field_of new 100 4))
  links_in_use core in_use =
      sets.read core in_use
      ∙ ap (λ (c : Core). Read.InUse c) (sets.stated ∙ ap (λ (c : Core). linked_core c nlink (little_field_of new 100 4)) (stated v ino old core in_use))

  links_file : (tree : Option (Contents Extent)) (attr_leaf link : Option (List ℕ)) (file : FileRec) → file_read v ino old tree attr_leaf link ≡ Reads.File file
      → file_read v ino new tree attr_leaf link ≡ Reads.File (with_core file (linked_core file.core nlink (little_field_of new 100 4)))
  links_file tree attr_leaf link file reads =
      let is = file_has v ino old tree attr_leaf link (Reads.File file) tt reads in
      let core : Core = is.core in
      let after : Core = linked_core core nlink (little_field_of new 100 4) in
      let has = attrs_have v ino old tree attr_leaf link core is.held file is.attrs in
      let same : HasSameFork core.forkoff old new = data_fork_same core.forkoff old new links_forks in
      let whole : file_record ino after new link is.held has.fork ≡ with_core (file_record ino core old link is.held has.fork) after =
      ap₂ (λ (target : List ℕ) (device : ℕ). let f : FileRec = record {
        ino = ino;
        core = after;
        extents = is.held.records;
        rest = record {
          attr_extents = has.fork.extents;
          tree = is.held.blocks;
          attrs = has.fork.attrs;
          target = target;
          device = device;
        };
      } in f) (target_same v core old new same link is.keeps) (device_same v core old new same) in
      reads_file v ino new tree attr_leaf link after is.held has.fork (links_in_use core is.in_use)
      (ap (λ (place : Option ℕ). feature_of v ino place attr_leaf) (attr_place_same v ino core old new links_forks) ∙ is.supported)
      is.keeps (data_same v core old new same tree ∙ is.data_reads) (whole_same v core old new same ino link is.held ∙ is.whole)
      (attrs_same v ino core old new links_forks attr_leaf ∙ has.reads) has.counted has.clear
      ∙ ap (λ (f : FileRec). Reads.File f) (whole ∙ ap (λ (f : FileRec). with_core f (linked_core f.core nlink (little_field_of new 100 4))) has.is)

  pub links_read : (image : Image) (file : FileRec) → slot_reads v image ino old ≡ Reads.File file
      → slot_reads v image ino new ≡ Reads.File (with_core file (linked_core file.core nlink (little_field_of new 100 4)))
  links_read image file reads =
      let is = file_has v ino old _ _ _ (Reads.File file) tt reads in
      let core : Core = is.core in
      let after : Core = linked_core core nlink (little_field_of new 100 4) in
      let same : HasSameFork core.forkoff old new = data_fork_same core.forkoff old new links_forks in
      let in_use : slot_read v ino new ≡ Read.InUse after = links_in_use core is.in_use in
      let top : named_top v ino new ≡ named_top v ino old = top_is v ino new after in_use ∙ (top_same v core old new same ∙ sym (top_is v ino old core is.in_use)) in
      let attr : named_attr v ino new ≡ named_attr v ino old = attr_is v ino new after in_use ∙ (attr_place_same v ino core old new links_forks ∙ sym (attr_is v ino old core is.in_use)) in
      let link : named_link v ino new ≡ named_link v ino old = link_is v ino new after in_use ∙ (place_same v core old new same ∙ sym (link_is v ino old core is.in_use)) in
      (λ i. file_read v ino new (tree_under v image ino (top i)) (option_map (bytes_of_block image) (attr i)) (option_map (bytes_of_block image) (link i)))
      ∙ links_file (tree_under v image ino (named_top v ino old)) (option_map (bytes_of_block image) (named_attr v ino old)) (option_map (bytes_of_block image) (named_link v ino old)) file reads

-- a slot whose attributes were dropped
module _ (v : Volume) (ino nblocks : ℕ) (old new : List ℕ) (drops : DropsAttrs v ino nblocks old new) where
  beside : (a w : ℕ) → 176 ≤ a → a + w ≤ 176 + fork_bytes (field_of old 82 1)
      → IsBesideEach (field_place 64 8 ∷ field_place 80 2 ∷ field_place 83 1 ∷ field_place (176 + fork_bytes (field_of old 82 1)) (336 - fork_bytes (field_of old 82 1)) ∷ field_place 100 4 ∷ []) a w
  beside a w low high = (inr (omega (arith, low)), (inr (omega (arith, low)), (inr (omega (arith, low)), (inl high, (inr (omega (arith, low)), tt)))))

  drops_fork : HasSameFork (field_of old 82 1) old new
  drops_fork = record {
    number = λ a w low high. (drops.others a w (beside a w low high)).0;
    part = λ a w low high. (drops.others a w (beside a w low high)).1;
  }

  drops_in_use : (core : Core) → slot_read v ino old ≡ Read.InUse core → slot_read v ino new ≡ Read.InUse (plain_core core nblocks (little_field_of new 100 4))
  drops_in_use core in_use =
      drops.read core in_use
      ∙ ap (λ (c : Core). Read.InUse c) (drops.stated ∙ ap (λ (c : Core). plain_core c nblocks (little_field_of new 100 4)) (stated v ino old core in_use))

  -- the data fork is as long as the core says
  pub drops_same : (core : Core) → slot_read v ino old ≡ Read.InUse core → HasSameFork core.forkoff old new
  drops_same core in_use =
      let forkoff : field_of old 82 1 ≡ core.forkoff = ap (λ (c : Core). c.forkoff) (stated v ino old core in_use) in
      subst (λ (n : ℕ). HasSameFork n old new) forkoff drops_fork

  no_place : (core : Core) (crc : ℕ) → attr_place v (plain_core core nblocks crc) new ≡ None
  no_place core crc =
      ap (λ (t : Bool). if t then only_block v (attr_extent core new) else None)
      (and_left (not (core.forkoff == 0) && true && false) _ (and_right (not (core.forkoff == 0) && true) false refl))

  no_fork : (core : Core) (crc : ℕ) → attr_fork v ino (plain_core core nblocks crc) new None ≡ Some no_attrs
  no_fork core crc = by_case (core.forkoff == 0)
    where
      by_case : (t : Bool) → (if t then Some no_attrs else Some no_attrs) ≡ Some no_attrs
      by_case true = refl
      by_case false = refl

  -- the core keeps the rules, for it states no extents of attributes
  plain_keeps : (core : Core) (crc : ℕ) → is_core core ≡ true → is_core (plain_core core nblocks crc) ≡ true
  plain_keeps core crc keeps =
      let a = has_format (core_type core) core.format in
      let b = has_forkoff (core_type core) core.forkoff in
      let c = nat_lt core.size (2 ^ 63) in
      let four = and_parts (a && b && c && (not (core.forkoff == 0) || states_no_fork core)) (is_local_whole core) keeps in
      let three = and_parts (a && b && c) (not (core.forkoff == 0) || states_no_fork core) four.0 in
      and_from (a && b && c && (not (core.forkoff == 0) || true)) (is_local_whole core)
      (and_from (a && b && c) (not (core.forkoff == 0) || true) three.0 (or_right (not (core.forkoff == 0)) true refl)) four.1

  add_none : (n m : ℕ) → n ≡ m → n ≡ m + 0
  add_none n m is = omega (arith, is)

  drops_file : (tree : Option (Contents Extent)) (attr_leaf link : Option (List ℕ)) (file : FileRec) → file_read v ino old tree attr_leaf link ≡ Reads.FileWithoutAttrs file
      → nblocks ≡ own_blocks file
      → file_read v ino new tree None link ≡ Reads.File (with_core file (plain_core file.core nblocks (little_field_of new 100 4)))
  drops_file tree attr_leaf link file reads counted =
      let is = file_has v ino old tree attr_leaf link (Reads.FileWithoutAttrs file) tt reads in
      let core : Core = is.core in
      let crc : ℕ = little_field_of new 100 4 in
      let after : Core = plain_core core nblocks crc in
      let bare = bare_is v ino old tree attr_leaf link core is.held file is.attrs in
      let same : HasSameFork core.forkoff old new = drops_same core is.in_use in
      let whole : file_record ino after new link is.held no_attrs ≡ with_core (file_record ino core old link is.held no_attrs) after =
      ap₂ (λ (target : List ℕ) (device : ℕ). let f : FileRec = record {
        ino = ino;
        core = after;
        extents = is.held.records;
        rest = record {
          attr_extents = [];
          tree = is.held.blocks;
          attrs = [];
          target = target;
          device = device;
        };
      } in f) (target_same v core old new same link is.keeps) (device_same v core old new same) in
      let blocks : nblocks ≡ extent_blocks is.held.records + length is.held.blocks + 0 = add_none nblocks (extent_blocks is.held.records + length is.held.blocks) (counted ∙ sym (ap own_blocks bare)) in
      reads_file v ino new tree None link after is.held no_attrs (drops_in_use core is.in_use)
      (ap (λ (place : Option ℕ). feature_of v ino place None) (no_place core crc))
      (plain_keeps core crc is.keeps) (data_same v core old new same tree ∙ is.data_reads) (whole_same v core old new same ino link is.held ∙ is.whole)
      (no_fork core crc) (eq-eqb nblocks (extent_blocks is.held.records + length is.held.blocks + 0) blocks) refl
      ∙ ap (λ (f : FileRec). Reads.File f) (whole ∙ ap (λ (f : FileRec). with_core f (plain_core f.core nblocks crc)) bare)

  pub drops_read : (image : Image) (file : FileRec) → slot_reads v image ino old ≡ Reads.FileWithoutAttrs file → nblocks ≡ own_blocks file
      → slot_reads v image ino new ≡ Reads.File (with_core file (plain_core file.core nblocks (little_field_of new 100 4)))
  drops_read image file reads counted =
      let is = file_has v ino old _ _ _ (Reads.FileWithoutAttrs file) tt reads in
      let core : Core = is.core in
      let crc : ℕ = little_field_of new 100 4 in
      let after : Core = plain_core core nblocks crc in
      let same : HasSameFork core.forkoff old new = drops_same core is.in_use in
      let in_use : slot_read v ino new ≡ Read.InUse after = drops_in_use core is.in_use in
      let top : named_top v ino new ≡ named_top v ino old = top_is v ino new after in_use ∙ (top_same v core old new same ∙ sym (top_is v ino old core is.in_use)) in
      let attr : named_attr v ino new ≡ None = attr_is v ino new after in_use ∙ no_place core crc in
      let link : named_link v ino new ≡ named_link v ino old = link_is v ino new after in_use ∙ (place_same v core old new same ∙ sym (link_is v ino old core is.in_use)) in
      (λ i. file_read v ino new (tree_under v image ino (top i)) (option_map (bytes_of_block image) (attr i)) (option_map (bytes_of_block image) (link i)))
      ∙ drops_file (tree_under v image ino (named_top v ino old)) (option_map (bytes_of_block image) (named_attr v ino old)) (option_map (bytes_of_block image) (named_link v ino old)) file reads counted
