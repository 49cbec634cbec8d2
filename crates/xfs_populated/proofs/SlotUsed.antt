-- What the slot of a file without attributes reads as, by its core and its extents.
use Rattle.std.proofs.Common.{◌≡◌, ℕ, Bool, true, false, not, ◌+◌, ◌-◌, ◌^◌, ◌<◌, ◌==◌, ◌&&◌, ◌||◌, nat_le, nat_lt, List, [], map, Option, Some, None, refl, ap, ap₂, ◌∙◌, append-nil, arith}
use Rattle.std.specs.Prelude.{if◌then◌else◌}
use Rattle.std.proofs.lemmas.Bool.{and_from, eq-eqb, lt-ltb}
use Rattle.xfs_word.specs.Field.{part_of}
use Rattle.xfs_word.specs.declared.extents.Extent.{Extent}
use Rattle.xfs_geom.specs.Volumes.{Volume}
use Rattle.xfs_tree.specs.Reading.{Contents}
use Rattle.xfs_attr.specs.ShortForm.{short_attributes}
use Rattle.xfs_inode.specs.Files.{are_blocks, are_extents, attr_fork, data_fork, extent_blocks, feature_of, file_record, fork_with, has_forkoff, has_format, has_leaf, has_link_target, is_core, is_counted, is_local_whole, is_off_attributes, is_placed, is_whole_fork, leaf_held, link_target, device_of, no_attrs, range_of, ranges_apart, ranges_of, states_no_fork, used_file, with_attrs, with_data, with_feature}
use Rattle.xfs_inode.specs.Forks.{attr_extent, attr_place, core_type, only_block}
use Rattle.xfs_inode.specs.Slots.{attribute_start}
use Rattle.xfs_inode.specs.declared.files.FileRead.TheVariants as Reads
use Rattle.xfs_volume.specs.declared.cores.Core.{Core}
use Rattle.xfs_volume.specs.declared.files.FileRec.{FileRec}

-- extents, with no tree
abbrev pub held_extents : List Extent → Contents Extent
held_extents es = record { records = es; blocks = [] }

-- a file without attributes
abbrev pub bare_file : ℕ → Core → List Extent → List ℕ → ℕ → FileRec
bare_file ino core es target device = record {
  ino = ino;
  core = core;
  extents = es;
  rest = record {
    attr_extents = [];
    tree = [];
    attrs = [];
    target = target;
    device = device;
  };
}

-- the core and the data fork of a file without attributes keep the rules
pub record IsBareFile (v : Volume) (ino : ℕ) (core : Core) (slot : List ℕ) (tree : Option (Contents Extent)) (link : Option (List ℕ)) (es : List Extent) (target : List ℕ) (device : ℕ) : Type 0 where
  pub forkoff' : core.forkoff ≡ 0
  pub states : states_no_fork core ≡ true
  pub forked : has_forkoff (core_type core) 0 ≡ true
  pub format' : has_format (core_type core) core.format ≡ true
  pub size' : core.size < 2 ^ 63
  pub local : is_local_whole core ≡ true
  pub held : data_fork core slot tree ≡ Some (held_extents es)
  pub nblocks' : core.nblocks ≡ extent_blocks es
  pub placed : are_extents v None es ≡ true
  pub apart : ranges_apart (map (range_of v) es) ≡ true
  pub link' : has_link_target v ino core slot link ≡ true
  pub target' : link_target core slot link ≡ target
  pub device' : device_of core slot ≡ device

or_right : (a b : Bool) → b ≡ true → (a || b) ≡ true
or_right true b is = refl
or_right false b is = is

module _ (v : Volume) (ino : ℕ) (core : Core) (slot : List ℕ) (tree : Option (Contents Extent)) (leaf link : Option (List ℕ)) (es : List Extent) (target : List ℕ) (device : ℕ)
    (is : IsBareFile v ino core slot tree link es target device) where
  core_is : is_core core ≡ true
  core_is =
      and_from (has_format (core_type core) core.format && has_forkoff (core_type core) core.forkoff && nat_lt core.size (2 ^ 63) && (not (core.forkoff == 0) || states_no_fork core)) (is_local_whole core)
      (and_from (has_format (core_type core) core.format && has_forkoff (core_type core) core.forkoff && nat_lt core.size (2 ^ 63)) (not (core.forkoff == 0) || states_no_fork core)
      (and_from (has_format (core_type core) core.format && has_forkoff (core_type core) core.forkoff) (nat_lt core.size (2 ^ 63))
      (and_from (has_format (core_type core) core.format) (has_forkoff (core_type core) core.forkoff)
      is.format' (ap (has_forkoff (core_type core)) is.forkoff' ∙ is.forked))
      (lt-ltb core.size (2 ^ 63) is.size'))
      (or_right (not (core.forkoff == 0)) (states_no_fork core) is.states))
      is.local

  no_feature : feature_of v ino (attr_place v core slot) leaf ≡ None
  no_feature =
      ap (λ (k : ℕ). feature_of v ino (if not (k == 0) && core.aformat == 2 && core.anextents == 1 && nat_le (attribute_start core.forkoff + 16) 512 then only_block v (attr_extent core slot) else None) leaf) is.forkoff'

  no_fork : attr_fork v ino core slot leaf ≡ Some no_attrs
  no_fork =
      ap (λ (t : Bool). if t then Some no_attrs
      else if core.aformat == 1 then fork_with [] [] (short_attributes (part_of slot (attribute_start core.forkoff) (512 - attribute_start core.forkoff)))
      else if core.aformat == 2 then (if core.anextents == 0 then Some no_attrs else leaf_held v ino core slot (attr_place v core slot) leaf)
      else None) (eq-eqb core.forkoff 0 is.forkoff')

  whole_is : is_whole_fork v ino core slot link (held_extents es) ≡ true
  whole_is =
      and_from (has_link_target v ino core slot link && is_placed v (held_extents es)) (ranges_apart (ranges_of v (held_extents es)))
      (and_from (has_link_target v ino core slot link) (is_placed v (held_extents es)) is.link' (and_from (are_extents v None es) (are_blocks v []) is.placed refl))
      (ap ranges_apart (append-nil (map (range_of v) es)) ∙ is.apart)

  record_is : file_record ino core slot link (held_extents es) no_attrs ≡ bare_file ino core es target device
  record_is = ap₂ (λ (t : List ℕ) (d : ℕ). bare_file ino core es t d) is.target' is.device'

  counted_is : is_counted core (held_extents es) no_attrs ≡ true
  counted_is = let blocks = is.nblocks' in eq-eqb core.nblocks (extent_blocks es + 0 + 0) (omega (arith, blocks))

  attrs_are : with_attrs v ino core slot link (held_extents es) (attr_fork v ino core slot leaf) ≡ Reads.File (bare_file ino core es target device)
  attrs_are =
      ap (with_attrs v ino core slot link (held_extents es)) no_fork
      ∙ (ap (λ (t : Bool). if t then Reads.File (file_record ino core slot link (held_extents es) no_attrs)
      else if has_leaf no_attrs then Reads.FileWithoutAttrs (file_record ino core slot link (held_extents es) no_attrs) else Reads.Unsound)
      (and_from (is_counted core (held_extents es) no_attrs) (is_off_attributes v (held_extents es) no_attrs) counted_is refl)
      ∙ ap (λ (f : FileRec). Reads.File f) record_is)

  pub bare_reads : used_file v ino core slot tree leaf link ≡ Reads.File (bare_file ino core es target device)
  bare_reads =
      ap (λ (f : Option ℕ). with_feature f (if is_core core then with_data v ino core slot leaf link (data_fork core slot tree) else Reads.Unsound)) no_feature
      ∙ (ap (λ (t : Bool). if t then with_data v ino core slot leaf link (data_fork core slot tree) else Reads.Unsound) core_is
      ∙ (ap (with_data v ino core slot leaf link) is.held
      ∙ (ap (λ (t : Bool). if t then with_attrs v ino core slot link (held_extents es) (attr_fork v ino core slot leaf) else Reads.Unsound) whole_is
      ∙ attrs_are)))
