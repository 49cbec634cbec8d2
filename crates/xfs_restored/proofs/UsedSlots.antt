-- The slot of a directory reads as it, by its core, its extents and its attributes.
use Rattle.std.proofs.Common.{◌≡◌, ℕ, Bool, true, not, ◌+◌, ◌*◌, ◌^◌, ◌≤◌, ◌==◌, ◌&&◌, ◌||◌, nat_le, nat_lt, if◌then◌else◌, List, [], length, map, Option, Some, None, refl, ap, ◌∙◌, append-nil, arith}
use Rattle.std.proofs.lemmas.Bool.{and_from, eq-eqb, le-leb, lt-ltb}
use Rattle.xfs_word.specs.Field.{field_of, part_of}
use Rattle.xfs_word.specs.declared.extents.Extent.{Extent}
use Rattle.xfs_geom.specs.Volumes.{Volume}
use Rattle.xfs_tree.specs.Blocks.{each_of}
use Rattle.xfs_tree.specs.Reading.{Contents}
use Rattle.xfs_inode.specs.Files.{AttrFork, are_blocks, are_extents, attr_fork, data_fork, extent_blocks, extents_held, file_record, has_forkoff, has_format, has_leaf, has_link_target, is_core, is_counted, is_link, is_local_whole, is_off_attributes, is_placed, is_whole_fork, no_attrs, none_held, range_of, ranges_apart, ranges_of, states_no_fork, target_in, tree_held, used_file, with_attrs, with_data, with_feature}
use Rattle.xfs_inode.specs.Forks.{core_type, fork_extent, link_place}
use Rattle.xfs_inode.specs.Slots.{fork_bytes}
use Rattle.xfs_inode.specs.declared.files.FileRead.TheVariants as Reads
use Rattle.xfs_volume.specs.declared.cores.Core.{Core}
use Rattle.xfs_volume.specs.declared.files.FileRec.{FileRec}
use Rattle.xfs_restored.specs.Reading.{HasAttributes, IsDirectoryCore, directory_file, fork_contents}

module _ (v : Volume) (ino : ℕ) (core : Core) (slot : List ℕ) (tree : Option (Contents Extent)) (leaf link : Option (List ℕ)) (es : List Extent) (fork : AttrFork)
    (is : IsDirectoryCore core es fork) (attributes : HasAttributes v ino core slot leaf es fork) where
  core_is : has_format 4 core.format ≡ true → is_local_whole core ≡ true → is_core core ≡ true
  core_is format local =
      and_from (has_format (core_type core) core.format && has_forkoff (core_type core) core.forkoff && nat_lt core.size (2 ^ 63) && (not (core.forkoff == 0) || states_no_fork core)) (is_local_whole core)
      (and_from (has_format (core_type core) core.format && has_forkoff (core_type core) core.forkoff && nat_lt core.size (2 ^ 63)) (not (core.forkoff == 0) || states_no_fork core)
      (and_from (has_format (core_type core) core.format && has_forkoff (core_type core) core.forkoff) (nat_lt core.size (2 ^ 63))
      (and_from (has_format (core_type core) core.format) (has_forkoff (core_type core) core.forkoff)
      (ap (λ (t : ℕ). has_format t core.format) is.type' ∙ format) (ap (λ (t : ℕ). has_forkoff t core.forkoff) is.type' ∙ attributes.forkoff'))
      (lt-ltb core.size (2 ^ 63) is.size'))
      attributes.stated')
      local

  whole_is : are_extents v None es ≡ true → ranges_apart (map (range_of v) es) ≡ true → is_whole_fork v ino core slot link (fork_contents es) ≡ true
  whole_is placed apart =
      and_from (has_link_target v ino core slot link && is_placed v (fork_contents es)) (ranges_apart (ranges_of v (fork_contents es)))
      (and_from (has_link_target v ino core slot link) (is_placed v (fork_contents es))
      (ap (λ (t : ℕ). not (t == 10 && core.format == 2) || is_link v ino core slot (link_place v core slot) link) is.type')
      (and_from (are_extents v None es) (are_blocks v []) placed refl))
      (ap ranges_apart (append-nil (map (range_of v) es)) ∙ apart)

  record_is : file_record ino core slot link (fork_contents es) fork ≡ directory_file ino core es fork
  record_is =
      ap (λ (t : ℕ). let f : FileRec = record {
        ino = ino;
        core = core;
        extents = es;
        rest = record {
          attr_extents = fork.extents;
          tree = [];
          attrs = fork.attrs;
          target = if t == 10 && core.format == 1 then part_of slot 176 core.size else if t == 10 && core.format == 2 then target_in core link else [];
          device = if t == 2 || t == 6 then field_of slot 176 4 else 0;
        };
      } in f) is.type'

  counted_is : is_counted core (fork_contents es) fork ≡ true
  counted_is = let blocks = is.nblocks' in eq-eqb core.nblocks (extent_blocks es + 0 + length fork.blocks) (omega (arith, blocks))

  attrs_are : with_attrs v ino core slot link (fork_contents es) (attr_fork v ino core slot leaf) ≡ Reads.File (directory_file ino core es fork)
  attrs_are =
      ap (with_attrs v ino core slot link (fork_contents es)) attributes.fork'
      ∙ (ap (λ (t : Bool). if t then Reads.File (file_record ino core slot link (fork_contents es) fork)
      else if has_leaf fork then Reads.FileWithoutAttrs (file_record ino core slot link (fork_contents es) no_attrs) else Reads.Unsound)
      (and_from (is_counted core (fork_contents es) fork) (is_off_attributes v (fork_contents es) fork) counted_is attributes.off)
      ∙ ap (λ (f : FileRec). Reads.File f) record_is)

  pub directory_reads : has_format 4 core.format ≡ true → is_local_whole core ≡ true → data_fork core slot tree ≡ Some (fork_contents es) → are_extents v None es ≡ true
      → ranges_apart (map (range_of v) es) ≡ true → used_file v ino core slot tree leaf link ≡ Reads.File (directory_file ino core es fork)
  directory_reads format local held placed apart =
      ap (λ (f : Option ℕ). with_feature f (if is_core core then with_data v ino core slot leaf link (data_fork core slot tree) else Reads.Unsound)) attributes.feature
      ∙ (ap (λ (t : Bool). if t then with_data v ino core slot leaf link (data_fork core slot tree) else Reads.Unsound) (core_is format local)
      ∙ (ap (with_data v ino core slot leaf link) held
      ∙ (ap (λ (t : Bool). if t then with_attrs v ino core slot link (fork_contents es) (attr_fork v ino core slot leaf) else Reads.Unsound) (whole_is placed apart)
      ∙ attrs_are)))

-- the data fork of a directory with extents, and of one in short form
pub extents_fork_held : (core : Core) (slot : List ℕ) (tree : Option (Contents Extent)) (n : ℕ) (es : List Extent) → core.format ≡ 2 → core.nextents ≡ n → 16 * n ≤ fork_bytes core.forkoff
    → each_of n (fork_extent slot) ≡ es → data_fork core slot tree ≡ Some (fork_contents es)
extents_fork_held core slot tree n es format nextents room same =
    ap (λ (k : ℕ). if k == 2 then extents_held core slot else if k == 3 then tree_held core tree else none_held core) format
    ∙ (ap (λ (k : ℕ). if nat_le (16 * k) (fork_bytes core.forkoff) then Some (fork_contents (each_of k (fork_extent slot))) else None) nextents
    ∙ (ap (λ (t : Bool). if t then Some (fork_contents (each_of n (fork_extent slot))) else None) (le-leb (16 * n) (fork_bytes core.forkoff) room)
    ∙ ap (λ (xs : List Extent). Some (fork_contents xs)) same))

pub short_fork_held : (core : Core) (slot : List ℕ) (tree : Option (Contents Extent)) → core.format ≡ 1 → core.nextents ≡ 0 → data_fork core slot tree ≡ Some (fork_contents [])
short_fork_held core slot tree format nextents =
    ap (λ (k : ℕ). if k == 2 then extents_held core slot else if k == 3 then tree_held core tree else none_held core) format
    ∙ ap (λ (t : Bool). if t then Some (fork_contents []) else None) (eq-eqb core.nextents 0 nextents)

pub extents_local : (core : Core) → core.format ≡ 2 → is_local_whole core ≡ true
extents_local core format = ap (λ (k : ℕ). not (k == 1) || (nat_le core.size (fork_bytes core.forkoff) && (not (core_type core == 10) || nat_le 1 core.size))) format

pub short_local : (core : Core) → core_type core ≡ 4 → core.format ≡ 1 → core.size ≤ fork_bytes core.forkoff → is_local_whole core ≡ true
short_local core type format fits =
    ap (λ (k : ℕ). not (k == 1) || (nat_le core.size (fork_bytes core.forkoff) && (not (core_type core == 10) || nat_le 1 core.size))) format
    ∙ and_from (nat_le core.size (fork_bytes core.forkoff)) (not (core_type core == 10) || nat_le 1 core.size) (le-leb core.size (fork_bytes core.forkoff) fits)
    (ap (λ (t : ℕ). not (t == 10) || nat_le 1 core.size) type)
