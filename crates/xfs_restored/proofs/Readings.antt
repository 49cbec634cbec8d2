-- What a slot with a file was read as, and back: by its core, what its data fork holds, and its attribute fork.
use Rattle.std.proofs.Common.{◌≡◌, ℕ, Bool, true, false, not, ◌==◌, ◌&&◌, if◌then◌else◌, List, Option, Some, None, refl, sym, ap, ◌∙◌, subst}
use Rattle.std.proofs.lemmas.Bool.{and_from, and_parts}
use Rattle.xfs_word.specs.declared.extents.Extent.{Extent}
use Rattle.xfs_geom.specs.Volumes.{Volume}
use Rattle.xfs_tree.specs.Reading.{Contents}
use Rattle.xfs_volume.specs.declared.cores.Core.{Core}
use Rattle.xfs_volume.specs.declared.files.FileRec.{FileRec}
use Rattle.xfs_inode.specs.Cores.{stated_core}
use Rattle.xfs_inode.specs.Files.{AttrFork, attr_fork, by_slot, data_fork, feature_of, file_record, file_read, has_leaf, is_core, is_counted, is_off_attributes, is_whole_fork, no_attrs, used_file, with_attrs, with_data, with_feature}
use Rattle.xfs_inode.specs.Forks.{attr_place}
use Rattle.xfs_inode.specs.Slots.{slot_read, slot_seal, unsupported, used_read}
use Rattle.xfs_word.specs.Seal.{is_sealed}
use Rattle.xfs_inode.specs.declared.files.FileRead.{FileRead}
use Rattle.xfs_inode.specs.declared.files.FileRead.TheVariants as Reads
use Rattle.xfs_inode.specs.declared.reading.SlotRead.{SlotRead}
use Rattle.xfs_inode.specs.declared.reading.SlotRead.TheVariants as Read

-- a reading is a file, with its attributes or without
abbrev pub HasFile : FileRead → Type 0
HasFile Reads.Free = ⊥
HasFile (Reads.File file) = Unit {0}
HasFile (Reads.FileWithoutAttrs file) = Unit {0}
HasFile (Reads.Unsupported what) = ⊥
HasFile Reads.Unsound = ⊥

-- a slot in use states the core that it reads as
pub stated : (v : Volume) (ino : ℕ) (slot : List ℕ) (core : Core) → slot_read v ino slot ≡ Read.InUse core → stated_core slot ≡ core
unfolding slot_read
stated v ino slot core is = by_seal (is_sealed (slot_seal v ino) slot) ((stated_core slot).mode == 0) (unsupported (stated_core slot) slot) is
  where
    by_seal : (sealed free : Bool) (what : Option ℕ) → (if not sealed then Read.Unsound else (if free then Read.Free else used_read (stated_core slot) what)) ≡ Read.InUse core → stated_core slot ≡ core
    by_seal true false None read = cc
    by_seal true false (Some what) read = absurd cc
    by_seal true true what read = absurd cc
    by_seal false free what read = absurd cc

module _ (v : Volume) (ino : ℕ) (slot : List ℕ) (tree : Option (Contents Extent)) (attr_leaf link : Option (List ℕ)) where
  -- all but the attribute fork of a slot that reads as a file
  pub record HasData (read : FileRead) : Type 0 where
    pub core : Core
    pub held : Contents Extent
    pub in_use : slot_read v ino slot ≡ Read.InUse core
    pub supported : feature_of v ino (attr_place v core slot) attr_leaf ≡ None
    pub keeps : is_core core ≡ true
    pub data_reads : data_fork core slot tree ≡ Some held
    pub whole : is_whole_fork v ino core slot link held ≡ true
    pub attrs : with_attrs v ino core slot link held (attr_fork v ino core slot attr_leaf) ≡ read

  no_file : (read : FileRead) {P : Type 0} → HasFile read → Reads.Unsound ≡ read → P
  no_file read has is = absurd (subst HasFile (sym is) has)

  used_has : (read : FileRead) → HasFile read → (core : Core) → slot_read v ino slot ≡ Read.InUse core → used_file v ino core slot tree attr_leaf link ≡ read → HasData read
  used_has read has core in_use is = by_feature (feature_of v ino (attr_place v core slot) attr_leaf) refl is
    where
      by_whole : feature_of v ino (attr_place v core slot) attr_leaf ≡ None → is_core core ≡ true → (held : Contents Extent) → data_fork core slot tree ≡ Some held
          → (t : Bool) → is_whole_fork v ino core slot link held ≡ t
          → (if t then with_attrs v ino core slot link held (attr_fork v ino core slot attr_leaf) else Reads.Unsound) ≡ read → HasData read
      by_whole supported keeps held read_data true whole is =
          record { core = core; held = held; in_use = in_use; supported = supported; keeps = keeps; data_reads = read_data; whole = whole; attrs = is }
      by_whole supported keeps held read_data false whole is = no_file read has is

      by_data : feature_of v ino (attr_place v core slot) attr_leaf ≡ None → is_core core ≡ true → (held : Option (Contents Extent)) → data_fork core slot tree ≡ held
          → with_data v ino core slot attr_leaf link held ≡ read → HasData read
      by_data supported keeps None read_data is = no_file read has is
      by_data supported keeps (Some held) read_data is = by_whole supported keeps held read_data (is_whole_fork v ino core slot link held) refl is

      by_core : feature_of v ino (attr_place v core slot) attr_leaf ≡ None → (t : Bool) → is_core core ≡ t
          → (if t then with_data v ino core slot attr_leaf link (data_fork core slot tree) else Reads.Unsound) ≡ read → HasData read
      by_core supported true keeps is = by_data supported keeps (data_fork core slot tree) refl is
      by_core supported false keeps is = no_file read has is

      by_feature : (what : Option ℕ) → feature_of v ino (attr_place v core slot) attr_leaf ≡ what
          → with_feature what (if is_core core then with_data v ino core slot attr_leaf link (data_fork core slot tree) else Reads.Unsound) ≡ read → HasData read
      by_feature None supported is = by_core supported (is_core core) refl is
      by_feature (Some what) supported is = absurd (subst HasFile (sym is) has)

  slot_has : (read : FileRead) → HasFile read → (of : SlotRead) → slot_read v ino slot ≡ of → by_slot v ino of slot tree attr_leaf link ≡ read → HasData read
  slot_has read has Read.Unsound in_use is = no_file read has is
  slot_has read has Read.Free in_use is = absurd (subst HasFile (sym is) has)
  slot_has read has (Read.Unsupported what) in_use is = absurd (subst HasFile (sym is) has)
  slot_has read has (Read.InUse core) in_use is = used_has read has core in_use is

  pub file_has : (read : FileRead) → HasFile read → file_read v ino slot tree attr_leaf link ≡ read → HasData read
  unfolding file_read
  file_has read has is = slot_has read has (slot_read v ino slot) refl is

  -- the attribute fork of a file
  pub record HasAttrs (core : Core) (held : Contents Extent) (file : FileRec) : Type 0 where
    pub fork : AttrFork
    pub reads : attr_fork v ino core slot attr_leaf ≡ Some fork
    pub counted : is_counted core held fork ≡ true
    pub clear : is_off_attributes v held fork ≡ true
    pub is : file_record ino core slot link held fork ≡ file

  pub attrs_have : (core : Core) (held : Contents Extent) (file : FileRec) → with_attrs v ino core slot link held (attr_fork v ino core slot attr_leaf) ≡ Reads.File file → HasAttrs core held file
  attrs_have core held file is = by_fork (attr_fork v ino core slot attr_leaf) refl is
    where
      by_tests : (fork : AttrFork) → attr_fork v ino core slot attr_leaf ≡ Some fork → (t u : Bool) → (is_counted core held fork && is_off_attributes v held fork) ≡ t
          → (if t then Reads.File (file_record ino core slot link held fork) else if u then Reads.FileWithoutAttrs (file_record ino core slot link held no_attrs) else Reads.Unsound) ≡ Reads.File file
          → HasAttrs core held file
      by_tests fork reads true u tests is =
          let parts = and_parts (is_counted core held fork) (is_off_attributes v held fork) tests in
          record { fork = fork; reads = reads; counted = parts.0; clear = parts.1; is = cc }
      by_tests fork reads false true tests is = absurd cc
      by_tests fork reads false false tests is = absurd cc

      by_fork : (fork : Option AttrFork) → attr_fork v ino core slot attr_leaf ≡ fork → with_attrs v ino core slot link held fork ≡ Reads.File file → HasAttrs core held file
      by_fork None reads is = absurd cc
      by_fork (Some fork) reads is = by_tests fork reads (is_counted core held fork && is_off_attributes v held fork) (has_leaf fork) refl is

  -- of a file that lost its attributes
  pub bare_is : (core : Core) (held : Contents Extent) (file : FileRec) → with_attrs v ino core slot link held (attr_fork v ino core slot attr_leaf) ≡ Reads.FileWithoutAttrs file
      → file_record ino core slot link held no_attrs ≡ file
  bare_is core held file is = by_fork (attr_fork v ino core slot attr_leaf) is
    where
      by_tests : (fork : AttrFork) (t u : Bool)
          → (if t then Reads.File (file_record ino core slot link held fork) else if u then Reads.FileWithoutAttrs (file_record ino core slot link held no_attrs) else Reads.Unsound)
          ≡ Reads.FileWithoutAttrs file → file_record ino core slot link held no_attrs ≡ file
      by_tests fork true u is = absurd cc
      by_tests fork false true is = cc
      by_tests fork false false is = absurd cc

      by_fork : (fork : Option AttrFork) → with_attrs v ino core slot link held fork ≡ Reads.FileWithoutAttrs file → file_record ino core slot link held no_attrs ≡ file
      by_fork None is = cc
      by_fork (Some fork) is = by_tests fork (is_counted core held fork && is_off_attributes v held fork) (has_leaf fork) is

  -- and back
  pub reads_file : (core : Core) (held : Contents Extent) (fork : AttrFork) → slot_read v ino slot ≡ Read.InUse core → feature_of v ino (attr_place v core slot) attr_leaf ≡ None
      → is_core core ≡ true → data_fork core slot tree ≡ Some held → is_whole_fork v ino core slot link held ≡ true → attr_fork v ino core slot attr_leaf ≡ Some fork
      → is_counted core held fork ≡ true → is_off_attributes v held fork ≡ true
      → file_read v ino slot tree attr_leaf link ≡ Reads.File (file_record ino core slot link held fork)
  unfolding file_read
  reads_file core held fork in_use supported keeps read_data whole attrs counted clear =
      ap (λ (read : SlotRead). by_slot v ino read slot tree attr_leaf link) in_use
      ∙ (ap (λ (what : Option ℕ). with_feature what (if is_core core then with_data v ino core slot attr_leaf link (data_fork core slot tree) else Reads.Unsound)) supported
      ∙ (ap (λ (t : Bool). if t then with_data v ino core slot attr_leaf link (data_fork core slot tree) else Reads.Unsound) keeps
      ∙ (ap (with_data v ino core slot attr_leaf link) read_data
      ∙ (ap (λ (t : Bool). if t then with_attrs v ino core slot link held (attr_fork v ino core slot attr_leaf) else Reads.Unsound) whole
      ∙ (ap (with_attrs v ino core slot link held) attrs
      ∙ ap (λ (t : Bool). if t then Reads.File (file_record ino core slot link held fork) else if has_leaf fork then Reads.FileWithoutAttrs (file_record ino core slot link held no_attrs) else Reads.Unsound)
      (and_from (is_counted core held fork) (is_off_attributes v held fork) counted clear))))))
