-- The files of a view lie in the volume, with all their extents.
use Rattle.std.proofs.Common.{◌≡◌, inl, inr, ℕ, ◌+◌, ◌-◌, ◌^◌, ◌<◌, Bool, true, false, ◌==◌, ◌&&◌, nat_le, nat_lt, if◌then◌else◌, List, [], ◌∷◌, Option, Some, None, Result, Ok, Err, refl, subst, arith}
use Rattle.std.specs.List.{All}
use Rattle.std.proofs.lemmas.Bool.{and_parts, and_from, eqb-true, le-leb, lt-ltb, ltb-true}
use Rattle.std.proofs.lemmas.List.Elements.{All-cons, All-nil, All-same}
use Rattle.xfs_disk.specs.Blocks.{Image}
use Rattle.xfs_word.specs.Field.{part_of}
use Rattle.xfs_word.specs.Seal.{is_sealed}
use Rattle.xfs_word.specs.declared.extents.Extent.{Extent}
use Rattle.xfs_attr.specs.Leaf.{leaf_of}
use Rattle.xfs_attr.specs.ShortForm.{short_attributes}
use Rattle.xfs_attr.specs.declared.attributes.Attr.{Attr}
use Rattle.xfs_attr.specs.declared.attributes.AttrFault.{AttrFault}
use Rattle.xfs_geom.specs.Conversions.{block_at, group_length, is_address}
use Rattle.xfs_geom.specs.Groups.{ag_block_of_address, block_of_address, group_of_address}
use Rattle.xfs_geom.specs.Volumes.{Volume}
use Rattle.xfs_tree.specs.Reading.{Contents}
use Rattle.xfs_tree.specs.Rules.{are_lawful}
use Rattle.xfs_kinds.specs.FileTreeLaws.{extent_packable}
use Rattle.xfs_kinds.specs.FileTrees.{bmbt_shape, extent_of, fits_extent, follows_offset, is_extent}
use Rattle.xfs_kinds.specs.Groups.{lies_in_one_group}
use Rattle.xfs_volume.specs.declared.cores.Core.{Core}
use Rattle.xfs_volume.specs.declared.files.FileRec.{FileRec}
use Rattle.xfs_inode.proofs.Sound.{always_sound}
use Rattle.xfs_inode.specs.Files.{AttrFork, are_blocks, are_extents, attr_fork, by_slot, data_fork, feature_of, file_record, file_read, fork_with, has_leaf, index_seal, is_off_attributes, is_core, is_counted, is_attr_leaf, is_whole_fork, leaf_held, no_attrs, used_file, with_attrs, with_data, with_feature}
use Rattle.xfs_inode.specs.Forks.{attr_extent, attr_place, has_attr_extent, only_block}
use Rattle.xfs_inode.specs.Slots.{attribute_start, slot_read}
use Rattle.xfs_inode.specs.Sound.{IsSound, IsWholeFile}
use Rattle.xfs_inode.specs.declared.files.FileRead.{FileRead}
use Rattle.xfs_inode.specs.declared.files.FileRead.TheVariants as Reads
use Rattle.xfs_inode.specs.declared.reading.SlotRead.{SlotRead}
use Rattle.xfs_inode.specs.declared.reading.SlotRead.TheVariants as Read
use Rattle.xfs_laws.specs.xfs_space.Parts.{HasLawfulForks}
use Rattle.xfs_image.specs.Files.{AreFilesRead}
use Rattle.xfs_image.specs.Slots.{reads_as, slot_bytes}

-- the extents of an attribute fork are those of a volume
abbrev HasExtents : Volume → Option AttrFork → Type 0
HasExtents v None = Unit {0}
HasExtents v (Some fork) = are_extents v None fork.extents ≡ true

if_has : (v : Volume) (t : Bool) (a b : Option AttrFork) → HasExtents v a → HasExtents v b → HasExtents v (if t then a else b)
if_has v true a b one other = one
if_has v false a b one other = other

with_has : (v : Volume) (extents : List Extent) (blocks : List ℕ) (attrs : Result (List Attr) AttrFault) → are_extents v None extents ≡ true
    → HasExtents v (fork_with extents blocks attrs)
with_has v extents blocks (Ok attrs) all = all
with_has v extents blocks (Err fault) all = tt

-- the one block of an extent lies in the volume
record IsBlock (v : Volume) (e : Extent) : Type 0 where
  count : e.count ≡ 1
  group : group_of_address v.agblklog e.start < v.agcount
  inside : ag_block_of_address v.agblklog e.start < group_length v (group_of_address v.agblklog e.start)

block_is : (v : Volume) (e : Extent) (place : ℕ) → only_block v e ≡ Some place → IsBlock v e
unfolding block_at
block_is v e place only = by_count (e.count == 1) refl only
  where
    by_place : (t : Bool) → is_address v e.start ≡ t → (if t then Some (block_of_address v.agblocks v.agblklog e.start) else None) ≡ Some place
        → is_address v e.start ≡ true
    by_place true is h = is
    by_place false is h = absurd cc

    by_count : (t : Bool) → (e.count == 1) ≡ t → (if t then block_at v e.start else None) ≡ Some place → IsBlock v e
    by_count true one h =
        let group = group_of_address v.agblklog e.start in
        let both = and_parts (nat_lt group v.agcount) (nat_lt (ag_block_of_address v.agblklog e.start) (group_length v group)) (by_place (is_address v e.start) refl h) in
        record { count = eqb-true e.count 1 one; group = ltb-true group v.agcount both.0; inside = ltb-true _ (group_length v group) both.1 }
    by_count false one h = absurd cc

extent_fits : (bytes : List ℕ) → fits_extent (extent_of bytes) ≡ true
extent_fits bytes =
    let e = extent_of bytes in
    let is = extent_packable bytes in
    and_from (nat_lt e.offset (2 ^ 54) && nat_lt e.start (2 ^ 52)) (nat_lt e.count (2 ^ 21))
    (and_from (nat_lt e.offset (2 ^ 54)) (nat_lt e.start (2 ^ 52)) (lt-ltb e.offset (2 ^ 54) is.offset) (lt-ltb e.start (2 ^ 52) is.start))
    (lt-ltb e.count (2 ^ 21) is.count)

-- an extent of one block at the begin of a fork
one_extent : (v : Volume) (e : Extent) → fits_extent e ≡ true → e.offset ≡ 0 → IsBlock v e → are_extents v None (e ∷ []) ≡ true
one_extent v e fits first is =
    let group = group_of_address v.agblklog e.start in
    let place = ag_block_of_address v.agblklog e.start in
    let some : nat_le 1 e.count ≡ true = le-leb 1 e.count (omega (arith, is.count)) in
    let short : nat_le (e.offset + e.count) (2 ^ 54 - 1) ≡ true = le-leb (e.offset + e.count) (2 ^ 54 - 1) (omega (arith, is.count, first)) in
    let lies : lies_in_one_group v e.start e.count ≡ true =
    and_from (nat_lt group v.agcount) (nat_le (place + e.count) (group_length v group)) (lt-ltb group v.agcount is.group)
    (le-leb (place + e.count) (group_length v group) (let one = is.count in let inside = is.inside in omega (arith, one, inside))) in
    let a = and_from (fits_extent e) (nat_le 1 e.count) fits some in
    let b = and_from (fits_extent e && nat_le 1 e.count) (nat_le (e.offset + e.count) (2 ^ 54 - 1)) a short in
    let c = and_from (fits_extent e && nat_le 1 e.count && nat_le (e.offset + e.count) (2 ^ 54 - 1)) (lies_in_one_group v e.start e.count) b lies in
    and_from (is_extent v e && follows_offset None e) (are_extents v (Some e) []) (and_from (is_extent v e) (follows_offset None e) c refl) refl

leaf_has : (v : Volume) (ino : ℕ) (core : Core) (slot : List ℕ) (place : Option ℕ) (attr_leaf : Option (List ℕ)) → attr_place v core slot ≡ place
    → HasExtents v (leaf_held v ino core slot place attr_leaf)
leaf_has v ino core slot None attr_leaf named = tt
leaf_has v ino core slot (Some place) None named = tt
leaf_has v ino core slot (Some place) (Some block) named = by_leaf (is_attr_leaf v ino core slot place block) refl
  where
    by_extent : (t : Bool) → (if t then only_block v (attr_extent core slot) else None) ≡ Some place → only_block v (attr_extent core slot) ≡ Some place
    by_extent true h = h
    by_extent false h = absurd cc

    by_leaf : (t : Bool) → is_attr_leaf v ino core slot place block ≡ t
        → HasExtents v (if t then fork_with (attr_extent core slot ∷ []) (place ∷ []) (leaf_of block) else None)
    by_leaf true is =
        let first = (and_parts ((attr_extent core slot).offset == 0) (is_sealed (index_seal v ino 0x3bee place) block) is).0 in
        with_has v (attr_extent core slot ∷ []) (place ∷ []) (leaf_of block)
        (one_extent v (attr_extent core slot) (extent_fits (part_of slot (attribute_start core.forkoff) 16)) (eqb-true (attr_extent core slot).offset 0 first)
        (block_is v (attr_extent core slot) place (by_extent (has_attr_extent core) named)))
    by_leaf false is = tt

fork_has : (v : Volume) (ino : ℕ) (core : Core) (slot : List ℕ) (attr_leaf : Option (List ℕ)) → HasExtents v (attr_fork v ino core slot attr_leaf)
fork_has v ino core slot attr_leaf =
    if_has v (core.forkoff == 0) _ _ refl
    (if_has v (core.aformat == 1) _ _ (with_has v [] [] (short_attributes (part_of slot (attribute_start core.forkoff) (512 - attribute_start core.forkoff))) refl)
    (if_has v (core.aformat == 2) _ None
    (if_has v (core.anextents == 0) _ _ refl (leaf_has v ino core slot (attr_place v core slot) attr_leaf refl)) tt))

-- the extents of a file's attributes are those of a volume, whatever its slot reads as
abbrev HasAttr : Volume → FileRead → Type 0
HasAttr v Reads.Free = Unit {0}
HasAttr v (Reads.File file) = are_extents v None file.rest.attr_extents ≡ true
HasAttr v (Reads.FileWithoutAttrs file) = Unit {0}
HasAttr v (Reads.Unsupported what) = Unit {0}
HasAttr v Reads.Unsound = Unit {0}

if_attr : (v : Volume) (t : Bool) (a b : FileRead) → HasAttr v a → HasAttr v b → HasAttr v (if t then a else b)
if_attr v true a b one other = one
if_attr v false a b one other = other

attrs_attr : (v : Volume) (ino : ℕ) (core : Core) (slot : List ℕ) (link : Option (List ℕ)) (held : Contents Extent) (fork : Option AttrFork) → HasExtents v fork
    → HasAttr v (with_attrs v ino core slot link held fork)
attrs_attr v ino core slot link held None has = tt
attrs_attr v ino core slot link held (Some fork) has =
    if_attr v (is_counted core held fork && is_off_attributes v held fork) (Reads.File (file_record ino core slot link held fork)) _ has
    (if_attr v (has_leaf fork) (Reads.FileWithoutAttrs (file_record ino core slot link held no_attrs)) Reads.Unsound tt tt)

data_attr : (v : Volume) (ino : ℕ) (core : Core) (slot : List ℕ) (attr_leaf link : Option (List ℕ)) (held : Option (Contents Extent))
    → HasAttr v (with_data v ino core slot attr_leaf link held)
data_attr v ino core slot attr_leaf link None = tt
data_attr v ino core slot attr_leaf link (Some held) =
    if_attr v (is_whole_fork v ino core slot link held) (with_attrs v ino core slot link held (attr_fork v ino core slot attr_leaf)) Reads.Unsound
    (attrs_attr v ino core slot link held (attr_fork v ino core slot attr_leaf) (fork_has v ino core slot attr_leaf)) tt

feature_attr : (v : Volume) (what : Option ℕ) (read : FileRead) → HasAttr v read → HasAttr v (with_feature what read)
feature_attr v None read has = has
feature_attr v (Some what) read has = tt

used_attr : (v : Volume) (ino : ℕ) (core : Core) (slot : List ℕ) (tree : Option (Contents Extent)) (attr_leaf link : Option (List ℕ))
    → HasAttr v (used_file v ino core slot tree attr_leaf link)
used_attr v ino core slot tree attr_leaf link =
    feature_attr v (feature_of v ino (attr_place v core slot) attr_leaf) _
    (if_attr v (is_core core) (with_data v ino core slot attr_leaf link (data_fork core slot tree)) Reads.Unsound
    (data_attr v ino core slot attr_leaf link (data_fork core slot tree)) tt)

slot_attr : (v : Volume) (ino : ℕ) (read : SlotRead) (slot : List ℕ) (tree : Option (Contents Extent)) (attr_leaf link : Option (List ℕ))
    → HasAttr v (by_slot v ino read slot tree attr_leaf link)
slot_attr v ino Read.Unsound slot tree attr_leaf link = tt
slot_attr v ino Read.Free slot tree attr_leaf link = tt
slot_attr v ino (Read.Unsupported what) slot tree attr_leaf link = tt
slot_attr v ino (Read.InUse core) slot tree attr_leaf link = used_attr v ino core slot tree attr_leaf link

always_attr : (v : Volume) (ino : ℕ) (slot : List ℕ) (tree : Option (Contents Extent)) (attr_leaf link : Option (List ℕ))
    → HasAttr v (file_read v ino slot tree attr_leaf link)
unfolding file_read
always_attr v ino slot tree attr_leaf link = slot_attr v ino (slot_read v ino slot) slot tree attr_leaf link

-- extents of a volume in file order are lawful records
as_lawful : (v : Volume) (ino : ℕ) (before : Option Extent) (es : List Extent) → are_extents v before es ≡ true → are_lawful (bmbt_shape ino) v before es ≡ true
as_lawful v ino before [] all = refl
as_lawful v ino before (e ∷ es) all =
    let parts = and_parts (is_extent v e && follows_offset before e) (are_extents v (Some e) es) all in
    and_from (is_extent v e && follows_offset before e) (are_lawful (bmbt_shape ino) v (Some e) es) parts.0 (as_lawful v ino (Some e) es parts.1)

as_blocks : (v : Volume) (blocks : List ℕ) → are_blocks v blocks ≡ true → All (λ block. block < v.dblocks) blocks
as_blocks v [] all = All-nil (λ block. block < v.dblocks)
as_blocks v (block ∷ blocks) all =
    let parts = and_parts (nat_lt block v.dblocks) (are_blocks v blocks) all in
    All-cons (λ b. b < v.dblocks) block blocks (ltb-true block v.dblocks parts.0) (as_blocks v blocks parts.1)

-- a file that reads is one of its inode, with all that it has in the volume
pub file_sound : (v : Volume) (image : Image) (ino : ℕ) (file : FileRec) → reads_as v image ino ≡ Reads.File file → IsWholeFile v ino file
unfolding reads_as
file_sound v image ino file reads = subst (IsSound v ino) reads (always_sound v ino (slot_bytes v image ino) _ _ _)

file_attr : (v : Volume) (image : Image) (ino : ℕ) (file : FileRec) → reads_as v image ino ≡ Reads.File file → are_extents v None file.rest.attr_extents ≡ true
unfolding reads_as
file_attr v image ino file reads = subst (HasAttr v) reads (always_attr v ino (slot_bytes v image ino) _ _ _)

pub file_is : (v : Volume) (image : Image) (ino : ℕ) (file : FileRec) → reads_as v image ino ≡ Reads.File file → HasLawfulForks v file
file_is v image ino file reads =
    let whole = file_sound v image ino file reads in record {
      extents = as_lawful v file.ino None file.extents whole.keeps.extents;
      attr_extents = as_lawful v file.ino None file.rest.attr_extents (file_attr v image ino file reads);
      tree = as_blocks v file.rest.tree whole.keeps.tree;
    }

pub files_are : (v : Volume) (image : Image) (inos : List ℕ) (files : List FileRec) → AreFilesRead v image inos files → All (HasLawfulForks v) files
files_are v image [] files read = All-same (HasLawfulForks v) files [] read (All-nil (HasLawfulForks v))
files_are v image (ino ∷ inos) files read =
    elim read [
      | inl free ↦ files_are v image inos files free.1
      | inr used ↦ All-same (HasLawfulForks v) files (used.0 ∷ used.1) used.3
          (All-cons (HasLawfulForks v) used.0 used.1 (file_is v image ino used.0 used.2) (files_are v image inos used.1 used.4))
    ]
