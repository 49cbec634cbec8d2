-- A slot reads the same from another image that holds the same slot and the blocks that its file claims.
use Rattle.std.proofs.Common.{◌≡◌, ℕ, Bool, true, false, not, ◌+◌, ◌-◌, ◌*◌, ◌/◌, ◌%◌, ◌<◌, ◌==◌, ◌&&◌, nat_le, nat_lt, if◌then◌else◌, List, [], ◌∷◌, ◌++◌, length, map, Option, Some, None, Result, Ok, Err, inl, inr, slice_index_or, refl, sym, ap, ap₂, ◌∙◌, subst, arith}
use Rattle.std.specs.List.{Contains, flat_map, range_with_len}
use Rattle.std.specs.Option.{option_map, option_to_list}
use Rattle.std.proofs.lemmas.Bool.{and_parts, eqb-true, leb-true, ltb-true, not-true}
use Rattle.std.proofs.lemmas.List.Elements.{All-from_recursion}
use Rattle.std.proofs.lemmas.Option.{same_Some}
use Rattle.xfs_disk.specs.Blocks.{Image, bytes_of_block}
use Rattle.xfs_word.specs.Field.{part_of}
use Rattle.xfs_word.specs.declared.extents.Extent.{Extent}
use Rattle.xfs_attr.specs.Leaf.{leaf_of}
use Rattle.xfs_attr.specs.ShortForm.{short_attributes}
use Rattle.xfs_attr.specs.declared.attributes.Attr.{Attr}
use Rattle.xfs_attr.specs.declared.attributes.AttrFault.{AttrFault}
use Rattle.xfs_geom.specs.Conversions.{block_at, is_address}
use Rattle.xfs_geom.specs.Groups.{block_of_address}
use Rattle.xfs_geom.specs.Volumes.{Volume}
use Rattle.xfs_tree.specs.Blocks.{each_of}
use Rattle.xfs_tree.specs.Reading.{Contents, fault_above, met_above, reading, records_under, unless}
use Rattle.xfs_tree.specs.Seats.{seats_of}
use Rattle.xfs_tree.specs.declared.seats.Seat.{Seat}
use Rattle.xfs_tree.specs.declared.unread.Unread.{Unread}
use Rattle.xfs_kinds.specs.FileTrees.{bmbt_shape}
use Rattle.xfs_volume.specs.declared.cores.Core.{Core}
use Rattle.xfs_volume.specs.declared.files.FileRec.{FileRec}
use Rattle.xfs_inode.specs.Files.{AttrFork, attr_fork, by_slot, data_fork, extents_held, feature_of, file_record, file_read, fork_with, has_leaf, is_off_attributes, is_core, is_counted, is_attr_leaf, is_whole_fork, leaf_held, no_attrs, none_held, tree_held, with_attrs, with_data, with_feature}
use Rattle.xfs_inode.specs.Forks.{Top, attr_extent, attr_place, fork_extent, has_attr_extent, has_link_extent, is_fork_root, level_under, link_place, only_block, root_capacity, top_of, core_type}
use Rattle.xfs_inode.specs.Named.{attr_named, held_by, link_named, named_attr, named_link, named_top, slot_reads, top_named, tree_under}
use Rattle.xfs_inode.specs.Slots.{attribute_start, slot_read, fork_bytes}
use Rattle.xfs_inode.specs.declared.files.FileRead.{FileRead}
use Rattle.xfs_inode.specs.declared.files.FileRead.TheVariants as Reads
use Rattle.xfs_inode.specs.declared.reading.SlotRead.{SlotRead}
use Rattle.xfs_inode.specs.declared.reading.SlotRead.TheVariants as Read
use Rattle.xfs_image.specs.Claims.{claims}
use Rattle.xfs_image.specs.Keeping.{Keeps, Protected, byte_in, byte_over, file_bytes, has_block}
use Rattle.xfs_image.specs.Slots.{reads_as, slot_bytes}
use Rattle.xfs_views.proofs.FileReads.{file_says}
use Rattle.xfs_views.proofs.Members.{Member, all_members, contained, contains, member_either}
use Rattle.xfs_views.specs.NamedBlocks.{blocks_named, blocks_of_top, named_blocks}
use Rattle.xfs_views.specs.SameFiles.{HasSameClaims, HasSameSlot}
use Rattle.xfs_views.proofs.NamedClaims.{attr_claimed, data_claimed, tree_claimed}
use Rattle.xfs_views.proofs.SlotsRead.{slot_stays}

-- what is there under a condition is there, and the condition holds
when_some : {A : Type 0} (t : Bool) (o : Option A) (x : A) → (if t then o else None) ≡ Some x → (t ≡ true) × (o ≡ Some x)
when_some true o x is = (refl, is)
when_some false o x is = absurd cc

-- a choice by a number that is known
abbrev by_format : {A : Type 0} → A → A → A → ℕ → A
by_format two three other format = if format == 2 then two else if format == 3 then three else other

-- the block of an extent that has just one
record IsOnly (v : Volume) (e : Extent) (block : ℕ) : Type 0 where
  one : e.count ≡ 1
  is : block_of_address v.agblocks v.agblklog e.start ≡ block

pub block_is : (v : Volume) (address block : ℕ) → block_at v address ≡ Some block → block_of_address v.agblocks v.agblklog address ≡ block
unfolding block_at
block_is v address block at =
    same_Some (block_of_address v.agblocks v.agblklog address) block (when_some (is_address v address) (Some (block_of_address v.agblocks v.agblklog address)) block at).1

only_is : (v : Volume) (e : Extent) (block : ℕ) → only_block v e ≡ Some block → IsOnly v e block
only_is v e block only =
    let counted = when_some (e.count == 1) (block_at v e.start) block only in
    record { one = eqb-true e.count 1 counted.0; is = block_is v e.start block counted.1 }

-- one of some extents has this block alone
record HasOnly (v : Volume) (es : List Extent) (block : ℕ) : Type 0 where
  extent : Extent
  among : Member extent es
  only : IsOnly v extent block

one_of : (place block : ℕ) → Member block (place ∷ []) → Some place ≡ Some block
one_of place block is = elim is [ inl same ↦ ap (λ (n : ℕ). Some n) same | inr none ↦ absurd none ]

-- what has read is the value
value_is : {A E : Type 0} (fault : Option E) (value due : A) → unless fault value ≡ Ok due → value ≡ due
value_is None value due reads = cc
value_is (Some fault) value due reads = absurd cc

-- a tree that is held has been read
held_reads : (r : Result (Contents Extent) Unread) (held : Contents Extent) → held_by r ≡ Some held → r ≡ Ok held
held_reads (Ok tree) held is = ap (λ (t : Contents Extent). Ok t) (same_Some tree held is)
held_reads (Err fault) held is = absurd cc

tree_is : (core : Core) (tree : Option (Contents Extent)) (held : Contents Extent) → tree_held core tree ≡ Some held → tree ≡ Some held
tree_is core None held is = absurd cc
tree_is core (Some tree) held is = (when_some (core.nextents == length tree.records) (Some tree) held is).1

-- the leaf that an attribute fork holds is in its extent
fork_has : (extents : List Extent) (blocks : List ℕ) (attrs : Result (List Attr) AttrFault) (fork : AttrFork) → fork_with extents blocks attrs ≡ Some fork → extents ≡ fork.extents
fork_has extents blocks (Ok attrs) fork is = ap (λ (f : AttrFork). f.extents) (same_Some (record { attrs = attrs; extents = extents; blocks = blocks }) fork is)
fork_has extents blocks (Err fault) fork is = absurd cc

leaf_has : (v : Volume) (ino : ℕ) (core : Core) (slot : List ℕ) (place : Option ℕ) (attr : Option (List ℕ)) (fork : AttrFork) → leaf_held v ino core slot place attr ≡ Some fork
    → attr_extent core slot ∷ [] ≡ fork.extents
leaf_has v ino core slot None attr fork is = absurd cc
leaf_has v ino core slot (Some place) None fork is = absurd cc
leaf_has v ino core slot (Some place) (Some block) fork is =
    fork_has (attr_extent core slot ∷ []) (place ∷ []) (leaf_of block) fork
    (when_some (is_attr_leaf v ino core slot place block) (fork_with (attr_extent core slot ∷ []) (place ∷ []) (leaf_of block)) fork is).1

-- a member of equal lists
first_of : (e : Extent) (es : List Extent) → e ∷ [] ≡ es → Member e es
first_of e es same = subst (λ (xs : List Extent). Member e xs) same (inl refl)

module _ (v : Volume) (image : Image) (ino : ℕ) (slot : List ℕ) (core : Core) where
  -- the blocks of a tree of extents that was read
  tree_has : (top : Option Top) → top ≡ top_of v core slot → (held : Contents Extent) → data_fork core slot (tree_under v image ino top) ≡ Some held → (block : ℕ)
      → Member block (blocks_of_top v image ino top) → Member block held.blocks
  tree_has None named held reads block is = absurd is
  tree_has (Some top) named held reads block is =
      let root = when_some (core.format == 3 && is_fork_root v core slot) (Some (level_under v (root_capacity core.forkoff) slot)) top (sym named) in
      let format : core.format ≡ 3 = eqb-true core.format 3 (and_parts (core.format == 3) (is_fork_root v core slot) root.0).0 in
      let tree : Option (Contents Extent) = tree_under v image ino (Some top) in
      let of_tree : data_fork core slot tree ≡ tree_held core tree = ap (by_format (extents_held core slot) (tree_held core tree) (none_held core)) format in
      let seats : List (Seat ℕ) = seats_of top.places top.lows [] in
      let read : reading (bmbt_shape ino) v image seats top.level ≡ Ok held =
      held_reads (reading (bmbt_shape ino) v image seats top.level) held (tree_is core tree held (sym of_tree ∙ reads)) in
      let blocks : met_above (bmbt_shape ino) v image seats (top.level + 1) ≡ held.blocks =
      ap (λ (c : Contents Extent). c.blocks)
      (value_is (fault_above (bmbt_shape ino) v image seats top.level (top.level + 1))
      (record { records = flat_map (records_under (bmbt_shape ino) v image top.level) seats; blocks = met_above (bmbt_shape ino) v image seats (top.level + 1) }) held read) in
      subst (λ (bs : List ℕ). Member block bs) blocks is

  -- the block of a leaf of attributes that was read
  attr_has : (place : Option ℕ) → place ≡ attr_place v core slot → (attr : Option (List ℕ)) (fork : AttrFork) → attr_fork v ino core slot attr ≡ Some fork → (block : ℕ)
      → Member block (option_to_list place) → HasOnly v fork.extents block
  attr_has None named attr fork reads block is = absurd is
  attr_has (Some place) named attr fork reads block is =
      let only = when_some (has_attr_extent core) (only_block v (attr_extent core slot)) place (sym named) in
      let a = and_parts (not (core.forkoff == 0) && core.aformat == 2 && core.anextents == 1) (nat_le (attribute_start core.forkoff + 16) 512) only.0 in
      let b = and_parts (not (core.forkoff == 0) && core.aformat == 2) (core.anextents == 1) a.0 in
      let c = and_parts (not (core.forkoff == 0)) (core.aformat == 2) b.0 in
      let is_there : (core.forkoff == 0) ≡ false = not-true (core.forkoff == 0) c.0 in
      let format : core.aformat ≡ 2 = eqb-true core.aformat 2 c.1 in
      let count : core.anextents ≡ 1 = eqb-true core.anextents 1 b.1 in
      let leaf : Option AttrFork = leaf_held v ino core slot (attr_place v core slot) attr in
      let short : Option AttrFork = fork_with [] [] (short_attributes (part_of slot (attribute_start core.forkoff) (512 - attribute_start core.forkoff))) in
      let some : Option AttrFork = if core.anextents == 0 then Some no_attrs else leaf in
      let is_leaf_fork : attr_fork v ino core slot attr ≡ leaf =
      ap (λ (t : Bool). if t then Some no_attrs else if core.aformat == 1 then short else if core.aformat == 2 then some else None) is_there
      ∙ (ap (λ (n : ℕ). if n == 1 then short else if n == 2 then some else None) format ∙ ap (λ (n : ℕ). if n == 0 then Some no_attrs else leaf) count) in
      let has = leaf_has v ino core slot (attr_place v core slot) attr fork (sym is_leaf_fork ∙ reads) in
      record { extent = attr_extent core slot; among = first_of (attr_extent core slot) fork.extents has; only = only_is v (attr_extent core slot) block (only.1 ∙ one_of place block is) }

  -- the block of a symbolic link
  link_has : (place : Option ℕ) → place ≡ link_place v core slot → (tree : Option (Contents Extent)) (held : Contents Extent) → data_fork core slot tree ≡ Some held → (block : ℕ)
      → Member block (option_to_list place) → HasOnly v held.records block
  link_has None named tree held reads block is = absurd is
  link_has (Some place) named tree held reads block is =
      let only = when_some (has_link_extent core) (only_block v (fork_extent slot 0)) place (sym named) in
      let a = and_parts (core_type core == 10 && core.format == 2 && core.nextents == 1 && nat_le core.forkoff 41) (nat_le 16 (fork_bytes core.forkoff)) only.0 in
      let b = and_parts (core_type core == 10 && core.format == 2 && core.nextents == 1) (nat_le core.forkoff 41) a.0 in
      let c = and_parts (core_type core == 10 && core.format == 2) (core.nextents == 1) b.0 in
      let d = and_parts (core_type core == 10) (core.format == 2) c.0 in
      let format : core.format ≡ 2 = eqb-true core.format 2 d.1 in
      let count : core.nextents ≡ 1 = eqb-true core.nextents 1 c.1 in
      let of_slot : data_fork core slot tree ≡ extents_held core slot = ap (by_format (extents_held core slot) (tree_held core tree) (none_held core)) format in
      let due : Contents Extent = record { records = each_of core.nextents (fork_extent slot); blocks = [] } in
      let fits = when_some (nat_le (16 * core.nextents) (fork_bytes core.forkoff)) (Some due) held (sym of_slot ∙ reads) in
      let one : fork_extent slot 0 ∷ [] ≡ each_of core.nextents (fork_extent slot) = ap (λ (n : ℕ). each_of n (fork_extent slot)) (sym count) in
      let has : fork_extent slot 0 ∷ [] ≡ held.records = one ∙ ap (λ (c : Contents Extent). c.records) (same_Some due held fits.1) in
      record { extent = fork_extent slot 0; among = first_of (fork_extent slot 0) held.records has; only = only_is v (fork_extent slot 0) block (only.1 ∙ one_of place block is) }

-- what a slot in use names
top_is : (v : Volume) (ino : ℕ) (slot : List ℕ) (core : Core) → slot_read v ino slot ≡ Read.InUse core → named_top v ino slot ≡ top_of v core slot
unfolding named_top
top_is v ino slot core in_use = ap (λ (read : SlotRead). top_named v read slot) in_use

attr_is : (v : Volume) (ino : ℕ) (slot : List ℕ) (core : Core) → slot_read v ino slot ≡ Read.InUse core → named_attr v ino slot ≡ attr_place v core slot
unfolding named_attr
attr_is v ino slot core in_use = ap (λ (read : SlotRead). attr_named v read slot) in_use

link_is : (v : Volume) (ino : ℕ) (slot : List ℕ) (core : Core) → slot_read v ino slot ≡ Read.InUse core → named_link v ino slot ≡ link_place v core slot
unfolding named_link
link_is v ino slot core in_use = ap (λ (read : SlotRead). link_named v read slot) in_use

-- the one block of an extent that a file claims
extent_claimed : (v : Volume) (f : FileRec) (es : List Extent) (block : ℕ)
    → ((e : Extent) (i : ℕ) → Member e es → i < e.count → claims v f (block_of_address v.agblocks v.agblklog e.start + i) ≡ true)
    → HasOnly v es block → claims v f block ≡ true
extent_claimed v f es block each has =
    let one = has.only.one in
    let is = has.only.is in
    let here : block_of_address v.agblocks v.agblklog has.extent.start + 0 ≡ block = omega (arith, is) in
    subst (λ (b : ℕ). claims v f b ≡ true) here (each has.extent 0 has.among (omega (arith, one)))

-- a file claims each block that its slot names
pub slot_claimed : (v : Volume) (image : Image) (ino : ℕ) (slot : List ℕ) (file : FileRec) → slot_reads v image ino slot ≡ Reads.File file
    → (block : ℕ) → Member block (blocks_named v image ino slot) → claims v file block ≡ true
slot_claimed v image ino slot file reads block named =
    let under : List ℕ = blocks_of_top v image ino (named_top v ino slot) in
    let leaf : List ℕ = option_to_list (named_attr v ino slot) in
    let target : List ℕ = option_to_list (named_link v ino slot) in
    let is = file_says v ino slot (tree_under v image ino (named_top v ino slot)) (option_map (bytes_of_block image) (named_attr v ino slot)) (option_map (bytes_of_block image) (named_link v ino slot)) file reads in
    let core : Core = is.core in
    let whole : FileRec = file_record ino core slot (option_map (bytes_of_block image) (named_link v ino slot)) is.held is.fork in
    subst (λ (f : FileRec). claims v f block ≡ true) (sym is.is)
    (elim (member_either block under (leaf ++ target) named) [
      | inl in_tree ↦ tree_claimed v whole block (tree_has v image ino slot core (named_top v ino slot) (top_is v ino slot core is.in_use) is.held is.data_reads block in_tree)
      | inr beside ↦ elim (member_either block leaf target beside) [
        | inl in_leaf ↦ extent_claimed v whole whole.rest.attr_extents block (attr_claimed v whole)
            (attr_has v image ino slot core (named_attr v ino slot) (attr_is v ino slot core is.in_use) (option_map (bytes_of_block image) (named_attr v ino slot)) is.fork is.attrs_read block in_leaf)
        | inr in_target ↦ extent_claimed v whole whole.extents block (data_claimed v whole)
            (link_has v image ino slot core (named_link v ino slot) (link_is v ino slot core is.in_use) (tree_under v image ino (named_top v ino slot)) is.held is.data_reads block in_target)
      ]
    ])

pub named_claimed : (v : Volume) (image : Image) (ino : ℕ) (file : FileRec) → reads_as v image ino ≡ Reads.File file → (block : ℕ) → Contains (named_blocks v image ino) block
    → claims v file block ≡ true
unfolding reads_as named_blocks
named_claimed v image ino file reads block named =
    slot_claimed v image ino (slot_bytes v image ino) file reads block (contained block (blocks_named v image ino (slot_bytes v image ino)) named)

pub file_stays : (v : Volume) (image now : Image) (ino : ℕ) (file : FileRec) → HasSameSlot v image now ino → HasSameClaims v image now file → reads_as v image ino ≡ Reads.File file
    → reads_as v now ino ≡ Reads.File file
file_stays v image now ino file slot claimed reads =
    slot_stays v image now ino slot
    (All-from_recursion (λ (block : ℕ). bytes_of_block now block ≡ bytes_of_block image block) (named_blocks v image ino)
    (all_members (λ (block : ℕ). bytes_of_block now block ≡ bytes_of_block image block) (named_blocks v image ino)
    (λ block is. claimed block (named_claimed v image ino file reads block (contains block (named_blocks v image ino) is)))))
    ∙ reads

-- a block that is not named is not read
none_same : (f h : ℕ → List ℕ) (place : Option ℕ) → place ≡ None → option_map f place ≡ option_map h place
none_same f h place is = ap (option_map f) is ∙ sym (ap (option_map h) is)

-- a slot that names no other block
pub alone_stays : (v : Volume) (image now : Image) (ino : ℕ) → HasSameSlot v image now ino → named_top v ino (slot_bytes v image ino) ≡ None → named_attr v ino (slot_bytes v image ino) ≡ None
    → named_link v ino (slot_bytes v image ino) ≡ None → reads_as v now ino ≡ reads_as v image ino
unfolding reads_as
alone_stays v image now ino slot top attr link =
    let at : List ℕ = slot_bytes v image ino in
    let tree : tree_under v now ino (named_top v ino at) ≡ tree_under v image ino (named_top v ino at) = ap (tree_under v now ino) top ∙ sym (ap (tree_under v image ino) top) in
    let leaf = none_same (bytes_of_block now) (bytes_of_block image) (named_attr v ino at) attr in
    let target = none_same (bytes_of_block now) (bytes_of_block image) (named_link v ino at) link in
    ap (slot_reads v now ino) slot ∙ (λ i. file_read v ino at (tree i) (leaf i) (target i))

-- a slot in use is not free, whatever it reads as
abbrev IsUsed : FileRead → Type 0
IsUsed Reads.Free = ⊥
IsUsed (Reads.File file) = Unit {0}
IsUsed (Reads.FileWithoutAttrs file) = Unit {0}
IsUsed (Reads.Unsupported what) = Unit {0}
IsUsed Reads.Unsound = Unit {0}

if_used : (t : Bool) (a b : FileRead) → IsUsed a → IsUsed b → IsUsed (if t then a else b)
if_used true a b one other = one
if_used false a b one other = other

attrs_used : (v : Volume) (ino : ℕ) (core : Core) (slot : List ℕ) (link : Option (List ℕ)) (held : Contents Extent) (fork : Option AttrFork)
    → IsUsed (with_attrs v ino core slot link held fork)
attrs_used v ino core slot link held None = tt
attrs_used v ino core slot link held (Some fork) =
    if_used (is_counted core held fork && is_off_attributes v held fork) (Reads.File (file_record ino core slot link held fork)) _ tt
    (if_used (has_leaf fork) (Reads.FileWithoutAttrs (file_record ino core slot link held no_attrs)) Reads.Unsound tt tt)

data_used : (v : Volume) (ino : ℕ) (core : Core) (slot : List ℕ) (attr link : Option (List ℕ)) (held : Option (Contents Extent)) → IsUsed (with_data v ino core slot attr link held)
data_used v ino core slot attr link None = tt
data_used v ino core slot attr link (Some held) =
    if_used (is_whole_fork v ino core slot link held) (with_attrs v ino core slot link held (attr_fork v ino core slot attr)) Reads.Unsound
    (attrs_used v ino core slot link held (attr_fork v ino core slot attr)) tt

feature_used : (feature : Option ℕ) (read : FileRead) → IsUsed read → IsUsed (with_feature feature read)
feature_used None read used = used
feature_used (Some what) read used = tt

free_by : (v : Volume) (ino : ℕ) (read : SlotRead) (slot : List ℕ) (tree : Option (Contents Extent)) (attr link : Option (List ℕ)) → by_slot v ino read slot tree attr link ≡ Reads.Free
    → read ≡ Read.Free
free_by v ino Read.Unsound slot tree attr link is = absurd cc
free_by v ino Read.Free slot tree attr link is = refl
free_by v ino (Read.Unsupported what) slot tree attr link is = absurd cc
free_by v ino (Read.InUse core) slot tree attr link is =
    absurd (subst IsUsed is
    (feature_used (feature_of v ino (attr_place v core slot) attr) (if is_core core then with_data v ino core slot attr link (data_fork core slot tree) else Reads.Unsound)
    (if_used (is_core core) (with_data v ino core slot attr link (data_fork core slot tree)) Reads.Unsound (data_used v ino core slot attr link (data_fork core slot tree)) tt)))

-- a slot that is free has no block but its own
free_same : (v : Volume) (image now : Image) (ino : ℕ) (slot : List ℕ) → slot_reads v image ino slot ≡ Reads.Free → slot_reads v now ino slot ≡ Reads.Free
unfolding file_read
free_same v image now ino slot reads =
    ap (λ (read : SlotRead). by_slot v ino read slot (tree_under v now ino (named_top v ino slot)) (option_map (bytes_of_block now) (named_attr v ino slot))
    (option_map (bytes_of_block now) (named_link v ino slot)))
    (free_by v ino (slot_read v ino slot) slot (tree_under v image ino (named_top v ino slot)) (option_map (bytes_of_block image) (named_attr v ino slot))
    (option_map (bytes_of_block image) (named_link v ino slot)) reads)

pub free_stays : (v : Volume) (image now : Image) (ino : ℕ) → HasSameSlot v image now ino → reads_as v image ino ≡ Reads.Free → reads_as v now ino ≡ Reads.Free
unfolding reads_as
free_stays v image now ino slot reads = ap (slot_reads v now ino) slot ∙ free_same v image now ino (slot_bytes v image ino) reads

-- bytes of a file
over_same : (v : Volume) (image now : Image) (i : ℕ) (es : List Extent)
    → ((e : Extent) (k : ℕ) → Member e es → k < e.count → bytes_of_block now (block_of_address v.agblocks v.agblklog e.start + k) ≡ bytes_of_block image (block_of_address v.agblocks v.agblklog e.start + k))
    → byte_over v now es i ≡ byte_over v image es i
unfolding byte_over
over_same v image now i [] each = refl
over_same v image now i (e ∷ es) each =
    by_place (has_block e (i / 4096)) refl e.unwritten (over_same v image now i es (λ x k is few. each x k (inr is) few))
  where
    by_place : (t : Bool) → has_block e (i / 4096) ≡ t → (u : Bool) → byte_over v now es i ≡ byte_over v image es i
        → (if t then (if u then 0 else byte_in v now e i) else byte_over v now es i) ≡ (if t then (if u then 0 else byte_in v image e i) else byte_over v image es i)
    by_place true is true rest = refl
    by_place true is false rest =
        let parts = and_parts (nat_le e.offset (i / 4096)) (nat_lt (i / 4096) (e.offset + e.count)) is in
        let low = leb-true e.offset (i / 4096) parts.0 in
        let high = ltb-true (i / 4096) (e.offset + e.count) parts.1 in
        ap (λ (bytes : List ℕ). slice_index_or bytes (i % 4096) 0) (each e (i / 4096 - e.offset) (inl refl) (omega (arith, low, high)))
    by_place false is u rest = rest

row_same : (f h : ℕ → ℕ) (xs : List ℕ) → ((x : ℕ) → f x ≡ h x) → map f xs ≡ map h xs
row_same f h [] each = refl
row_same f h (x ∷ xs) each = ap₂ (λ (y : ℕ) (ys : List ℕ). y ∷ ys) (each x) (row_same f h xs each)

pub bytes_stay : (v : Volume) (image now : Image) (f : FileRec) → HasSameClaims v image now f → file_bytes v now f ≡ file_bytes v image f
unfolding file_bytes
bytes_stay v image now f claimed =
    row_same (byte_over v now f.extents) (byte_over v image f.extents) (range_with_len 0 f.core.size)
    (λ i. over_same v image now i f.extents (λ e k is few. claimed (block_of_address v.agblocks v.agblklog e.start + k) (data_claimed v f e k is few)))

pub file_kept : (v : Volume) (image now : Image) (ino : ℕ) (file : FileRec) → HasSameSlot v image now ino → HasSameClaims v image now file → reads_as v image ino ≡ Reads.File file
    → Keeps v image now ino
file_kept v image now ino file slot claimed reads = record {
  file = file;
  kept = file;
  reads = reads;
  reads_still = file_stays v image now ino file slot claimed reads;
  bytes = bytes_stay v image now file claimed;
  attrs = refl;
  target = refl;
  device = refl;
  core = refl;
}

pub protected_kept : (v : Volume) (image now : Image) (ino : ℕ) (is : Protected v image ino) → HasSameSlot v image now ino → HasSameClaims v image now is.file → Keeps v image now ino
protected_kept v image now ino is slot claimed = file_kept v image now ino is.file slot claimed is.reads
