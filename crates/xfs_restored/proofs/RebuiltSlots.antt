-- What the slot of a directory that is kept and built anew reads as where it is what is wanted of it.
use Rattle.std.proofs.Common.{◌≡◌, ℕ, Bool, true, false, not, ◌+◌, ◌-◌, ◌*◌, ◌^◌, ◌≤◌, ◌<◌, ◌==◌, ◌&&◌, ◌||◌, inl, inr, nat_le, nat_lt, if◌then◌else◌, List, [], ◌∷◌, ◌++◌, length, map, Option, Some, None, Result, Ok, Err, refl, sym, ap, ◌∙◌, subst, arith}
use Rattle.std.specs.List.{AllByRecursion, list_all}
use Rattle.std.specs.Option.{option_map}
use Rattle.std.proofs.lemmas.Bool.{and_from, and_parts, cases_lt, eqb-true, false≢true, le-leb, leb-true, lt-ltb, not-true, or_left, or_right}
use Rattle.std.proofs.lemmas.Option.{same_Some}
use Rattle.xfs_disk.specs.Blocks.{Image, bytes_of_block}
use Rattle.xfs_word.specs.Crc.{little_field_of}
use Rattle.xfs_word.specs.Field.{part_of}
use Rattle.xfs_word.specs.declared.extents.Extent.{Extent}
use Rattle.xfs_attr.specs.Leaf.{leaf_of}
use Rattle.xfs_attr.specs.ShortForm.{short_attributes}
use Rattle.xfs_attr.specs.declared.attributes.Attr.{Attr}
use Rattle.xfs_attr.specs.declared.attributes.AttrFault.{AttrFault}
use Rattle.xfs_geom.specs.Conversions.{block_at}
use Rattle.xfs_geom.specs.Groups.{block_of_address}
use Rattle.xfs_geom.specs.Runs.{covers}
use Rattle.xfs_geom.specs.Volumes.{Volume}
use Rattle.xfs_geom.specs.declared.records.Run.{Run}
use Rattle.xfs_tree.specs.Reading.{Contents}
use Rattle.xfs_inode.specs.Files.{AttrFork, attr_fork, extent_blocks, fork_with, has_forkoff, has_format, is_apart, is_attr_leaf, is_core, is_local_whole, is_off_attributes, leaf_held, no_attrs, range_of, range_of_block, ranges_of, states_no_fork}
use Rattle.xfs_inode.specs.Forks.{attr_extent, attr_place, core_type, has_attr_extent, only_block}
use Rattle.xfs_inode.specs.Named.{named_attr, named_link, named_top, slot_reads, tree_under}
use Rattle.xfs_inode.specs.Slots.{attribute_start, fork_bytes}
use Rattle.xfs_inode.specs.declared.files.FileRead.TheVariants as Reads
use Rattle.xfs_inode.specs.declared.reading.SlotRead.TheVariants as Read
use Rattle.xfs_inodebuild.specs.declared.forks.ForkWanted.{ForkWanted}
use Rattle.xfs_volume.specs.declared.cores.Core.{Core}
use Rattle.xfs_volume.specs.declared.files.FileRec.{FileRec}
use Rattle.xfs_image.specs.Claims.{claims}
use Rattle.xfs_views.specs.SameFiles.{HasSameClaims}
use Rattle.xfs_views.proofs.NamedClaims.{attr_claimed}
use Rattle.xfs_views.proofs.FilesStay.{block_is}
use Rattle.xfs_views.proofs.Members.{Member}
use Rattle.xfs_render.specs.Slots.{IsMadeSlot}
use Rattle.xfs_rename.specs.xfs_request.Slots.{own_blocks}
use Rattle.xfs_restored.specs.DueFiles.{due_core, linked_core, plain_core}
use Rattle.xfs_restored.proofs.Changes.{attr_is}
use Rattle.xfs_restored.proofs.Readings.{HasAttrs, HasData, attrs_have, bare_is, file_has}
use Rattle.xfs_rename.specs.xfs_changes.Forks.{attribute_blocks, extents_fork, short_fork}
use Rattle.xfs_rename.specs.xfs_built.Extents.{extent_of_run}
use Rattle.xfs_rename.specs.xfs_built.Asks.{stands_in_blocks}
use Rattle.xfs_rename.specs.Settled.{without_data}
use Rattle.xfs_rename.specs.xfs_built.Directories.{BuiltRuns}
use Rattle.xfs_restored.specs.Reading.{HasFileExtents, KeepsAttributes, ReadsBefore, StandsBeside, forked_core, forked_file, fork_contents, rebuilt_file}
use Rattle.xfs_restored.proofs.KeptSlots.{kept_blocks, kept_short}
use Rattle.xfs_rename.proofs.xfs_built.Mapping.{address_leads}
use Rattle.xfs_restored.specs.Relinking.{extents_built}
use Rattle.xfs_restored.proofs.PlainSlots.{IsLinked, ReadsKept, drop_due, kept_due}

-- what is there under a condition is there, and the condition holds
when_some : {A : Type 0} (t : Bool) (o : Option A) (x : A) → (if t then o else None) ≡ Some x → (t ≡ true) × (o ≡ Some x)
when_some true o x is = (refl, is)
when_some false o x is = absurd cc

-- the blocks of an attribute fork are those of its extents
pub record AreLeafBlocks (v : Volume) (held : AttrFork) : Type 0 where
  pub counted : extent_blocks held.extents ≡ length held.blocks
  pub each : (block : ℕ) → Member block held.blocks → (e : Extent) × Member e held.extents × (e.count ≡ 1) × (block_of_address v.agblocks v.agblklog e.start ≡ block)

none_blocks : (v : Volume) (attrs : List Attr) (held : AttrFork) → Some (record { attrs = attrs; extents = []; blocks = [] }) ≡ Some held → AreLeafBlocks v held
none_blocks v attrs held is =
    subst (AreLeafBlocks v) (same_Some (record { attrs = attrs; extents = []; blocks = [] }) held is) (record { counted = refl; each = λ block none. absurd none })

short_blocks : (v : Volume) (attrs : Result (List Attr) AttrFault) (held : AttrFork) → fork_with [] [] attrs ≡ Some held → AreLeafBlocks v held
short_blocks v (Ok attrs) held is = none_blocks v attrs held is
short_blocks v (Err fault) held is = absurd cc

-- a fork with one block
one_block : (v : Volume) (e : Extent) (place : ℕ) (attrs : List Attr) → only_block v e ≡ Some place → AreLeafBlocks v (record { attrs = attrs; extents = e ∷ []; blocks = place ∷ [] })
one_block v e place attrs only =
    let parts = when_some (e.count == 1) (block_at v e.start) place only in
    let one : e.count ≡ 1 = eqb-true e.count 1 parts.0 in
    record {
      counted = omega (arith, one);
      each = λ block is. elim is [ inl same ↦ (e, inl refl, one, block_is v e.start place parts.1 ∙ same) | inr none ↦ absurd none ];
    }

with_blocks : (v : Volume) (e : Extent) (place : ℕ) (attrs : Result (List Attr) AttrFault) (held : AttrFork) → only_block v e ≡ Some place → fork_with (e ∷ []) (place ∷ []) attrs ≡ Some held
    → AreLeafBlocks v held × Member place held.blocks
with_blocks v e place (Ok attrs) held only is =
    let fork : AttrFork = record { attrs = attrs; extents = e ∷ []; blocks = place ∷ [] } in
    subst (λ (h : AttrFork). AreLeafBlocks v h × Member place h.blocks) (same_Some fork held is) (one_block v e place attrs only, inl refl)
with_blocks v e place (Err fault) held only is = absurd cc

module _ (v : Volume) (ino : ℕ) (core : Core) (slot : List ℕ) (held : AttrFork) where
  leaf_blocks : (place : Option ℕ) (leaf : Option (List ℕ)) → attr_place v core slot ≡ place → leaf_held v ino core slot place leaf ≡ Some held
      → (block : ℕ) × (place ≡ Some block) × AreLeafBlocks v held × Member block held.blocks
  leaf_blocks None leaf at is = absurd cc
  leaf_blocks (Some place) None at is = absurd cc
  leaf_blocks (Some place) (Some block) at is =
      let only = when_some (has_attr_extent core) (only_block v (attr_extent core slot)) place at in
      let parts = when_some (is_attr_leaf v ino core slot place block) (fork_with (attr_extent core slot ∷ []) (place ∷ []) (leaf_of block)) held is in
      let both = with_blocks v (attr_extent core slot) place (leaf_of block) held only.1 parts.1 in
      (place, refl, both.0, both.1)

  pub fork_blocks : (leaf : Option (List ℕ)) → attr_fork v ino core slot leaf ≡ Some held → AreLeafBlocks v held
  fork_blocks leaf is = by_tests (core.forkoff == 0) (core.aformat == 1) (core.aformat == 2) (core.anextents == 0) is
    where
      by_tests : (t u w x : Bool)
          → (if t then Some no_attrs
          else if u then fork_with [] [] (short_attributes (part_of slot (attribute_start core.forkoff) (512 - attribute_start core.forkoff)))
          else if w then (if x then Some no_attrs else leaf_held v ino core slot (attr_place v core slot) leaf) else None) ≡ Some held → AreLeafBlocks v held
      by_tests true u w x at = none_blocks v [] held at
      by_tests false true w x at = short_blocks v (short_attributes (part_of slot (attribute_start core.forkoff) (512 - attribute_start core.forkoff))) held at
      by_tests false false true true at = none_blocks v [] held at
      by_tests false false true false at = (leaf_blocks (attr_place v core slot) leaf refl at).2
      by_tests false false false x at = absurd cc

  -- the block that is named is one of them
  pub named_among : (leaf : Option (List ℕ)) → attr_fork v ino core slot leaf ≡ Some held → (place : ℕ) → attr_place v core slot ≡ Some place → Member place held.blocks
  named_among leaf is place at =
      let only = when_some (has_attr_extent core) (only_block v (attr_extent core slot)) place at in
      let a = and_parts (not (core.forkoff == 0) && core.aformat == 2 && core.anextents == 1) (nat_le (attribute_start core.forkoff + 16) 512) only.0 in
      let b = and_parts (not (core.forkoff == 0) && core.aformat == 2) (core.anextents == 1) a.0 in
      let c = and_parts (not (core.forkoff == 0)) (core.aformat == 2) b.0 in
      let is_there : (core.forkoff == 0) ≡ false = not-true (core.forkoff == 0) c.0 in
      let format : core.aformat ≡ 2 = eqb-true core.aformat 2 c.1 in
      let count : core.anextents ≡ 1 = eqb-true core.anextents 1 b.1 in
      let own : Option AttrFork = leaf_held v ino core slot (attr_place v core slot) leaf in
      let short : Option AttrFork = fork_with [] [] (short_attributes (part_of slot (attribute_start core.forkoff) (512 - attribute_start core.forkoff))) in
      let some : Option AttrFork = if core.anextents == 0 then Some no_attrs else own in
      let is_leaf : attr_fork v ino core slot leaf ≡ own =
      ap (λ (t : Bool). if t then Some no_attrs else if core.aformat == 1 then short else if core.aformat == 2 then some else None) is_there
      ∙ (ap (λ (n : ℕ). if n == 1 then short else if n == 2 then some else None) format ∙ ap (λ (n : ℕ). if n == 0 then Some no_attrs else own) count) in
      let found = leaf_blocks (attr_place v core slot) leaf refl (sym is_leaf ∙ is) in
      subst (λ (n : ℕ). Member n held.blocks) (same_Some found.0 place (sym found.1 ∙ at)) found.3

-- a block that a run does not have is apart from it
apart_if : (b start count : ℕ) → (nat_le start b && nat_lt b (start + count)) ≡ false → (nat_le (b + 1) start || nat_le (start + count) b) ≡ true
apart_if b start count off =
    elim (cases_lt b start) [
      | inl below ↦ or_left (nat_le (b + 1) start) (nat_le (start + count) b) (le-leb (b + 1) start (omega (arith, below)))
      | inr from ↦
          elim (cases_lt b (start + count)) [
            | inl inside ↦ absurd (false≢true (sym off ∙ and_from (nat_le start b) (nat_lt b (start + count)) (le-leb start b from) (lt-ltb b (start + count) inside)))
            | inr behind ↦ or_right (nat_le (b + 1) start) (nat_le (start + count) b) (le-leb (start + count) b behind)
          ]
    ]

-- no run has a block
abbrev pub AreOff : List Run → ℕ → Type 0
AreOff runs block = AllByRecursion (λ (r : Run). covers block r ≡ false) runs

module _ (v : Volume) (some : 1 ≤ v.agblocks) (bits : v.agblocks ≤ 2 ^ v.agblklog) (runs : List Run) where
  apart_runs : (block : ℕ) (rs : List Run) → AreOff rs block → list_all (is_apart (range_of_block block)) (map (range_of v) (map (extent_of_run v) rs) ++ []) ≡ true
  apart_runs block [] off = refl
  apart_runs block (r ∷ rs) off =
      and_from (is_apart (range_of_block block) (range_of v (extent_of_run v r))) (list_all (is_apart (range_of_block block)) (map (range_of v) (map (extent_of_run v) rs) ++ []))
      (subst (λ (n : ℕ). (nat_le (block + 1) n || nat_le (n + r.count) block) ≡ true) (sym (address_leads v r.start some bits)) (apart_if block r.start r.count off.0))
      (apart_runs block rs off.1)

  apart_blocks : (blocks : List ℕ) → ((block : ℕ) → Member block blocks → AreOff runs block)
      → list_all (λ (block : ℕ). list_all (is_apart (range_of_block block)) (ranges_of v (fork_contents (map (extent_of_run v) runs)))) blocks ≡ true
  apart_blocks [] off = refl
  apart_blocks (b ∷ bs) off =
      and_from (list_all (is_apart (range_of_block b)) (ranges_of v (fork_contents (map (extent_of_run v) runs))))
      (list_all (λ (block : ℕ). list_all (is_apart (range_of_block block)) (ranges_of v (fork_contents (map (extent_of_run v) runs)))) bs)
      (apart_runs b runs (off b (inl refl))) (apart_blocks bs (λ block is. off block (inr is)))

-- the attributes of a file that reads with them
module _ (v : Volume) (image : Image) (old : List ℕ) (f : FileRec) (reads : slot_reads v image f.ino old ≡ Reads.File f) where
  abbrev tree : Option (Contents Extent)
  tree = tree_under v image f.ino (named_top v f.ino old)

  abbrev leaf : Option (List ℕ)
  leaf = option_map (bytes_of_block image) (named_attr v f.ino old)

  abbrev link : Option (List ℕ)
  link = option_map (bytes_of_block image) (named_link v f.ino old)

  is : HasData v f.ino old tree leaf link (Reads.File f)
  is = file_has v f.ino old tree leaf link (Reads.File f) tt reads

  has : HasAttrs v f.ino old tree leaf link is.core is.held f
  has = attrs_have v f.ino old tree leaf link is.core is.held f is.attrs

  own_extents : has.fork.extents ≡ f.rest.attr_extents
  own_extents = ap (λ (x : FileRec). x.rest.attr_extents) has.is

  own_blocks_are : AreLeafBlocks v has.fork
  own_blocks_are = fork_blocks v f.ino is.core old has.fork leaf has.reads

  block_claimed : (block : ℕ) → Member block has.fork.blocks → claims v (without_data f) block ≡ true
  block_claimed block among =
      let at = own_blocks_are.each block among in
      let e : Extent = at.0 in
      let one : e.count ≡ 1 = at.2 in
      let zero : block_of_address v.agblocks v.agblklog e.start + 0 ≡ block = (omega arith) ∙ at.3 in
      subst (λ (n : ℕ). claims v (without_data f) n ≡ true) zero
      (attr_claimed v (without_data f) e 0 (subst (λ (es : List Extent). Member e es) own_extents at.1) (omega (arith, one)))

  -- the block that is named is as it was
  pub leaf_stays : (now : Image) → HasSameClaims v image now (without_data f)
      → option_map (bytes_of_block now) (named_attr v f.ino old) ≡ option_map (bytes_of_block image) (named_attr v f.ino old)
  leaf_stays now claims = by_place (named_attr v f.ino old) (attr_is v f.ino old is.core is.in_use)
    where
      by_place : (place : Option ℕ) → place ≡ attr_place v is.core old → option_map (bytes_of_block now) place ≡ option_map (bytes_of_block image) place
      by_place None at = refl
      by_place (Some place) at =
          ap (λ (b : List ℕ). Some b) (claims place (block_claimed place (named_among v f.ino is.core old has.fork leaf has.reads place (sym at))))

  -- the attributes are beside runs that have none of their blocks
  pub stands_beside : (fork : ForkWanted) (runs : List Run) → 1 ≤ v.agblocks → v.agblocks ≤ 2 ^ v.agblklog → fork.nblocks ≡ extent_blocks (map (extent_of_run v) runs) + attribute_blocks f
      → ((block : ℕ) → claims v (without_data f) block ≡ true → AreOff runs block) → StandsBeside v image f.ino old fork (map (extent_of_run v) runs)
  stands_beside fork runs some bits counted off core held in_use read =
      let same_core : is.core ≡ core = same_use is.core core (sym is.in_use ∙ in_use) in
      let same : has.fork ≡ held = same_Some has.fork held (sym has.reads ∙ (ap (λ (c : Core). attr_fork v f.ino c old leaf) same_core ∙ read)) in
      let own : extent_blocks has.fork.extents ≡ length has.fork.blocks = own_blocks_are.counted in
      let extents : extent_blocks has.fork.extents ≡ attribute_blocks f = ap extent_blocks own_extents in
      subst (λ (h : AttrFork). (fork.nblocks ≡ extent_blocks (map (extent_of_run v) runs) + length h.blocks) × (is_off_attributes v (fork_contents (map (extent_of_run v) runs)) h ≡ true)) same
      (omega (arith, counted, own, extents), apart_blocks v some bits runs has.fork.blocks (λ block among. off block (block_claimed block among)))
    where
      same_use : (a b : Core) → Read.InUse a ≡ Read.InUse b → a ≡ b
      same_use a b same = cc

-- one that lost them has none
pub bare_extents : (v : Volume) (image : Image) (old : List ℕ) (f : FileRec) → slot_reads v image f.ino old ≡ Reads.FileWithoutAttrs f → f.rest.attr_extents ≡ []
bare_extents v image old f reads =
    let tree = tree_under v image f.ino (named_top v f.ino old) in
    let leaf = option_map (bytes_of_block image) (named_attr v f.ino old) in
    let link = option_map (bytes_of_block image) (named_link v f.ino old) in
    let is = file_has v f.ino old tree leaf link (Reads.FileWithoutAttrs f) tt reads in
    ap (λ (x : FileRec). x.rest.attr_extents) (sym (bare_is v f.ino old tree leaf link is.core is.held f is.attrs))

-- the directory as it is due: with its number of names, and then with its new data fork
abbrev pub due_with_fork : FileRec → Bool → ℕ → ℕ → ForkWanted → List Extent → FileRec
due_with_fork f bare due crc fork es =
    let kept : FileRec = record f { core = due_core bare (own_blocks f) due crc f.core } in
    forked_file kept (forked_core kept.core fork crc) es

-- it is what the slot reads as
pub rebuilt_is_due : (f : FileRec) (bare : Bool) (fork : ForkWanted) (es : List Extent) (nlink : Option ℕ) (due crc : ℕ) → IsLinked f.core nlink due
    → rebuilt_file f (drop_due f bare) fork es nlink crc ≡ due_with_fork f bare due crc fork es
rebuilt_is_due f false fork es None due crc linked =
    λ i. forked_file f (record f.core { format = fork.format; size = fork.size; nblocks = fork.nblocks; nextents = fork.nextents; nlink = linked.0 i; next_unlinked = linked.1 i; crc = crc }) es
rebuilt_is_due f false fork es (Some n) due crc linked = ap (λ (k : ℕ). forked_file f (linked_core (forked_core f.core fork crc) k crc) es) linked
rebuilt_is_due f true fork es None due crc linked =
    λ i. forked_file f (record f.core { format = fork.format; size = fork.size; nblocks = fork.nblocks; nextents = fork.nextents; anextents = 0; aformat = 2; nlink = linked.0 i; next_unlinked = linked.1 i; crc = crc }) es
rebuilt_is_due f true fork es (Some n) due crc linked =
    ap (λ (k : ℕ). forked_file f (linked_core (forked_core (plain_core f.core (own_blocks f) 0) fork crc) k crc) es) linked

-- the core of a file keeps the rules, so there is little room in its data fork
core_keeps : (v : Volume) (image : Image) (old : List ℕ) (f : FileRec) (bare : Bool) → ReadsKept v image old f bare → is_core f.core ≡ true
core_keeps v image old f false reads =
    subst (λ (c : Core). is_core c ≡ true) (ap (λ (x : FileRec). x.core) (has v image old f reads).is) (is v image old f reads).keeps
core_keeps v image old f true reads =
    let tree = tree_under v image f.ino (named_top v f.ino old) in
    let leaf = option_map (bytes_of_block image) (named_attr v f.ino old) in
    let link = option_map (bytes_of_block image) (named_link v f.ino old) in
    let is = file_has v f.ino old tree leaf link (Reads.FileWithoutAttrs f) tt reads in
    subst (λ (c : Core). is_core c ≡ true) (ap (λ (x : FileRec). x.core) (bare_is v f.ino old tree leaf link is.core is.held f is.attrs)) is.keeps

low_room : (core : Core) → is_core core ≡ true → fork_bytes core.forkoff ≤ 336
low_room core keeps =
    let a = has_format (core_type core) core.format in
    let b = has_forkoff (core_type core) core.forkoff in
    let c = nat_lt core.size (2 ^ 63) in
    let four = and_parts (a && b && c && (not (core.forkoff == 0) || states_no_fork core)) (is_local_whole core) keeps in
    let three = and_parts (a && b && c) (not (core.forkoff == 0) || states_no_fork core) four.0 in
    let two = and_parts (a && b) c three.0 in
    let one = and_parts a b two.0 in
    let off = and_parts (nat_le core.forkoff 41) (not (core_type core == 4) || core.forkoff == 0 || nat_le 6 core.forkoff) one.1 in
    by_case (core.forkoff == 0) (leb-true core.forkoff 41 off.0)
  where
    by_case : (t : Bool) → core.forkoff ≤ 41 → (if t then 336 else 8 * core.forkoff) ≤ 336
    by_case true low = omega arith
    by_case false low = omega (arith, low)

-- what is asked of a new fork beside the attributes
reads_before : (v : Volume) (image : Image) (old : List ℕ) (f : FileRec) (bare : Bool) → ReadsKept v image old f bare → ReadsBefore v image f.ino old f (drop_due f bare)
reads_before v image old f false reads = reads
reads_before v image old f true reads = (reads, refl)

keeps_attributes : (v : Volume) (image now : Image) (old : List ℕ) (f : FileRec) (bare : Bool) (fork : ForkWanted) (runs : List Run) → 1 ≤ v.agblocks → v.agblocks ≤ 2 ^ v.agblklog
    → ReadsKept v image old f bare → HasSameClaims v image now (without_data f) → fork.nblocks ≡ extent_blocks (map (extent_of_run v) runs) + attribute_blocks f
    → ((block : ℕ) → claims v (without_data f) block ≡ true → AreOff runs block) → KeepsAttributes v image now f.ino old fork (map (extent_of_run v) runs) (drop_due f bare)
keeps_attributes v image now old f false fork runs some bits reads claims counted off =
    (leaf_stays v image old f reads now claims, stands_beside v image old f reads fork runs some bits counted off)
keeps_attributes v image now old f true fork runs some bits reads claims counted off =
    let none : attribute_blocks f ≡ 0 = ap extent_blocks (bare_extents v image old f reads) in
    omega (arith, counted, none)

-- what is known of a directory that is built: its runs are extents that fit the room of its fork, or its short form fits it
pub record IsBuiltFor (v : Volume) (room : ℕ) (d : BuiltRuns) : Type 0 where
  pub data' : d.directory.image.data_blocks < 2 ^ 21
  pub extents' : stands_in_blocks d.directory ≡ true → HasFileExtents v d
  pub few : stands_in_blocks d.directory ≡ true → 16 * length d.runs ≤ room
  pub short' : stands_in_blocks d.directory ≡ false → length d.directory.image.short.items ≤ room

-- its fork, beside so many blocks of attributes
abbrev pub fork_beside : Volume → ℕ → BuiltRuns → ForkWanted
fork_beside v attributes d = if stands_in_blocks d.directory then extents_fork v attributes d.runs d.directory else short_fork attributes d.directory

module _ (v : Volume) (generation : ℕ) (image now : Image) (f : FileRec) (bare : Bool) (due : ℕ) (nlink : Option ℕ) (attributes : ℕ) (d : BuiltRuns) (old new : List ℕ)
    (some : 1 ≤ v.agblocks) (bits : v.agblocks ≤ 2 ^ v.agblklog) (reads : ReadsKept v image old f bare) (linked : IsLinked f.core nlink due)
    (claimed : HasSameClaims v image now (without_data f)) (own : attributes ≡ attribute_blocks f) (type : core_type f.core ≡ 4) (built : IsBuiltFor v (fork_bytes f.core.forkoff) d)
    (off : (block : ℕ) → claims v (without_data f) block ≡ true → AreOff d.runs block) where
  abbrev crc : ℕ
  crc = little_field_of new 100 4

  abbrev Reads' : ForkWanted → List Extent → Type 0
  Reads' fork es = slot_reads v now f.ino new ≡ Reads.File (due_with_fork f bare due crc fork es)

  blocks_read : stands_in_blocks d.directory ≡ true → IsMadeSlot v generation (kept_due f.ino (drop_due f bare) (Some (extents_fork v attributes d.runs d.directory)) nlink) old new
      → Reads' (extents_fork v attributes d.runs d.directory) (map (extent_of_run v) d.runs)
  blocks_read stood made =
      let ext = built.extents' stood in
      let count = ext.count in
      kept_blocks v generation f.ino image now f (drop_due f bare) nlink attributes d.directory d.runs old new made (reads_before v image old f bare reads)
      (keeps_attributes v image now old f bare (extents_fork v attributes d.runs d.directory) d.runs some bits reads claimed (omega (arith, count, own)) off)
      type built.data' (built.few stood) ext.fit ext.extents'
      ∙ ap (λ (x : FileRec). Reads.File x) (rebuilt_is_due f bare (extents_fork v attributes d.runs d.directory) (map (extent_of_run v) d.runs) nlink due crc linked)

  short_reads : stands_in_blocks d.directory ≡ false → IsMadeSlot v generation (kept_due f.ino (drop_due f bare) (Some (short_fork attributes d.directory)) nlink) old new
      → Reads' (short_fork attributes d.directory) []
  short_reads fell made =
      let room = built.short' fell in
      let most = low_room f.core (core_keeps v image old f bare reads) in
      kept_short v generation f.ino image now f (drop_due f bare) nlink attributes d.directory old new made (reads_before v image old f bare reads)
      (keeps_attributes v image now old f bare (short_fork attributes d.directory) [] some bits reads claimed (omega (arith, own)) (λ block is. tt))
      type (omega (arith, room, most)) room
      ∙ ap (λ (x : FileRec). Reads.File x) (rebuilt_is_due f bare (short_fork attributes d.directory) [] nlink due crc linked)

  pub rebuilt_reads : IsMadeSlot v generation (kept_due f.ino (drop_due f bare) (Some (fork_beside v attributes d)) nlink) old new
      → Reads' (fork_beside v attributes d) (extents_built v d)
  rebuilt_reads made = by_case (stands_in_blocks d.directory) refl made
    where
      by_case : (t : Bool) → stands_in_blocks d.directory ≡ t
          → IsMadeSlot v generation (kept_due f.ino (drop_due f bare) (Some (if t then extents_fork v attributes d.runs d.directory else short_fork attributes d.directory)) nlink) old new
          → Reads' (if t then extents_fork v attributes d.runs d.directory else short_fork attributes d.directory) (if t then map (extent_of_run v) d.runs else [])
      by_case true stood slot = blocks_read stood slot
      by_case false fell slot = short_reads fell slot
