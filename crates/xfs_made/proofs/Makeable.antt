-- What is wanted of slots can be made of those that stand in an image.
use Rattle.std.proofs.Common.{◌≡◌, ℕ, Bool, true, false, not, ◌+◌, ◌*◌, ◌/◌, ◌%◌, ◌≤◌, ◌<◌, inl, inr, ◌==◌, ◌||◌, if◌then◌else◌, List, [], ◌∷◌, filter, length, Option, Some, None, MatchOption, refl, sym, subst, ap, ◌∙◌, arith}
use Rattle.std.specs.Option.{is_some}
use Rattle.std.proofs.lemmas.Bool.{eqb-true}
use Rattle.xfs_disk.specs.Blocks.{Image, bytes_of_block}
use Rattle.xfs_disk.specs.Lists.{is_among}
use Rattle.xfs_disk.specs.declared.stamp.Stamp.{Stamp}
use Rattle.xfs_word.specs.Field.{field_of}
use Rattle.xfs_word.specs.Seal.{is_sealed}
use Rattle.xfs_word.specs.declared.extents.Extent.{Extent}
use Rattle.xfs_dirdata.specs.Bytes.{short_bytes}
use Rattle.xfs_geom.proofs.Addresses.{block_back}
use Rattle.xfs_geom.specs.Conversions.{address_of, block_at, inode_of, slot_at, with_slot}
use Rattle.xfs_geom.specs.Volumes.{Volume, volume_of}
use Rattle.xfs_geom.specs.declared.geometry.Geometry.{Geometry}
use Rattle.xfs_image.specs.Candidates.{candidates}
use Rattle.xfs_image.specs.Claims.{candidate_files, candidate_inodes, file_if}
use Rattle.xfs_image.specs.Slots.{bytes_in, cluster_blocks, inodes_of_block, reads_as, slot_bytes}
use Rattle.xfs_inode.specs.Cores.{stated_core}
use Rattle.xfs_inode.specs.Files.{by_slot, data_fork, feature_of, file_read, is_core, used_file, with_data, with_feature}
use Rattle.xfs_inode.specs.Forks.{attr_place}
use Rattle.xfs_inode.specs.Slots.{slot_read, slot_seal, unsupported, used_read}
use Rattle.xfs_inode.specs.declared.files.FileRead.{FileRead}
use Rattle.xfs_inode.specs.declared.files.FileRead.TheVariants as Reads
use Rattle.xfs_inode.specs.declared.reading.SlotRead.TheVariants as Read
use Rattle.xfs_made.proofs.xfs_views.Members.{Member, filter_member, flat_member}
use Rattle.xfs_made.specs.xfs_render.Clusters.{CanCluster, slot_in}
use Rattle.xfs_made.specs.xfs_render.Slots.{CanMake, IsFreshCore, wanted_of}
use Rattle.xfs_made.specs.xfs_render.declared.wanted_slots.SlotBase.TheVariants as Base
use Rattle.xfs_made.specs.xfs_render.declared.wanted_slots.SlotWanted.{SlotWanted}
use Rattle.xfs_tree.specs.Reading.{Contents}
use Rattle.xfs_made.proofs.xfs_views.FileTests.{core_says}
use Rattle.xfs_made.proofs.xfs_views.Files.{file_sound}
use Rattle.xfs_volume.specs.declared.cores.Core.{Core}
use Rattle.xfs_volume.specs.declared.files.FileRec.{FileRec}
use Rattle.xfs_request.specs.xfs_salvage.Kept.{is_kept_file, kept_files}
use Rattle.xfs_request.specs.xfs_salvage.declared.found.Salvaged.{Salvaged}
use Rattle.xfs_made.proofs.Candidates.{bare_sound}
use Rattle.xfs_request.specs.Fresh.{new_slot, new_root_core, new_root_slot, new_system_core, new_system_slot}
use Rattle.xfs_request.specs.Slots.{as_list, attrs_wanted, bare_slot, block_slots, cluster_slots, freed_slot, is_free, kept_slot, links_due, nlink_wanted, slot_listed, slot_of, slot_wanted, state_at, wanted_slots}
use Rattle.xfs_request.specs.declared.seen.SlotSeen.{SlotSeen}
use Rattle.xfs_made.specs.Handed.{IsKeptOf}
use Rattle.xfs_made.proofs.Spaced.{IsOf, wanted_of_ino}

-- the slot of the inode of a slot is that slot
slot_back : (g : Geometry) (block k : ℕ) → block < g.dblocks → k < 8 → slot_at (volume_of g) (inode_of (volume_of g) block k) ≡ Some (block, k)
unfolding slot_at inode_of
slot_back g block k inside few =
    let v : Volume = volume_of g in
    let whole : (address_of v block * 8 + k) / 8 ≡ address_of v block = omega (arith, few) in
    let rest : (address_of v block * 8 + k) % 8 ≡ k = omega (arith, few) in
    (λ i. with_slot (rest i) (block_at v (whole i)))
    ∙ ap (with_slot k) (block_back v block g.shape.groups.large g.shape.groups.covered g.shape.addresses.enough inside)

-- a slot that is sealed, and whose attribute fork begins inside it
pub record IsSealedSlot (v : Volume) (ino : ℕ) (slot : List ℕ) : Type 0 where
  pub sealed : is_sealed (slot_seal v ino) slot ≡ true
  pub inside : field_of slot 82 1 ≤ 41

-- a slot reads as a file, with its attributes or without
abbrev HasFile : FileRead → Type 0
HasFile Reads.Free = ⊥
HasFile (Reads.File file) = Unit {0}
HasFile (Reads.FileWithoutAttrs file) = Unit {0}
HasFile (Reads.Unsupported what) = ⊥
HasFile Reads.Unsound = ⊥

used_inside : (v : Volume) (ino : ℕ) (core : Core) (slot : List ℕ) (tree : Option (Contents Extent)) (attr_leaf link : Option (List ℕ))
    → HasFile (used_file v ino core slot tree attr_leaf link) → core.forkoff ≤ 41
used_inside v ino core slot tree attr_leaf link has = by_feature (feature_of v ino (attr_place v core slot) attr_leaf) has
  where
    by_core : (t : Bool) → is_core core ≡ t → HasFile (if t then with_data v ino core slot attr_leaf link (data_fork core slot tree) else Reads.Unsound) → core.forkoff ≤ 41
    by_core true is file = (core_says core is).inside
    by_core false is file = absurd file

    by_feature : (feature : Option ℕ) → HasFile (with_feature feature (if is_core core then with_data v ino core slot attr_leaf link (data_fork core slot tree) else Reads.Unsound)) → core.forkoff ≤ 41
    by_feature None file = by_core (is_core core) refl file
    by_feature (Some what) file = absurd file

file_sealed : (v : Volume) (ino : ℕ) (slot : List ℕ) (tree : Option (Contents Extent)) (attr_leaf link : Option (List ℕ))
    → HasFile (file_read v ino slot tree attr_leaf link) → IsSealedSlot v ino slot
unfolding file_read slot_read
file_sealed v ino slot tree attr_leaf link has = by_seal (is_sealed (slot_seal v ino) slot) refl has
  where
    by_use : (feature : Option ℕ) → HasFile (by_slot v ino (used_read (stated_core slot) feature) slot tree attr_leaf link) → field_of slot 82 1 ≤ 41
    by_use None file = used_inside v ino (stated_core slot) slot tree attr_leaf link file
    by_use (Some what) file = absurd file

    by_mode : (t : Bool) → HasFile (by_slot v ino (if t then Read.Free else used_read (stated_core slot) (unsupported (stated_core slot) slot)) slot tree attr_leaf link) → field_of slot 82 1 ≤ 41
    by_mode true file = absurd file
    by_mode false file = by_use (unsupported (stated_core slot) slot) file

    by_seal : (t : Bool) → is_sealed (slot_seal v ino) slot ≡ t
        → HasFile (by_slot v ino (if not t then Read.Unsound else (if (stated_core slot).mode == 0 then Read.Free else used_read (stated_core slot) (unsupported (stated_core slot) slot))) slot tree attr_leaf link)
        → IsSealedSlot v ino slot
    by_seal true is file = record { sealed = is; inside = by_mode ((stated_core slot).mode == 0) file }
    by_seal false is file = absurd file

read_sealed : (v : Volume) (image : Image) (ino : ℕ) → HasFile (reads_as v image ino) → IsSealedSlot v ino (slot_bytes v image ino)
unfolding reads_as
read_sealed v image ino has = file_sealed v ino (slot_bytes v image ino) _ _ _ has

-- the slot of a candidate file
listed_sealed : (v : Volume) (image : Image) (ino : ℕ) (f : FileRec) (read : FileRead) → reads_as v image ino ≡ read → Member f (file_if read) → IsSealedSlot v f.ino (slot_bytes v image f.ino)
listed_sealed v image ino f Reads.Free reads is = absurd is
listed_sealed v image ino f (Reads.File file) reads is =
    elim is [
      | inl same ↦
          let number : ino ≡ f.ino = sym (file_sound v image ino file reads).keeps.number ∙ ap (λ (x : FileRec). x.ino) same in
          subst (λ (n : ℕ). IsSealedSlot v n (slot_bytes v image n)) number (read_sealed v image ino (subst HasFile (sym reads) tt))
      | inr none ↦ absurd none
    ]
listed_sealed v image ino f (Reads.FileWithoutAttrs file) reads is =
    elim is [
      | inl same ↦
          let number : ino ≡ f.ino = sym (bare_sound v image ino file reads).keeps.number ∙ ap (λ (x : FileRec). x.ino) same in
          subst (λ (n : ℕ). IsSealedSlot v n (slot_bytes v image n)) number (read_sealed v image ino (subst HasFile (sym reads) tt))
      | inr none ↦ absurd none
    ]
listed_sealed v image ino f (Reads.Unsupported what) reads is = absurd is
listed_sealed v image ino f Reads.Unsound reads is = absurd is

candidate_sealed : (v : Volume) (image : Image) (f : FileRec) → Member f (candidate_files v image) → IsSealedSlot v f.ino (slot_bytes v image f.ino)
unfolding candidate_files
candidate_sealed v image f is =
    let of = flat_member (λ ino. file_if (reads_as v image ino)) f (candidate_inodes v image) is in
    listed_sealed v image of.0 f (reads_as v image of.0) refl of.2

kept_sealed : (v : Volume) (image : Image) (kept : Salvaged) (f : FileRec) → IsKeptOf v (candidates v image) (candidate_files v image) kept → Member f kept.files
    → IsSealedSlot v f.ino (slot_bytes v image f.ino)
unfolding kept_files
kept_sealed v image kept f of is =
    let among : Member f (kept_files v (candidates v image) (candidate_files v image)) = subst (λ (fs : List FileRec). Member f fs) of.files' is in
    candidate_sealed v image f (filter_member (is_kept_file v (candidates v image) (candidate_files v image)) f (candidate_files v image) among).0

-- what is wanted of a slot, where something is, can be made of it
abbrev CanBe : Volume → List ℕ → Option SlotWanted → Type 0
CanBe v old wanted = MatchOption wanted (Unit {0}) (λ w. CanMake v w old)

kept_can : (v : Volume) (ino : ℕ) (attrs nlink : Option ℕ) (old : List ℕ) → IsSealedSlot v ino old → CanBe v old (kept_slot ino attrs nlink)
kept_can v ino attrs nlink old sealed = by_case (is_some attrs || is_some nlink)
  where
    by_case : (t : Bool) → CanBe v old (if t then Some (record { ino = ino; base = Base.Kept; drop_attrs = attrs; fork = None; nlink = nlink }) else None)
    by_case true = record { base = sealed.sealed; forkoff = sealed.inside; fork = tt }
    by_case false = tt

root_fresh : (v : Volume) (s : Stamp) → IsFreshCore v v.rootino (new_root_core v s)
root_fresh v s = record { number = refl; magic = refl; version = refl; used = omega arith; uuid = refl; lsn = refl; no_attributes = refl; plain_data = refl; plain = refl }

system_fresh : (v : Volume) (s : Stamp) (ino : ℕ) → IsFreshCore v ino (new_system_core v s ino)
system_fresh v s ino = record { number = refl; magic = refl; version = refl; used = omega arith; uuid = refl; lsn = refl; no_attributes = refl; plain_data = by_case (ino == v.rootino + 1); plain = refl }
  where
    by_case : (t : Bool) → (if t then 4 else 0) % 2 ≡ 0
    by_case true = refl
    by_case false = refl

root_short : (v : Volume) → length (short_bytes v.rootino []) ≡ 6
unfolding short_bytes
root_short v = refl

root_can : (v : Volume) (s : Stamp) (old : List ℕ) → CanMake v (new_root_slot v s) old
root_can v s old =
    let short = root_short v in
    record { base = root_fresh v s; forkoff = omega arith; fork = record { few = omega arith; short = omega (arith, short) } }

fresh_can : (v : Volume) (s : Stamp) (ino : ℕ) (old : List ℕ) → CanMake v (new_slot v s ino) old
fresh_can v s ino old = by_case (ino == v.rootino)
  where
    by_case : (t : Bool) → CanMake v (if t then new_root_slot v s else new_system_slot v s ino) old
    by_case true = root_can v s old
    by_case false = record { base = system_fresh v s ino; forkoff = omega arith; fork = tt }

-- what is wanted of the slot of a number is that of its inode
found_wanted : (ws : List SlotWanted) (ino : ℕ) (w : SlotWanted) → wanted_of ws ino ≡ Some w → Member w ws × (w.ino ≡ ino)
found_wanted [] ino w is = absurd cc
found_wanted (x ∷ xs) ino w is = by_case (x.ino == ino) refl is (found_wanted xs ino w)
  where
    by_case : (t : Bool) → (x.ino == ino) ≡ t → (if t then Some x else wanted_of xs ino) ≡ Some w → (wanted_of xs ino ≡ Some w → Member w xs × (w.ino ≡ ino)) → Member w (x ∷ xs) × (w.ino ≡ ino)
    by_case true e one rest =
        let same : x ≡ w = cc in
        (inl same, ap (λ (y : SlotWanted). y.ino) (sym same) ∙ eqb-true x.ino ino e)
    by_case false e other rest = let later = rest other in (inr later.0, later.1)

module _ (v : Volume) (s : Stamp) (kept : Salvaged) (slots : List SlotSeen) where
  bare_can : (ino : ℕ) (old : List ℕ) → CanBe v old (bare_slot v s kept slots ino)
  bare_can ino old = by_fresh (is_among kept.fresh ino)
    where
      by_free : (t : Bool) → CanBe v old (if t then None else Some (freed_slot ino))
      by_free true = tt
      by_free false = record { base = tt; forkoff = omega arith; fork = tt }

      by_fresh : (t : Bool) → CanBe v old (if t then Some (new_slot v s ino) else (if is_free (state_at slots ino) then None else Some (freed_slot ino)))
      by_fresh true = fresh_can v s ino old
      by_fresh false = by_free (is_free (state_at slots ino))

  of_files : (ino : ℕ) (old : List ℕ) (fs : List FileRec) → ((f : FileRec) → Member f fs → IsSealedSlot v f.ino old) → CanBe v old (slot_of v s kept slots ino fs)
  of_files ino old [] each = bare_can ino old
  of_files ino old (f ∷ fs) each =
      kept_can v f.ino (attrs_wanted f (state_at slots f.ino)) (nlink_wanted f (links_due v.rootino kept.files kept.entries f)) old (each f (inl refl))

  wanted_can : (ino : ℕ) (old : List ℕ) → ((f : FileRec) → Member f kept.files → f.ino ≡ ino → IsSealedSlot v f.ino old) → CanBe v old (slot_wanted v s kept slots ino)
  unfolding slot_wanted
  wanted_can ino old each =
      of_files ino old (filter (λ (f : FileRec). f.ino == ino) kept.files) (λ f is.
      let among = filter_member (λ (x : FileRec). x.ino == ino) f kept.files is in
      each f among.0 (eqb-true f.ino ino among.1))

  as_listed : (w : SlotWanted) (wanted : Option SlotWanted) → Member w (as_list wanted) → wanted ≡ Some w
  as_listed w None is = absurd is
  as_listed w (Some x) is = elim is [ inl same ↦ ap Some same | inr none ↦ absurd none ]

  made_by : (w : SlotWanted) → Member w (wanted_slots v s kept slots) → slot_wanted v s kept slots w.ino ≡ Some w
  unfolding wanted_slots cluster_slots block_slots
  made_by w is =
      let cluster = flat_member (cluster_slots v s kept slots) w kept.clusters is in
      let block = flat_member (block_slots v s kept slots) w (cluster_blocks cluster.0) cluster.2 in
      let slot = flat_member (slot_listed v s kept slots) w (inodes_of_block v block.0) block.2 in
      let wanted : slot_wanted v s kept slots slot.0 ≡ Some w = as_listed w (slot_wanted v s kept slots slot.0) slot.2 in
      let number : w.ino ≡ slot.0 = subst (IsOf slot.0) wanted (wanted_of_ino v s kept slots slot.0) in
      ap (slot_wanted v s kept slots) number ∙ wanted

pub slots_can : (g : Geometry) (image : Image) (s : Stamp) (kept : Salvaged) (slots : List SlotSeen) (block : ℕ)
    → IsKeptOf (volume_of g) (candidates (volume_of g) image) (candidate_files (volume_of g) image) kept → block < g.dblocks
    → CanCluster (volume_of g) (wanted_slots (volume_of g) s kept slots) block (bytes_of_block image block)
slots_can g image s kept slots block of inside = record { each = λ k few. by_wanted k few (wanted_of (wanted_slots (volume_of g) s kept slots) (inode_of (volume_of g) block k)) refl }
  where
    by_wanted : (k : ℕ) → k < 8 → (wanted : Option SlotWanted) → wanted_of (wanted_slots (volume_of g) s kept slots) (inode_of (volume_of g) block k) ≡ wanted
        → CanBe (volume_of g) (slot_in (bytes_of_block image block) k) wanted
    by_wanted k few None is = tt
    by_wanted k few (Some w) is =
        let v : Volume = volume_of g in
        let found = found_wanted (wanted_slots v s kept slots) (inode_of v block k) w is in
        subst (CanBe v (slot_in (bytes_of_block image block) k)) (made_by v s kept slots w found.0)
        (wanted_can v s kept slots w.ino (slot_in (bytes_of_block image block) k) (λ f among number.
        let bytes : slot_bytes v image f.ino ≡ slot_in (bytes_of_block image block) k =
        ap (slot_bytes v image) (number ∙ found.1) ∙ ap (bytes_in image) (slot_back g block k inside few) in
        subst (IsSealedSlot v f.ino) bytes (kept_sealed v image kept f of among)))
