-- What is known of a slot by what was kept of it in place of its bytes is what it reads as.
use Rattle.std.proofs.Common.{◌≡◌, ℕ, Bool, true, false, ◌==◌, ◌&&◌, if◌then◌else◌, inl, inr, List, Option, Some, None, refl, sym, ap, ◌∙◌, subst}
use Rattle.std.specs.List.{flat_map}
use Rattle.std.proofs.lemmas.Bool.{both_ways, eq-eqb, eqb-true, false_from_ne_true}
use Rattle.xfs_disk.specs.Blocks.{Image}
use Rattle.xfs_disk.specs.Lists.{is_among}
use Rattle.xfs_word.specs.declared.extents.Extent.{Extent}
use Rattle.xfs_geom.specs.Volumes.{Volume}
use Rattle.xfs_tree.specs.Reading.{Contents}
use Rattle.xfs_image.specs.Claims.{candidate_inodes}
use Rattle.xfs_image.specs.Slots.{reads_as, slot_bytes}
use Rattle.xfs_inode.specs.Files.{AttrFork, attr_fork, by_slot, data_fork, feature_of, file_record, file_read, has_leaf, is_core, is_counted, is_off_attributes, is_whole_fork, no_attrs, used_file, with_attrs, with_data, with_feature}
use Rattle.xfs_inode.specs.Forks.{attr_place}
use Rattle.xfs_inode.specs.Slots.{slot_read}
use Rattle.xfs_inode.specs.declared.files.FileRead.{FileRead}
use Rattle.xfs_inode.specs.declared.files.FileRead.TheVariants as Reads
use Rattle.xfs_inode.specs.declared.reading.SlotRead.{SlotRead}
use Rattle.xfs_inode.specs.declared.reading.SlotRead.TheVariants as Read
use Rattle.xfs_views.proofs.Members.{Member, any_member, flat_member, member_any, member_flat}
use Rattle.xfs_rounds.specs.Facts.{reading_of}
use Rattle.xfs_rename.specs.xfs_slots.Facts.{slot_fact}
use Rattle.xfs_rename.specs.xfs_slots.Gathered.{bare_if, bare_inodes}
use Rattle.xfs_volume.specs.declared.cores.Core.{Core}
use Rattle.xfs_rename.specs.xfs_request.Slots.{is_bare}
use Rattle.xfs_rename.specs.xfs_request.declared.seen.SlotState.TheVariants as State
use Rattle.xfs_restored.specs.Kept.{state_by, state_read}

-- a slot is not known as free
abbrev IsUsed : FileRead → Type 0
IsUsed read = state_read read ≡ (if is_bare (state_read read) then State.Bare else State.Other)

if_used : (t : Bool) (a b : FileRead) → IsUsed a → IsUsed b → IsUsed (if t then a else b)
if_used true a b one other = one
if_used false a b one other = other

attrs_used : (v : Volume) (ino : ℕ) (core : Core) (slot : List ℕ) (link : Option (List ℕ)) (held : Contents Extent) (fork : Option AttrFork)
    → IsUsed (with_attrs v ino core slot link held fork)
attrs_used v ino core slot link held None = refl
attrs_used v ino core slot link held (Some fork) =
    if_used (is_counted core held fork && is_off_attributes v held fork) (Reads.File (file_record ino core slot link held fork))
    (if has_leaf fork then Reads.FileWithoutAttrs (file_record ino core slot link held no_attrs) else Reads.Unsound) refl
    (if_used (has_leaf fork) (Reads.FileWithoutAttrs (file_record ino core slot link held no_attrs)) Reads.Unsound refl refl)

data_used : (v : Volume) (ino : ℕ) (core : Core) (slot : List ℕ) (attr link : Option (List ℕ)) (held : Option (Contents Extent)) → IsUsed (with_data v ino core slot attr link held)
data_used v ino core slot attr link None = refl
data_used v ino core slot attr link (Some held) =
    if_used (is_whole_fork v ino core slot link held) (with_attrs v ino core slot link held (attr_fork v ino core slot attr)) Reads.Unsound
    (attrs_used v ino core slot link held (attr_fork v ino core slot attr)) refl

feature_used : (feature : Option ℕ) (read : FileRead) → IsUsed read → IsUsed (with_feature feature read)
feature_used None read used = used
feature_used (Some what) read used = refl

used_is : (v : Volume) (ino : ℕ) (core : Core) (slot : List ℕ) (tree : Option (Contents Extent)) (attr link : Option (List ℕ)) → IsUsed (used_file v ino core slot tree attr link)
used_is v ino core slot tree attr link =
    feature_used (feature_of v ino (attr_place v core slot) attr) (if is_core core then with_data v ino core slot attr link (data_fork core slot tree) else Reads.Unsound)
    (if_used (is_core core) (with_data v ino core slot attr link (data_fork core slot tree)) Reads.Unsound (data_used v ino core slot attr link (data_fork core slot tree)) refl)

by_reading : (v : Volume) (ino : ℕ) (read : SlotRead) (slot : List ℕ) (tree : Option (Contents Extent)) (attr link : Option (List ℕ))
    → state_read (by_slot v ino read slot tree attr link) ≡ state_by (is_bare (state_read (by_slot v ino read slot tree attr link))) (reading_of read)
by_reading v ino Read.Unsound slot tree attr link = refl
by_reading v ino Read.Free slot tree attr link = refl
by_reading v ino (Read.Unsupported what) slot tree attr link = refl
by_reading v ino (Read.InUse core) slot tree attr link = used_is v ino core slot tree attr link

by_itself : (v : Volume) (image : Image) (ino : ℕ) → state_read (reads_as v image ino) ≡ state_by (is_bare (state_read (reads_as v image ino))) (slot_fact v image ino).reading
unfolding reads_as file_read
by_itself v image ino = by_reading v ino (slot_read v ino (slot_bytes v image ino)) (slot_bytes v image ino) _ _ _

-- the inodes of files without their attributes are those whose slots read so
listed_bare : (ino n : ℕ) (read : FileRead) → Member ino (bare_if n read) → (n ≡ ino) × (is_bare (state_read read) ≡ true)
listed_bare ino n Reads.Free is = absurd is
listed_bare ino n (Reads.File file) is = absurd is
listed_bare ino n (Reads.FileWithoutAttrs file) is = elim is [ inl same ↦ (same, refl) | inr none ↦ absurd none ]
listed_bare ino n (Reads.Unsupported what) is = absurd is
listed_bare ino n Reads.Unsound is = absurd is

bare_listed : (ino : ℕ) (read : FileRead) → is_bare (state_read read) ≡ true → Member ino (bare_if ino read)
bare_listed ino Reads.Free is = absurd cc
bare_listed ino (Reads.File file) is = absurd cc
bare_listed ino (Reads.FileWithoutAttrs file) is = inl refl
bare_listed ino (Reads.Unsupported what) is = absurd cc
bare_listed ino Reads.Unsound is = absurd cc

among_bare : (v : Volume) (image : Image) (ino : ℕ) → Member ino (candidate_inodes v image) → is_among (bare_inodes v image) ino ≡ is_bare (state_read (reads_as v image ino))
unfolding bare_inodes
among_bare v image ino candidate = by_case (is_bare (state_read (reads_as v image ino))) refl
  where
    by_case : (t : Bool) → is_bare (state_read (reads_as v image ino)) ≡ t → is_among (flat_map (λ n. bare_if n (reads_as v image n)) (candidate_inodes v image)) ino ≡ t
    by_case true bare =
        member_any (λ m. m == ino) ino (flat_map (λ n. bare_if n (reads_as v image n)) (candidate_inodes v image))
        (member_flat (λ n. bare_if n (reads_as v image n)) ino ino (candidate_inodes v image) candidate (bare_listed ino (reads_as v image ino) bare)) (eq-eqb ino ino refl)
    by_case false other = false_from_ne_true (is_among (flat_map (λ n. bare_if n (reads_as v image n)) (candidate_inodes v image)) ino) (λ found.
        let one = any_member (λ m. m == ino) (flat_map (λ n. bare_if n (reads_as v image n)) (candidate_inodes v image)) found in
        let from = flat_member (λ n. bare_if n (reads_as v image n)) one.0 (candidate_inodes v image) one.1 in
        let listed = listed_bare one.0 from.0 (reads_as v image from.0) from.2 in
        let number : from.0 ≡ ino = listed.0 ∙ eqb-true one.0 ino one.2 in
        both_ways (is_bare (state_read (reads_as v image ino))) other (subst (λ (n : ℕ). is_bare (state_read (reads_as v image n)) ≡ true) number listed.1))

pub known : (v : Volume) (image : Image) (ino : ℕ) → Member ino (candidate_inodes v image)
    → state_read (reads_as v image ino) ≡ state_by (is_among (bare_inodes v image) ino) (slot_fact v image ino).reading
known v image ino candidate =
    by_itself v image ino ∙ ap (λ (t : Bool). state_by t (slot_fact v image ino).reading) (sym (among_bare v image ino candidate))
