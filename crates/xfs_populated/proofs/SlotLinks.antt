-- The slot of a link with a long target names its block.
use Rattle.std.proofs.Common.{◌≡◌, ℕ, zero, suc, ◌+◌, ◌/◌, ◌==◌, ◌≤◌, ◌<◌, Bool, true, false, not, ◌&&◌, ◌||◌, nat_le, List, [], ◌∷◌, ◌++◌, length, take, Option, Some, None, arith, refl, sym, subst, ap, ap₂, ◌∙◌, append-nil}
use Rattle.std.specs.Prelude.{if◌then◌else◌, option_map}
use Rattle.std.specs.List.{All, flat_map}
use Rattle.std.proofs.lemmas.Bool.{and_from, eq-eqb, le-leb}
use Rattle.std.proofs.lemmas.List.{take-append-drop}
use Rattle.xfs_word.specs.Extent.{packed}
use Rattle.xfs_word.specs.Field.{field_of, part_of}
use Rattle.xfs_word.specs.Seal.{is_sealed}
use Rattle.xfs_word.specs.declared.extents.Extent.{Extent}
use Rattle.xfs_disk.specs.Blocks.{Image, bytes_of_block}
use Rattle.xfs_disk.specs.declared.stamp.Stamp.{Stamp}
use Rattle.xfs_geom.proofs.Addresses.{block_back}
use Rattle.xfs_geom.specs.Conversions.{address_of}
use Rattle.xfs_geom.specs.Volumes.{Volume, volume_of}
use Rattle.xfs_geom.specs.declared.geometry.Geometry.{Geometry}
use Rattle.xfs_geom.specs.declared.records.Run.{Run}
use Rattle.xfs_inode.specs.Files.{has_link_target, holds_target, is_link, link_seal, target_in}
use Rattle.xfs_inode.specs.Forks.{fork_extent, link_place, only_block}
use Rattle.xfs_inode.specs.Named.{link_named, named_link}
use Rattle.xfs_inode.specs.declared.reading.SlotRead.{SlotRead}
use Rattle.xfs_place.specs.Objects.{AreJoined, rest_of}
use Rattle.xfs_place.specs.declared.wanted.RunAsk.{RunAsk}
use Rattle.xfs_proto.specs.declared.protofile.ProtoNode.{ProtoNode}
use Rattle.xfs_filled.specs.FileTrees.{node_at}
use Rattle.xfs_filled.specs.Forks.{extent_fork, extents_of_owner, extents_of_run, owned_by}
use Rattle.xfs_filled.specs.Numbers.{number_of}
use Rattle.xfs_filled.specs.Slots.{core_at}
use Rattle.xfs_tree.specs.Reading.{Contents}
use Rattle.xfs_volume.specs.declared.cores.Core.{Core}
use Rattle.xfs_populated.proofs.FileServed.{AreServed}
use Rattle.xfs_populated.proofs.SlotKinds.{AllFit, AreFileExtents, all_fit, extents_back, forked_core}
use Rattle.xfs_populated.proofs.SlotMade.{IsForkedSlot}

-- a run of one block
abbrev pub one_block : ℕ → ℕ → Run
one_block owner b = record { start = b; count = 1; owner = owner; offset_word = 0 }

abbrev pub one_ask : ℕ → RunAsk
one_ask owner = record { blocks = 1; owner = owner; offset_word = 0 }

no_more : (ask : RunAsk) (runs : List Run) → AreJoined ask runs → ask.blocks ≡ 0 → All (λ (r : Run). 1 ≤ r.count) runs → runs ≡ []
no_more ask [] joined none some = refl
no_more ask (r ∷ runs) joined none some = let few = joined.1 in let count = some zero r (omega arith) in absurd (omega (arith, few, count, none))

joined_one : (owner : ℕ) (runs : List Run) → AreJoined (one_ask owner) runs → All (λ (r : Run). 1 ≤ r.count) runs → (b : ℕ) × (runs ≡ one_block owner b ∷ [])
joined_one owner [] joined some = absurd (omega (arith, joined))
joined_one owner (r ∷ runs) joined some =
    let few = joined.1 in
    let count = some zero r (omega arith) in
    let one : r.count ≡ 1 = omega (arith, few, count) in
    let rest : runs ≡ [] = no_more (rest_of (one_ask owner) r.count) runs joined.2 (omega (arith, one)) (λ k d low. some (suc k) d (omega (arith, low))) in
    (r.start, ap₂ (λ (x : Run) (xs : List Run). x ∷ xs) (joined.0 ∙ ap (λ (n : ℕ). let x : Run = record { start = r.start; count = n; owner = owner; offset_word = 0 } in x) one) rest)

-- a file that asks for one block has a run of one
pub served_one : (owner : ℕ) (runs : List Run) → AreServed (one_ask owner ∷ []) runs → All (λ (r : Run). 1 ≤ r.count) runs → (b : ℕ) × (runs ≡ one_block owner b ∷ [])
served_one owner runs served some =
    let n = served.0 in
    let whole : take n runs ≡ runs = sym (append-nil (take n runs)) ∙ ap (λ (xs : List Run). take n runs ++ xs) (sym served.3) ∙ take-append-drop n runs in
    joined_one owner runs (subst (AreJoined (one_ask owner)) whole served.2) some

-- the block of a target holds it, sealed for its link
pub record HoldsTarget (v : Volume) (ino b : ℕ) (target block : List ℕ) : Type 0 where
  pub sealed : is_sealed (link_seal v ino b) block ≡ true
  pub front : field_of block 4 4 ≡ 0
  pub long : field_of block 8 4 ≡ length target
  pub bytes : part_of block 56 (length target) ≡ target
  pub lsn : field_of block 48 8 ≡ 0

or_right : (x y : Bool) → y ≡ true → (x || y) ≡ true
or_right true y is = refl
or_right false y is = is

first_of : Extent → List Extent → Extent
first_of none [] = none
first_of none (e ∷ es) = e

module _ (g : Geometry) (s : Stamp) (starts : List ℕ) (ns : List ProtoNode) (runs : List Run) (image : Image) (k b : ℕ) (slot : List ℕ) (tree : Option (Contents Extent)) (link : Option (List ℕ)) (target : List ℕ)
    (type : (node_at ns k).mode / 4096 ≡ 10) (inside : b < g.dblocks) (own : owned_by (number_of (volume_of g) starts k) runs ≡ one_block (number_of (volume_of g) starts k) b ∷ []) where
  abbrev v : Volume
  v = volume_of g

  abbrev ino : ℕ
  ino = number_of v starts k

  -- its extent
  abbrev e : Extent
  e = record { offset = 0; start = address_of v b; count = 1; unwritten = false }

  extents_are : extents_of_owner v ino runs ≡ e ∷ []
  extents_are =
      ap (flat_map (extents_of_run v)) own
      ∙ ap (λ (n : ℕ). let x : Extent = record { offset = 0; start = address_of v n; count = 1; unwritten = false } in x ∷ []) (plain b)
    where
      plain : (n : ℕ) → n + 0 ≡ n
      plain n = omega arith

  module _ (extents : AreFileExtents v (extents_of_owner v ino runs)) (made : IsForkedSlot v (core_at v s starts ns k) (extent_fork (length target) (extents_of_owner v ino runs)) slot) where
    first_extent : fork_extent slot 0 ≡ e
    unfolding first_of
    first_extent =
        let put : part_of slot 176 (length (flat_map packed (e ∷ []))) ≡ flat_map packed (e ∷ []) =
        subst (λ (es : List Extent). part_of slot 176 (length (flat_map packed es)) ≡ flat_map packed es) extents_are made.put in
        ap (first_of e) (extents_back slot (e ∷ []) (subst AllFit extents_are (all_fit v None (extents_of_owner v ino runs) extents.placed)) put)

    place_is : link_place v (forked_core v s starts ns k slot tree link (extent_fork (length target) (extents_of_owner v ino runs))) slot ≡ Some b
    place_is =
        ap₂ (λ (t n : ℕ). if t == 10 && 2 == 2 && n == 1 && nat_le 0 41 && nat_le 16 336 then only_block v (fork_extent slot 0) else None) type (ap length extents_are)
        ∙ ap (only_block v) first_extent
        ∙ block_back v b g.shape.groups.large g.shape.groups.covered g.shape.addresses.enough inside

    named_is : named_link v ino slot ≡ Some b
    unfolding named_link
    named_is = ap (λ (r : SlotRead). link_named v r slot) made.read ∙ place_is

    module _ (is : link ≡ option_map (bytes_of_block image) (named_link v ino slot)) (some : 1 ≤ length target) (most : length target ≤ 1024) (holds : HoldsTarget v ino b target (bytes_of_block image b)) where
      abbrev core : Core
      core = forked_core v s starts ns k slot tree link (extent_fork (length target) (extents_of_owner v ino runs))

      link_is : link ≡ Some (bytes_of_block image b)
      link_is = is ∙ ap (option_map (bytes_of_block image)) named_is

      block_holds : holds_target v ino core slot b (bytes_of_block image b) ≡ true
      block_holds =
          let size : ℕ = length target in
          let block : List ℕ = bytes_of_block image b in
          let long = holds.long in
          and_from (nat_le 1 (length target) && nat_le (length target) 1024 && (fork_extent slot 0).offset == 0 && is_sealed (link_seal v ino b) (bytes_of_block image b) && field_of (bytes_of_block image b) 4 4 == 0)
          (field_of (bytes_of_block image b) 8 4 == length target)
          (and_from (nat_le 1 (length target) && nat_le (length target) 1024 && (fork_extent slot 0).offset == 0 && is_sealed (link_seal v ino b) (bytes_of_block image b)) (field_of (bytes_of_block image b) 4 4 == 0)
          (and_from (nat_le 1 (length target) && nat_le (length target) 1024 && (fork_extent slot 0).offset == 0) (is_sealed (link_seal v ino b) (bytes_of_block image b))
          (and_from (nat_le 1 (length target) && nat_le (length target) 1024) ((fork_extent slot 0).offset == 0)
          (and_from (nat_le 1 (length target)) (nat_le (length target) 1024) (le-leb 1 (length target) some) (le-leb (length target) 1024 most))
          (eq-eqb (fork_extent slot 0).offset 0 (ap (λ (x : Extent). x.offset) first_extent)))
          holds.sealed)
          (eq-eqb (field_of (bytes_of_block image b) 4 4) 0 holds.front))
          (eq-eqb (field_of (bytes_of_block image b) 8 4) (length target) holds.long)

      pub link_holds : has_link_target v ino core slot link ≡ true
      link_holds =
          or_right (not ((node_at ns k).mode / 4096 == 10 && 2 == 2)) (is_link v ino core slot (link_place v core slot) link)
          (ap₂ (λ (p : Option ℕ) (l : Option (List ℕ)). is_link v ino core slot p l) place_is link_is ∙ block_holds)

      pub link_target_is : target_in core link ≡ target
      link_target_is = ap (target_in core) link_is ∙ holds.bytes
