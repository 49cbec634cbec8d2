-- The log sequence numbers of the slots of clusters where names were changed.
use Rattle.std.proofs.Common.{◌≡◌, ◌⊎◌, inl, inr, ℕ, Bool, true, ◌+◌, ◌*◌, ◌<◌, ◌==◌, if◌then◌else◌, List, [], ◌∷◌, map, Option, Some, None, refl, sym, ap, ◌∙◌, subst, arith}
use Rattle.std.specs.Prelude.{MatchOption}
use Rattle.std.specs.List.{AllByRecursion, flat_map, range_with_len}
use Rattle.std.proofs.lemmas.Bool.{and_from, eq-eqb}
use Rattle.xfs_disk.specs.Blocks.{Image, bytes_of_block}
use Rattle.xfs_disk.specs.Lists.{is_among}
use Rattle.xfs_word.specs.Field.{part_of}
use Rattle.xfs_geom.specs.Conversions.{inode_of}
use Rattle.xfs_geom.specs.Volumes.{Volume, volume_of}
use Rattle.xfs_geom.specs.declared.geometry.Geometry.{Geometry}
use Rattle.xfs_image.specs.Claims.{candidate_inodes}
use Rattle.xfs_image.specs.Clusters.{cluster_of}
use Rattle.xfs_image.specs.Lsns.{LsnPlace, cluster_places, lsn_at, slot_place}
use Rattle.xfs_image.specs.Slots.{bytes_in, cluster_blocks, cluster_inodes, inodes_of_block, slot_bytes}
use Rattle.xfs_inodebuild.specs.declared.forks.ForkWanted.{ForkWanted}
use Rattle.xfs_views.proofs.Addresses.{IsPlaced}
use Rattle.xfs_views.proofs.Images.{inode_cluster}
use Rattle.xfs_views.proofs.Members.{Member, contained, flat_member, map_member, member_all, member_any, member_flat, member_left, member_map, row_member}
use Rattle.xfs_render.specs.Slots.{DropsAttrs, IsBased, IsMadeSlot, IsSlotDue, SetsFork, SetsLinks, wanted_of}
use Rattle.xfs_render.specs.declared.wanted_slots.SlotBase.{SlotBase}
use Rattle.xfs_render.specs.declared.wanted_slots.SlotBase.TheVariants as Base
use Rattle.xfs_render.specs.declared.wanted_slots.SlotWanted.{SlotWanted}
use Rattle.xfs_rename.proofs.xfs_made.Numbers.{number_in_part}
use Rattle.xfs_space.proofs.RecordedMaps.{group_inside}
use Rattle.xfs_volume.specs.declared.cores.Core.{Core}
use Rattle.xfs_salvage.specs.declared.found.Salvaged.{Salvaged}
use Rattle.xfs_rename.specs.xfs_request.Cycles.{keeps_lsn, kept_lsns, lsn_listed}
use Rattle.xfs_rename.specs.xfs_request.declared.seen.SlotSeen.{SlotSeen}
use Rattle.xfs_rename.proofs.xfs_made.Chunked.{IsHalf}
use Rattle.xfs_restored.specs.Kept.{all_slots_seen, slot_seen}
use Rattle.xfs_rename.proofs.xfs_built.SlotNumbers.{slot_back, slot_lsn}
use Rattle.xfs_restored.specs.StayingNumbers.{IsMadeAnew, IsStayingSlot, StaysKept}
use Rattle.xfs_rename.specs.xfs_built.Bases.{StartsAtZero}

abbrev lsn_of : Core → ℕ
lsn_of core = core.lsn

-- no change of a slot changes its number
bare_lsn : (v : Volume) (ino : ℕ) (attrs : Option ℕ) (old new : List ℕ) → MatchOption attrs (new ≡ old) (λ n. DropsAttrs v ino n old new) → slot_lsn new ≡ slot_lsn old
bare_lsn v ino None old new same = ap slot_lsn same
bare_lsn v ino (Some n) old new drops = ap lsn_of drops.stated

forked_lsn : (v : Volume) (ino : ℕ) (fork : Option ForkWanted) (old new : List ℕ) → MatchOption fork (new ≡ old) (λ f. SetsFork v ino f old new) → slot_lsn new ≡ slot_lsn old
forked_lsn v ino None old new same = ap slot_lsn same
forked_lsn v ino (Some f) old new sets = ap lsn_of sets.stated

linked_lsn : (v : Volume) (ino : ℕ) (nlink : Option ℕ) (old new : List ℕ) → MatchOption nlink (new ≡ old) (λ n. SetsLinks v ino n old new) → slot_lsn new ≡ slot_lsn old
linked_lsn v ino None old new same = ap slot_lsn same
linked_lsn v ino (Some n) old new sets = ap lsn_of sets.stated

-- but the base gives it
made_lsn : (v : Volume) (generation : ℕ) (w : SlotWanted) (old new : List ℕ) → (made : IsMadeSlot v generation w old new) → slot_lsn new ≡ slot_lsn made.based
made_lsn v generation w old new made =
    linked_lsn v w.ino w.nlink made.forked new made.links ∙ (forked_lsn v w.ino w.fork made.bare made.forked made.fork ∙ bare_lsn v w.ino w.drop_attrs made.based made.bare made.attrs)

zero_base : (v : Volume) (generation ino : ℕ) (base : SlotBase) (old new : List ℕ) → StartsAtZero base → IsBased v generation ino base old new → slot_lsn new ≡ 0
zero_base v generation ino Base.Kept old new zero' based = absurd zero'
zero_base v generation ino Base.Free old new zero' based = ap lsn_of based.stated
zero_base v generation ino (Base.Fresh core) old new zero' based = ap lsn_of based.stated ∙ zero'

kept_base : (v : Volume) (generation ino : ℕ) (base : SlotBase) (old new : List ℕ) → base ≡ Base.Kept → IsBased v generation ino base old new → slot_lsn new ≡ slot_lsn old
kept_base v generation ino base old new kept based = ap slot_lsn (subst (λ (b : SlotBase). IsBased v generation ino b old new) kept based)

new_lsn : (v : Volume) (generation : ℕ) (o : Option SlotWanted) (old new : List ℕ) → IsMadeAnew o → MatchOption o (new ≡ old) (λ w. IsMadeSlot v generation w old new) → slot_lsn new ≡ 0
new_lsn v generation None old new anew same = absurd anew
new_lsn v generation (Some w) old new anew made = made_lsn v generation w old new made ∙ zero_base v generation w.ino w.base old made.based anew made.base

same_lsn : (v : Volume) (generation : ℕ) (o : Option SlotWanted) (old new : List ℕ) → StaysKept o → MatchOption o (new ≡ old) (λ w. IsMadeSlot v generation w old new) → slot_lsn new ≡ slot_lsn old
same_lsn v generation None old new stays same = ap slot_lsn same
same_lsn v generation (Some w) old new stays made = made_lsn v generation w old new made ∙ kept_base v generation w.ino w.base old made.based stays made.base

-- half of a chunk stands in a group
half_placed : (g : Geometry) (k : ℕ) → IsHalf g k → IsPlaced g k
half_placed g k at =
    let inside = at.inside in
    elim at.is [
      | inl first ↦ record { ag = at.ag; i = 2 * at.c; group = at.group; inside = omega (arith, inside); is = omega (arith, first) }
      | inr second ↦ record { ag = at.ag; i = 2 * at.c + 1; group = at.group; inside = omega (arith, inside); is = omega (arith, second) }
    ]

module _ (g : Geometry) (generation : ℕ) (image now : Image) (after : Salvaged) (seen : List SlotSeen) (slots : List SlotWanted)
    (known : seen ≡ all_slots_seen (volume_of g) image) (halves : AllByRecursion (IsHalf g) after.clusters)
    (due : (ino : ℕ) → Member ino (flat_map (cluster_inodes (volume_of g)) after.clusters) → IsSlotDue (volume_of g) generation slots ino (slot_bytes (volume_of g) image ino) (slot_bytes (volume_of g) now ino))
    (left : (ino : ℕ) → Member ino (flat_map (cluster_inodes (volume_of g)) after.clusters) → IsMadeAnew (wanted_of slots ino) ⊎ IsStayingSlot (volume_of g) image after slots ino)
    (lsns : List ℕ) where
  abbrev v : Volume
  v = volume_of g

  abbrev numbers : List ℕ
  numbers = kept_lsns v after seen lsns

  -- a number that stays is one of those that are kept
  stays_among : (ino : ℕ) → Member ino (flat_map (cluster_inodes v) after.clusters) → IsStayingSlot v image after slots ino → Member (slot_lsn (slot_bytes v image ino)) numbers
  unfolding kept_lsns all_slots_seen
  stays_among ino is at =
      let one : SlotSeen = slot_seen v image ino in
      let of = flat_member (cluster_inodes v) ino after.clusters is in
      let placed = half_placed g of.0 (member_all (IsHalf g) of.0 after.clusters halves of.1) in
      let cluster : is_among after.clusters (cluster_of v ino) ≡ true =
      member_any (λ m. m == cluster_of v ino) of.0 after.clusters of.1 (eq-eqb of.0 (cluster_of v ino) (sym (inode_cluster g of.0 ino placed of.2))) in
      let keeps : keeps_lsn v after one ≡ true = and_from (is_among after.clusters (cluster_of v ino)) _ cluster at.stays in
      let there : Member one seen = subst (λ (xs : List SlotSeen). Member one xs) (sym known) (member_map (slot_seen v image) ino (candidate_inodes v image) (contained ino (candidate_inodes v image) at.candidate)) in
      let listed : Member one.lsn (lsn_listed v after one) = subst (λ (t : Bool). Member one.lsn (if t then one.lsn ∷ [] else [])) (sym keeps) (inl refl) in
      member_left one.lsn (flat_map (lsn_listed v after) seen) lsns (member_flat (lsn_listed v after) one one.lsn seen there listed)

  abbrev StaysOrNone : ℕ → Type 0
  StaysOrNone n = (n ≡ 0) ⊎ Member n numbers

  slot_number : (ino : ℕ) → Member ino (flat_map (cluster_inodes v) after.clusters) → StaysOrNone (slot_lsn (slot_bytes v now ino))
  slot_number ino is = elim (left ino is) [
    | inl anew ↦ inl (new_lsn v generation (wanted_of slots ino) (slot_bytes v image ino) (slot_bytes v now ino) anew (due ino is))
    | inr stays ↦
        inr
        (subst (λ (n : ℕ). Member n numbers) (sym (same_lsn v generation (wanted_of slots ino) (slot_bytes v image ino) (slot_bytes v now ino) stays.base (due ino is)))
        (stays_among ino is stays))
  ]

  pub place_number : (place : LsnPlace) → Member place (flat_map cluster_places after.clusters) → StaysOrNone (lsn_at now place).lsn
  unfolding cluster_inodes
  place_number place is =
      let in_cluster = flat_member cluster_places place after.clusters is in
      let k : ℕ = in_cluster.0 in
      let in_block = flat_member (λ block. map (slot_place block) (range_with_len 0 8)) place (cluster_blocks k) in_cluster.2 in
      let block : ℕ = in_block.0 in
      let slot = map_member (slot_place block) place (range_with_len 0 8) in_block.2 in
      let row = row_member slot.0 0 8 slot.1 in
      let few = row.high in
      let ino : ℕ = inode_of v block slot.0 in
      let inode : Member ino (flat_map (cluster_inodes v) after.clusters) =
      member_flat (cluster_inodes v) k ino after.clusters in_cluster.1
      (member_flat (inodes_of_block v) block ino (cluster_blocks k) in_block.1 (member_map (inode_of v block) slot.0 (range_with_len 0 8) slot.1)) in
      let inside : block < g.dblocks = block_inside k block in_cluster.1 in_block.1 in
      let bytes : slot_bytes v now ino ≡ part_of (bytes_of_block now block) (512 * slot.0) 512 = ap (bytes_in now) (slot_back g block slot.0 inside (omega (arith, few))) in
      let same : (lsn_at now place).lsn ≡ slot_lsn (slot_bytes v now ino) =
      ap (λ (p : LsnPlace). (lsn_at now p).lsn) (sym slot.2)
      ∙ sym (number_in_part (bytes_of_block now block) (512 * slot.0) 512 112 8 (omega arith))
      ∙ ap slot_lsn (sym bytes) in
      subst StaysOrNone (sym same) (slot_number ino inode)
    where
      block_inside : (k block : ℕ) → Member k after.clusters → Member block (cluster_blocks k) → block < g.dblocks
      block_inside k block cluster at =
          let placed : IsPlaced g k = half_placed g k (member_all (IsHalf g) k after.clusters halves cluster) in
          let ends = group_inside (volume_of g) placed.ag placed.group g.shape.groups.last in
          let b = row_member block k 4 at in
          let high = b.high in
          let inside = placed.inside in
          let start = placed.is in
          omega (arith, ends, inside, start, high)
