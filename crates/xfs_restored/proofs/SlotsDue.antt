-- Each slot of the kept clusters is what was wanted of it, made of what stood there.
use Rattle.std.proofs.Common.{◌≡◌, ℕ, inl, inr, true, false, ◌+◌, ◌*◌, ◌/◌, ◌%◌, ◌<◌, List, [], length, get_or, Option, Some, MatchOption, refl, sym, ap, ◌∙◌, subst, arith}
use Rattle.std.specs.List.{Contains, flat_map, range_with_len}
use Rattle.std.proofs.lemmas.Bool.{cases_Bool}
use Rattle.std.proofs.lemmas.List.{get_or-map, get_or_default}
use Rattle.xfs_disk.specs.Blocks.{Image, bytes_of_block}
use Rattle.xfs_disk.specs.declared.stamp.Stamp.{Stamp}
use Rattle.xfs_geom.proofs.Addresses.{block_back}
use Rattle.xfs_geom.specs.Conversions.{address_of, block_at, inode_of, slot_at, with_slot}
use Rattle.xfs_geom.specs.Volumes.{Volume, volume_of}
use Rattle.xfs_geom.specs.declared.geometry.Geometry.{Geometry}
use Rattle.xfs_image.specs.Slots.{bytes_in, cluster_blocks, cluster_inodes, inodes_of_block, slot_bytes}
use Rattle.xfs_views.proofs.Members.{Member, contained, contains, flat_member, map_member, row_member}
use Rattle.xfs_place.specs.Pool.{is_listed}
use Rattle.xfs_render.specs.Clusters.{slot_in}
use Rattle.xfs_render.specs.Plans.{planned}
use Rattle.xfs_render.specs.Rendering.{byte_place, is_head, old_at}
use Rattle.xfs_render.specs.Slots.{IsMadeSlot, IsSlotDue}
use Rattle.xfs_render.specs.declared.wanted_slots.SlotWanted.{SlotWanted}
use Rattle.xfs_rename.proofs.xfs_made.Slots.{slots_stand}
use Rattle.xfs_rename.specs.xfs_request.Requests.{volume_wanted}
use Rattle.xfs_rename.specs.xfs_rebuild.Places.{has_wanted, old_places}
use Rattle.xfs_rename.specs.xfs_rebuild.Rebuilds.{Ground, IsPlannedOn, asked, slots_asked}
use Rattle.xfs_rename.specs.xfs_rebuild.declared.planning.Rebuilt.{Rebuilt}
use Rattle.xfs_restored.specs.Rewriting.{IsRewritten}
use Rattle.xfs_restored.proofs.Kept.{cluster_place, none_wanted}
use Rattle.xfs_restored.proofs.Placed.{cluster_inside, cluster_no_head, unwanted_unplanned}
use Rattle.xfs_restored.proofs.Standing.{others_stay, stands}
use Rattle.xfs_restored.proofs.Staying.{off_list}

-- the slot of the inode of a slot is that slot
slot_back : (g : Geometry) (block k : ℕ) → block < g.dblocks → k < 8 → slot_at (volume_of g) (inode_of (volume_of g) block k) ≡ Some (block, k)
unfolding slot_at inode_of
slot_back g block k inside few =
    let v : Volume = volume_of g in
    let whole : (address_of v block * 8 + k) / 8 ≡ address_of v block = omega (arith, few) in
    let rest : (address_of v block * 8 + k) % 8 ≡ k = omega (arith, few) in
    (λ i. with_slot (rest i) (block_at v (whole i)))
    ∙ ap (with_slot k) (block_back v block g.shape.groups.large g.shape.groups.covered g.shape.addresses.enough inside)

module _ (g : Geometry) (sector : List ℕ) (s : Stamp) (image now : Image) (on : Ground) (r : Rebuilt) (is : IsPlannedOn g sector s image on r) (new : IsRewritten g r image now) where
  -- a slot of a block of a kept cluster
  module _ (cluster block k : ℕ) (kept : Member cluster on.kept.clusters) (in_cluster : Member block (cluster_blocks cluster)) (few : k < 8) where
    inside : block < g.dblocks
    inside = cluster_inside g sector s image on r is cluster block kept in_cluster

    back : slot_at (volume_of g) (inode_of (volume_of g) block k) ≡ Some (block, k)
    back = slot_back g block k inside few

    -- where something is wanted of a slot of the block
    module _ (wanted : has_wanted (volume_of g) (slots_asked g s on) block ≡ true) where
      -- where its bytes were at hand
      place : (i : ℕ) × (i < length is.bytes.places) × (byte_place is.bytes i ≡ block)
      place =
          let all : List ℕ = old_places (volume_of g) on.kept.clusters (slots_asked g s on) in
          let one = contains block all (cluster_place (volume_of g) on.kept.clusters (slots_asked g s on) cluster block kept in_cluster wanted) in (
            one.0,
            subst (λ (ps : List ℕ). one.0 < length ps) (sym is.made.at_hand.places') one.1,
            ap (λ (ps : List ℕ). get_or ps one.0 0) is.made.at_hand.places' ∙ get_or_default all one.0 0 block one.1 ∙ one.2,
          )

      other : is_head (volume_of g) (byte_place is.bytes place.0) ≡ false
      other = subst (λ (n : ℕ). is_head (volume_of g) n ≡ false) (sym place.2) (cluster_no_head g sector s image on r is cluster block kept in_cluster)

      low : byte_place is.bytes place.0 < g.dblocks
      low = subst (λ (n : ℕ). n < g.dblocks) (sym place.2) inside

      old_is : old_at is.bytes place.0 ≡ bytes_of_block image block
      old_is =
          ap (λ (old : Image). get_or old place.0 []) is.made.read.old'
          ∙ get_or-map (λ (n : ℕ). get_or image n []) is.bytes.places place.0 0 [] place.1
          ∙ ap (λ (n : ℕ). get_or image n []) place.2

      slot_was : slot_in (old_at is.bytes place.0) k ≡ slot_bytes (volume_of g) image (inode_of (volume_of g) block k)
      slot_was = ap (λ (bytes : List ℕ). slot_in bytes k) old_is ∙ sym (ap (bytes_in image) back)

      first_due : IsSlotDue (volume_of g) is.bytes.stamp.generation is.bytes.slots (inode_of (volume_of g) (byte_place is.bytes place.0) k) (slot_in (old_at is.bytes place.0) k)
          (slot_bytes (volume_of g) now (inode_of (volume_of g) (byte_place is.bytes place.0) k))
      unfolding volume_wanted
      first_due =
          slots_stand (asked g on) is.planned.placed is.bytes is.planned.rendered.super now (stands g sector s image now on r is new) place.0 k place.1 few other low

      made_due : IsSlotDue (volume_of g) s.generation (slots_asked g s on) (inode_of (volume_of g) block k) (slot_bytes (volume_of g) image (inode_of (volume_of g) block k))
          (slot_bytes (volume_of g) now (inode_of (volume_of g) block k))
      made_due =
          let ino : ℕ = inode_of (volume_of g) block k in
          let second : IsSlotDue (volume_of g) is.bytes.stamp.generation is.bytes.slots ino (slot_in (old_at is.bytes place.0) k) (slot_bytes (volume_of g) now ino) =
          subst (λ (n : ℕ). IsSlotDue (volume_of g) is.bytes.stamp.generation is.bytes.slots (inode_of (volume_of g) n k) (slot_in (old_at is.bytes place.0) k)
          (slot_bytes (volume_of g) now (inode_of (volume_of g) n k))) place.2 first_due in
          let third : IsSlotDue (volume_of g) is.bytes.stamp.generation is.bytes.slots ino (slot_bytes (volume_of g) image ino) (slot_bytes (volume_of g) now ino) =
          subst (λ (old : List ℕ). IsSlotDue (volume_of g) is.bytes.stamp.generation is.bytes.slots ino old (slot_bytes (volume_of g) now ino)) slot_was second in
          let fourth : IsSlotDue (volume_of g) is.bytes.stamp.generation (slots_asked g s on) ino (slot_bytes (volume_of g) image ino) (slot_bytes (volume_of g) now ino) =
          subst (λ (ws : List SlotWanted). IsSlotDue (volume_of g) is.bytes.stamp.generation ws ino (slot_bytes (volume_of g) image ino) (slot_bytes (volume_of g) now ino))
          is.made.at_hand.slots' third in
          subst (λ (t : Stamp). IsSlotDue (volume_of g) t.generation (slots_asked g s on) ino (slot_bytes (volume_of g) image ino) (slot_bytes (volume_of g) now ino))
          is.made.at_hand.stamp' fourth

    -- and where nothing is: the block is planned nowhere
    left_due : has_wanted (volume_of g) (slots_asked g s on) block ≡ false → IsSlotDue (volume_of g) s.generation (slots_asked g s on) (inode_of (volume_of g) block k)
        (slot_bytes (volume_of g) image (inode_of (volume_of g) block k)) (slot_bytes (volume_of g) now (inode_of (volume_of g) block k))
    left_due none =
        let v : Volume = volume_of g in
        let ino : ℕ = inode_of v block k in
        let out : is_listed (planned is.planned.plan) block ≡ false =
        off_list (λ at. at ≡ block) (planned is.planned.plan) block (unwanted_unplanned g sector s image on r is cluster block kept in_cluster none) refl in
        let stays : bytes_of_block now block ≡ bytes_of_block image block = others_stay g sector s image now on r is new block out in
        let same : slot_bytes v now ino ≡ slot_bytes v image ino = ap (bytes_in now) back ∙ ap (λ (bytes : List ℕ). slot_in bytes k) stays ∙ sym (ap (bytes_in image) back) in
        subst (λ (o : Option SlotWanted). MatchOption o (slot_bytes v now ino ≡ slot_bytes v image ino) (λ w. IsMadeSlot v s.generation w (slot_bytes v image ino) (slot_bytes v now ino)))
        (sym (none_wanted v (slots_asked g s on) block k none few)) same

    slot_due : IsSlotDue (volume_of g) s.generation (slots_asked g s on) (inode_of (volume_of g) block k) (slot_bytes (volume_of g) image (inode_of (volume_of g) block k))
        (slot_bytes (volume_of g) now (inode_of (volume_of g) block k))
    slot_due = elim (cases_Bool (has_wanted (volume_of g) (slots_asked g s on) block)) [ inl wanted ↦ made_due wanted | inr none ↦ left_due none ]

  pub slots_due : (ino : ℕ) → Contains (flat_map (cluster_inodes (volume_of g)) on.kept.clusters) ino
      → IsSlotDue (volume_of g) s.generation (slots_asked g s on) ino (slot_bytes (volume_of g) image ino) (slot_bytes (volume_of g) now ino)
  unfolding cluster_inodes
  slots_due ino has =
      let v : Volume = volume_of g in
      let one = flat_member (cluster_inodes v) ino on.kept.clusters (contained ino (flat_map (cluster_inodes v) on.kept.clusters) has) in
      let two = flat_member (inodes_of_block v) ino (cluster_blocks one.0) one.2 in
      let three = map_member (inode_of v two.0) ino (range_with_len 0 8) two.2 in
      let row = row_member three.0 0 8 three.1 in
      let high = row.high in
      subst (λ (n : ℕ). IsSlotDue v s.generation (slots_asked g s on) n (slot_bytes v image n) (slot_bytes v now n)) three.2
      (slot_due one.0 two.0 three.0 one.1 two.1 (omega (arith, high)))
