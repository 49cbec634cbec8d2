-- Each slot of the clusters that a volume has once its names are settled is what was wanted of it, made of what stood there.
use Rattle.std.proofs.Common.{◌≡◌, ◌⊎◌, inl, inr, ℕ, Bool, true, false, ◌+◌, ◌*◌, ◌/◌, ◌%◌, ◌≤◌, ◌<◌, ◌==◌, ◌&&◌, nat_le, nat_lt, if◌then◌else◌, List, [], ◌∷◌, ◌++◌, length, map, get_or, Option, Some, MatchOption, refl, sym, ap, ◌∙◌, subst, arith}
use Rattle.std.specs.List.{All, Contains, flat_map, range_with_len}
use Rattle.std.proofs.lemmas.Bool.{and_from, cases_Bool, le-leb, lt-ltb, or_parts}
use Rattle.std.proofs.lemmas.List.{get_or-map, get_or_default}
use Rattle.std.proofs.lemmas.List.Elements.{recursion_from_All}
use Rattle.xfs_disk.specs.Blocks.{Image, bytes_of_block}
use Rattle.xfs_disk.specs.declared.stamp.Stamp.{Stamp}
use Rattle.xfs_geom.proofs.Addresses.{block_back}
use Rattle.xfs_geom.specs.Conversions.{address_of, block_at, inode_of, slot_at, with_slot}
use Rattle.xfs_geom.specs.Runs.{covers}
use Rattle.xfs_geom.specs.Volumes.{Volume, volume_of}
use Rattle.xfs_geom.specs.declared.geometry.Geometry.{Geometry}
use Rattle.xfs_space.specs.Owners.{file_runs}
use Rattle.xfs_image.specs.Slots.{bytes_in, cluster_blocks, cluster_inodes, inodes_of_block, slot_bytes}
use Rattle.xfs_place.specs.Claims.{IsClaimedRun}
use Rattle.xfs_place.specs.Pool.{is_listed, is_taken}
use Rattle.xfs_place.specs.Wanted.{IsOffFixed, kept_runs}
use Rattle.xfs_place.specs.declared.wanted.Wanted.{Wanted}
use Rattle.xfs_views.proofs.Members.{Member, contained, contains, flat_member, map_member, member_all, member_any, member_left, member_map, member_right, row_member}
use Rattle.xfs_render.specs.Clusters.{slot_in}
use Rattle.xfs_render.specs.Plans.{HoldsPlan, planned}
use Rattle.xfs_render.specs.Rendering.{byte_place, is_head, old_at}
use Rattle.xfs_render.specs.Slots.{IsMadeSlot, IsSlotDue, wanted_of}
use Rattle.xfs_render.specs.declared.bytes.Bytes.{Bytes}
use Rattle.xfs_render.specs.declared.wanted_slots.SlotWanted.{SlotWanted}
use Rattle.xfs_rename.proofs.xfs_made.Slots.{slots_stand}
use Rattle.xfs_rename.specs.xfs_made.Standing.{HasHeads, IsStanding}
use Rattle.xfs_salvage.specs.Kept.{run_of_cluster}
use Rattle.xfs_rename.specs.xfs_rebuild.Places.{has_wanted, old_places}
use Rattle.xfs_rename.specs.xfs_rebuild.declared.names_due.NamesDue.{NamesDue}
use Rattle.xfs_restored.proofs.Kept.{cluster_place, head_place, none_wanted, some_wanted, unwanted_off}
use Rattle.xfs_rename.proofs.xfs_made.PlansApart.{kept_off}
use Rattle.xfs_restored.proofs.Staying.{off_list}
use Rattle.xfs_rename.specs.Lost.{lost_due}
use Rattle.xfs_rename.specs.Objects.{wanted_with}
use Rattle.xfs_rename.specs.Renames.{IsRenamed, placed_forks, renamed_slots, renamed_wanted}
use Rattle.xfs_rename.specs.Settled.{settled, staying_files, with_number_in_order, with_numbers}
use Rattle.xfs_rename.specs.declared.planning.Renamed.{Renamed}

-- a number among others is one of them
number_either : (c x : ℕ) (ys : List ℕ) → Member c (with_number_in_order x ys) → (x ≡ c) ⊎ Member c ys
number_either c x [] is = elim is [ inl same ↦ inl same | inr none ↦ absurd none ]
number_either c x (y ∷ ys) is = by_test (nat_lt y x) (number_either c x ys) is
  where
    by_test : (t : Bool) → (Member c (with_number_in_order x ys) → (x ≡ c) ⊎ Member c ys) → Member c (if t then y ∷ with_number_in_order x ys else x ∷ y ∷ ys) → (x ≡ c) ⊎ Member c (y ∷ ys)
    by_test true rest has = elim has [
      | inl same ↦ inr (inl same)
      | inr there ↦ elim (rest there) [ inl own ↦ inl own | inr other ↦ inr (inr other) ]
    ]
    by_test false rest has = has

pub numbers_either : (c : ℕ) (xs ys : List ℕ) → Member c (with_numbers xs ys) → Member c xs ⊎ Member c ys
numbers_either c [] ys is = inr is
numbers_either c (x ∷ xs) ys is = elim (numbers_either c xs (with_number_in_order x ys) is) [
  | inl there ↦ inl (inr there)
  | inr among ↦ elim (number_either c x ys among) [ inl same ↦ inl (inl same) | inr other ↦ inr other ]
]

-- the slot of the inode of a slot is that slot
slot_back : (g : Geometry) (block k : ℕ) → block < g.dblocks → k < 8 → slot_at (volume_of g) (inode_of (volume_of g) block k) ≡ Some (block, k)
unfolding slot_at inode_of
slot_back g block k inside few =
    let v : Volume = volume_of g in
    let whole : (address_of v block * 8 + k) / 8 ≡ address_of v block = omega (arith, few) in
    let rest : (address_of v block * 8 + k) % 8 ≡ k = omega (arith, few) in
    (λ i. with_slot (rest i) (block_at v (whole i)))
    ∙ ap (with_slot k) (block_back v block g.shape.groups.large g.shape.groups.covered g.shape.addresses.enough inside)

module _ (g : Geometry) (sector : List ℕ) (s : Stamp) (image now : Image) (n : NamesDue) (r : Renamed) (is : IsRenamed g sector s image n r) (holds : HoldsPlan now is.left.plan)
    (size : g.dblocks ≤ length now) where
  abbrev asked : Wanted
  asked = renamed_wanted g n is.w is.built

  abbrev due : List SlotWanted
  due = renamed_slots g s n is.w (placed_forks g n is.w is.built is.placed)

  abbrev clusters : List ℕ
  clusters = (settled n (lost_due g n) is.w).clusters

  places_are : is.bytes.places ≡ old_places (volume_of g) clusters due
  places_are = ap (λ (b : Bytes). b.places) is.made.with_objects ∙ is.made.at_hand.places'

  slots_are : is.bytes.slots ≡ due
  slots_are = ap (λ (b : Bytes). b.slots) is.made.with_objects ∙ is.made.at_hand.slots'

  stamp_is : is.bytes.stamp ≡ s
  stamp_is = ap (λ (b : Bytes). b.stamp) is.made.with_objects ∙ is.made.at_hand.stamp'

  heads : HasHeads asked is.bytes
  unfolding wanted_with
  heads ag low =
      let at = head_place (volume_of g) clusters due ag low in (
        ag,
        subst (λ (ps : List ℕ). ag < length ps) (sym places_are) at.0,
        ap (λ (ps : List ℕ). get_or ps ag 0) places_are ∙ at.1,
      )

  pub stands : IsStanding asked is.placed is.bytes is.left.rendered.super now
  unfolding wanted_with
  stands = record { volume' = is.left.rendered.reads now holds; due = is.left.rendered.due; heads = heads; size = size }

  run_kept : (c : ℕ) → Member c clusters → Member (run_of_cluster c) (kept_runs asked)
  unfolding wanted_with
  run_kept c has = elim (numbers_either c (lost_due g n).added n.clusters has) [
    | inl new ↦ member_right (run_of_cluster c) asked.taken (map run_of_cluster (lost_due g n).added) (member_map run_of_cluster c (lost_due g n).added new)
    | inr old ↦
        member_left (run_of_cluster c) asked.taken asked.new
        (member_left (run_of_cluster c) (map run_of_cluster n.clusters) (flat_map (file_runs (volume_of g)) (staying_files is.w.rebuilt n.fresh n.files))
        (member_map run_of_cluster c n.clusters old))
  ]

  -- no block of a cluster has a fixed use
  pub cluster_clear : (c : ℕ) → Member c clusters → IsOffFixed (volume_of g) (run_of_cluster c)
  unfolding wanted_with
  cluster_clear c has =
      member_all (IsOffFixed (volume_of g)) (run_of_cluster c) (kept_runs asked ++ is.placed.runs)
      (recursion_from_All (IsOffFixed (volume_of g)) (kept_runs asked ++ is.placed.runs) is.stands.apart.clear)
      (member_left (run_of_cluster c) (kept_runs asked) is.placed.runs (run_kept c has))

  cluster_claimed : (c : ℕ) → Member c clusters → IsClaimedRun g.dblocks (run_of_cluster c)
  unfolding wanted_with
  cluster_claimed c has =
      member_all (IsClaimedRun g.dblocks) (run_of_cluster c) (kept_runs asked ++ is.placed.runs)
      (recursion_from_All (IsClaimedRun g.dblocks) (kept_runs asked ++ is.placed.runs) is.stands.apart.each)
      (member_left (run_of_cluster c) (kept_runs asked) is.placed.runs (run_kept c has))

  -- the blocks that are not planned stay
  abbrev pub OthersStay : Type 0
  OthersStay = (block : ℕ) → is_listed (planned is.left.plan) block ≡ false → bytes_of_block now block ≡ bytes_of_block image block

  module _ (cluster block k : ℕ) (kept : Member cluster clusters) (in_cluster : Member block (cluster_blocks cluster)) (few : k < 8) where
    inside : block < g.dblocks
    inside =
        let claim = cluster_claimed cluster kept in
        let row = row_member block cluster 4 in_cluster in
        let ends = claim.inside in
        let high = row.high in
        omega (arith, ends, high)

    covered : covers block (run_of_cluster cluster) ≡ true
    covered =
        let row = row_member block cluster 4 in_cluster in
        let low = row.low in
        let high = row.high in
        and_from (nat_le cluster block) (nat_lt block (cluster + 4)) (le-leb cluster block low) (lt-ltb block (cluster + 4) high)

    block_taken : is_taken (kept_runs asked) block ≡ true
    unfolding is_taken
    block_taken = member_any (covers block) (run_of_cluster cluster) (kept_runs asked) (run_kept cluster kept) covered

    no_head : is_head (volume_of g) block ≡ false
    no_head = (or_parts (block % g.agblocks == 0) (nat_le g.log block && nat_lt block (g.log + g.logblocks)) (cluster_clear cluster kept block covered)).0

    back : slot_at (volume_of g) (inode_of (volume_of g) block k) ≡ Some (block, k)
    back = slot_back g block k inside few

    -- where something is wanted of a slot of the block
    module _ (wanted : has_wanted (volume_of g) due block ≡ true) where
      -- where its bytes were at hand
      place : (i : ℕ) × (i < length is.bytes.places) × (byte_place is.bytes i ≡ block)
      place =
          let all : List ℕ = old_places (volume_of g) clusters due in
          let one = contains block all (cluster_place (volume_of g) clusters due cluster block kept in_cluster wanted) in (
            one.0,
            subst (λ (ps : List ℕ). one.0 < length ps) (sym places_are) one.1,
            ap (λ (ps : List ℕ). get_or ps one.0 0) places_are ∙ get_or_default all one.0 0 block one.1 ∙ one.2,
          )

      other : is_head (volume_of g) (byte_place is.bytes place.0) ≡ false
      other = subst (λ (m : ℕ). is_head (volume_of g) m ≡ false) (sym place.2) no_head

      low : byte_place is.bytes place.0 < g.dblocks
      low = subst (λ (m : ℕ). m < g.dblocks) (sym place.2) inside

      old_is : old_at is.bytes place.0 ≡ bytes_of_block image block
      old_is =
          ap (λ (b : Bytes). get_or b.old place.0 []) is.made.with_objects
          ∙ (ap (λ (old : Image). get_or old place.0 []) is.made.reads.old'
          ∙ (get_or-map (λ (m : ℕ). get_or image m []) is.made.read.places place.0 0 [] (subst (λ (b : Bytes). place.0 < length b.places) is.made.with_objects place.1)
          ∙ ap (λ (m : ℕ). get_or image m []) (ap (λ (b : Bytes). get_or b.places place.0 0) (sym is.made.with_objects) ∙ place.2)))

      slot_was : slot_in (old_at is.bytes place.0) k ≡ slot_bytes (volume_of g) image (inode_of (volume_of g) block k)
      slot_was = ap (λ (bytes : List ℕ). slot_in bytes k) old_is ∙ sym (ap (bytes_in image) back)

      first_due : IsSlotDue (volume_of g) is.bytes.stamp.generation is.bytes.slots (inode_of (volume_of g) (byte_place is.bytes place.0) k) (slot_in (old_at is.bytes place.0) k)
          (slot_bytes (volume_of g) now (inode_of (volume_of g) (byte_place is.bytes place.0) k))
      unfolding wanted_with
      first_due = slots_stand asked is.placed is.bytes is.left.rendered.super now stands place.0 k place.1 few other low

      made_due : IsSlotDue (volume_of g) s.generation due (inode_of (volume_of g) block k) (slot_bytes (volume_of g) image (inode_of (volume_of g) block k))
          (slot_bytes (volume_of g) now (inode_of (volume_of g) block k))
      made_due =
          let ino : ℕ = inode_of (volume_of g) block k in
          let second : IsSlotDue (volume_of g) is.bytes.stamp.generation is.bytes.slots ino (slot_in (old_at is.bytes place.0) k) (slot_bytes (volume_of g) now ino) =
          subst (λ (m : ℕ). IsSlotDue (volume_of g) is.bytes.stamp.generation is.bytes.slots (inode_of (volume_of g) m k) (slot_in (old_at is.bytes place.0) k)
          (slot_bytes (volume_of g) now (inode_of (volume_of g) m k))) place.2 first_due in
          let third : IsSlotDue (volume_of g) is.bytes.stamp.generation is.bytes.slots ino (slot_bytes (volume_of g) image ino) (slot_bytes (volume_of g) now ino) =
          subst (λ (old : List ℕ). IsSlotDue (volume_of g) is.bytes.stamp.generation is.bytes.slots ino old (slot_bytes (volume_of g) now ino)) slot_was second in
          let fourth : IsSlotDue (volume_of g) is.bytes.stamp.generation due ino (slot_bytes (volume_of g) image ino) (slot_bytes (volume_of g) now ino) =
          subst (λ (ws : List SlotWanted). IsSlotDue (volume_of g) is.bytes.stamp.generation ws ino (slot_bytes (volume_of g) image ino) (slot_bytes (volume_of g) now ino)) slots_are third in
          subst (λ (t : Stamp). IsSlotDue (volume_of g) t.generation due ino (slot_bytes (volume_of g) image ino) (slot_bytes (volume_of g) now ino)) stamp_is fourth

    abbrev IsDue : Type 0
    IsDue = IsSlotDue (volume_of g) s.generation due (inode_of (volume_of g) block k) (slot_bytes (volume_of g) image (inode_of (volume_of g) block k))
        (slot_bytes (volume_of g) now (inode_of (volume_of g) block k))

    wanted_due : (w : SlotWanted) → wanted_of due (inode_of (volume_of g) block k) ≡ Some w → IsDue
    wanted_due w is_wanted = made_due (some_wanted (volume_of g) due block k w few is_wanted)

    -- and where nothing is: the block is planned nowhere
    left_due : OthersStay → has_wanted (volume_of g) due block ≡ false → IsDue
    left_due stay none =
        let v : Volume = volume_of g in
        let ino : ℕ = inode_of v block k in
        let off : All (λ at. at ≡ block → ⊥) (planned is.left.plan) =
        kept_off asked is.placed is.bytes is.left.plan is.stands is.left.rendered block block_taken
        (subst (All (λ at. at ≡ block → ⊥)) (sym places_are) (unwanted_off v clusters due block no_head none)) in
        let stays : bytes_of_block now block ≡ bytes_of_block image block = stay block (off_list (λ at. at ≡ block) (planned is.left.plan) block off refl) in
        let same : slot_bytes v now ino ≡ slot_bytes v image ino = ap (bytes_in now) back ∙ ap (λ (bytes : List ℕ). slot_in bytes k) stays ∙ sym (ap (bytes_in image) back) in
        subst (λ (o : Option SlotWanted). MatchOption o (slot_bytes v now ino ≡ slot_bytes v image ino) (λ w. IsMadeSlot v s.generation w (slot_bytes v image ino) (slot_bytes v now ino)))
        (sym (none_wanted v due block k none few)) same

    slot_due : OthersStay → IsDue
    slot_due stay = elim (cases_Bool (has_wanted (volume_of g) due block)) [ inl wanted ↦ made_due wanted | inr none ↦ left_due stay none ]

  -- where a slot stands
  slot_place : (ino : ℕ) → Contains (flat_map (cluster_inodes (volume_of g)) clusters) ino
      → (cluster : ℕ) × (block : ℕ) × (k : ℕ) × Member cluster clusters × Member block (cluster_blocks cluster) × (k < 8) × (inode_of (volume_of g) block k ≡ ino)
  unfolding cluster_inodes
  slot_place ino has =
      let v : Volume = volume_of g in
      let one = flat_member (cluster_inodes v) ino clusters (contained ino (flat_map (cluster_inodes v) clusters) has) in
      let two = flat_member (inodes_of_block v) ino (cluster_blocks one.0) one.2 in
      let three = map_member (inode_of v two.0) ino (range_with_len 0 8) two.2 in
      let row = row_member three.0 0 8 three.1 in
      let high = row.high in
      (one.0, two.0, three.0, one.1, two.1, omega (arith, high), three.2)

  abbrev DueAt : ℕ → Type 0
  DueAt ino = IsSlotDue (volume_of g) s.generation due ino (slot_bytes (volume_of g) image ino) (slot_bytes (volume_of g) now ino)

  -- each slot is due where the other blocks stay, and one of which something is wanted is due whether they do or not
  pub slots_due : OthersStay → (ino : ℕ) → Contains (flat_map (cluster_inodes (volume_of g)) clusters) ino → DueAt ino
  slots_due stay ino has =
      let at = slot_place ino has in
      subst DueAt at.6 (slot_due at.0 at.1 at.2 at.3 at.4 at.5 stay)

  pub asked_due : (ino : ℕ) → Contains (flat_map (cluster_inodes (volume_of g)) clusters) ino → (w : SlotWanted) → wanted_of due ino ≡ Some w → DueAt ino
  asked_due ino has w is_wanted =
      let at = slot_place ino has in
      subst DueAt at.6 (wanted_due at.0 at.1 at.2 at.3 at.4 at.5 w (ap (wanted_of due) at.6 ∙ is_wanted))
