-- The log sequence number of a slot of a kept cluster stays, or is 0.
use Rattle.std.proofs.Common.{◌≡◌, ℕ, Bool, true, false, not, ◌*◌, ◌<◌, ◌⊎◌, inl, inr, ◌&&◌, ◌||◌, ◌==◌, if◌then◌else◌, List, [], ◌∷◌, map, Option, Some, None, refl, sym, ap, ◌∙◌, subst, arith}
use Rattle.std.specs.Prelude.{MatchOption}
use Rattle.std.specs.List.{flat_map, range_with_len}
use Rattle.std.proofs.lemmas.Bool.{and_from, eq-eqb, eqb-true, not_from_false, or_left, or_right}
use Rattle.xfs_disk.specs.Blocks.{Image, bytes_of_block}
use Rattle.xfs_disk.specs.Lists.{is_among}
use Rattle.xfs_disk.specs.declared.stamp.Stamp.{Stamp}
use Rattle.xfs_word.specs.Field.{part_of}
use Rattle.xfs_geom.specs.Conversions.{inode_of}
use Rattle.xfs_geom.specs.Volumes.{Volume, volume_of}
use Rattle.xfs_geom.specs.declared.geometry.Geometry.{Geometry}
use Rattle.xfs_rename.proofs.xfs_built.SlotNumbers.{slot_back, slot_lsn}
use Rattle.xfs_image.specs.Claims.{candidate_inodes}
use Rattle.xfs_image.specs.Clusters.{cluster_of}
use Rattle.xfs_image.specs.Lsns.{LsnPlace, at, cluster_places, lsn_at, slot_place}
use Rattle.xfs_image.specs.Slots.{bytes_in, cluster_blocks, cluster_inodes, inodes_of_block, slot_bytes}
use Rattle.xfs_naming.specs.Naming.{is_in_use}
use Rattle.xfs_views.proofs.Addresses.{IsPlaced}
use Rattle.xfs_views.proofs.Images.{inode_cluster}
use Rattle.xfs_views.proofs.Members.{Member, any_member, flat_member, map_member, member_any, member_flat, member_left, member_map, row_member}
use Rattle.xfs_render.specs.Slots.{DropsAttrs, IsMadeSlot, SetsLinks}
use Rattle.xfs_rename.proofs.xfs_made.Numbers.{number_in_part}
use Rattle.xfs_space.proofs.RecordedMaps.{group_inside}
use Rattle.xfs_volume.specs.declared.cores.Core.{Core}
use Rattle.xfs_volume.specs.declared.files.FileRec.{FileRec}
use Rattle.xfs_salvage.specs.declared.found.Salvaged.{Salvaged}
use Rattle.xfs_rename.specs.xfs_request.Cycles.{keeps_lsn, kept_lsns, lsn_listed}
use Rattle.xfs_rename.specs.xfs_request.Fresh.{new_slot, new_root_slot, new_system_slot}
use Rattle.xfs_rename.specs.xfs_request.Slots.{attrs_wanted, freed_slot, is_free, links_due, nlink_wanted, state_at}
use Rattle.xfs_rename.specs.xfs_request.declared.seen.SlotSeen.{SlotSeen}
use Rattle.xfs_restored.specs.DueFiles.{kept_inodes}
use Rattle.xfs_restored.specs.Kept.{HasKept, all_slots_seen, slot_seen}
use Rattle.xfs_restored.proofs.Fresh.{freed_states, made_root, system_states}
use Rattle.xfs_restored.proofs.InKept.{IsOfKept, cluster_placed, of_kept}
use Rattle.xfs_restored.proofs.RereadSlots.{AreChanges, file_changes, state_known}
use Rattle.xfs_restored.proofs.Others.{among, fresh_made, other_due}
use Rattle.xfs_restored.proofs.RootInodes.{low_root}

abbrev lsn_of : Core → ℕ
lsn_of core = core.lsn

dropped_lsn : (v : Volume) (ino : ℕ) (attrs : Option ℕ) (old bare : List ℕ) → MatchOption attrs (bare ≡ old) (λ n. DropsAttrs v ino n old bare) → slot_lsn bare ≡ slot_lsn old
dropped_lsn v ino None old bare same = ap slot_lsn same
dropped_lsn v ino (Some n) old bare drops = ap lsn_of drops.stated

linked_lsn : (v : Volume) (ino : ℕ) (nlink : Option ℕ) (old new : List ℕ) → MatchOption nlink (new ≡ old) (λ n. SetsLinks v ino n old new) → slot_lsn new ≡ slot_lsn old
linked_lsn v ino None old new same = ap slot_lsn same
linked_lsn v ino (Some n) old new sets = ap lsn_of sets.stated

changed_lsn : (v : Volume) (ino : ℕ) (attrs nlink : Option ℕ) (old new : List ℕ) → AreChanges v ino attrs nlink old new → slot_lsn new ≡ slot_lsn old
changed_lsn v ino attrs nlink old new made = linked_lsn v ino nlink made.bare new made.linked ∙ dropped_lsn v ino attrs old made.bare made.dropped

module _ (g : Geometry) (s : Stamp) (image now : Image) (kept : Salvaged) (seen : List SlotSeen) (has : HasKept g s image now kept seen) where
  -- a number that stays is one of those that are kept
  stays_among : (ino : ℕ) (lsns : List ℕ) → Member ino (kept_inodes (volume_of g) kept) → (is_in_use kept.files ino || (is_free (slot_seen (volume_of g) image ino).state && not (is_among kept.fresh ino))) ≡ true
      → Member (slot_lsn (slot_bytes (volume_of g) image ino)) (kept_lsns (volume_of g) kept seen lsns)
  unfolding kept_lsns all_slots_seen
  stays_among ino lsns is stays =
      let v : Volume = volume_of g in
      let of : IsOfKept g image kept has.of ino = of_kept g image kept has.of ino is in
      let one : SlotSeen = slot_seen v image ino in
      let cluster : is_among kept.clusters (cluster_of v ino) ≡ true =
      member_any (λ m. m == cluster_of v ino) of.cluster kept.clusters of.among (eq-eqb of.cluster (cluster_of v ino) (sym (inode_cluster g of.cluster ino of.placed of.has))) in
      let keeps : keeps_lsn v kept one ≡ true = and_from (is_among kept.clusters (cluster_of v ino)) _ cluster stays in
      let known : Member one seen = subst (λ (slots : List SlotSeen). Member one slots) (sym has.seen') (member_map (slot_seen v image) ino (candidate_inodes v image) of.candidate) in
      let listed : Member one.lsn (lsn_listed v kept one) = subst (λ (t : Bool). Member one.lsn (if t then one.lsn ∷ [] else [])) (sym keeps) (inl refl) in
      member_left one.lsn (flat_map (lsn_listed v kept) seen) lsns (member_flat (lsn_listed v kept) one one.lsn seen known listed)

  abbrev StaysOrNone : ℕ → List ℕ → Type 0
  StaysOrNone ino lsns = (slot_lsn (slot_bytes (volume_of g) now ino) ≡ 0) ⊎ Member (slot_lsn (slot_bytes (volume_of g) now ino)) (kept_lsns (volume_of g) kept seen lsns)

  as_before : (ino : ℕ) (lsns : List ℕ) → slot_lsn (slot_bytes (volume_of g) now ino) ≡ slot_lsn (slot_bytes (volume_of g) image ino)
      → Member (slot_lsn (slot_bytes (volume_of g) image ino)) (kept_lsns (volume_of g) kept seen lsns) → StaysOrNone ino lsns
  as_before ino lsns same is = inr (subst (λ (n : ℕ). Member n (kept_lsns (volume_of g) kept seen lsns)) (sym same) is)

  of_file : (ino : ℕ) (lsns : List ℕ) → Member ino (kept_inodes (volume_of g) kept) → is_in_use kept.files ino ≡ true → StaysOrNone ino lsns
  of_file ino lsns is used =
      let v : Volume = volume_of g in
      let one = any_member (λ (f : FileRec). f.ino == ino) kept.files used in
      let f : FileRec = one.0 in
      let number : f.ino ≡ ino = eqb-true f.ino ino one.2 in
      let same : slot_lsn (slot_bytes v now f.ino) ≡ slot_lsn (slot_bytes v image f.ino) =
      changed_lsn v f.ino (attrs_wanted f (state_at seen f.ino)) (nlink_wanted f (links_due g.rootino kept.files kept.entries f)) (slot_bytes v image f.ino) (slot_bytes v now f.ino)
      (file_changes g s image now kept seen has f one.1) in
      as_before ino lsns (subst (λ (n : ℕ). slot_lsn (slot_bytes v now n) ≡ slot_lsn (slot_bytes v image n)) number same)
      (stays_among ino lsns is (or_left (is_in_use kept.files ino) _ used))

  fresh_zero : (ino : ℕ) (t : Bool) → (ino == g.rootino) ≡ t
      → IsMadeSlot (volume_of g) s.generation (if t then new_root_slot (volume_of g) s else new_system_slot (volume_of g) s ino) (slot_bytes (volume_of g) image ino) (slot_bytes (volume_of g) now ino)
      → slot_lsn (slot_bytes (volume_of g) now ino) ≡ 0
  fresh_zero ino true root made =
      ap lsn_of (made_root (volume_of g) s s.generation (slot_bytes (volume_of g) image ino) (slot_bytes (volume_of g) now ino) (low_root g) made).stated
  fresh_zero ino false other made = system_states (volume_of g) s s.generation ino (slot_bytes (volume_of g) image ino) (slot_bytes (volume_of g) now ino) made

  of_none : (ino : ℕ) (lsns : List ℕ) → Member ino (kept_inodes (volume_of g) kept) → is_in_use kept.files ino ≡ false → is_among kept.fresh ino ≡ false → StaysOrNone ino lsns
  of_none ino lsns is none old =
      let v : Volume = volume_of g in
      by_state (is_free (state_at seen ino)) refl
      (subst (λ (t : Bool). MatchOption (if t then Some (new_slot v s ino) else (if is_free (state_at seen ino) then None else Some (freed_slot ino))) (slot_bytes v now ino ≡ slot_bytes v image ino)
      (λ w. IsMadeSlot v s.generation w (slot_bytes v image ino) (slot_bytes v now ino))) old (other_due g s image now kept seen has ino is none))
    where
      by_state : (t : Bool) → is_free (state_at seen ino) ≡ t
          → MatchOption (if t then None else Some (freed_slot ino)) (slot_bytes (volume_of g) now ino ≡ slot_bytes (volume_of g) image ino)
          (λ w. IsMadeSlot (volume_of g) s.generation w (slot_bytes (volume_of g) image ino) (slot_bytes (volume_of g) now ino))
          → StaysOrNone ino lsns
      by_state true free same =
          let v : Volume = volume_of g in
          let state = state_known g s image now kept seen has ino (of_kept g image kept has.of ino is).candidate in
          let free_there : is_free (slot_seen v image ino).state ≡ true = ap is_free (sym state) ∙ free in
          as_before ino lsns (ap slot_lsn same)
          (stays_among ino lsns is (or_right (is_in_use kept.files ino) _ (and_from (is_free (slot_seen v image ino).state) (not (is_among kept.fresh ino)) free_there (not_from_false (is_among kept.fresh ino) old))))
      by_state false free made = inl (freed_states (volume_of g) s.generation ino (slot_bytes (volume_of g) image ino) (slot_bytes (volume_of g) now ino) made)

  pub slot_number : (ino : ℕ) (lsns : List ℕ) → Member ino (kept_inodes (volume_of g) kept) → StaysOrNone ino lsns
  slot_number ino lsns is = by_use (is_in_use kept.files ino) refl
    where
      by_fresh : is_in_use kept.files ino ≡ false → (t : Bool) → is_among kept.fresh ino ≡ t → StaysOrNone ino lsns
      by_fresh none true anew = inl (fresh_zero ino (ino == g.rootino) refl (fresh_made g s image now kept seen has ino (among ino kept.fresh anew)))
      by_fresh none false old = of_none ino lsns is none old

      by_use : (t : Bool) → is_in_use kept.files ino ≡ t → StaysOrNone ino lsns
      by_use true used = of_file ino lsns is used
      by_use false none = by_fresh none (is_among kept.fresh ino) refl

  -- a place in a kept cluster is that of the number of a slot
  pub place_number : (place : LsnPlace) (lsns : List ℕ) → Member place (flat_map cluster_places kept.clusters)
      → ((lsn_at now place).lsn ≡ 0) ⊎ Member (lsn_at now place).lsn (kept_lsns (volume_of g) kept seen lsns)
  unfolding kept_inodes cluster_inodes
  place_number place lsns is =
      let v : Volume = volume_of g in
      let in_cluster = flat_member cluster_places place kept.clusters is in
      let k : ℕ = in_cluster.0 in
      let in_block = flat_member (λ block. map (slot_place block) (range_with_len 0 8)) place (cluster_blocks k) in_cluster.2 in
      let block : ℕ = in_block.0 in
      let slot = map_member (slot_place block) place (range_with_len 0 8) in_block.2 in
      let row = row_member slot.0 0 8 slot.1 in
      let few = row.high in
      let ino : ℕ = inode_of v block slot.0 in
      let inode : Member ino (flat_map (cluster_inodes v) kept.clusters) =
      member_flat (cluster_inodes v) k ino kept.clusters in_cluster.1
      (member_flat (inodes_of_block v) block ino (cluster_blocks k) in_block.1 (member_map (inode_of v block) slot.0 (range_with_len 0 8) slot.1)) in
      let of = of_kept g image kept has.of ino inode in
      let inside : block < g.dblocks = block_inside k block in_cluster.1 in_block.1 in
      let bytes : slot_bytes v now ino ≡ part_of (bytes_of_block now block) (512 * slot.0) 512 = ap (bytes_in now) (slot_back g block slot.0 inside (omega (arith, few))) in
      let same : (lsn_at now place).lsn ≡ slot_lsn (slot_bytes v now ino) =
      ap (λ (p : LsnPlace). (lsn_at now p).lsn) (sym slot.2)
      ∙ sym (number_in_part (bytes_of_block now block) (512 * slot.0) 512 112 8 (omega arith))
      ∙ ap slot_lsn (sym bytes) in
      subst (λ (n : ℕ). (n ≡ 0) ⊎ Member n (kept_lsns v kept seen lsns)) (sym same) (slot_number ino lsns inode)
    where
      block_inside : (k block : ℕ) → Member k kept.clusters → Member block (cluster_blocks k) → block < g.dblocks
      block_inside k block cluster at =
          let placed : IsPlaced g k = cluster_placed g image kept has.of k cluster in
          let ends = group_inside (volume_of g) placed.ag placed.group g.shape.groups.last in
          let b = row_member block k 4 at in
          let high = b.high in
          let inside = placed.inside in
          let start = placed.is in
          omega (arith, ends, inside, start, high)
