-- No log sequence number of a rebuilt volume is above the head of its log.
use Rattle.std.proofs.Common.{◌≡◌, ℕ, Bool, true, false, inl, inr, ◌==◌, if◌then◌else◌, List, [], ◌∷◌, ◌++◌, map, refl, sym, ap, ◌∙◌, subst}
use Rattle.std.specs.List.{All, AllByRecursion, flat_map}
use Rattle.std.proofs.lemmas.List.Elements.{All-from_recursion, recursion_from_All}
use Rattle.xfs_disk.specs.Blocks.{Image}
use Rattle.xfs_disk.specs.declared.stamp.Stamp.{Stamp}
use Rattle.xfs_geom.specs.Volumes.{Volume, volume_of}
use Rattle.xfs_geom.specs.declared.geometry.Geometry.{Geometry}
use Rattle.xfs_log.specs.xfs_heads.declared.log_state.LogState.{LogState}
use Rattle.xfs_log.specs.xfs_heads.declared.log_state.LogState.TheVariants.{Clean}
use Rattle.xfs_image.specs.Files.{clusters_of}
use Rattle.xfs_image.specs.Lsns.{LsnPlace, at, cluster_places, dir_byte, extent_places, file_places, groups_places, lsn_at, lsn_places, lsn_places_in_order, lsns_read}
use Rattle.xfs_laws.specs.Counting.{by_group, group_chains, head_of, is_behind, log_at, log_laws, lsn_law}
use Rattle.xfs_rename.proofs.xfs_made.KeptLaws.{both_kept}
use Rattle.xfs_views.proofs.Members.{Member, all_members, flat_member, map_member, member_all, member_either, member_right}
use Rattle.xfs_volume.specs.Laws.{AreKept}
use Rattle.xfs_volume.specs.Names.{type_of}
use Rattle.xfs_volume.specs.declared.catalogs.BlockLsn.{BlockLsn}
use Rattle.xfs_volume.specs.declared.files.FileRec.{FileRec}
use Rattle.xfs_volume.specs.declared.groups.GroupRec.{GroupRec}
use Rattle.xfs_salvage.specs.declared.found.Salvaged.{Salvaged}
use Rattle.xfs_rename.specs.xfs_request.Cycles.{kept_lsns, lsn_listed}
use Rattle.xfs_rename.specs.xfs_request.declared.seen.SlotSeen.{SlotSeen}
use Rattle.xfs_rename.specs.xfs_rebuild.Bytes.{file_lsns}
use Rattle.xfs_restored.specs.DueFiles.{due_file, fresh_file, rebuilt_files}
use Rattle.xfs_restored.specs.Kept.{HasKept}
use Rattle.xfs_restored.specs.Logs.{IsLogDue, numbers_kept}
use Rattle.xfs_restored.proofs.DueOwners.{mapped_same, new_nothing}
use Rattle.xfs_restored.proofs.FileLsns.{file_number, of_order}
use Rattle.xfs_restored.proofs.WrittenHeads.{due_clean, number_behind, zero_behind}
use Rattle.xfs_restored.proofs.SlotLsns.{place_number}

-- a file that is made anew has no place
no_places : (v : Volume) (s : Stamp) (crc : ℕ → ℕ) (ino : ℕ) → file_places v (fresh_file v s crc ino) ≡ []
no_places v s crc ino = by_type (type_of (fresh_file v s crc ino) == 4) (type_of (fresh_file v s crc ino) == 10)
  where
    by_type : (directory link : Bool)
        → (if directory then flat_map (extent_places v dir_byte) [] else if link then flat_map (extent_places v (λ offset. 48)) [] else []) ++ map (at 32) [] ++ flat_map (extent_places v (λ offset. 24)) [] ≡ []
    by_type true link = refl
    by_type false true = refl
    by_type false false = refl

due_places : (v : Volume) (s : Stamp) (kept : Salvaged) (seen : List SlotSeen) (crc : ℕ → ℕ) → flat_map (file_places v) (rebuilt_files v s kept seen crc) ≡ flat_map (file_places v) kept.files
unfolding rebuilt_files
due_places v s kept seen crc =
    new_nothing (file_places v) (fresh_file v s crc) kept.fresh (map (due_file v.rootino kept seen crc) kept.files) (λ ino is. no_places v s crc ino)
    ∙ mapped_same (file_places v) (file_places v) (due_file v.rootino kept seen crc) kept.files (λ f is. refl)

module _ (g : Geometry) (s : Stamp) (image now : Image) (kept : Salvaged) (seen : List SlotSeen) (has : HasKept g s image now kept seen)
    (groups : List GroupRec) (crc : ℕ → ℕ) (before after : LogState)
    (clusters : clusters_of (volume_of g) groups ≡ kept.clusters)
    (heads : All (λ (place : LsnPlace). (lsn_at now place).lsn ≡ 0) (at 240 0 ∷ groups_places (volume_of g) 0 groups))
    (due : IsLogDue before (numbers_kept (volume_of g) image kept seen) after) where
  abbrev IsBehindAt : LsnPlace → Type 0
  IsBehindAt place = is_behind (head_of after) (lsn_at now place).lsn ≡ true

  none_is_behind : (place : LsnPlace) → (lsn_at now place).lsn ≡ 0 → IsBehindAt place
  none_is_behind place none = ap (is_behind (head_of after)) none ∙ zero_behind (head_of after)

  kept_is_behind : (place : LsnPlace) → Member (lsn_at now place).lsn (numbers_kept (volume_of g) image kept seen) → IsBehindAt place
  kept_is_behind place is = number_behind before after (numbers_kept (volume_of g) image kept seen) (lsn_at now place).lsn due is

  of_slot : (place : LsnPlace) → Member place (flat_map cluster_places kept.clusters) → IsBehindAt place
  of_slot place is =
      elim (place_number g s image now kept seen has place (file_lsns (volume_of g) image kept.files) is) [
        | inl none ↦ none_is_behind place none
        | inr stays ↦ kept_is_behind place stays
      ]

  of_file : (place : LsnPlace) → Member place (flat_map (file_places (volume_of g)) kept.files) → IsBehindAt place
  unfolding kept_lsns
  of_file place is =
      let v : Volume = volume_of g in
      let f = flat_member (file_places v) place kept.files is in
      kept_is_behind place
      (member_right (lsn_at now place).lsn (flat_map (lsn_listed v kept) seen) (file_lsns v image kept.files) (file_number g s image now kept seen has f.0 place f.1 f.2))

  place_behind : (place : LsnPlace) → Member place (lsn_places (volume_of g) groups (rebuilt_files (volume_of g) s kept seen crc)) → IsBehindAt place
  place_behind place is =
      let v : Volume = volume_of g in
      let files : List FileRec = rebuilt_files v s kept seen crc in
      let heads_are : List LsnPlace = at 240 0 ∷ groups_places v 0 groups in
      elim (member_either place (heads_are ++ flat_map cluster_places (clusters_of v groups)) (flat_map (file_places v) files) is) [
        | inl front ↦ elim (member_either place heads_are (flat_map cluster_places (clusters_of v groups)) front) [
          | inl head ↦ none_is_behind place (member_all (λ (p : LsnPlace). (lsn_at now p).lsn ≡ 0) place heads_are (recursion_from_All (λ (p : LsnPlace). (lsn_at now p).lsn ≡ 0) heads_are heads) head)
          | inr slot ↦ of_slot place (subst (λ (ks : List ℕ). Member place (flat_map cluster_places ks)) clusters slot)
        ]
        | inr file ↦ of_file place (subst (λ (ps : List LsnPlace). Member place ps) (due_places v s kept seen crc) file)
      ]

  each_behind : AllByRecursion (λ (l : BlockLsn). is_behind (head_of after) l.lsn ≡ true) (lsns_read (volume_of g) now groups (rebuilt_files (volume_of g) s kept seen crc))
  unfolding lsns_read
  each_behind =
      let v : Volume = volume_of g in
      let places : List LsnPlace = lsn_places v groups (rebuilt_files v s kept seen crc) in
      all_members (λ (l : BlockLsn). is_behind (head_of after) l.lsn ≡ true) (map (lsn_at now) (lsn_places_in_order places)) (λ l is.
      let from = map_member (lsn_at now) l (lsn_places_in_order places) is in
      subst (λ (x : BlockLsn). is_behind (head_of after) x.lsn ≡ true) from.2 (place_behind from.0 (of_order from.0 places from.1)))

  pub all_behind : All (λ (l : BlockLsn). is_behind (head_of after) l.lsn ≡ true) (lsns_read (volume_of g) now groups (rebuilt_files (volume_of g) s kept seen crc))
  all_behind =
      All-from_recursion (λ (l : BlockLsn). is_behind (head_of after) l.lsn ≡ true) (lsns_read (volume_of g) now groups (rebuilt_files (volume_of g) s kept seen crc)) each_behind

  lsns_keep : (ls : List BlockLsn) → AllByRecursion (λ (l : BlockLsn). is_behind (head_of after) l.lsn ≡ true) ls → AreKept (map (lsn_law (head_of after)) ls)
  lsns_keep [] all = tt
  lsns_keep (l ∷ ls) all = (ap (λ (t : Bool). if t then l.lsn else head_of after) (sym all.0), lsns_keep ls all.1)

  pub log_keeps : AreKept (by_group group_chains 0 groups) → AreKept (log_laws groups after (lsns_read (volume_of g) now groups (rebuilt_files (volume_of g) s kept seen crc)))
  log_keeps chains =
      let lsns : List BlockLsn = lsns_read (volume_of g) now groups (rebuilt_files (volume_of g) s kept seen crc) in
      let clean : after ≡ Clean (head_of after) = due_clean before after (numbers_kept (volume_of g) image kept seen) due in (
        subst (λ (l : LogState). (log_at l).held ≡ (log_at l).due) (sym clean) refl,
        both_kept (by_group group_chains 0 groups) (map (lsn_law (head_of after)) lsns) chains (lsns_keep lsns each_behind),
      )
