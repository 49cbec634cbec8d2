-- The log sequence numbers in the blocks of kept files stay, and are among those that are read of these files.
use Rattle.std.proofs.Common.{◌≡◌, ℕ, Bool, true, false, ◌+◌, ◌%◌, ◌≤◌, ◌<◌, ◌⊎◌, inl, inr, ◌==◌, if◌then◌else◌, List, [], ◌∷◌, ◌++◌, map, sym, ap, ◌∙◌, subst, arith}
use Rattle.std.specs.List.{filter, flat_map, range_with_len}
use Rattle.std.proofs.Math.Nat.{zero-mod}
use Rattle.std.proofs.lemmas.Bool.{both_ways, eq-eqb, eqb-true, false_from_ne_true, not_from_false, or_left}
use Rattle.std.proofs.lemmas.List.Sums.{sum_by-append}
use Rattle.xfs_disk.specs.Blocks.{Image}
use Rattle.xfs_disk.specs.declared.stamp.Stamp.{Stamp}
use Rattle.xfs_word.specs.Field.{field_of}
use Rattle.xfs_word.specs.declared.extents.Extent.{Extent}
use Rattle.xfs_geom.specs.Conversions.{is_fixed}
use Rattle.xfs_geom.specs.Groups.{block_of_address}
use Rattle.xfs_geom.specs.Runs.{covers, runs_on}
use Rattle.xfs_geom.specs.Volumes.{Volume, volume_of}
use Rattle.xfs_geom.specs.declared.geometry.Geometry.{Geometry}
use Rattle.xfs_geom.specs.declared.records.Run.{Run}
use Rattle.xfs_kinds.specs.FixedRuns.{fixed_runs}
use Rattle.xfs_image.specs.Candidates.{candidates}
use Rattle.xfs_image.specs.Claims.{candidate_files, claims}
use Rattle.xfs_image.specs.Files.{clusters_of}
use Rattle.xfs_image.specs.Lsns.{LsnPlace, at, cluster_places, data_places, dir_byte, extent_place, extent_places, file_places, is_place_upto, lsn_at, lsn_places, lsn_places_in_order, lsns_read, with_place}
use Rattle.xfs_place.proofs.AllClaims.{all_apart, is_volume}
use Rattle.xfs_views.proofs.Claimed.{same_claims, spans_are}
use Rattle.xfs_views.proofs.Counted.{any_on}
use Rattle.xfs_views.proofs.Members.{Member, any_member, flat_member, map_member, member_any, member_either, member_filter, member_flat, member_map, member_right, row_member}
use Rattle.xfs_views.proofs.NamedClaims.{attr_claimed, data_claimed, tree_claimed}
use Rattle.xfs_space.specs.Owners.{file_runs}
use Rattle.xfs_volume.specs.Names.{type_of}
use Rattle.xfs_volume.specs.declared.catalogs.BlockLsn.{BlockLsn}
use Rattle.xfs_volume.specs.declared.files.FileRec.{FileRec}
use Rattle.xfs_rename.proofs.xfs_made.Candidates.{image_can}
use Rattle.xfs_rename.proofs.xfs_made.KeptTaken.{are_kept, fixed_covered}
use Rattle.xfs_salvage.specs.Kept.{kept_clusters, kept_files, run_of_cluster, taken_in, taken_of}
use Rattle.xfs_salvage.specs.declared.found.Salvaged.{Salvaged}
use Rattle.xfs_rename.specs.xfs_request.declared.seen.SlotSeen.{SlotSeen}
use Rattle.xfs_rename.specs.xfs_rebuild.Bytes.{file_lsns, is_of_file}
use Rattle.xfs_restored.specs.Kept.{HasKept}
use Rattle.xfs_restored.proofs.RereadSlots.{claims_stay}

-- a place in an extent stands in one of its blocks
record IsIn (v : Volume) (es : List Extent) (place : LsnPlace) : Type 0 where
  extent : Extent
  i : ℕ
  is : Member extent es
  few : i < extent.count
  block : block_of_address v.agblocks v.agblklog extent.start + i ≡ place.block

in_extents : (v : Volume) (byte : ℕ → ℕ) (es : List Extent) (place : LsnPlace) → Member place (flat_map (extent_places v byte) es) → IsIn v es place
in_extents v byte es place is =
    let of = flat_member (extent_places v byte) place es is in
    let one = map_member (extent_place v byte of.0) place (range_with_len 0 of.0.count) of.2 in
    let row = row_member one.0 0 of.0.count one.1 in
    let high = row.high in
    record { extent = of.0; i = one.0; is = of.1; few = omega (arith, high); block = ap (λ (p : LsnPlace). p.block) one.2 }

extent_claimed : (v : Volume) (f : FileRec) (es : List Extent) (place : LsnPlace)
    → ((e : Extent) (i : ℕ) → Member e es → i < e.count → claims v f (block_of_address v.agblocks v.agblklog e.start + i) ≡ true) → IsIn v es place → claims v f place.block ≡ true
extent_claimed v f es place each at = subst (λ (b : ℕ). claims v f b ≡ true) at.block (each at.extent at.i at.is at.few)

data_place_claimed : (v : Volume) (f : FileRec) (place : LsnPlace) → Member place (data_places v f) → claims v f place.block ≡ true
data_place_claimed v f place is = by_type (type_of f == 4) (type_of f == 10) is
  where
    by_type : (directory link : Bool)
        → Member place (if directory then flat_map (extent_places v dir_byte) f.extents else if link then flat_map (extent_places v (λ offset. 48)) f.extents else [])
        → claims v f place.block ≡ true
    by_type true link among = extent_claimed v f f.extents place (data_claimed v f) (in_extents v dir_byte f.extents place among)
    by_type false true among = extent_claimed v f f.extents place (data_claimed v f) (in_extents v (λ offset. 48) f.extents place among)
    by_type false false among = absurd among

pub place_claimed : (v : Volume) (f : FileRec) (place : LsnPlace) → Member place (file_places v f) → claims v f place.block ≡ true
place_claimed v f place is =
    elim (member_either place (data_places v f ++ map (at 32) f.rest.tree) (flat_map (extent_places v (λ offset. 24)) f.rest.attr_extents) is) [
      | inl front ↦ elim (member_either place (data_places v f) (map (at 32) f.rest.tree) front) [
        | inl of_data ↦ data_place_claimed v f place of_data
        | inr of_tree ↦
            let one = map_member (at 32) place f.rest.tree of_tree in
            subst (λ (b : ℕ). claims v f b ≡ true) (ap (λ (p : LsnPlace). p.block) one.2) (tree_claimed v f one.0 one.1)
      ]
      | inr of_attr ↦ extent_claimed v f f.rest.attr_extents place (attr_claimed v f) (in_extents v (λ offset. 24) f.rest.attr_extents place of_attr)
    ]

-- places in order are the same places
placed : (place p : LsnPlace) (ps : List LsnPlace) → (p ≡ place) ⊎ Member place ps → Member place (with_place p ps)
placed place p [] is = is
placed place p (q ∷ ps) is = by_case (is_place_upto p q) (placed place p ps)
  where
    by_case : (t : Bool) → ((p ≡ place) ⊎ Member place ps → Member place (with_place p ps)) → Member place (if t then p ∷ q ∷ ps else (q ∷ with_place p ps))
    by_case true rest = is
    by_case false rest = elim is [
      | inl own ↦ inr (rest (inl own))
      | inr old ↦ elim old [ inl same ↦ inl same | inr there ↦ inr (rest (inr there)) ]
    ]

unplaced : (place p : LsnPlace) (ps : List LsnPlace) → Member place (with_place p ps) → (p ≡ place) ⊎ Member place ps
unplaced place p [] is = is
unplaced place p (q ∷ ps) is = by_case (is_place_upto p q) (unplaced place p ps) is
  where
    by_case : (t : Bool) → (Member place (with_place p ps) → (p ≡ place) ⊎ Member place ps) → Member place (if t then p ∷ q ∷ ps else (q ∷ with_place p ps)) → (p ≡ place) ⊎ Member place (q ∷ ps)
    by_case true rest at = at
    by_case false rest at = elim at [
      | inl same ↦ inr (inl same)
      | inr there ↦ elim (rest there) [ inl own ↦ inl own | inr old ↦ inr (inr old) ]
    ]

pub in_order : (place : LsnPlace) (ps : List LsnPlace) → Member place ps → Member place (lsn_places_in_order ps)
in_order place [] is = is
in_order place (p ∷ ps) is = placed place p (lsn_places_in_order ps) (elim is [ inl own ↦ inl own | inr there ↦ inr (in_order place ps there) ])

pub of_order : (place : LsnPlace) (ps : List LsnPlace) → Member place (lsn_places_in_order ps) → Member place ps
of_order place [] is = is
of_order place (p ∷ ps) is = elim (unplaced place p (lsn_places_in_order ps) is) [ inl own ↦ inl own | inr there ↦ inr (of_order place ps there) ]

module _ (g : Geometry) (s : Stamp) (image now : Image) (kept : Salvaged) (seen : List SlotSeen) (has : HasKept g s image now kept seen) where
  -- no kept file claims the first block of the volume
  first_unclaimed : (f : FileRec) → Member f kept.files → claims (volume_of g) f 0 ≡ false
  unfolding taken_in
  first_unclaimed f is = false_from_ne_true (claims (volume_of g) f 0) (λ claimed.
      let v : Volume = volume_of g in
      let clusters : List ℕ = kept_clusters v (candidates v image) (candidate_files v image) in
      let files : List FileRec = kept_files v (candidates v image) (candidate_files v image) in
      let taken : List Run = taken_of v clusters files in
      let once = (all_apart v (is_volume v g.shape.groups g.shape.log_inside) taken (are_kept g (candidates v image) (candidate_files v image) (image_can g image))).once 0 in
      let sums : runs_on (fixed_runs v ++ taken) 0 ≡ runs_on (fixed_runs v) 0 + runs_on taken 0 = sum_by-append (λ (r : Run). if covers 0 r then 1 else 0) (fixed_runs v) taken in
      let last = g.shape.groups.last in
      let fixed : is_fixed v 0 ≡ true = or_left (0 % v.agblocks == 0) _ (eq-eqb (0 % v.agblocks) 0 (zero-mod v.agblocks)) in
      let of_fixed : 1 ≤ runs_on (fixed_runs v) 0 = any_on (fixed_runs v) 0 (sym (spans_are (fixed_runs v) 0) ∙ fixed_covered g 0 (omega (arith, last)) fixed) in
      let one = any_member (covers 0) (file_runs v f) (sym (same_claims v f 0) ∙ claimed) in
      let among : Member one.0 taken =
      member_right one.0 (map run_of_cluster clusters) (flat_map (file_runs v) files)
      (member_flat (file_runs v) f one.0 files (subst (λ (fs : List FileRec). Member f fs) has.of.files' is) one.1) in
      let of_file : 1 ≤ runs_on taken 0 = any_on taken 0 (member_any (covers 0) one.0 taken among one.2) in
      omega (arith, once, sums, of_fixed, of_file))

  -- a number of a kept file is as it was, and among those that are read of the files
  pub file_number : (f : FileRec) (place : LsnPlace) → Member f kept.files → Member place (file_places (volume_of g) f) → Member (lsn_at now place).lsn (file_lsns (volume_of g) image kept.files)
  unfolding file_lsns lsns_read
  file_number f place is at_place =
      let v : Volume = volume_of g in
      let claimed = place_claimed v f place at_place in
      let same : (lsn_at now place).lsn ≡ (lsn_at image place).lsn =
      ap (λ (bytes : List ℕ). field_of bytes place.byte 8) (claims_stay g s image now kept seen has f is place.block claimed) in
      let other : (place.block == 0) ≡ false = false_from_ne_true (place.block == 0) (λ first.
      let at_first : claims v f 0 ≡ true = subst (λ (b : ℕ). claims v f b ≡ true) (eqb-true place.block 0 first) claimed in
      both_ways (claims v f 0) (first_unclaimed f is) at_first) in
      let of_files : Member place (flat_map (file_places v) kept.files) = member_flat (file_places v) f place kept.files is at_place in
      let all : Member place (lsn_places v [] kept.files) =
      member_right place (at 240 0 ∷ [] ++ flat_map cluster_places (clusters_of v [])) (flat_map (file_places v) kept.files) of_files in
      let read : Member (lsn_at image place) (map (lsn_at image) (lsn_places_in_order (lsn_places v [] kept.files))) =
      member_map (lsn_at image) place (lsn_places_in_order (lsn_places v [] kept.files)) (in_order place (lsn_places v [] kept.files) all) in
      subst (λ (n : ℕ). Member n (map (λ (l : BlockLsn). l.lsn) (filter is_of_file (map (lsn_at image) (lsn_places_in_order (lsn_places v [] kept.files)))))) (sym same)
      (member_map (λ (l : BlockLsn). l.lsn) (lsn_at image place) (filter is_of_file (map (lsn_at image) (lsn_places_in_order (lsn_places v [] kept.files))))
      (member_filter is_of_file (lsn_at image place) (map (lsn_at image) (lsn_places_in_order (lsn_places v [] kept.files))) read (not_from_false (place.block == 0) other)))
