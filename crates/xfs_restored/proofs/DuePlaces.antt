-- Where the due files state log sequence numbers: where the files that were there before do, and in the blocks of directories that are built anew.
use Rattle.std.proofs.Common.{◌≡◌, ◌⊎◌, inl, inr, ℕ, Bool, true, false, ◌%◌, ◌==◌, if◌then◌else◌, List, [], ◌∷◌, ◌++◌, map, filter, Option, Some, None, is_some, refl, sym, ap, ◌∙◌, subst}
use Rattle.std.specs.List.{All, flat_map}
use Rattle.std.proofs.Math.Nat.{zero-mod}
use Rattle.std.proofs.lemmas.Bool.{both_ways, eq-eqb, eqb-true, false≢true, false_from_ne_true, not_from_false, or_left}
use Rattle.std.proofs.lemmas.List.Elements.{recursion_from_All}
use Rattle.xfs_disk.specs.Blocks.{Image}
use Rattle.xfs_disk.specs.Lists.{is_among}
use Rattle.xfs_disk.specs.declared.stamp.Stamp.{Stamp}
use Rattle.xfs_word.specs.Field.{field_of}
use Rattle.xfs_geom.specs.Conversions.{is_fixed}
use Rattle.xfs_geom.specs.Runs.{covers}
use Rattle.xfs_geom.specs.Volumes.{Volume, volume_of}
use Rattle.xfs_geom.specs.declared.geometry.Geometry.{Geometry}
use Rattle.xfs_geom.specs.declared.records.Run.{Run}
use Rattle.xfs_image.specs.Claims.{claims}
use Rattle.xfs_image.specs.Files.{clusters_of}
use Rattle.xfs_image.specs.Lsns.{LsnPlace, at, cluster_places, data_places, dir_byte, extent_places, file_places, lsn_at, lsn_places, lsn_places_in_order, lsns_read}
use Rattle.xfs_place.specs.Wanted.{IsOffFixed}
use Rattle.xfs_views.proofs.Claimed.{same_claims}
use Rattle.xfs_views.proofs.Members.{Member, any_member, member_all, member_either, member_filter, member_flat, member_map, member_right}
use Rattle.xfs_views.specs.SameFiles.{HasSameClaims}
use Rattle.xfs_space.specs.Owners.{file_runs}
use Rattle.xfs_volume.specs.Names.{type_of}
use Rattle.xfs_volume.specs.declared.catalogs.BlockLsn.{BlockLsn}
use Rattle.xfs_volume.specs.declared.files.FileRec.{FileRec}
use Rattle.xfs_salvage.specs.declared.found.Salvaged.{Salvaged}
use Rattle.xfs_rename.specs.xfs_request.declared.seen.SlotSeen.{SlotSeen}
use Rattle.xfs_rename.specs.xfs_rebuild.Bytes.{file_lsns, is_of_file}
use Rattle.xfs_rename.specs.xfs_rebuild.Names as Names
use Rattle.xfs_restored.proofs.FileLsns.{in_order, place_claimed}
use Rattle.xfs_rename.specs.Settled.{staying_file, without_data}
use Rattle.xfs_rename.specs.xfs_changes.declared.lost_found.Lost.{Lost}
use Rattle.xfs_rename.specs.xfs_built.Directories.{BuiltRuns}
use Rattle.xfs_restored.specs.Relinking.{extents_built, file_with_links, with_built}

-- of a directory that has no tree: in its blocks, or in those of its attributes
split_places : (v : Volume) (place : LsnPlace) (f : FileRec) → type_of f ≡ 4 → f.rest.tree ≡ [] → Member place (file_places v f)
    → Member place (flat_map (extent_places v dir_byte) f.extents) ⊎ Member place (flat_map (extent_places v (λ offset. 24)) f.rest.attr_extents)
split_places v place f kind tree is =
    elim (member_either place (data_places v f ++ map (at 32) f.rest.tree) (flat_map (extent_places v (λ offset. 24)) f.rest.attr_extents) is) [
      | inl front ↦ elim (member_either place (data_places v f) (map (at 32) f.rest.tree) front) [
        | inl own ↦
            inl (subst (λ (t : Bool). Member place (if t then flat_map (extent_places v dir_byte) f.extents else if type_of f == 10 then flat_map (extent_places v (λ offset. 48)) f.extents else []))
            (eq-eqb (type_of f) 4 kind) own)
        | inr of_tree ↦ absurd (subst (λ (ts : List ℕ). Member place (map (at 32) ts)) tree of_tree)
      ]
      | inr behind ↦ inr behind
    ]

no_place : (place : LsnPlace) (directory link : Bool) → Member place ((if directory then [] else if link then [] else []) ++ [] ++ []) → ⊥
no_place place true link is = is
no_place place false true is = is
no_place place false false is = is

module _ (v : Volume) (s : Stamp) (l : Lost) (seen : List SlotSeen) (crc : ℕ → ℕ) (old : List FileRec) (pair : ℕ × ℕ) (place : LsnPlace) where
  abbrev due : Option FileRec → Option BuiltRuns → FileRec
  due o b = with_built v old crc (file_with_links v s l seen crc pair o) b

  abbrev IsOfOld : Option FileRec → Option BuiltRuns → Type 0
  IsOfOld o b = (x : FileRec) × (o ≡ Some x) × Member place (file_places v (if is_some b then without_data x else x))

  abbrev IsOfBuilt : Option BuiltRuns → Type 0
  IsOfBuilt b = (d : BuiltRuns) × (b ≡ Some d) × Member place (flat_map (extent_places v dir_byte) (extents_built v d))

  pub due_place : (o : Option FileRec) (b : Option BuiltRuns) → (is_some b ≡ true → type_of (due o b) ≡ 4) → Member place (file_places v (due o b)) → IsOfOld o b ⊎ IsOfBuilt b
  due_place None None kind is = absurd (no_place place (type_of (due None None) == 4) (type_of (due None None) == 10) is)
  due_place None (Some d) kind is = elim (split_places v place (due None (Some d)) (kind refl) refl is) [
    | inl own ↦ inr (d, refl, own)
    | inr none ↦ absurd none
  ]
  due_place (Some x) None kind is = inl (x, refl, is)
  due_place (Some x) (Some d) kind is = elim (split_places v place (due (Some x) (Some d)) (kind refl) refl is) [
    | inl own ↦ inr (d, refl, own)
    | inr attribute ↦
        inl (x, refl, member_right place (data_places v (without_data x) ++ map (at 32) []) (flat_map (extent_places v (λ offset. 24)) x.rest.attr_extents) attribute)
  ]

-- a kept file that goes on has the same places
pub staying_place : (v : Volume) (rebuilt : List ℕ) (root : ℕ) (kept : Salvaged) (place : LsnPlace) (x : FileRec) (t : Bool) → is_among rebuilt x.ino ≡ t
    → Member place (file_places v (if t then without_data x else x)) → Member place (file_places v (staying_file rebuilt (Names.linked_file root kept x)))
staying_place v rebuilt root kept place x t is has =
    subst (λ (u : Bool). Member place (file_places v (if u then without_data (Names.linked_file root kept x) else Names.linked_file root kept x))) (sym is) (by_case t has)
  where
    by_case : (u : Bool) → Member place (file_places v (if u then without_data x else x))
        → Member place (file_places v (if u then without_data (Names.linked_file root kept x) else Names.linked_file root kept x))
    by_case true there = there
    by_case false there = there

module _ (g : Geometry) (image now : Image) (files : List FileRec) (same : All (HasSameClaims (volume_of g) image now) files)
    (clear : (run : Run) → Member run (flat_map (file_runs (volume_of g)) files) → IsOffFixed (volume_of g) run) where
  abbrev v : Volume
  v = volume_of g

  -- no file claims the first block of the volume
  first_unclaimed : (f : FileRec) → Member f files → claims v f 0 ≡ false
  first_unclaimed f is = false_from_ne_true (claims v f 0) (λ claimed.
      let one = any_member (covers 0) (file_runs v f) (sym (same_claims v f 0) ∙ claimed) in
      let off = clear one.0 (member_flat (file_runs v) f one.0 files is one.1) 0 one.2 in
      let fixed : is_fixed v 0 ≡ true = or_left (0 % v.agblocks == 0) _ (eq-eqb (0 % v.agblocks) 0 (zero-mod v.agblocks)) in
      false≢true (sym off ∙ fixed))

  -- a number of a file is as it was, and among those that are read of the files
  pub number_stays : (f : FileRec) (place : LsnPlace) → Member f files → Member place (file_places v f) → Member (lsn_at now place).lsn (file_lsns v image files)
  unfolding file_lsns lsns_read
  number_stays f place is at_place =
      let claimed = place_claimed v f place at_place in
      let stays : HasSameClaims v image now f = member_all (HasSameClaims v image now) f files (recursion_from_All (HasSameClaims v image now) files same) is in
      let number : (lsn_at now place).lsn ≡ (lsn_at image place).lsn = ap (λ (bytes : List ℕ). field_of bytes place.byte 8) (stays place.block claimed) in
      let other : (place.block == 0) ≡ false = false_from_ne_true (place.block == 0) (λ first.
      let at_first : claims v f 0 ≡ true = subst (λ (b : ℕ). claims v f b ≡ true) (eqb-true place.block 0 first) claimed in
      both_ways (claims v f 0) (first_unclaimed f is) at_first) in
      let of_files : Member place (flat_map (file_places v) files) = member_flat (file_places v) f place files is at_place in
      let all : Member place (lsn_places v [] files) = member_right place (at 240 0 ∷ [] ++ flat_map cluster_places (clusters_of v [])) (flat_map (file_places v) files) of_files in
      let read : Member (lsn_at image place) (map (lsn_at image) (lsn_places_in_order (lsn_places v [] files))) =
      member_map (lsn_at image) place (lsn_places_in_order (lsn_places v [] files)) (in_order place (lsn_places v [] files) all) in
      subst (λ (n : ℕ). Member n (map (λ (l : BlockLsn). l.lsn) (filter is_of_file (map (lsn_at image) (lsn_places_in_order (lsn_places v [] files)))))) (sym number)
      (member_map (λ (l : BlockLsn). l.lsn) (lsn_at image place) (filter is_of_file (map (lsn_at image) (lsn_places_in_order (lsn_places v [] files))))
      (member_filter is_of_file (lsn_at image place) (map (lsn_at image) (lsn_places_in_order (lsn_places v [] files))) read (not_from_false (place.block == 0) other)))
