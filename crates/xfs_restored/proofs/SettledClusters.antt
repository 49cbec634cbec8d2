-- The clusters of the chunks of a volume in which names were changed: the kept ones, and a new one where lost+found has one.
use Rattle.std.proofs.Common.{◌≡◌, ℕ, zero, suc, Bool, true, false, ◌+◌, ◌*◌, ◌/◌, ◌%◌, ◌≤◌, ◌<◌, ◌⊎◌, inl, inr, ◌&&◌, nat_le, nat_lt, if◌then◌else◌, List, [], ◌∷◌, length, map, None, refl, sym, ap, ◌∙◌, subst, arith}
use Rattle.std.specs.List.{AllByRecursion, filter, flat_map, list_all, range_with_len}
use Rattle.std.proofs.Math.Nat.{mod-lt}
use Rattle.std.proofs.lemmas.Bool.{and_from, and_parts, cases_lt, false≢true, le-leb, leb-true, lt-ltb, ltb-true}
use Rattle.xfs_disk.specs.Blocks.{Image}
use Rattle.xfs_disk.specs.Lists.{is_among}
use Rattle.xfs_disk.specs.declared.stamp.Stamp.{Stamp}
use Rattle.xfs_geom.specs.Conversions.{group_length, is_fixed}
use Rattle.xfs_geom.specs.Runs.{covers, runs_on}
use Rattle.xfs_geom.specs.Volumes.{Volume, volume_of}
use Rattle.xfs_geom.specs.declared.geometry.Geometry.{Geometry}
use Rattle.xfs_geom.specs.declared.records.InoRec.{InoRec}
use Rattle.xfs_geom.specs.declared.records.Run.{Run}
use Rattle.xfs_image.specs.Candidates.{candidates}
use Rattle.xfs_image.specs.Claims.{candidate_files}
use Rattle.xfs_image.specs.Files.{clusters_of, inodes_of}
use Rattle.xfs_image.specs.Slots.{cluster_inodes}
use Rattle.xfs_kinds.specs.InodeTrees.{ino_shape}
use Rattle.xfs_tree.specs.Rules.{are_lawful}
use Rattle.xfs_naming.specs.Naming.{NumbersAscend}
use Rattle.xfs_names.specs.declared.place.LostPlace.{LostPlace}
use Rattle.xfs_names.specs.declared.place.LostPlace.TheVariants as place
use Rattle.xfs_place.specs.Chunks.{asked_pool, asked_rooms, is_room, lies_in_chunks, rooms, rooms_below, rooms_of}
use Rattle.xfs_place.specs.Wanted.{inodes_in_group, kept_runs}
use Rattle.xfs_place.specs.declared.placed.GroupPlaced.{GroupPlaced}
use Rattle.xfs_place.specs.declared.wanted.Wanted.{Wanted}
use Rattle.xfs_views.proofs.Counted.{any_on, on_both}
use Rattle.xfs_views.proofs.Members.{Member, all_members, filter_member, flat_member, map_member, member_all, member_any, member_map, row_member}
use Rattle.xfs_space.specs.Owners.{file_runs}
use Rattle.xfs_rename.specs.xfs_scan.declared.evidence.Evidence.{Evidence}
use Rattle.xfs_rename.specs.xfs_made.Groups.{due_groups}
use Rattle.xfs_rename.proofs.xfs_made.Ordered.{clusters_of_volume_ascend}
use Rattle.xfs_salvage.specs.Kept.{run_of_cluster}
use Rattle.xfs_salvage.specs.declared.found.Salvaged.{Salvaged}
use Rattle.xfs_rename.specs.xfs_request.Chunks.{inodes_wanted}
use Rattle.xfs_rename.specs.xfs_request.Requests.{volume_wanted}
use Rattle.xfs_rename.specs.xfs_made.Handed.{IsKeptOf}
use Rattle.xfs_rename.proofs.xfs_made.Chunked.{IsHalf, kept_halves}
use Rattle.xfs_rename.proofs.xfs_made.Lawful.{chunks_lawful}
use Rattle.xfs_rename.proofs.xfs_made.Taken.{among_member}
use Rattle.xfs_rename.proofs.xfs_made.Writable.{inodes_are}
use Rattle.xfs_rename.specs.xfs_rebuild.declared.names_due.NamesDue.{NamesDue}
use Rattle.xfs_restored.proofs.KeptChunks.{asked_clusters_are}
use Rattle.xfs_rename.specs.Lost.{added_for, cluster_ask, first_of, lost_due, place_due, spared}
use Rattle.xfs_rename.specs.Objects.{wanted_with}
use Rattle.xfs_rename.specs.Renames.{renamed_wanted}
use Rattle.xfs_rename.specs.Settled.{settled, staying_files, with_number_in_order, with_numbers}
use Rattle.xfs_rename.specs.declared.planning.Renamed.{Renamed}
use Rattle.xfs_restored.proofs.DueSlots.{cluster_clear, numbers_either}
use Rattle.xfs_restored.proofs.NewSlots.{added_few}
use Rattle.xfs_restored.proofs.Handed.{kept_of_image}
use Rattle.xfs_restored.specs.Relinking.{IsRelinked}
use Rattle.xfs_restored.proofs.ReadHeads.{large, plan_held}

-- a room of four blocks is half of a chunk
halves : (i : ℕ) → (4 * i ≡ 8 * (i / 2) + 0) ⊎ (4 * i ≡ 8 * (i / 2) + 4)
halves i = by_rest (i % 2) refl (mod-lt i (omega arith))
  where
    by_rest : (r : ℕ) → i % 2 ≡ r → i % 2 < 2 → (4 * i ≡ 8 * (i / 2) + 0) ⊎ (4 * i ≡ 8 * (i / 2) + 4)
    by_rest zero e less = inl (omega (arith, e))
    by_rest (suc zero) e less = inr (omega (arith, e))
    by_rest (suc (suc r)) e less = absurd (omega (arith, e, less))

room_half : (g : Geometry) (pool : ℕ → Bool) (ag i c : ℕ) → ag < g.agcount → is_room (volume_of g) pool 4 0 ag i ≡ true → ag * g.agblocks + i * 4 ≡ c → IsHalf g c
unfolding is_room
room_half g pool ag i c low room is =
    let v : Volume = volume_of g in
    let parts = and_parts (lies_in_chunks (group_length v ag) 4 0 (i * 4)) (list_all pool (range_with_len (ag * g.agblocks + i * 4) 4)) room in
    let lies = and_parts (nat_le 8 (i * 4) && nat_le 0 (i * 4)) (nat_le (i * 4 + 4) (group_length v ag / 8 * 8)) parts.0 in
    let starts = and_parts (nat_le 8 (i * 4)) (nat_le 0 (i * 4)) lies.0 in
    let first : 8 ≤ i * 4 = leb-true 8 (i * 4) starts.0 in
    let end : i * 4 + 4 ≤ group_length v ag / 8 * 8 = leb-true (i * 4 + 4) (group_length v ag / 8 * 8) lies.1 in
    record {
      ag = ag;
      c = i / 2;
      group = low;
      some = omega (arith, first);
      inside = omega (arith, end);
      is = elim (halves i) [ inl one ↦ inl (omega (arith, is, one)) | inr two ↦ inr (omega (arith, is, two)) ];
    }

rooms_half : (g : Geometry) (pool : ℕ → Bool) (c : ℕ) → Member c (rooms (volume_of g) pool 4 0) → IsHalf g c
unfolding rooms rooms_below
rooms_half g pool c is =
    let v : Volume = volume_of g in
    let of = flat_member (rooms_of v pool 4 0) c (range_with_len 0 g.agcount) is in
    let group = row_member of.0 0 g.agcount of.1 in
    let low = group.high in
    let at = map_member (λ i. of.0 * v.agblocks + i * 4) c (filter (is_room v pool 4 0 of.0) (range_with_len 0 (group_length v of.0 / 4))) of.2 in
    let room = filter_member (is_room v pool 4 0 of.0) at.0 (range_with_len 0 (group_length v of.0 / 4)) at.1 in
    room_half g pool of.0 at.0 c (omega (arith, low)) room.1 at.2

module _ (g : Geometry) (n : NamesDue) where
  asked_half : (sparing : List ℕ) (c : ℕ) → Member c (asked_rooms (cluster_ask g n sparing)) → IsHalf g c
  asked_half sparing c is = rooms_half g (asked_pool (cluster_ask g n sparing)) c is

  first_half : (c : ℕ) (xs ys : List ℕ) → ((c : ℕ) → Member c xs → IsHalf g c) → ((c : ℕ) → Member c ys → IsHalf g c) → Member c (first_of xs ys) → IsHalf g c
  first_half c [] [] one two is = absurd is
  first_half c [] (y ∷ ys) one two is = elim is [ inl same ↦ subst (IsHalf g) same (two y (inl refl)) | inr none ↦ absurd none ]
  first_half c (x ∷ xs) ys one two is = elim is [ inl same ↦ subst (IsHalf g) same (one x (inl refl)) | inr none ↦ absurd none ]

  place_half : (p : LostPlace) (c : ℕ) → Member c (added_for g n p) → IsHalf g c
  place_half place.Unneeded c is = absurd is
  place_half (place.Old ino) c is = absurd is
  place_half (place.Slot ino) c is = absurd is
  place_half place.Cluster c is =
      first_half c (asked_rooms (cluster_ask g n (spared g n))) (asked_rooms (cluster_ask g n [])) (asked_half (spared g n)) (asked_half []) is

-- a number that ascending ones have not stands among them in order
side : (y x : ℕ) → (y < x) ⊎ ((y ≡ x) ⊎ (x + 1 ≤ y))
side y x = elim (cases_lt y x) [
  | inl less ↦ inl less
  | inr more ↦ elim (cases_lt x y) [ inl above ↦ inr (inr (omega (arith, above))) | inr not_above ↦ inr (inl (omega (arith, more, not_above))) ]
]

one_up : (low x : ℕ) (ys : List ℕ) → low ≤ x → NumbersAscend low ys → (Member x ys → ⊥) → NumbersAscend low (with_number_in_order x ys)
one_up low x [] from up other = (from, tt)
one_up low x (y ∷ ys) from up other = by_test (nat_lt y x) refl (λ above. one_up (y + 1) x ys above up.1 (λ there. other (inr there)))
  where
    above : nat_lt y x ≡ false → x + 1 ≤ y
    above more = elim (side y x) [
      | inl less ↦ absurd (false≢true (sym more ∙ lt-ltb y x less))
      | inr rest ↦ elim rest [ inl same ↦ absurd (other (inl same)) | inr high ↦ high ]
    ]

    by_test : (t : Bool) → nat_lt y x ≡ t → (y + 1 ≤ x → NumbersAscend (y + 1) (with_number_in_order x ys)) → NumbersAscend low (if t then y ∷ with_number_in_order x ys else x ∷ y ∷ ys)
    by_test true less rest = let below = ltb-true y x less in (up.0, rest (omega (arith, below)))
    by_test false more rest = (from, (above more, up.1))

few_up : (added ys : List ℕ) → length added ≤ 1 → NumbersAscend 0 ys → ((x : ℕ) → Member x added → Member x ys → ⊥) → NumbersAscend 0 (with_numbers added ys)
few_up [] ys few up other = up
few_up (x ∷ []) ys few up other = one_up 0 x ys (omega arith) up (other x (inl refl))
few_up (x ∷ z ∷ zs) ys few up other = absurd (omega (arith, few))

-- a cluster has its first block
covers_first : (c : ℕ) → covers c (run_of_cluster c) ≡ true
covers_first c = and_from (nat_le c c) (nat_lt c (c + 4)) (le-leb c c (omega arith)) (lt-ltb c (c + 4) (omega arith))

cluster_on : (c : ℕ) (cs : List ℕ) → Member c cs → 1 ≤ runs_on (map run_of_cluster cs) c
cluster_on c cs is = any_on (map run_of_cluster cs) c (member_any (covers c) (run_of_cluster c) (map run_of_cluster cs) (member_map run_of_cluster c cs is) (covers_first c))

module _ (g : Geometry) (sector : List ℕ) (s : Stamp) (image now : Image) (e : Evidence) (n : NamesDue) (r : Renamed) (has : IsRelinked g sector s image now e n r) where
  abbrev v : Volume
  v = volume_of g

  abbrev after : Salvaged
  after = settled n (lost_due g n) has.is.w

  abbrev asked : Wanted
  asked = renamed_wanted g n has.is.w has.is.built

  of : IsKeptOf v (candidates v image) (candidate_files v image) has.on.kept
  of = kept_of_image g image e has.on has.evidence has.ground

  pub old_up : NumbersAscend 0 n.clusters
  old_up = subst (NumbersAscend 0) (sym (has.due.clusters' ∙ of.clusters')) (clusters_of_volume_ascend v (candidates v image) (candidate_files v image))

  pub old_halves : AllByRecursion (IsHalf g) n.clusters
  old_halves = subst (AllByRecursion (IsHalf g)) (sym (has.due.clusters' ∙ of.clusters')) (kept_halves g image)

  -- a new cluster is none of the kept ones
  pub new_is_other : (c : ℕ) → Member c (lost_due g n).added → Member c n.clusters → ⊥
  unfolding wanted_with
  new_is_other c new old =
      let files : List Run = flat_map (file_runs v) (staying_files has.is.w.rebuilt n.fresh n.files) in
      let one = cluster_on c (lost_due g n).added new in
      let other = cluster_on c n.clusters old in
      let most = has.is.stands.apart.apart.once c in
      let a = on_both (kept_runs asked) has.is.placed.runs c in
      let b = on_both asked.taken asked.new c in
      let d = on_both (map run_of_cluster n.clusters) files c in
      omega (arith, one, other, most, a, b, d)

  pub settled_up : NumbersAscend 0 after.clusters
  settled_up = few_up (lost_due g n).added n.clusters (added_few g n) old_up new_is_other

  pub settled_halves : AllByRecursion (IsHalf g) after.clusters
  settled_halves = all_members (IsHalf g) after.clusters (λ c is. elim (numbers_either c (lost_due g n).added n.clusters is) [
    | inl new ↦ place_half g n (place_due g n) c new
    | inr old ↦ member_all (IsHalf g) c n.clusters old_halves old
  ])

  block_clear : (k block : ℕ) → is_among after.clusters k ≡ true → k ≤ block → block < k + 4 → is_fixed v block ≡ false
  block_clear k block is low high =
      cluster_clear g sector s image now n r has.is (plan_held g sector s image now e n r has) (large g sector s image now e n r has) k (among_member k after.clusters is) block
      (and_from (nat_le k block) (nat_lt block (k + 4)) (le-leb k block low) (lt-ltb block (k + 4) high))

  pub settled_chunks : (ag : ℕ) → ag < g.agcount → are_lawful (ino_shape ag) v None (inodes_in_group (volume_wanted g after []).inodes ag) ≡ true
  settled_chunks ag low =
      subst (λ (rs : List InoRec). are_lawful (ino_shape ag) v None rs ≡ true) (sym (inodes_are g after [] ag low)) (chunks_lawful g after block_clear ag low)

  module _ (placed : List GroupPlaced) (agf_crc agi_crc : ℕ → ℕ) where
    pub clusters_settled : clusters_of v (due_groups v (inodes_wanted v after) placed agf_crc agi_crc) ≡ after.clusters
    unfolding volume_wanted
    clusters_settled = asked_clusters_are g after [] placed agf_crc agi_crc settled_up settled_halves settled_chunks

    pub inodes_settled : inodes_of v (due_groups v (inodes_wanted v after) placed agf_crc agi_crc) ≡ flat_map (cluster_inodes v) after.clusters
    unfolding inodes_of
    inodes_settled = ap (flat_map (cluster_inodes v)) clusters_settled
