-- Each group of a consistent image says in full where its clusters are, and the candidate clusters are just those of its chunks.
use Rattle.std.proofs.Common.{◌≡◌, ℕ, Bool, true, ◌+◌, ◌-◌, ◌*◌, ◌/◌, ◌^◌, ◌≤◌, ◌<◌, inl, inr, ◌&&◌, ◌==◌, nat_le, nat_lt, List, [], ◌∷◌, ◌++◌, refl, sym, ◌∙◌, ap, subst, arith, Some, None}
use Rattle.std.specs.List.{filter, flat_map, list_all, range_with_len}
use Rattle.std.proofs.lemmas.Bool.{and_from, and_parts, cases_lt, eq-eqb, eqb-true, le-leb, leb-true, lt-ltb, ltb-true}
use Rattle.std.proofs.lemmas.List.Elements.{recursion_from_All}
use Rattle.std.proofs.lemmas.Nat.{div-mul-add}
use Rattle.xfs_kinds.specs.Owners.{headers_owner, log_owner}
use Rattle.xfs_geom.specs.Runs.{covers, runs_on}
use Rattle.xfs_disk.specs.Blocks.{Image}
use Rattle.xfs_geom.specs.Conversions.{group_length}
use Rattle.xfs_geom.specs.Volumes.{Volume, volume_of}
use Rattle.xfs_geom.specs.declared.geometry.Geometry.{Geometry}
use Rattle.xfs_geom.specs.declared.records.RmapRec.{RmapRec}
use Rattle.xfs_geom.specs.declared.records.Run.{Run}
use Rattle.xfs_kinds.specs.MergedRuns.{held_at, offset_word_at}
use Rattle.xfs_volume.specs.declared.files.FileRec.{FileRec}
use Rattle.xfs_volume.specs.declared.groups.GroupRec.{GroupRec}
use Rattle.xfs_laws.specs.xfs_space.Owners.{cluster_run, cluster_runs, clusters_of_chunk, file_runs, group_runs, groups_runs, listed_runs, owned_runs, new_run, tree_owners, tree_runs}
use Rattle.xfs_laws.specs.xfs_space.Parts.{AreGroups}
use Rattle.xfs_laws.specs.xfs_space.SpaceLaws.{owner_number, recorded_run, recorded_runs}
use Rattle.xfs_laws.proofs.xfs_space.FreeSpans.{group_short}
use Rattle.xfs_laws.proofs.xfs_space.RecordedMaps.{IsRecorded, all_recorded, group_inside}
use Rattle.xfs_image.specs.Claims.{is_of_cluster}
use Rattle.xfs_image.specs.Clusters.{chunk_clusters, given_clusters, gives_block, is_given_block, places_in}
use Rattle.xfs_image.specs.Files.{clusters_from}
use Rattle.xfs_image.specs.Groups.{head_block}
use Rattle.xfs_views.proofs.Chunks.{chunks_moved}
use Rattle.xfs_views.proofs.Held.{HasGroup, IsHeldBy, group_at, held_member, held_of, once_recorded}
use Rattle.xfs_views.proofs.Lawful.{IsLawfulView}
use Rattle.xfs_views.proofs.Members.{Member, any_member, filter_member, map_member, member_all, member_any, member_either, member_left, member_map, member_right, row_member}
use Rattle.xfs_views.proofs.Owners.{HasBlock, from_number, numbers_agree, on_parts, word_low, word_own}
use Rattle.xfs_views.proofs.Places.{cluster_chunked, group_is}

-- the run of a cluster among those of the groups
pub record HasRun (x : ℕ) (rs : List Run) : Type 0 where
  pub run_is : Run
  pub is : Member run_is rs
  pub start : run_is.start ≡ x
  pub count : run_is.count ≡ 4
  pub owner : run_is.owner ≡ 2 ^ 64 - 7
  pub offset : run_is.offset_word ≡ 0

next_base : (ag w : ℕ) → (ag + 1) * w ≡ ag * w + w
next_base ag w = omega arith

cluster_has : (v : Volume) (a x : ℕ) (gs : List GroupRec) → AreGroups v a gs → Member x (clusters_from v a gs) → HasRun x (groups_runs v.agblocks (a * v.agblocks) gs)
cluster_has v a x [] are is = absurd is
cluster_has v a x (g ∷ gs) are is =
    let base : ℕ = a * v.agblocks in
    elim (member_either x (chunk_clusters v a g.ino) (clusters_from v (a + 1) gs) is) [
      | inl here ↦
          let of = map_member (λ k. base + k) x (flat_map clusters_of_chunk g.ino) (subst (λ (xs : List ℕ). Member x xs) (chunks_moved v a base None g.ino are.0.ino) here) in
          record {
            run_is = cluster_run base of.0;
            is = member_left (cluster_run base of.0) (group_runs base g) (groups_runs v.agblocks (base + v.agblocks) gs)
                (member_right (cluster_run base of.0) (new_run base 1 headers_owner 0 ∷ tree_runs tree_owners g.blocks ++ listed_runs base g.agfl) (cluster_runs base g.ino)
                (member_map (cluster_run base) of.0 (flat_map clusters_of_chunk g.ino) of.1));
            start = of.2;
            count = refl;
            owner = refl;
            offset = refl;
          }
      | inr there ↦
          let rest = cluster_has v (a + 1) x gs are.1 there in
          record {
            run_is = rest.run_is;
            is = member_right rest.run_is (group_runs base g) (groups_runs v.agblocks (base + v.agblocks) gs)
                (subst (λ (n : ℕ). Member rest.run_is (groups_runs v.agblocks n gs)) (next_base a v.agblocks) rest.is);
            start = rest.start;
            count = rest.count;
            owner = rest.owner;
            offset = rest.offset;
          }
    ]

among_owned : (g : Geometry) (groups : List GroupRec) (files : List FileRec) (q : Run) → Member q (groups_runs g.agblocks 0 groups) → Member q (owned_runs (volume_of g) groups files)
unfolding owned_runs
among_owned g groups files q is =
    member_left q (groups_runs g.agblocks 0 groups) (new_run g.log g.logblocks log_owner 0 ∷ flat_map (file_runs (volume_of g)) files) is

module _ (g : Geometry) (image : Image) (groups : List GroupRec) (files : List FileRec) (view : IsLawfulView g image groups files) where
  abbrev v : Volume
  v = volume_of g

  zero_base : 0 * g.agblocks ≡ 0
  zero_base = omega arith

  abbrev total : List Run
  total = recorded_runs g.agblocks 0 groups

  abbrev owned : List Run
  owned = owned_runs (volume_of g) groups files

  once_total : (b : ℕ) → runs_on total b ≤ 1
  once_total b =
      let count = view.space.count in
      subst (λ (base : ℕ). runs_on (recorded_runs g.agblocks base groups) b ≤ 1) zero_base (once_recorded g 0 b groups (omega (arith, count)) view.space.are)

  pub group_of : (n : ℕ) → n < g.agcount → HasGroup g image 0 groups n
  group_of n few = let count = view.space.count in group_at g image 0 n groups view.groups_read view.space.are (omega arith) (omega (arith, few, count))

  -- a block that a record gives to the clusters is one of a cluster of chunks
  given_block : (n p : ℕ) (h : HasGroup g image 0 groups n) (r : RmapRec) → n < g.agcount → Member r h.group.rmap → gives_block p r ≡ true → HasBlock (volume_of g) 0 groups (n * g.agblocks + p)
  given_block n p h r few is given =
      let a = and_parts (r.owner == 2 ^ 64 - 7 && nat_le r.start p) (nat_lt p (r.start + r.count)) given in
      let c = and_parts (r.owner == 2 ^ 64 - 7) (nat_le r.start p) a.0 in
      let owner = eqb-true r.owner (2 ^ 64 - 7) c.0 in
      let low = leb-true r.start p c.1 in
      let high = ltb-true p (r.start + r.count) a.1 in
      let base : ℕ = n * g.agblocks in
      let b : ℕ = base + p in
      let q : Run = recorded_run base r in
      let all = recursion_from_All (IsRecorded (volume_of g) n) h.group.rmap (all_recorded (volume_of g) n h.group.rmap h.is.rmap) in
      let good : IsRecorded (volume_of g) n r = member_all (IsRecorded (volume_of g) n) r h.group.rmap all is in
      let inside = good.inside in
      let ends = group_inside (volume_of g) n few g.shape.groups.last in
      let on : covers b q ≡ true = and_from (nat_le (base + r.start) b) (nat_lt b (base + r.start + r.count)) (le-leb (base + r.start) b (omega (arith, low))) (lt-ltb b (base + r.start + r.count) (omega (arith, high))) in
      let among : Member q total = subst (λ (k : ℕ). Member q (recorded_runs g.agblocks k groups)) zero_base (h.records q (member_map (recorded_run base) r h.group.rmap is)) in
      let held : held_at total b ≡ Some (q.owner, offset_word_at q b) = held_member q total b among on (once_total b) in
      let word : offset_word_at q b ≡ r.offset_word = word_own q b (omega (arith, owner)) in
      let number : owner_number (held_at total b) ≡ r.owner * 2 ^ 64 + offset_word_at q b = ap owner_number held in
      let agree = numbers_agree (volume_of g) total owned b view.owners (omega (arith, inside, ends, high)) in
      let due : owner_number (held_at owned b) ≡ (2 ^ 64 - 7) * 2 ^ 64 + r.offset_word = omega (arith, agree, number, word, owner) in
      from_number g image groups files b r.offset_word view good.offset due

  -- a cluster that the tree of owners names is one of the chunks of its group
  pub given_chunk : (n x : ℕ) (h : HasGroup g image 0 groups n) → n < g.agcount → Member x (given_clusters (volume_of g) n h.group.rmap) → Member x (chunk_clusters (volume_of g) n h.group.ino)
  given_chunk n x h few is =
      let test : ℕ → Bool = λ place. list_all (is_given_block h.group.rmap) (range_with_len place 4) in
      let of = map_member (λ place. head_block (volume_of g) n + place) x (filter test (places_in (volume_of g) n)) is in
      let place = filter_member test of.0 (places_in (volume_of g) n) of.1 in
      let index = map_member (λ i. 4 * i) of.0 (range_with_len 0 (group_length (volume_of g) n / 4)) place.0 in
      let row = row_member index.0 0 (group_length (volume_of g) n / 4) index.1 in
      let first : is_given_block h.group.rmap of.0 ≡ true = (and_parts (is_given_block h.group.rmap of.0) (list_all (is_given_block h.group.rmap) (range_with_len (of.0 + 1) 3)) place.1).0 in
      let one = any_member (gives_block of.0) h.group.rmap first in
      let found = given_block n of.0 h one.0 few one.1 one.2 in
      let at = cluster_chunked g found.cluster groups view.space.are found.is in
      let inside = at.1.inside in
      let short = group_short (volume_of g) at.0 g.shape.groups.covered in
      let shorter = group_short (volume_of g) n g.shape.groups.covered in
      let parts = and_parts (nat_le found.cluster (n * g.agblocks + of.0)) (nat_lt (n * g.agblocks + of.0) (found.cluster + 4)) found.on in
      let low = leb-true found.cluster (n * g.agblocks + of.0) parts.0 in
      let high = ltb-true (n * g.agblocks + of.0) (found.cluster + 4) parts.1 in
      let start = at.1.is in
      let by_four = index.2 in
      let last = row.high in
      let group : x / g.agblocks ≡ n = group_is g x (record { ag = n; i = index.0; group = few; inside = omega (arith, last); is = let e = of.2 in omega (arith, e, by_four) }) in
      let other : (n * g.agblocks + of.0) / g.agblocks ≡ at.0 =
      ap (λ (k : ℕ). k / g.agblocks) (let e : n * g.agblocks + of.0 ≡ at.0 * g.agblocks + (n * g.agblocks + of.0 - at.0 * g.agblocks) = omega (arith, low, start) in e)
      ∙ div-mul-add at.0 g.agblocks (n * g.agblocks + of.0 - at.0 * g.agblocks) (omega (arith, low, high, start, inside, short)) in
      let here : x ≡ n * g.agblocks + of.0 = sym of.2 in
      let same_group : at.0 ≡ n = sym other ∙ ap (λ (k : ℕ). k / g.agblocks) (sym here) ∙ group in
      let level : at.0 * g.agblocks ≡ n * g.agblocks = ap (λ (k : ℕ). k * g.agblocks) same_group in
      let same : found.cluster ≡ x = omega (arith, level, low, high, start, here, by_four) in
      h.clusters_back x (subst (λ (k : ℕ). Member k (clusters_from (volume_of g) 0 groups)) same found.is) group

  -- a block of a cluster of chunks is given to the clusters
  pub chunk_given : (n x p : ℕ) (h : HasGroup g image 0 groups n) → n < g.agcount → Member x (chunk_clusters (volume_of g) n h.group.ino) → is_of_cluster x (n * g.agblocks + p) ≡ true → p < group_length (volume_of g) n
      → is_given_block h.group.rmap p ≡ true
  chunk_given n x p h few is on inside =
      let base : ℕ = n * g.agblocks in
      let b : ℕ = base + p in
      let has = cluster_has (volume_of g) 0 x groups view.space.are (h.clusters x is) in
      let q : Run = has.run_is in
      let among : Member q owned = among_owned g groups files q (subst (λ (k : ℕ). Member q (groups_runs g.agblocks k groups)) zero_base has.is) in
      let start = has.start in
      let count = has.count in
      let owner = has.owner in
      let offset = has.offset in
      let ends = group_inside (volume_of g) n few g.shape.groups.last in
      let short = group_short (volume_of g) n g.shape.groups.covered in
      let parts = and_parts (nat_le x b) (nat_lt b (x + 4)) on in
      let low = leb-true x b parts.0 in
      let high = ltb-true b (x + 4) parts.1 in
      let on_run : covers b q ≡ true = and_from (nat_le q.start b) (nat_lt b (q.start + q.count)) (le-leb q.start b (omega (arith, start, low))) (lt-ltb b (q.start + q.count) (omega (arith, start, count, high))) in
      let held : held_at owned b ≡ Some (q.owner, offset_word_at q b) = held_member q owned b among on_run (view.space.once b) in
      let word : offset_word_at q b ≡ q.offset_word = word_own q b (omega (arith, owner)) in
      let number : owner_number (held_at owned b) ≡ q.owner * 2 ^ 64 + offset_word_at q b = ap owner_number held in
      let agree = numbers_agree (volume_of g) total owned b view.owners (omega (arith, inside, ends)) in
      let due : owner_number (held_at total b) ≡ (2 ^ 64 - 7) * 2 ^ 64 = omega (arith, agree, number, word, owner, offset) in
      elim (held_of total b) [
        | inl none ↦ let e : owner_number None ≡ (2 ^ 64 - 7) * 2 ^ 64 = ap owner_number (sym none) ∙ due in absurd (omega (arith, e))
        | inr one ↦ recorded_given n p h one.0 one.1 due (omega (arith, inside, short))
      ]
    where
      recorded_given : (n p : ℕ) (h : HasGroup g image 0 groups n) (q : Run) → IsHeldBy total (n * g.agblocks + p) q → owner_number (held_at total (n * g.agblocks + p)) ≡ (2 ^ 64 - 7) * 2 ^ 64
          → p < g.agblocks → is_given_block h.group.rmap p ≡ true
      recorded_given n p h q one due short =
          let base : ℕ = n * g.agblocks in
          let b : ℕ = base + p in
          let among : Member q (recorded_runs g.agblocks (0 * g.agblocks) groups) = subst (λ (k : ℕ). Member q (recorded_runs g.agblocks k groups)) (sym zero_base) one.is in
          let mine = h.records_back q b among one.on (omega arith) (omega (arith, short)) in
          let of = map_member (recorded_run base) q h.group.rmap mine in
          let all = recursion_from_All (IsRecorded (volume_of g) n) h.group.rmap (all_recorded (volume_of g) n h.group.rmap h.is.rmap) in
          let good : IsRecorded (volume_of g) n of.0 = member_all (IsRecorded (volume_of g) n) of.0 h.group.rmap all of.1 in
          let r : Run = recorded_run base of.0 in
          let on : covers b r ≡ true = subst (λ (x : Run). covers b x ≡ true) (sym of.2) one.on in
          let at = on_parts b r on in
          let first = at.0 in
          let last = at.1 in
          let fork = good.fork in
          let offset = good.offset in
          let number : of.0.owner * 2 ^ 64 + offset_word_at r b ≡ (2 ^ 64 - 7) * 2 ^ 64 =
          subst (λ (x : Run). x.owner * 2 ^ 64 + offset_word_at x b ≡ (2 ^ 64 - 7) * 2 ^ 64) (sym of.2) (ap owner_number (sym one.held) ∙ due) in
          let owner : of.0.owner ≡ 2 ^ 64 - 7 =
          elim (cases_lt of.0.owner (2 ^ 63)) [
            | inl less ↦ let low = word_low r b offset (omega (arith, fork)) last in absurd (omega (arith, number, low, less))
            | inr high ↦ let word = word_own r b high in omega (arith, number, word, offset)
          ] in
          member_any (gives_block p) of.0 h.group.rmap of.1
          (and_from (of.0.owner == 2 ^ 64 - 7 && nat_le of.0.start p) (nat_lt p (of.0.start + of.0.count))
          (and_from (of.0.owner == 2 ^ 64 - 7) (nat_le of.0.start p) (eq-eqb of.0.owner (2 ^ 64 - 7) owner) (le-leb of.0.start p (omega (arith, first))))
          (lt-ltb p (of.0.start + of.0.count) (omega (arith, last))))
