-- The clusters of the chunks that are asked are those that are kept.
use Rattle.std.proofs.Common.{◌≡◌, ℕ, zero, suc, Bool, true, false, ◌+◌, ◌-◌, ◌*◌, ◌/◌, ◌≤◌, ◌<◌, ◌⊎◌, inl, inr, ◌==◌, ◌||◌, if◌then◌else◌, List, [], ◌∷◌, ◌++◌, map, refl, sym, subst, ap, ap₂, ◌∙◌, arith}
use Rattle.std.specs.List.{AllByRecursion, flat_map, range_with_len}
use Rattle.std.proofs.lemmas.Bool.{eq-eqb, false≢true}
use Rattle.std.proofs.lemmas.List.{append-nil, append_assoc, map-append}
use Rattle.std.proofs.lemmas.List.Concat.{flat_map-append}
use Rattle.xfs_disk.specs.Lists.{is_among}
use Rattle.xfs_geom.specs.Conversions.{group_length}
use Rattle.xfs_geom.specs.Volumes.{Volume, volume_of}
use Rattle.xfs_geom.specs.declared.geometry.Geometry.{Geometry}
use Rattle.xfs_geom.specs.declared.records.InoRec.{InoRec}
use Rattle.xfs_geom.specs.declared.records.Run.{Run}
use Rattle.xfs_kinds.specs.InodeTrees.{ino_shape, settled_chunk}
use Rattle.xfs_kinds.specs.Owners.{clusters_owner}
use Rattle.xfs_claims.proofs.Ordered.{Ascend, same_list}
use Rattle.xfs_naming.specs.Naming.{NumbersAscend}
use Rattle.xfs_place.specs.Wanted.{inodes_in_group}
use Rattle.xfs_made.proofs.xfs_views.Members.{Member, all_members, flat_member, member_all, member_any, member_either, member_flat, member_left, member_right, member_row}
use Rattle.xfs_space.specs.Owners.{cluster_run, cluster_runs, clusters_of_chunk, new_run}
use Rattle.xfs_space.proofs.FreeSpans.{group_short}
use Rattle.xfs_request.specs.xfs_salvage.Kept.{run_of_cluster}
use Rattle.xfs_request.specs.xfs_salvage.declared.found.Salvaged.{Salvaged}
use Rattle.xfs_made.specs.Keeping.{all_clusters}
use Rattle.xfs_request.specs.Chunks.{chunk_listed, has_chunk, has_kept_cluster, holes, kept_chunk, kept_chunks}
use Rattle.xfs_request.specs.Requests.{volume_wanted}
use Rattle.xfs_made.proofs.Chunked.{IsHalf}
use Rattle.xfs_made.proofs.Taken.{among_member}
use Rattle.xfs_made.proofs.Writable.{inodes_are}

-- the clusters of a chunk by its halves
abbrev half_blocks : ℕ → ℕ → Bool → Bool → List ℕ
half_blocks base c first second = (if first then ((base + 8 * c + 0) ∷ []) else []) ++ (if second then ((base + 8 * c + 4) ∷ []) else [])

-- the same by its mask
abbrev mask_blocks : ℕ → ℕ → List ℕ
mask_blocks startino mask = (if mask == 0x00ff then [] else ((startino / 8) ∷ [])) ++ (if mask == 0xff00 then [] else ((startino / 8 + 4) ∷ []))

abbrev at_run : ℕ → Run
at_run block = new_run block 4 clusters_owner 0

runs_are : (base c : ℕ) (first second : Bool) (r : InoRec) → clusters_of_chunk (settled_chunk r) ≡ mask_blocks (64 * c) (holes first second)
    → map (cluster_run base) (flat_map clusters_of_chunk (map settled_chunk (if first || second then r ∷ [] else []))) ≡ map run_of_cluster (half_blocks base c first second)
runs_are base c true true r is =
    let low : base + 64 * c / 8 ≡ base + 8 * c + 0 = omega arith in
    let high : base + (64 * c / 8 + 4) ≡ base + 8 * c + 4 = omega arith in
    ap (λ (bs : List ℕ). map (cluster_run base) (bs ++ [])) is ∙ ap₂ (λ (a b : ℕ). at_run a ∷ at_run b ∷ []) low high
runs_are base c true false r is =
    let low : base + 64 * c / 8 ≡ base + 8 * c + 0 = omega arith in
    ap (λ (bs : List ℕ). map (cluster_run base) (bs ++ [])) is ∙ ap (λ (a : ℕ). at_run a ∷ []) low
runs_are base c false true r is =
    let high : base + (64 * c / 8 + 4) ≡ base + 8 * c + 4 = omega arith in
    ap (λ (bs : List ℕ). map (cluster_run base) (bs ++ [])) is ∙ ap (λ (b : ℕ). at_run b ∷ []) high
runs_are base c false false r is = refl

module _ (v : Volume) (kept : Salvaged) where
  -- the kept clusters of a chunk, and of all chunks of a group from one on
  abbrev chunk_blocks : ℕ → ℕ → List ℕ
  chunk_blocks ag c = half_blocks (ag * v.agblocks) c (has_kept_cluster v kept ag c 0) (has_kept_cluster v kept ag c 4)

  abbrev group_blocks : ℕ → List ℕ
  group_blocks ag = flat_map (chunk_blocks ag) (range_with_len 1 (group_length v ag / 8 - 1))

  chunk_masked : (ag c : ℕ) → clusters_of_chunk (settled_chunk (kept_chunk v kept ag c)) ≡ mask_blocks (64 * c) (holes (has_kept_cluster v kept ag c 0) (has_kept_cluster v kept ag c 4))
  unfolding kept_chunk
  chunk_masked ag c = refl

  row_runs : (ag c n : ℕ) → map (cluster_run (ag * v.agblocks)) (flat_map clusters_of_chunk (map settled_chunk (flat_map (chunk_listed v kept ag) (range_with_len c n))))
      ≡ map run_of_cluster (flat_map (chunk_blocks ag) (range_with_len c n))
  row_runs ag c zero = refl
  row_runs ag c (suc n) =
      let base : ℕ = ag * v.agblocks in
      let here : List InoRec = chunk_listed v kept ag c in
      let rest : List InoRec = flat_map (chunk_listed v kept ag) (range_with_len (c + 1) n) in
      ap (λ (rs : List InoRec). map (cluster_run base) (flat_map clusters_of_chunk rs)) (map-append settled_chunk here rest)
      ∙ ap (map (cluster_run base)) (flat_map-append clusters_of_chunk (map settled_chunk here) (map settled_chunk rest))
      ∙ map-append (cluster_run base) (flat_map clusters_of_chunk (map settled_chunk here)) (flat_map clusters_of_chunk (map settled_chunk rest))
      ∙ ap₂ (λ (xs ys : List Run). xs ++ ys)
      (runs_are base c (has_kept_cluster v kept ag c 0) (has_kept_cluster v kept ag c 4) (kept_chunk v kept ag c) (chunk_masked ag c)) (row_runs ag (c + 1) n)
      ∙ sym (map-append run_of_cluster (chunk_blocks ag c) (flat_map (chunk_blocks ag) (range_with_len (c + 1) n)))

  group_runs : (ag : ℕ) → cluster_runs (ag * v.agblocks) (map settled_chunk (kept_chunks v kept ag)) ≡ map run_of_cluster (group_blocks ag)
  unfolding kept_chunks
  group_runs ag = row_runs ag 1 (group_length v ag / 8 - 1)

module _ (g : Geometry) (kept : Salvaged) (reserved : List ℕ) where
  -- the runs of the clusters of the chunks that are asked
  groups_runs : (a n : ℕ) → a + n ≡ g.agcount
      → flat_map (λ ag. cluster_runs (ag * g.agblocks) (map settled_chunk (inodes_in_group (volume_wanted g kept reserved).inodes ag))) (range_with_len a n)
      ≡ map run_of_cluster (flat_map (group_blocks (volume_of g) kept) (range_with_len a n))
  groups_runs a zero end = refl
  groups_runs a (suc n) end =
      let v : Volume = volume_of g in
      ap₂ (λ (xs ys : List Run). xs ++ ys)
      (ap (λ (rs : List InoRec). cluster_runs (a * g.agblocks) (map settled_chunk rs)) (inodes_are g kept reserved a (omega (arith, end))) ∙ group_runs v kept a)
      (groups_runs (a + 1) n (omega (arith, end)))
      ∙ sym (map-append run_of_cluster (group_blocks v kept a) (flat_map (group_blocks v kept) (range_with_len (a + 1) n)))

  abbrev blocks : List ℕ
  blocks = flat_map (group_blocks (volume_of g) kept) (range_with_len 0 g.agcount)

  clusters_of : all_clusters (volume_of g) (volume_wanted g kept reserved).inodes ≡ map run_of_cluster blocks
  clusters_of = groups_runs 0 g.agcount (omega arith)

  lower : (low high : ℕ) (ns : List ℕ) → low ≤ high → NumbersAscend high ns → NumbersAscend low ns
  lower low high [] le up = tt
  lower low high (n ∷ ns) le up = (let first = up.0 in omega (arith, le, first), up.1)

  -- they ascend
  halves_then : (base c low : ℕ) (first second : Bool) (ys : List ℕ) → low ≤ base + 8 * c → NumbersAscend (base + 8 * (c + 1)) ys → NumbersAscend low (half_blocks base c first second ++ ys)
  halves_then base c low true true ys from up = (omega (arith, from), (omega arith, lower (base + 8 * c + 4 + 1) (base + 8 * (c + 1)) ys (omega arith) up))
  halves_then base c low true false ys from up = (omega (arith, from), lower (base + 8 * c + 0 + 1) (base + 8 * (c + 1)) ys (omega arith) up)
  halves_then base c low false true ys from up = (omega (arith, from), lower (base + 8 * c + 4 + 1) (base + 8 * (c + 1)) ys (omega arith) up)
  halves_then base c low false false ys from up = lower low (base + 8 * (c + 1)) ys (omega (arith, from)) up

  row_then : (ag c n low : ℕ) (ys : List ℕ) → low ≤ ag * g.agblocks + 8 * c → NumbersAscend (ag * g.agblocks + 8 * (c + n)) ys
      → NumbersAscend low (flat_map (chunk_blocks (volume_of g) kept ag) (range_with_len c n) ++ ys)
  row_then ag c zero low ys from up = lower low (ag * g.agblocks + 8 * (c + 0)) ys (omega (arith, from)) up
  row_then ag c (suc n) low ys from up =
      let v : Volume = volume_of g in
      let end : c + suc n ≡ (c + 1) + n = omega arith in
      let rest = row_then ag (c + 1) n (ag * g.agblocks + 8 * (c + 1)) ys (omega arith) (subst (λ (m : ℕ). NumbersAscend (ag * g.agblocks + 8 * m) ys) end up) in
      subst (NumbersAscend low) (sym (append_assoc (chunk_blocks v kept ag c) (flat_map (chunk_blocks v kept ag) (range_with_len (c + 1) n)) ys))
      (halves_then (ag * g.agblocks) c low (has_kept_cluster v kept ag c 0) (has_kept_cluster v kept ag c 4)
      (flat_map (chunk_blocks v kept ag) (range_with_len (c + 1) n) ++ ys) from rest)

  groups_then : (a n low : ℕ) → low ≤ a * g.agblocks → NumbersAscend low (flat_map (group_blocks (volume_of g) kept) (range_with_len a n))
  groups_then a zero low from = tt
  groups_then a (suc n) low from =
      let v : Volume = volume_of g in
      let short = group_short v a g.shape.groups.covered in
      let next : (a + 1) * g.agblocks ≡ a * g.agblocks + g.agblocks = omega arith in
      by_length (group_length v a / 8) refl (groups_then (a + 1) n ((a + 1) * g.agblocks) (omega arith)) (omega (arith, short)) next
    where
      by_length : (m : ℕ) → group_length (volume_of g) a / 8 ≡ m → NumbersAscend ((a + 1) * g.agblocks) (flat_map (group_blocks (volume_of g) kept) (range_with_len (a + 1) n))
          → 8 * (group_length (volume_of g) a / 8) ≤ g.agblocks → (a + 1) * g.agblocks ≡ a * g.agblocks + g.agblocks
          → NumbersAscend low (flat_map (chunk_blocks (volume_of g) kept a) (range_with_len 1 (m - 1)) ++ flat_map (group_blocks (volume_of g) kept) (range_with_len (a + 1) n))
      by_length zero is rest room next = lower low ((a + 1) * g.agblocks) (flat_map (group_blocks (volume_of g) kept) (range_with_len (a + 1) n)) (omega (arith, from, next)) rest
      by_length (suc m) is rest room next =
          let less : suc m - 1 ≡ m = omega arith in
          subst (λ (k : ℕ). NumbersAscend low (flat_map (chunk_blocks (volume_of g) kept a) (range_with_len 1 k) ++ flat_map (group_blocks (volume_of g) kept) (range_with_len (a + 1) n))) (sym less)
          (row_then a 1 m low (flat_map (group_blocks (volume_of g) kept) (range_with_len (a + 1) n)) (omega (arith, from))
          (lower (a * g.agblocks + 8 * (1 + m)) ((a + 1) * g.agblocks) (flat_map (group_blocks (volume_of g) kept) (range_with_len (a + 1) n)) (omega (arith, is, room, next)) rest))

  all_above : (low : ℕ) (ns : List ℕ) → NumbersAscend low ns → AllByRecursion (λ n. low ≤ n) ns
  all_above low [] up = tt
  all_above low (n ∷ ns) up = let first = up.0 in (first, all_above low ns (lower low (n + 1) ns (omega (arith, first)) up.1))

  as_ascend : (low : ℕ) (ns : List ℕ) → NumbersAscend low ns → Ascend (λ n. n) ns
  as_ascend low [] up = tt
  as_ascend low (n ∷ ns) up =
      (all_members (λ m. n < m) ns (λ m is. let above = member_all (λ x. n + 1 ≤ x) m ns (all_above (n + 1) ns up.1) is in omega (arith, above)), as_ascend (n + 1) ns up.1)

  -- each is kept, and each that is kept is one
  half_kept : (base c k : ℕ) (first second : Bool) → (first ≡ true → Member (base + 8 * c + 0) kept.clusters) → (second ≡ true → Member (base + 8 * c + 4) kept.clusters)
      → Member k (half_blocks base c first second) → Member k kept.clusters
  half_kept base c k true true one two is =
      elim is [
        | inl low ↦ subst (λ (n : ℕ). Member n kept.clusters) low (one refl)
        | inr rest ↦ elim rest [ inl high ↦ subst (λ (n : ℕ). Member n kept.clusters) high (two refl) | inr none ↦ absurd none ]
      ]
  half_kept base c k true false one two is = elim is [ inl low ↦ subst (λ (n : ℕ). Member n kept.clusters) low (one refl) | inr none ↦ absurd none ]
  half_kept base c k false true one two is = elim is [ inl high ↦ subst (λ (n : ℕ). Member n kept.clusters) high (two refl) | inr none ↦ absurd none ]
  half_kept base c k false false one two is = absurd is

  asked_kept : (k : ℕ) → Member k blocks → Member k kept.clusters
  asked_kept k is =
      let v : Volume = volume_of g in
      let group = flat_member (group_blocks v kept) k (range_with_len 0 g.agcount) is in
      let chunk = flat_member (chunk_blocks v kept group.0) k (range_with_len 1 (group_length v group.0 / 8 - 1)) group.2 in
      half_kept (group.0 * g.agblocks) chunk.0 k (has_kept_cluster v kept group.0 chunk.0 0) (has_kept_cluster v kept group.0 chunk.0 4)
      (among_member (group.0 * g.agblocks + 8 * chunk.0 + 0) kept.clusters) (among_member (group.0 * g.agblocks + 8 * chunk.0 + 4) kept.clusters) chunk.2

  first_of : (base c : ℕ) (first second : Bool) → first ≡ true → Member (base + 8 * c + 0) (half_blocks base c first second)
  first_of base c true second is = inl refl
  first_of base c false second is = absurd (false≢true is)

  second_of : (base c : ℕ) (first second : Bool) → second ≡ true → Member (base + 8 * c + 4) (half_blocks base c first second)
  second_of base c true true is = inr (inl refl)
  second_of base c false true is = inl refl
  second_of base c true false is = absurd (false≢true is)
  second_of base c false false is = absurd (false≢true is)

  in_list : (n : ℕ) → Member n kept.clusters → is_among kept.clusters n ≡ true
  in_list n is = member_any (λ m. m == n) n kept.clusters is (eq-eqb n n refl)

  kept_asked : (k : ℕ) → IsHalf g k → Member k kept.clusters → Member k blocks
  kept_asked k at is =
      let v : Volume = volume_of g in
      let base : ℕ = at.ag * g.agblocks in
      let group = at.group in
      let some = at.some in
      let inside = at.inside in
      let here : Member k (chunk_blocks v kept at.ag at.c) =
      elim at.is [
        | inl low ↦ subst (λ (n : ℕ). Member n (chunk_blocks v kept at.ag at.c)) (sym low)
            (first_of base at.c (has_kept_cluster v kept at.ag at.c 0) (has_kept_cluster v kept at.ag at.c 4) (in_list (base + 8 * at.c + 0) (subst (λ (n : ℕ). Member n kept.clusters) low is)))
        | inr high ↦ subst (λ (n : ℕ). Member n (chunk_blocks v kept at.ag at.c)) (sym high)
            (second_of base at.c (has_kept_cluster v kept at.ag at.c 0) (has_kept_cluster v kept at.ag at.c 4) (in_list (base + 8 * at.c + 4) (subst (λ (n : ℕ). Member n kept.clusters) high is)))
      ] in
      member_flat (group_blocks v kept) at.ag k (range_with_len 0 g.agcount) (member_row at.ag 0 g.agcount (omega arith) (omega (arith, group)))
      (member_flat (chunk_blocks v kept at.ag) at.c k (range_with_len 1 (group_length v at.ag / 8 - 1))
      (member_row at.c 1 (group_length v at.ag / 8 - 1) some (omega (arith, some, inside))) here)

  pub clusters_are_kept : NumbersAscend 0 kept.clusters → AllByRecursion (IsHalf g) kept.clusters
      → all_clusters (volume_of g) (volume_wanted g kept reserved).inodes ≡ map run_of_cluster kept.clusters
  clusters_are_kept up all =
      clusters_of
      ∙ ap (map run_of_cluster) (same_list (λ n. n) blocks kept.clusters (as_ascend 0 blocks (groups_then 0 g.agcount 0 (omega arith))) (as_ascend 0 kept.clusters up)
      (λ P each. all_members P kept.clusters (λ k is. member_all P k blocks each (kept_asked k (member_all (IsHalf g) k kept.clusters all is) is)))
      (λ P each. all_members P blocks (λ k is. member_all P k kept.clusters each (asked_kept k is))))
