-- What the settled volume holds can be placed beside: blocks of the volume, none of them fixed, none of two runs.
use Rattle.std.proofs.Common.{◌≡◌, ℕ, Bool, true, false, ◌+◌, ◌≤◌, inl, inr, ◌||◌, nat_le, nat_lt, List, [], ◌∷◌, ◌++◌, map, refl, sym, subst, ap, ◌∙◌, arith}
use Rattle.std.specs.List.{All, flat_map, list_any}
use Rattle.std.proofs.lemmas.Bool.{and_parts, false≢true, leb-true, ltb-true, or_left}
use Rattle.std.proofs.lemmas.List.{append-nil}
use Rattle.std.proofs.lemmas.List.Elements.{All-append, All-cons, All-nil}
use Rattle.xfs_disk.specs.declared.stamp.Stamp.{Stamp}
use Rattle.xfs_geom.specs.Runs.{covers, runs_on}
use Rattle.xfs_geom.specs.Volumes.{volume_of}
use Rattle.xfs_geom.specs.declared.geometry.Geometry.{Geometry}
use Rattle.xfs_geom.specs.declared.records.Run.{Run}
use Rattle.xfs_rebuild.proofs.xfs_made.Claims.{cluster_claim}
use Rattle.xfs_names.specs.declared.records.WantedNames.{WantedNames}
use Rattle.xfs_place.specs.Choice.{one_if}
use Rattle.xfs_place.specs.Claims.{IsClaimedRun}
use Rattle.xfs_place.specs.Pool.{is_taken}
use Rattle.xfs_place.specs.Wanted.{CanBeKept, IsOffFixed, kept_runs}
use Rattle.xfs_place.specs.declared.wanted.Object.{Object}
use Rattle.xfs_place.specs.declared.wanted.Wanted.{Wanted}
use Rattle.xfs_place.proofs.Ordered.{on_first}
use Rattle.xfs_salvage.proofs.xfs_views.Members.{Member, member_left}
use Rattle.xfs_render.specs.Readiness.{HasOwner}
use Rattle.xfs_rebuild.specs.xfs_request.Requests.{volume_wanted}
use Rattle.xfs_salvage.specs.Kept.{run_of_cluster, taken_of}
use Rattle.xfs_space.specs.Owners.{file_runs}
use Rattle.xfs_rebuild.specs.Rebuilds.{HasNamesDue, slots_asked}
use Rattle.xfs_rebuild.specs.declared.names_due.NamesDue.{NamesDue}
use Rattle.xfs_rebuild.proofs.Known.{known_stand, known_writable}
use Rattle.xfs_rename.specs.Objects.{wanted_with}
use Rattle.xfs_rename.specs.Settled.{staying_files}
use Rattle.xfs_changes.specs.declared.lost_found.Lost.{Lost}
use Rattle.xfs_rename.proofs.NewClusters.{IsFreeCluster, IsOneOrNone}
use Rattle.xfs_rename.proofs.StayingRuns.{back, both_on, front, staying_count, staying_each}

-- a block of none of the runs is counted in none
none_counted : (rs : List Run) (b : ℕ) → list_any (covers b) rs ≡ false → runs_on rs b ≡ 0
none_counted [] b is = refl
none_counted (r ∷ rs) b is = by_case (covers b r) refl is (on_first r rs b) (none_counted rs b)
  where
    by_case : (t : Bool) → covers b r ≡ t → list_any (covers b) (r ∷ rs) ≡ false → runs_on (r ∷ rs) b ≡ one_if (covers b r) + runs_on rs b
        → (list_any (covers b) rs ≡ false → runs_on rs b ≡ 0) → runs_on (r ∷ rs) b ≡ 0
    by_case true e off sums rest = absurd (false≢true (sym off ∙ or_left (covers b r) (list_any (covers b) rs) e))
    by_case false e off sums rest =
        let zero' : one_if (covers b r) ≡ 0 = ap one_if e in
        let none = rest (subst (λ (u : Bool). (u || list_any (covers b) rs) ≡ false) e off) in
        omega (arith, sums, zero', none)

untaken : (rs : List Run) (b : ℕ) → is_taken rs b ≡ false → runs_on rs b ≡ 0
unfolding is_taken
untaken rs b is = none_counted rs b is

module _ (g : Geometry) (s : Stamp) (n : NamesDue) (has : HasNamesDue g s n) where
  abbrev taken_before : List Run
  taken_before = taken_of (volume_of g) has.on.kept.clusters has.on.kept.files

  taken_is : n.wanted.taken ≡ taken_before
  unfolding volume_wanted
  taken_is = ap (λ (w : Wanted). w.taken) has.due.wanted'

  kept_is : kept_runs n.wanted ≡ taken_before
  unfolding volume_wanted
  kept_is = ap kept_runs has.due.wanted' ∙ append-nil taken_before

  stood : CanBeKept (volume_of g) taken_before
  stood = subst (CanBeKept (volume_of g)) kept_is (known_stand g s n has)

  owned_before : All HasOwner taken_before
  owned_before = subst (All HasOwner) kept_is (known_writable g s n has).owned

  -- the run of a cluster was taken
  pub runs_of_taken : (r : Run) → Member r (map run_of_cluster n.clusters) → Member r n.wanted.taken
  runs_of_taken r is =
      subst (Member r) (sym taken_is)
      (member_left r (map run_of_cluster has.on.kept.clusters) (flat_map (file_runs (volume_of g)) has.on.kept.files)
      (subst (λ (ks : List ℕ). Member r (map run_of_cluster ks)) has.due.clusters' is))

  module _ (rebuilt : List ℕ) where
    abbrev taken_now : List Run
    taken_now = taken_of (volume_of g) n.clusters (staying_files rebuilt n.fresh n.files)

    abbrev runs_now : List Run
    runs_now = flat_map (file_runs (volume_of g)) (staying_files rebuilt n.fresh n.files)

    abbrev runs_before : List Run
    runs_before = flat_map (file_runs (volume_of g)) has.on.kept.files

    clusters_same : map run_of_cluster n.clusters ≡ map run_of_cluster has.on.kept.clusters
    clusters_same = ap (map run_of_cluster) has.due.clusters'

    pub taken_each : (P : Run → Type 0) → All P taken_before → All P taken_now
    taken_each P all =
        All-append P (map run_of_cluster n.clusters) runs_now
        (subst (All P) (sym clusters_same) (front P (map run_of_cluster has.on.kept.clusters) runs_before all))
        (subst (λ fs. All P (flat_map (file_runs (volume_of g)) (staying_files rebuilt n.fresh fs))) (sym has.due.files')
        (staying_each (volume_of g) rebuilt n.fresh g.rootino has.on.kept (slots_asked g s has.on) P (back P (map run_of_cluster has.on.kept.clusters) runs_before all)))

    taken_count : (b : ℕ) → runs_on taken_now b ≤ runs_on taken_before b
    taken_count b =
        let here = both_on b (map run_of_cluster n.clusters) runs_now in
        let there = both_on b (map run_of_cluster has.on.kept.clusters) runs_before in
        let same : runs_on (map run_of_cluster n.clusters) b ≡ runs_on (map run_of_cluster has.on.kept.clusters) b = ap (λ (rs : List Run). runs_on rs b) clusters_same in
        let less : runs_on runs_now b ≤ runs_on runs_before b =
        subst (λ fs. runs_on (flat_map (file_runs (volume_of g)) (staying_files rebuilt n.fresh fs)) b ≤ runs_on runs_before b) (sym has.due.files')
        (staying_count (volume_of g) rebuilt n.fresh g.rootino has.on.kept (slots_asked g s has.on) b) in
        omega (arith, here, there, same, less)

    -- with new clusters
    module _ (new : List ℕ) (adds : IsOneOrNone g n new) where
      new_each : (P : Run → Type 0) → ((c : ℕ) → IsFreeCluster g n c → P (run_of_cluster c)) → All P (map run_of_cluster new)
      new_each P each = elim adds [
        | inl none ↦ subst (λ cs. All P (map run_of_cluster cs)) (sym none) (All-nil P)
        | inr one ↦ subst (λ cs. All P (map run_of_cluster cs)) (sym one.1) (All-cons P (run_of_cluster one.0) [] (each one.0 one.2) (All-nil P))
      ]

      at_most_one : (b : ℕ) → runs_on (taken_now ++ map run_of_cluster new) b ≤ 1
      at_most_one b =
          let less = taken_count b in
          let once = stood.apart.once b in
          elim adds [
            | inl none ↦
                let same : runs_on (taken_now ++ map run_of_cluster new) b ≡ runs_on taken_now b =
                ap (λ cs. runs_on (taken_now ++ map run_of_cluster cs) b) none ∙ ap (λ (rs : List Run). runs_on rs b) (append-nil taken_now) in
                omega (arith, less, once, same)
            | inr one ↦
                let same : runs_on (taken_now ++ map run_of_cluster new) b ≡ runs_on (taken_now ++ run_of_cluster one.0 ∷ []) b =
                ap (λ cs. runs_on (taken_now ++ map run_of_cluster cs) b) one.1 in
                let sums = both_on b taken_now (run_of_cluster one.0 ∷ []) in
                let first = on_first (run_of_cluster one.0) [] b in
                let nil : runs_on [] b ≡ 0 = refl in
                by_case one.0 one.2 (covers b (run_of_cluster one.0)) refl same sums first nil less once
          ]
        where
          by_case : (c : ℕ) → IsFreeCluster g n c → (t : Bool) → covers b (run_of_cluster c) ≡ t
              → runs_on (taken_now ++ map run_of_cluster new) b ≡ runs_on (taken_now ++ run_of_cluster c ∷ []) b
              → runs_on (taken_now ++ run_of_cluster c ∷ []) b ≡ runs_on taken_now b + runs_on (run_of_cluster c ∷ []) b
              → runs_on (run_of_cluster c ∷ []) b ≡ one_if (covers b (run_of_cluster c)) + runs_on [] b
              → runs_on [] b ≡ 0 → runs_on taken_now b ≤ runs_on taken_before b → runs_on taken_before b ≤ 1
              → runs_on (taken_now ++ map run_of_cluster new) b ≤ 1
          by_case c is true e same sums first nil less once =
              let parts = and_parts (nat_le c b) (nat_lt b (c + 4)) e in
              let none : runs_on taken_before b ≡ 0 =
              untaken taken_before b (subst (λ (rs : List Run). is_taken rs b ≡ false) taken_is (is.free b (leb-true c b parts.0) (ltb-true b (c + 4) parts.1))) in
              let one : one_if (covers b (run_of_cluster c)) ≡ 1 = ap one_if e in
              omega (arith, same, sums, first, nil, less, none, one)
          by_case c is false e same sums first nil less once =
              let none : one_if (covers b (run_of_cluster c)) ≡ 0 = ap one_if e in
              omega (arith, same, sums, first, nil, less, once, none)

      cluster_clear : (c : ℕ) → IsFreeCluster g n c → IsOffFixed (volume_of g) (run_of_cluster c)
      cluster_clear c is b on =
          let parts = and_parts (nat_le c b) (nat_lt b (c + 4)) on in
          is.clear b (leb-true c b parts.0) (ltb-true b (c + 4) parts.1)

      pub runs_stand : CanBeKept (volume_of g) (taken_now ++ map run_of_cluster new)
      runs_stand = record {
        each = All-append (IsClaimedRun g.dblocks) taken_now (map run_of_cluster new) (taken_each (IsClaimedRun g.dblocks) stood.each)
            (new_each (IsClaimedRun g.dblocks) (λ c is. cluster_claim g.dblocks c is.inside));
        clear = All-append (IsOffFixed (volume_of g)) taken_now (map run_of_cluster new) (taken_each (IsOffFixed (volume_of g)) stood.clear)
            (new_each (IsOffFixed (volume_of g)) cluster_clear);
        apart = record { once = at_most_one };
      }

      pub runs_owned : All HasOwner (taken_now ++ map run_of_cluster new)
      runs_owned =
          All-append HasOwner taken_now (map run_of_cluster new) (taken_each HasOwner owned_before)
          (new_each HasOwner (λ c is. record { owner = omega arith; offset = omega arith }))

pub wanted_stands : (g : Geometry) (s : Stamp) (n : NamesDue) (l : Lost) (w : WantedNames) (objects : List Object) → HasNamesDue g s n → IsOneOrNone g n l.added
    → CanBeKept (volume_of g) (kept_runs (wanted_with g n l w objects))
unfolding wanted_with
wanted_stands g s n l w objects has adds = runs_stand g s n has w.rebuilt l.added adds
