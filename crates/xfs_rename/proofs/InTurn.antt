-- What the settled volume has stands in its order.
use Rattle.std.proofs.Common.{◌≡◌, ℕ, Bool, true, false, ◌+◌, ◌≤◌, ◌<◌, ◌⊎◌, inl, inr, nat_le, nat_lt, if◌then◌else◌, List, [], ◌∷◌, map, refl, sym, subst, ap, ◌∙◌, arith}
use Rattle.std.specs.List.{All, filter}
use Rattle.std.specs.List.Sorted.{IsNonDecreasingBy}
use Rattle.std.proofs.lemmas.Bool.{and_from, false≢true, le-leb, lt-ltb, ltb-true}
use Rattle.std.proofs.lemmas.Bool.Decides.{nat_tests}
use Rattle.std.proofs.lemmas.List.Elements.{All-cons, All-head, All-tail}
use Rattle.xfs_disk.specs.declared.stamp.Stamp.{Stamp}
use Rattle.xfs_geom.specs.Runs.{covers}
use Rattle.xfs_geom.specs.Volumes.{volume_of}
use Rattle.xfs_geom.specs.declared.geometry.Geometry.{Geometry}
use Rattle.xfs_naming.specs.Naming.{NumbersAscend, numbers_of}
use Rattle.xfs_naming.proofs.Order.{Rises, rises_by}
use Rattle.xfs_names.specs.declared.building.BuiltDirectory.{BuiltDirectory}
use Rattle.xfs_names.specs.declared.building.ForkRoom.{ForkRoom}
use Rattle.xfs_place.specs.Pool.{is_taken}
use Rattle.xfs_salvage.proofs.xfs_views.Members.{Member, member_any, member_map}
use Rattle.xfs_salvage.specs.Kept.{run_of_cluster}
use Rattle.xfs_salvage.proofs.Ascending.{filtered}
use Rattle.xfs_space.specs.Parts.{HasLawfulForks}
use Rattle.xfs_volume.specs.declared.files.FileRec.{FileRec}
use Rattle.xfs_rebuild.specs.Rebuilds.{HasNamesDue}
use Rattle.xfs_rebuild.specs.declared.names_due.NamesDue.{NamesDue}
use Rattle.xfs_rebuild.proofs.Grounds.{in_order}
use Rattle.xfs_rebuild.proofs.Known.{known_clusters_ascend, known_clusters_lie, known_files_ascend, known_forks}
use Rattle.xfs_changes.specs.Rooms.{fork_rooms, has_attributes_behind, room_before_attributes}
use Rattle.xfs_rename.specs.Settled.{staying_files, with_number_in_order, with_numbers}
use Rattle.xfs_rename.proofs.NewClusters.{IsFreeCluster, IsOneOrNone}
use Rattle.xfs_rename.proofs.HeldRuns.{runs_of_taken}
use Rattle.xfs_rename.proofs.StayingRuns.{staying_ascend, staying_lawful}

ascend_rise : (low least : ℕ) (xs : List ℕ) → least ≤ low → NumbersAscend low xs → Rises least xs
ascend_rise low least [] le up = tt
ascend_rise low least (x ∷ xs) le up = (let first = up.0 in omega (arith, le, first), ascend_rise (x + 1) x xs (omega arith) up.1)

pub built_in_order : (built : List BuiltDirectory) (rebuilt : List ℕ) → map (λ (b : BuiltDirectory). b.ino) built ≡ rebuilt → NumbersAscend 0 rebuilt
    → IsNonDecreasingBy (λ (b : BuiltDirectory). b.ino) built
built_in_order built rebuilt same up =
    rises_by (λ (b : BuiltDirectory). b.ino) 0 built
    (ascend_rise 0 0 (map (λ (b : BuiltDirectory). b.ino) built) (omega arith) (subst (NumbersAscend 0) (sym same) up))

rooms_numbers : (files : List FileRec) → map (λ (r : ForkRoom). r.ino) (map room_before_attributes files) ≡ numbers_of files
rooms_numbers [] = refl
rooms_numbers (f ∷ files) = ap (λ (ns : List ℕ). f.ino ∷ ns) (rooms_numbers files)

pub rooms_in_order : (rebuilt : List ℕ) (files : List FileRec) → NumbersAscend 0 (numbers_of files) → IsNonDecreasingBy (λ (r : ForkRoom). r.ino) (fork_rooms rebuilt files)
rooms_in_order rebuilt files up =
    rises_by (λ (r : ForkRoom). r.ino) 0 (fork_rooms rebuilt files)
    (ascend_rise 0 0 (map (λ (r : ForkRoom). r.ino) (fork_rooms rebuilt files)) (omega arith)
    (subst (NumbersAscend 0) (sym (rooms_numbers (filter (has_attributes_behind rebuilt) files))) (filtered (has_attributes_behind rebuilt) 0 files up)))

side : (a b : ℕ) → (a < b) ⊎ ((a ≡ b) ⊎ (b + 1 ≤ a))
side a b = grind (arith, nat_tests)

-- a number that is not there yet, at its place
one_ascends : (low x : ℕ) (ys : List ℕ) → low ≤ x → NumbersAscend low ys → (Member x ys → ⊥) → NumbersAscend low (with_number_in_order x ys)
one_ascends low x [] le up other = (le, tt)
one_ascends low x (y ∷ ys) le up other = by_case (nat_lt y x) refl (λ above. one_ascends (y + 1) x ys above up.1 (λ there. other (inr there)))
  where
    by_case : (t : Bool) → nat_lt y x ≡ t → (y + 1 ≤ x → NumbersAscend (y + 1) (with_number_in_order x ys)) → NumbersAscend low (if t then y ∷ with_number_in_order x ys else x ∷ y ∷ ys)
    by_case true e rest = let less = ltb-true y x e in (up.0, rest (omega (arith, less)))
    by_case false e rest = (le, (above e, up.1))
      where
        above : nat_lt y x ≡ false → x + 1 ≤ y
        above e = elim (side y x) [
          | inl less ↦ absurd (false≢true (sym e ∙ lt-ltb y x less))
          | inr rest ↦ elim rest [ inl same ↦ absurd (other (inl same)) | inr more ↦ more ]
        ]

one_lies : (top x : ℕ) (ys : List ℕ) → x + 4 ≤ top → All (λ (c : ℕ). c + 4 ≤ top) ys → All (λ (c : ℕ). c + 4 ≤ top) (with_number_in_order x ys)
one_lies top x [] in' all = All-cons (λ (c : ℕ). c + 4 ≤ top) x [] in' all
one_lies top x (y ∷ ys) in' all = by_case (nat_lt y x) (one_lies top x ys in' (All-tail (λ (c : ℕ). c + 4 ≤ top) y ys all))
  where
    by_case : (t : Bool) → All (λ (c : ℕ). c + 4 ≤ top) (with_number_in_order x ys) → All (λ (c : ℕ). c + 4 ≤ top) (if t then y ∷ with_number_in_order x ys else x ∷ y ∷ ys)
    by_case true rest = All-cons (λ (c : ℕ). c + 4 ≤ top) y (with_number_in_order x ys) (All-head (λ (c : ℕ). c + 4 ≤ top) y ys all) rest
    by_case false rest = All-cons (λ (c : ℕ). c + 4 ≤ top) x (y ∷ ys) in' all

module _ (g : Geometry) (s : Stamp) (n : NamesDue) (has : HasNamesDue g s n) where
  pub staying_in_order : (rebuilt : List ℕ) → IsNonDecreasingBy (λ (f : FileRec). f.ino) (staying_files rebuilt n.fresh n.files)
  staying_in_order rebuilt = in_order (staying_files rebuilt n.fresh n.files) (staying_ascend (volume_of g) rebuilt n.fresh n.files (known_files_ascend g s n has))

  pub staying_forks : (rebuilt : List ℕ) → All (HasLawfulForks (volume_of g)) (staying_files rebuilt n.fresh n.files)
  staying_forks rebuilt = staying_lawful (volume_of g) rebuilt n.fresh n.files (known_forks g s n has)

  -- a new cluster is none of those before
  is_other : (c : ℕ) → IsFreeCluster g n c → Member c n.clusters → ⊥
  unfolding is_taken
  is_other c is there =
      let run = member_map run_of_cluster c n.clusters there in
      let taken : is_taken n.wanted.taken c ≡ true =
      member_any (covers c) (run_of_cluster c) n.wanted.taken (runs_of_taken g s n has (run_of_cluster c) run)
      (and_from (nat_le c c) (nat_lt c (c + 4)) (le-leb c c (omega arith)) (lt-ltb c (c + 4) (omega arith))) in
      false≢true (sym (is.free c (omega arith) (omega arith)) ∙ taken)

  pub clusters_in_order : (new : List ℕ) → IsOneOrNone g n new → NumbersAscend 0 (with_numbers new n.clusters)
  clusters_in_order new adds = elim adds [
    | inl none ↦ subst (λ (cs : List ℕ). NumbersAscend 0 (with_numbers cs n.clusters)) (sym none) (known_clusters_ascend g s n has)
    | inr one ↦ subst (λ (cs : List ℕ). NumbersAscend 0 (with_numbers cs n.clusters)) (sym one.1)
        (one_ascends 0 one.0 n.clusters (omega arith) (known_clusters_ascend g s n has) (is_other one.0 one.2))
  ]

  pub clusters_lie : (new : List ℕ) → IsOneOrNone g n new → All (λ (c : ℕ). c + 4 ≤ g.dblocks) (with_numbers new n.clusters)
  clusters_lie new adds = elim adds [
    | inl none ↦ subst (λ (cs : List ℕ). All (λ (c : ℕ). c + 4 ≤ g.dblocks) (with_numbers cs n.clusters)) (sym none) (known_clusters_lie g s n has)
    | inr one ↦ subst (λ (cs : List ℕ). All (λ (c : ℕ). c + 4 ≤ g.dblocks) (with_numbers cs n.clusters)) (sym one.1)
        (one_lies g.dblocks one.0 n.clusters one.2.inside (known_clusters_lie g s n has))
  ]
