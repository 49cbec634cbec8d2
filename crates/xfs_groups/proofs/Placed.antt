-- One place more of a group.
use Rattle.std.proofs.Common.{◌≡◌, ℕ, suc, Bool, true, false, ◌+◌, ◌≤◌, inl, inr, ◌&&◌, ◌==◌, if◌then◌else◌, List, [], ◌∷◌, ◌++◌, append-nil, refl, sym, ap, ◌∙◌, subst, arith, IsTrue}
use Rattle.std.proofs.lemmas.Bool.{cases_lt, eq-eqb, or_left, or_right}
use Rattle.std.proofs.lemmas.List.Elements.{All-push}
use Rattle.std.proofs.lemmas.List.Folds.{list_any-append}
use Rattle.xfs_geom.specs.Volumes.{Volume}
use Rattle.xfs_volume.specs.declared.clusters.ClusterRec.{ClusterRec}
use Rattle.xfs_image.specs.Candidates.{ClustersAscend}
use Rattle.xfs_image.specs.Clusters.{root_cluster}
use Rattle.xfs_image.specs.Groups.{head_block}
use Rattle.xfs_groups.specs.Answers.{EndBelow, has_root_cluster}
use Rattle.xfs_groups.specs.Private.Chosen.{ClustersPlaced, chosen_rec, is_chosen_as, cluster_place}

-- clusters that end before others begin ascend with them
pub ascend_then : (low m : ℕ) (cs ys : List ClusterRec) → low ≤ m → ClustersAscend low cs → EndBelow m cs → ClustersAscend m ys → ClustersAscend low (cs ++ ys)
ascend_then low m [] [] le up end after = tt
ascend_then low m [] (y ∷ ys) le up end after = (let first = after.0 in omega (arith, le, first), after.1)
ascend_then low m (c ∷ cs) ys le up end after =
    let here : c.block + 4 ≤ m = end 0 c (omega arith) in
    (up.0, ascend_then (c.block + 4) m cs ys here up.1 (λ k d inside. end (suc k) d (omega (arith, inside))) after)

pub root_stays : (v : Volume) (cs ys : List ClusterRec) → IsTrue (has_root_cluster v cs) → IsTrue (has_root_cluster v (cs ++ ys))
root_stays v cs ys there =
    list_any-append (λ (c : ClusterRec). c.recorded && c.block == root_cluster v) cs ys
    ∙ or_left (has_root_cluster v cs) (has_root_cluster v ys) there

pub root_comes : (v : Volume) (cs ys : List ClusterRec) → IsTrue (has_root_cluster v ys) → IsTrue (has_root_cluster v (cs ++ ys))
root_comes v cs ys there =
    list_any-append (λ (c : ClusterRec). c.recorded && c.block == root_cluster v) cs ys
    ∙ or_right (has_root_cluster v cs) (has_root_cluster v ys) there

is_root : (v : Volume) (named : List ℕ) (cluster : ℕ) → cluster ≡ root_cluster v → IsTrue (has_root_cluster v (chosen_rec v named cluster ∷ []))
is_root v named cluster same =
    let e : (cluster == root_cluster v) ≡ true = eq-eqb cluster (root_cluster v) same in
    rw e refl

-- the cluster of the root is chosen, whatever its blocks are
pub root_chosen : (v : Volume) (named : List ℕ) (cluster : ℕ) (scanned clear : Bool) → cluster ≡ root_cluster v → is_chosen_as v named cluster scanned clear ≡ true
root_chosen v named cluster scanned clear same =
    let e : (cluster == root_cluster v) ≡ true = eq-eqb cluster (root_cluster v) same in
    rw e refl

pub none_placed : (v : Volume) (ag : ℕ) → ClustersPlaced v ag 0 []
none_placed v ag = record { ascend = tt; low = λ k d inside. absurd (omega (arith, inside)); root = λ i inside same. absurd (omega (arith, inside)) }

pub placed_more : (v : Volume) (ag n : ℕ) (named : List ℕ) (cs : List ClusterRec) (b : Bool) → ClustersPlaced v ag n cs
    → (cluster_place v ag n ≡ root_cluster v → b ≡ true)
    → ClustersPlaced v ag (n + 1) (cs ++ (if b then (chosen_rec v named (cluster_place v ag n) ∷ []) else []))
placed_more v ag n named cs true placed is = record {
  ascend = ascend_then (head_block v ag) (cluster_place v ag n) cs (chosen_rec v named (cluster_place v ag n) ∷ []) (omega arith) placed.ascend placed.low (omega arith, tt);
  low = All-push (λ (c : ClusterRec). c.block + 4 ≤ cluster_place v ag (n + 1)) cs (chosen_rec v named (cluster_place v ag n))
      (λ k d inside. let below = placed.low k d inside in omega (arith, below)) (omega arith);
  root = λ i inside same.
      elim (cases_lt i n) [
        | inl lt ↦ root_stays v cs (chosen_rec v named (cluster_place v ag n) ∷ []) (placed.root i lt same)
        | inr ge ↦ let last : n ≡ i = omega (arith, inside, ge) in
            root_comes v cs (chosen_rec v named (cluster_place v ag n) ∷ []) (is_root v named (cluster_place v ag n) (ap (cluster_place v ag) last ∙ same))
      ];
}
placed_more v ag n named cs false placed is =
    subst (ClustersPlaced v ag (n + 1)) (sym (append-nil cs))
    (record {
      ascend = placed.ascend;
      low = λ k d inside. let below = placed.low k d inside in omega (arith, below);
      root = λ i inside same.
          elim (cases_lt i n) [
            | inl lt ↦ placed.root i lt same
            | inr ge ↦ let last : n ≡ i = omega (arith, inside, ge) in absurd (never (is (ap (cluster_place v ag) last ∙ same)))
          ];
    })
  where
    never : false ≡ true → ⊥
    never e = cc
