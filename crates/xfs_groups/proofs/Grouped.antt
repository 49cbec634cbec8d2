-- One group more of a volume, and all of them.
use Rattle.std.proofs.Common.{◌≡◌, ℕ, Bool, ◌+◌, ◌*◌, ◌/◌, ◌≤◌, ◌<◌, inl, inr, List, [], ◌∷◌, ◌++◌, append-nil, map, Result, Ok, Err, refl, sym, ap, ap₂, ◌∙◌, subst, arith, IsTrue}
use Rattle.std.specs.List.{filter, flat_map, range_with_len}
use Rattle.std.proofs.lemmas.List.{map-append}
use Rattle.std.proofs.lemmas.List.Concat.{flat_map-append}
use Rattle.std.proofs.lemmas.List.Elements.{All-append, filter-append}
use Rattle.xfs_disk.specs.Blocks.{Image}
use Rattle.std.proofs.lemmas.Bool.{cases_lt}
use Rattle.xfs_geom.specs.Conversions.{group_length}
use Rattle.xfs_geom.specs.Volumes.{Volume, volume_of}
use Rattle.xfs_geom.specs.declared.geometry.Geometry.{Geometry}
use Rattle.xfs_volume.specs.declared.clusters.ClusterRec.{ClusterRec}
use Rattle.xfs_volume.specs.declared.groups.GroupRec.{GroupRec}
use Rattle.xfs_image.specs.Candidates.{ClustersAscend, candidates, cluster_rec, is_candidate}
use Rattle.xfs_image.specs.Clusters.{places_in}
use Rattle.xfs_image.specs.Groups.{group_read, groups_from, head_block, read_then}
use Rattle.xfs_image.specs.declared.findings.Finding.{Finding}
use Rattle.xfs_groups.specs.Answers.{EndBelow, has_root_cluster}
use Rattle.xfs_groups.specs.Private.Chosen.{ClustersPlaced, candidates_in, cluster_place}
use Rattle.xfs_groups.specs.Private.Parts.{then_read}
use Rattle.xfs_groups.proofs.Lengths.{root_place, short, within}
use Rattle.xfs_groups.proofs.Placed.{ascend_then, root_comes, root_stays}
use Rattle.xfs_groups.proofs.Rows.{range_more}

one_read : (r : Result GroupRec Finding) → read_then r (Ok []) ≡ then_read (Ok []) r
one_read (Ok group) = refl
one_read (Err found) = refl

first_read : (r : Result GroupRec Finding) (rest : Result (List GroupRec) Finding) (last : Result GroupRec Finding)
    → read_then r (then_read rest last) ≡ then_read (read_then r rest) last
first_read (Err found) rest last = refl
first_read (Ok group) (Err found) last = refl
first_read (Ok group) (Ok groups) (Err found) = refl
first_read (Ok group) (Ok groups) (Ok last) = refl

groups_then : (v : Volume) (image : Image) (xs : List ℕ) (x : ℕ) → groups_from v image (xs ++ x ∷ []) ≡ then_read (groups_from v image xs) (group_read v image x)
groups_then v image [] x = one_read (group_read v image x)
groups_then v image (y ∷ xs) x =
    ap (read_then (group_read v image y)) (groups_then v image xs x) ∙ first_read (group_read v image y) (groups_from v image xs) (group_read v image x)

pub groups_more : (v : Volume) (image : Image) (n : ℕ) (groups new : Result (List GroupRec) Finding) (group : Result GroupRec Finding)
    → groups ≡ groups_from v image (range_with_len 0 n) → group ≡ group_read v image n → new ≡ then_read groups group
    → new ≡ groups_from v image (range_with_len 0 (n + 1))
groups_more v image n groups new group held is more =
    more ∙ (ap₂ then_read held is ∙ (sym (groups_then v image (range_with_len 0 n) n)
    ∙ ap (groups_from v image) (ap (λ (k : ℕ). range_with_len 0 n ++ k ∷ []) (omega arith) ∙ sym (range_more 0 n))))

pub lists_more : {X : Type 0} (f : ℕ → List X) (n : ℕ) (old one new : List X) → old ≡ flat_map f (range_with_len 0 n) → one ≡ f n → new ≡ old ++ one
    → new ≡ flat_map f (range_with_len 0 (n + 1))
lists_more f n old one new held is more =
    more ∙ (ap₂ (λ xs ys. xs ++ ys) held is
    ∙ sym (ap (flat_map f) (range_more 0 n) ∙ (flat_map-append f (range_with_len 0 n) ((0 + n) ∷ [])
    ∙ ap (λ xs. flat_map f (range_with_len 0 n) ++ xs) (append-nil (f (0 + n)) ∙ ap f (omega arith)))))

pub values_more : {X : Type 0} (f : ℕ → X) (n : ℕ) (old new : List X) (one : X) → old ≡ map f (range_with_len 0 n) → one ≡ f n → new ≡ old ++ one ∷ []
    → new ≡ map f (range_with_len 0 (n + 1))
values_more {X = X} f n old new one held is more =
    more ∙ (ap₂ (λ (xs : List X) (x : X). xs ++ x ∷ []) held is
    ∙ sym (ap (map f) (range_more 0 n) ∙ (map-append f (range_with_len 0 n) ((0 + n) ∷ [])
    ∙ ap (λ (k : ℕ). map f (range_with_len 0 n) ++ f k ∷ []) (omega arith))))

-- what is kept of all places is what is kept of each group
kept_flat : (h : ℕ → ClusterRec) (p : ℕ → Bool) (f : ℕ → List ℕ) (xs : List ℕ) → flat_map (λ x. map h (filter p (f x))) xs ≡ map h (filter p (flat_map f xs))
kept_flat h p f [] = refl
kept_flat h p f (x ∷ xs) =
    ap (λ (ys : List ClusterRec). map h (filter p (f x)) ++ ys) (kept_flat h p f xs)
    ∙ sym (ap (map h) (filter-append p (f x) (flat_map f xs)) ∙ map-append h (filter p (f x)) (filter p (flat_map f xs)))

pub candidates_all : (v : Volume) (image : Image) → flat_map (candidates_in v image) (range_with_len 0 v.agcount) ≡ candidates v image
unfolding candidates candidates_in
candidates_all v image =
    kept_flat (cluster_rec v image) (is_candidate v image) (λ ag. map (λ place. head_block v ag + place) (places_in v ag)) (range_with_len 0 v.agcount)

pub all_candidates : (v : Volume) (image : Image) (n : ℕ) (cs : List ClusterRec) → n ≡ v.agcount → cs ≡ flat_map (candidates_in v image) (range_with_len 0 n) → cs ≡ candidates v image
all_candidates v image n cs last is =
    is ∙ (ap (λ (m : ℕ). flat_map (candidates_in v image) (range_with_len 0 m)) last ∙ candidates_all v image)

-- the clusters of the first groups: they ascend, each lies in the volume, and that of the root is among them where its group is
pub record GroupsPlaced (g : Geometry) (n : ℕ) (clusters : List ClusterRec) : Type 0 where
  pub ascend : ClustersAscend 0 clusters
  pub low : EndBelow (n * g.agblocks) clusters
  pub inside : EndBelow g.dblocks clusters
  pub root : (root_place g).group < n → IsTrue (has_root_cluster (volume_of g) clusters)

pub none_placed : (g : Geometry) → GroupsPlaced g 0 []
none_placed g = record {
  ascend = tt;
  low = λ k d inside. absurd (omega (arith, inside));
  inside = λ k d inside. absurd (omega (arith, inside));
  root = λ before. absurd (omega (arith, before));
}

end_later : (low high : ℕ) (cs : List ClusterRec) → low ≤ high → EndBelow low cs → EndBelow high cs
end_later low high cs le end = λ k d inside. let here = end k d inside in omega (arith, le, here)

pub placed_on : (g : Geometry) (n : ℕ) (cs ys : List ClusterRec) → n < g.agcount → GroupsPlaced g n cs
    → ClustersPlaced (volume_of g) n (group_length (volume_of g) n / 4) ys → GroupsPlaced g (n + 1) (cs ++ ys)
placed_on g n cs ys there first after =
    let v = volume_of g in
    let start = n * g.agblocks in
    let next : (n + 1) * g.agblocks ≡ start + g.agblocks = grind arith in
    let small : group_length v n ≤ g.agblocks = short g n there in
    let end : start + group_length v n ≤ g.dblocks = within g n there in
    let last : cluster_place v n (group_length v n / 4) ≤ start + group_length v n = omega arith in
    record {
      ascend = ascend_then 0 start cs ys (omega arith) first.ascend first.low after.ascend;
      low = All-append (λ (c : ClusterRec). c.block + 4 ≤ (n + 1) * g.agblocks) cs ys
          (end_later start ((n + 1) * g.agblocks) cs (omega (arith, next)) first.low)
          (end_later (cluster_place v n (group_length v n / 4)) ((n + 1) * g.agblocks) ys (omega (arith, next, small, last)) after.low);
      inside = All-append (λ (c : ClusterRec). c.block + 4 ≤ g.dblocks) cs ys first.inside
          (end_later (cluster_place v n (group_length v n / 4)) g.dblocks ys (omega (arith, end, last)) after.low);
      root = λ before.
          elim (cases_lt (root_place g).group n) [
            | inl lt ↦ root_stays v cs ys (first.root lt)
            | inr ge ↦ let same : (root_place g).group ≡ n = omega (arith, before, ge) in
                root_comes v cs ys (after.root (root_place g).place
                (subst (λ (m : ℕ). (root_place g).place < group_length v m / 4) same (root_place g).inside)
                (ap (λ (m : ℕ). cluster_place v m (root_place g).place) (sym same) ∙ (root_place g).at))
          ];
    }
