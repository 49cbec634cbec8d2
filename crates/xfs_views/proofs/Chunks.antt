-- The clusters of lawful chunks, as image and owners name them.
use Rattle.std.proofs.Common.{◌≡◌, ℕ, zero, suc, Bool, true, false, ◌+◌, ◌*◌, ◌/◌, ◌^◌, ◌≤◌, ◌<◌, inl, inr, ◌&&◌, ◌||◌, ◌==◌, nat_lt, if◌then◌else◌, List, [], ◌∷◌, ◌++◌, map, length, refl, sym, ◌∙◌, ap, ap₂, subst, arith, Option, Some, None}
use Rattle.std.specs.List.{flat_map}
use Rattle.std.proofs.lemmas.Bool.{and_parts, eqb-true, or_cases}
use Rattle.std.proofs.lemmas.Bool.Decides.{nat_tests}
use Rattle.std.proofs.lemmas.List.{map-append}
use Rattle.xfs_kinds.specs.Owners.{headers_owner}
use Rattle.xfs_geom.specs.Runs.{covers, runs_on}
use Rattle.xfs_geom.specs.Volumes.{Volume}
use Rattle.xfs_geom.specs.declared.records.InoRec.{InoRec}
use Rattle.xfs_geom.specs.declared.records.Run.{Run}
use Rattle.xfs_tree.specs.Rules.{are_lawful}
use Rattle.xfs_kinds.specs.Groups.{lies_in_group}
use Rattle.xfs_kinds.specs.InodeTrees.{ascends_inode, fits_chunk, has_count, ino_shape, is_chunk, is_chunk_clear, is_first_inode, is_holemask, is_missing}
use Rattle.xfs_volume.specs.declared.groups.GroupRec.{GroupRec}
use Rattle.xfs_laws.specs.xfs_space.Owners.{cluster_run, cluster_runs, clusters_of_chunk, group_runs, groups_runs, listed_runs, new_run, tree_owners, tree_runs}
use Rattle.xfs_laws.specs.xfs_space.Parts.{AreGroups}
use Rattle.xfs_image.specs.Claims.{is_of_cluster}
use Rattle.xfs_image.specs.Clusters.{chunk_clusters, clusters_in}
use Rattle.xfs_image.specs.Files.{clusters_from}
use Rattle.xfs_views.proofs.Counted.{left_on, on_both, member_on, more_on, on_head, right_on, two_on}
use Rattle.xfs_views.proofs.Members.{Member, map_member, member_either, member_map}

-- a chunk of a mask that the trees have lacks a half just where the mask says so
pub record HasHalves (mask : ℕ) : Type 0 where
  pub first : is_missing mask 0 ≡ (mask == 0x00ff)
  pub second : is_missing mask 32 ≡ (mask == 0xff00)

pub halves : (mask : ℕ) → is_holemask mask ≡ true → HasHalves mask
halves mask is =
    elim (or_cases (mask == 0 || mask == 0x00ff) (mask == 0xff00) is) [
      | inl low ↦ elim (or_cases (mask == 0) (mask == 0x00ff) low) [
        | inl none ↦ subst HasHalves (sym (eqb-true mask 0 none)) (record { first = refl; second = refl })
        | inr first ↦ subst HasHalves (sym (eqb-true mask 0x00ff first)) (record { first = refl; second = refl })
      ]
      | inr second ↦ subst HasHalves (sym (eqb-true mask 0xff00 second)) (record { first = refl; second = refl })
    ]

moved : (a b : Bool) (base p : ℕ) → (if a then [] else ((base + p) ∷ [])) ++ (if b then [] else ((base + p + 4) ∷ []))
    ≡ map (λ k. base + k) ((if a then [] else (p ∷ [])) ++ (if b then [] else ((p + 4) ∷ [])))
moved true true base p = refl
moved true false base p = let e : base + p + 4 ≡ base + (p + 4) = omega arith in ap (λ (n : ℕ). n ∷ []) e
moved false true base p = refl
moved false false base p = let e : base + p + 4 ≡ base + (p + 4) = omega arith in ap (λ (n : ℕ). (base + p) ∷ n ∷ []) e

clusters_moved : (base : ℕ) (r : InoRec) → is_holemask r.holemask ≡ true → clusters_in base r ≡ map (λ k. base + k) (clusters_of_chunk r)
clusters_moved base r is =
    let half = halves r.holemask is in
    ap₂ (λ (a b : Bool). (if a then [] else ((base + r.startino / 8) ∷ [])) ++ (if b then [] else ((base + r.startino / 8 + 4) ∷ []))) half.first half.second
    ∙ moved (r.holemask == 0x00ff) (r.holemask == 0xff00) base (r.startino / 8)

-- what a lawful chunk keeps
pub record IsLawfulChunk (v : Volume) (ag : ℕ) (r : InoRec) : Type 0 where
  pub mask : is_holemask r.holemask ≡ true
  pub first : is_first_inode r.startino ≡ true
  pub lies : lies_in_group v ag (r.startino / 8) 8 ≡ true

pub lawful_chunk : (v : Volume) (ag : ℕ) (before : Option InoRec) (r : InoRec) → (is_chunk v ag r && ascends_inode before r) ≡ true → IsLawfulChunk v ag r
lawful_chunk v ag before r lawful =
    let fits = fits_chunk r in
    let count = has_count r.holemask r.count in
    let first = is_first_inode r.startino in
    let lies = lies_in_group v ag (r.startino / 8) 8 in
    let a = and_parts (is_chunk v ag r) (ascends_inode before r) lawful in
    let b = and_parts (fits && count && first && lies) (is_chunk_clear v ag r) a.0 in
    let c = and_parts (fits && count && first) lies b.0 in
    let d = and_parts (fits && count) first c.0 in
    let e = and_parts fits count d.0 in
    let f = and_parts (nat_lt r.startino (2 ^ 32) && is_holemask r.holemask && nat_lt r.count (2 ^ 8) && nat_lt r.freecount (2 ^ 8)) (nat_lt r.free (2 ^ 64)) e.0 in
    let g = and_parts (nat_lt r.startino (2 ^ 32) && is_holemask r.holemask && nat_lt r.count (2 ^ 8)) (nat_lt r.freecount (2 ^ 8)) f.0 in
    let h = and_parts (nat_lt r.startino (2 ^ 32) && is_holemask r.holemask) (nat_lt r.count (2 ^ 8)) g.0 in
    let i = and_parts (nat_lt r.startino (2 ^ 32)) (is_holemask r.holemask) h.0 in
    record { mask = i.1; first = d.1; lies = c.1 }

pub chunks_moved : (v : Volume) (ag base : ℕ) (before : Option InoRec) (rs : List InoRec) → are_lawful (ino_shape ag) v before rs ≡ true
    → flat_map (clusters_in base) rs ≡ map (λ k. base + k) (flat_map clusters_of_chunk rs)
chunks_moved v ag base before [] lawful = refl
chunks_moved v ag base before (r ∷ rs) lawful =
    let parts = and_parts (is_chunk v ag r && ascends_inode before r) (are_lawful (ino_shape ag) v (Some r) rs) lawful in
    ap₂ (λ (xs ys : List ℕ). xs ++ ys) (clusters_moved base r (lawful_chunk v ag before r parts.0).mask) (chunks_moved v ag base (Some r) rs parts.1)
    ∙ sym (map-append (λ k. base + k) (clusters_of_chunk r) (flat_map clusters_of_chunk rs))

-- a block of a cluster of a group's chunks is one of its runs
pub group_cluster_on : (v : Volume) (ag base x b : ℕ) (rs : List InoRec) → are_lawful (ino_shape ag) v None rs ≡ true → Member x (flat_map (clusters_in base) rs) → is_of_cluster x b ≡ true
    → 1 ≤ runs_on (cluster_runs base rs) b
group_cluster_on v ag base x b rs lawful is on =
    let of = map_member (λ k. base + k) x (flat_map clusters_of_chunk rs) (subst (λ (xs : List ℕ). Member x xs) (chunks_moved v ag base None rs lawful) is) in
    member_on (cluster_run base of.0) (cluster_runs base rs) b (member_map (cluster_run base) of.0 (flat_map clusters_of_chunk rs) of.1)
    (subst (λ (n : ℕ). is_of_cluster n b ≡ true) (sym of.2) on)

-- what a group owns in front of its clusters
abbrev front_of : ℕ → GroupRec → List Run
front_of base g = new_run base 1 headers_owner 0 ∷ tree_runs tree_owners g.blocks ++ listed_runs base g.agfl

next_base : (ag w : ℕ) → (ag + 1) * w ≡ ag * w + w
next_base ag w = omega arith

abbrev runs_from : Volume → ℕ → List GroupRec → List Run
runs_from v base gs = groups_runs v.agblocks base gs

-- a block of a cluster is one of the runs of the groups
pub cluster_on : (v : Volume) (ag x b : ℕ) (gs : List GroupRec) → AreGroups v ag gs → Member x (clusters_from v ag gs) → is_of_cluster x b ≡ true
    → 1 ≤ runs_on (groups_runs v.agblocks (ag * v.agblocks) gs) b
cluster_on v ag x b [] are is on = absurd is
cluster_on v ag x b (g ∷ gs) are is on =
    elim (member_either x (chunk_clusters v ag g.ino) (clusters_from v (ag + 1) gs) is) [
      | inl here ↦ left_on (group_runs (ag * v.agblocks) g) (runs_from v (ag * v.agblocks + v.agblocks) gs) b
          (right_on (front_of (ag * v.agblocks) g) (cluster_runs (ag * v.agblocks) g.ino) b (group_cluster_on v ag (ag * v.agblocks) x b g.ino are.0.ino here on))
      | inr there ↦ right_on (group_runs (ag * v.agblocks) g) (runs_from v (ag * v.agblocks + v.agblocks) gs) b
          (subst (λ (base : ℕ). 1 ≤ runs_on (runs_from v base gs) b) (next_base ag v.agblocks) (cluster_on v (ag + 1) x b gs are.1 there on))
    ]

-- the first block of a group is one of its runs, and with a cluster on it twice
header_covers : (base b : ℕ) → b ≡ base → covers b (new_run base 1 headers_owner 0) ≡ true
header_covers base b same = grind (arith, nat_tests, same)

header_first : (base b : ℕ) (g : GroupRec) → b ≡ base → 1 ≤ runs_on (group_runs base g) b
header_first base b g same =
    let all = on_head (new_run base 1 headers_owner 0) ((tree_runs tree_owners g.blocks ++ listed_runs base g.agfl) ++ cluster_runs base g.ino) b (header_covers base b same) in
    omega (arith, all)

header_twice : (base b : ℕ) (g : GroupRec) → b ≡ base → 1 ≤ runs_on (cluster_runs base g.ino) b → 2 ≤ runs_on (group_runs base g) b
header_twice base b g same some =
    let rest : List Run = (tree_runs tree_owners g.blocks ++ listed_runs base g.agfl) ++ cluster_runs base g.ino in
    let all = on_head (new_run base 1 headers_owner 0) rest b (header_covers base b same) in
    let more : 1 ≤ runs_on rest b = right_on (tree_runs tree_owners g.blocks ++ listed_runs base g.agfl) (cluster_runs base g.ino) b some in
    omega (arith, all, more)

pub header_on : (w base j b : ℕ) (gs : List GroupRec) → j < length gs → b ≡ base + j * w → 1 ≤ runs_on (groups_runs w base gs) b
header_on w base j b [] few at = absurd (omega (arith, few))
header_on w base zero b (g ∷ gs) few at = left_on (group_runs base g) (groups_runs w (base + w) gs) b (header_first base b g (omega (arith, at)))
header_on w base (suc j) b (g ∷ gs) few at =
    right_on (group_runs base g) (groups_runs w (base + w) gs) b (header_on w (base + w) j b gs (omega (arith, few)) (omega (arith, at)))

pub header_cluster : (v : Volume) (ag x j b : ℕ) (gs : List GroupRec) → AreGroups v ag gs → Member x (clusters_from v ag gs) → is_of_cluster x b ≡ true → j < length gs
    → b ≡ ag * v.agblocks + j * v.agblocks → 2 ≤ runs_on (groups_runs v.agblocks (ag * v.agblocks) gs) b
header_cluster v ag x j b [] are is on few at = absurd is
header_cluster v ag x j b (g ∷ gs) are is on few at =
    elim (member_either x (chunk_clusters v ag g.ino) (clusters_from v (ag + 1) gs) is) [
      | inl here ↦ at_here j few at (group_cluster_on v ag (ag * v.agblocks) x b g.ino are.0.ino here on)
      | inr there ↦ behind j few at there (λ k less same. header_cluster v (ag + 1) x k b gs are.1 there on less same) (cluster_on v (ag + 1) x b gs are.1 there on)
    ]
  where
    at_here : (j : ℕ) → j < length (g ∷ gs) → b ≡ ag * v.agblocks + j * v.agblocks → 1 ≤ runs_on (cluster_runs (ag * v.agblocks) g.ino) b
        → 2 ≤ runs_on (groups_runs v.agblocks (ag * v.agblocks) (g ∷ gs)) b
    at_here zero few at some =
        let two = header_twice (ag * v.agblocks) b g (omega (arith, at)) some in
        let all = on_both (group_runs (ag * v.agblocks) g) (runs_from v (ag * v.agblocks + v.agblocks) gs) b in
        omega (arith, two, all)
    at_here (suc j) few at some =
        two_on (group_runs (ag * v.agblocks) g) (runs_from v (ag * v.agblocks + v.agblocks) gs) b
        (right_on (front_of (ag * v.agblocks) g) (cluster_runs (ag * v.agblocks) g.ino) b some)
        (header_on v.agblocks (ag * v.agblocks + v.agblocks) j b gs (omega (arith, few)) (omega (arith, at)))

    behind : (j : ℕ) → j < length (g ∷ gs) → b ≡ ag * v.agblocks + j * v.agblocks → Member x (clusters_from v (ag + 1) gs)
        → ((k : ℕ) → k < length gs → b ≡ (ag + 1) * v.agblocks + k * v.agblocks → 2 ≤ runs_on (groups_runs v.agblocks ((ag + 1) * v.agblocks) gs) b)
        → 1 ≤ runs_on (groups_runs v.agblocks ((ag + 1) * v.agblocks) gs) b → 2 ≤ runs_on (groups_runs v.agblocks (ag * v.agblocks) (g ∷ gs)) b
    behind zero few at there later some =
        two_on (group_runs (ag * v.agblocks) g) (runs_from v (ag * v.agblocks + v.agblocks) gs) b (header_first (ag * v.agblocks) b g (omega (arith, at)))
        (subst (λ (base : ℕ). 1 ≤ runs_on (runs_from v base gs) b) (next_base ag v.agblocks) some)
    behind (suc j) few at there later some =
        more_on (group_runs (ag * v.agblocks) g) (runs_from v (ag * v.agblocks + v.agblocks) gs) b
        (subst (λ (base : ℕ). 2 ≤ runs_on (runs_from v base gs) b) (next_base ag v.agblocks) (later j (omega (arith, few)) (omega (arith, at))))
