-- The clusters of chunks and of groups, of one more and of all of them.
use Rattle.std.proofs.Common.{◌≡◌, ℕ, ◌+◌, ◌*◌, ◌^◌, Fits, w64, ◌<◌, ◌≤◌, List, [], ◌++◌, length, drop, get_or, sym, ap, ◌∙◌, arith}
use Rattle.std.proofs.Math.Nat.{mul-le-mul_left}
use Rattle.std.proofs.lemmas.List.{append_assoc, append-nil, drop_more, length-drop, nil_from_length}
use Rattle.std.specs.List.{flat_map}
use Rattle.xfs_geom.specs.Volumes.{Volume}
use Rattle.xfs_volume.specs.declared.groups.GroupRec.{GroupRec}
use Rattle.xfs_image.specs.Clusters.{chunk_clusters}
use Rattle.xfs_image.specs.Files.{clusters_from, clusters_of}

-- a list grows by what stands first of the rest
grown : {A : Type 0} (old new part rest rest' all : List A) → new ≡ old ++ part → rest ≡ part ++ rest' → old ++ rest ≡ all → new ++ rest' ≡ all
grown old new part rest rest' all more split held =
    ap (λ xs. xs ++ rest') more ∙ append_assoc old part rest' ∙ ap (λ xs. old ++ xs) (sym split) ∙ held

none_left : {A : Type 0} (xs : List A) (i : ℕ) → length xs ≤ i → drop i xs ≡ []
none_left xs i past = let rest = length-drop i xs in nil_from_length (drop i xs) (omega (arith, rest))

pub held_at : {A B : Type 0} (f : A → List B) (xs : List A) (i : ℕ) (d : A) (old new all : List B) → i < length xs → new ≡ old ++ f (get_or xs i d)
    → old ++ flat_map f (drop i xs) ≡ all → new ++ flat_map f (drop (i + 1) xs) ≡ all
held_at f xs i d old new all inside more held =
    grown old new (f (get_or xs i d)) (flat_map f (drop i xs)) (flat_map f (drop (i + 1) xs)) all more (ap (flat_map f) (drop_more xs i d inside)) held

pub held_all : {A B : Type 0} (f : A → List B) (xs : List A) (i : ℕ) (new all : List B) → length xs ≤ i → new ++ flat_map f (drop i xs) ≡ all → new ≡ all
held_all f xs i new all past held = sym (append-nil new) ∙ ap (λ rest. new ++ flat_map f rest) (sym (none_left xs i past)) ∙ held

pub group_more : (v : Volume) (groups : List GroupRec) (ag : ℕ) (d : GroupRec) (old new all : List ℕ) → ag < length groups
    → new ≡ old ++ chunk_clusters v ag (get_or groups ag d).ino → old ++ clusters_from v ag (drop ag groups) ≡ all
    → new ++ clusters_from v (ag + 1) (drop (ag + 1) groups) ≡ all
group_more v groups ag d old new all inside more held =
    grown old new (chunk_clusters v ag (get_or groups ag d).ino) (clusters_from v ag (drop ag groups)) (clusters_from v (ag + 1) (drop (ag + 1) groups)) all more
    (ap (λ (rest : List GroupRec). clusters_from v ag rest) (drop_more groups ag d inside)) held

pub groups_all : (v : Volume) (groups : List GroupRec) (ag : ℕ) (new all : List ℕ) → length groups ≤ ag → new ++ clusters_from v ag (drop ag groups) ≡ all → new ≡ all
groups_all v groups ag new all past held =
    sym (append-nil new) ∙ ap (λ (rest : List GroupRec). new ++ clusters_from v ag rest) (sym (none_left groups ag past)) ∙ held

-- of all groups
pub groups_done : (v : Volume) (groups : List GroupRec) (ag : ℕ) (new : List ℕ) → length groups ≤ ag → new ++ clusters_from v ag (drop ag groups) ≡ clusters_from v 0 groups
    → new ≡ clusters_of v groups
unfolding clusters_of
groups_done v groups ag new past held = groups_all v groups ag new (clusters_from v 0 groups) past held

-- where a group begins
pub group_base : (ag n agblocks : ℕ) → ag < n → n ≤ 512 → agblocks < 2 ^ 32 → ag * agblocks < 2 ^ 41
group_base ag n agblocks inside few low =
    let most : ag * agblocks ≤ ag * 2 ^ 32 = mul-le-mul_left ag (omega (arith, low)) in
    omega (arith, most, inside, few)

pub base_fits : (ag n agblocks : ℕ) → ag < n → n ≤ 512 → agblocks < 2 ^ 32 → Fits w64 (ag * agblocks)
base_fits ag n agblocks inside few low =
    let start = group_base ag n agblocks inside few low in
    omega (arith, start)
