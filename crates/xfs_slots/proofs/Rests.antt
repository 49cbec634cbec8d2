-- What is left of a row.
use Rattle.std.proofs.Common.{◌≡◌, ℕ, suc, ◌+◌, ◌-◌, ◌<◌, ◌≤◌, List, [], ◌∷◌, ◌++◌, map, length, drop, get_or, slice_get, Some, refl, sym, ap, ◌∙◌, arith}
use Rattle.std.proofs.lemmas.List.{append_assoc, drop_all, drop_more}
use Rattle.std.proofs.lemmas.Grind.{flat_map-append}
use Rattle.std.proofs.lemmas.Option.{get_or_from_slice_get}
use Rattle.xfs_disk.specs.Blocks.{Image, bytes_of_block}
use Rattle.xfs_geom.specs.Volumes.{Volume}
use Rattle.xfs_volume.specs.declared.clusters.ClusterRec.{ClusterRec}
use Rattle.xfs_image.specs.Slots.{cluster_blocks, cluster_inodes, inodes_of_block}
use Rattle.xfs_image.specs.Candidates.{candidates}
use Rattle.xfs_image.specs.Claims.{candidate_inodes}
use Rattle.xfs_slots.specs.Gathered.{Gathered, gathered, inodes_of_blocks}
use Rattle.std.specs.List.{flat_map, range_with_len}

-- the items of a row from place i on, of n
abbrev pub rest_of : {A : Type 0} → ℕ → ℕ → (ℕ → A) → List A
rest_of i n item = map item (range_with_len i (n - i))

pub rest_next : {A : Type 0} (i n : ℕ) (item : ℕ → A) → i < n → rest_of i n item ≡ item i ∷ rest_of (i + 1) n item
rest_next i n item inside =
    let more : n - i ≡ suc (n - (i + 1)) = omega arith in
    ap (λ k. map item (range_with_len i k)) more

pub rest_none : {A : Type 0} (i n : ℕ) (item : ℕ → A) → n ≤ i → rest_of i n item ≡ []
rest_none i n item end =
    let none : n - i ≡ 0 = omega arith in
    ap (λ k. map item (range_with_len i k)) none

pub none_left : {A : Type 0} (xs : List A) (i : ℕ) → length xs ≤ i → drop i xs ≡ []
none_left xs i past = drop_all i xs past

-- one number more of a row
pub number_more : (first i n : ℕ) (old new all : List ℕ) → i < n → new ≡ old ++ (first + i) ∷ []
    → old ++ range_with_len (first + i) (n - i) ≡ all → new ++ range_with_len (first + (i + 1)) (n - (i + 1)) ≡ all
number_more first i n old new all inside more held =
    let count : n - i ≡ suc (n - (i + 1)) = omega arith in
    let next : first + i + 1 ≡ first + (i + 1) = omega arith in
    let split : range_with_len (first + i) (n - i) ≡ (first + i) ∷ range_with_len (first + (i + 1)) (n - (i + 1))
    = ap (λ k. range_with_len (first + i) k) count ∙ ap (λ k. (first + i) ∷ range_with_len k (n - (i + 1))) next in
    ap (λ xs. xs ++ range_with_len (first + (i + 1)) (n - (i + 1))) more
    ∙ append_assoc old ((first + i) ∷ []) (range_with_len (first + (i + 1)) (n - (i + 1))) ∙ ap (λ xs. old ++ xs) (sym split) ∙ held

-- a block that was read
pub read_bytes : (image : Image) (at : ℕ) (block : List ℕ) → slice_get image at ≡ Some block → bytes_of_block image at ≡ block
read_bytes image at block is = get_or_from_slice_get image at block [] is

-- the inodes of the blocks of clusters
pub inodes_of_firsts : (v : Volume) (clusters : List ℕ) → inodes_of_blocks v (flat_map cluster_blocks clusters) ≡ flat_map (cluster_inodes v) clusters
unfolding cluster_inodes
inodes_of_firsts v [] = refl
inodes_of_firsts v (c ∷ cs) =
    flat_map-append (inodes_of_block v) (cluster_blocks c) (flat_map cluster_blocks cs)
    ∙ ap (λ xs. flat_map (inodes_of_block v) (cluster_blocks c) ++ xs) (inodes_of_firsts v cs)

pub inodes_of_candidates : (v : Volume) (clusters : List ClusterRec)
    → inodes_of_blocks v (flat_map (λ (c : ClusterRec). cluster_blocks c.block) clusters) ≡ flat_map (λ (c : ClusterRec). cluster_inodes v c.block) clusters
unfolding cluster_inodes
inodes_of_candidates v [] = refl
inodes_of_candidates v (c ∷ cs) =
    flat_map-append (inodes_of_block v) (cluster_blocks c.block) (flat_map (λ (c : ClusterRec). cluster_blocks c.block) cs)
    ∙ ap (λ xs. flat_map (inodes_of_block v) (cluster_blocks c.block) ++ xs) (inodes_of_candidates v cs)

-- two lists of clusters that agree from a place on agree from the one before on, where they agree there
pub agree_before : (xs : List ℕ) (cs : List ClusterRec) (i : ℕ) (c : ClusterRec) → i < length xs → i < length cs → get_or xs i 0 ≡ (get_or cs i c).block
    → drop (i + 1) xs ≡ map (λ (c : ClusterRec). c.block) (drop (i + 1) cs) → drop i xs ≡ map (λ (c : ClusterRec). c.block) (drop i cs)
agree_before xs cs i c left right here rest =
    drop_more xs i 0 left ∙ (λ j. here j ∷ rest j) ∙ sym (ap (map (λ (c : ClusterRec). c.block)) (drop_more cs i c right))

pub agree_at_end : (xs : List ℕ) (cs : List ClusterRec) (i : ℕ) → length xs ≤ i → length cs ≤ i → drop i xs ≡ map (λ (c : ClusterRec). c.block) (drop i cs)
agree_at_end xs cs i left right = drop_all i xs left ∙ sym (ap (map (λ (c : ClusterRec). c.block)) (drop_all i cs right))

-- the inodes of clusters that are given by their first blocks
inodes_by_block : (v : Volume) (cs : List ClusterRec)
    → flat_map (λ (c : ClusterRec). cluster_inodes v c.block) cs ≡ flat_map (cluster_inodes v) (map (λ (c : ClusterRec). c.block) cs)
inodes_by_block v [] = refl
inodes_by_block v (c ∷ cs) = ap (λ xs. cluster_inodes v c.block ++ xs) (inodes_by_block v cs)

-- what the candidates give, where clusters are just these
pub given_by_candidates : (v : Volume) (image : Image) (clusters : List ℕ) (cs : List ClusterRec) (held : Gathered) → cs ≡ candidates v image
    → clusters ≡ map (λ (c : ClusterRec). c.block) cs → held ≡ gathered v image (candidate_inodes v image)
    → held ≡ gathered v image (flat_map (cluster_inodes v) clusters)
unfolding candidate_inodes
given_by_candidates v image clusters cs held same agree all =
    all ∙ ap (λ (cs : List ClusterRec). gathered v image (flat_map (λ (c : ClusterRec). cluster_inodes v c.block) cs)) (sym same)
    ∙ ap (gathered v image) (inodes_by_block v cs ∙ ap (flat_map (cluster_inodes v)) (sym agree))
