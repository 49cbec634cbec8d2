-- The numbers of the slots of clusters, by their places in a list.
use Rattle.std.proofs.Common.{◌≡◌, ℕ, suc, ◌+◌, ◌*◌, ◌<◌, List, [], ◌∷◌, ◌++◌, length, map, take, get_or, refl, sym, ap, ◌∙◌, length-append, arith}
use Rattle.std.specs.List.{flat_map}
use Rattle.std.proofs.lemmas.List.{get_or-map, get_or-take, length-take-le}
use Rattle.std.proofs.lemmas.List.Concat.{get_or-flat_map}
use Rattle.std.proofs.lemmas.List.FromFn.{get_or-map-range_with_len, get_or-range_with_len}
use Rattle.xfs_disk.specs.Blocks.{Image}
use Rattle.xfs_tree.specs.Blocks.{each_of}
use Rattle.xfs_image.specs.Lsns.{LsnPlace, cluster_places, slot_place}
use Rattle.xfs_image.specs.Slots.{cluster_blocks}
use Rattle.xfs_journal.specs.Placed.{AreFirstNumbers, number_at}

-- parts of n items each
even_length : {A B : Type 0} (f : A → List B) (n : ℕ) → ((x : A) → length (f x) ≡ n) → (xs : List A) → length (flat_map f xs) ≡ n * length xs
even_length f n even [] = omega arith
even_length f n even (x ∷ xs) =
    let both : length (f x ++ flat_map f xs) ≡ length (f x) + length (flat_map f xs) = length-append (f x) (flat_map f xs) in
    let first = even x in
    let rest = even_length f n even xs in
    let more : n * suc (length xs) ≡ n + n * length xs = grind arith in
    omega (arith, both, first, rest, more)

item_at : {A B : Type 0} (f : A → List B) (n : ℕ) (even : (x : A) → length (f x) ≡ n) (xs : List A) (i j : ℕ) (e : A) (d : B) → i < length xs → j < n
    → get_or (flat_map f xs) (n * i + j) d ≡ get_or (f (get_or xs i e)) j d
item_at f n even xs i j e d here inside =
    let before : length (flat_map f (take i xs)) ≡ n * i =
    even_length f n even (take i xs) ∙ ap (λ k. n * k) (length-take-le i xs (omega (arith, here))) in
    let size = even (get_or xs i e) in
    ap (λ k. get_or (flat_map f xs) (k + j) d) (sym before) ∙ get_or-flat_map f xs i j e d here (omega (arith, size, inside))

-- the place of a slot among those of a block, of a cluster, of clusters
slot_here : (block s : ℕ) (d : LsnPlace) → s < 8 → get_or (each_of 8 (slot_place block)) s d ≡ slot_place block s
slot_here block s d few = get_or-map-range_with_len (slot_place block) 0 8 s s d few (omega arith)

place_in_cluster : (cluster k s : ℕ) (d : LsnPlace) → k < 4 → s < 8 → get_or (cluster_places cluster) (8 * k + s) d ≡ slot_place (cluster + k) s
place_in_cluster cluster k s d row few =
    item_at (λ block. each_of 8 (slot_place block)) 8 (λ block. refl) (cluster_blocks cluster) k s 0 d (omega (arith, row)) few
    ∙ ap (λ block. get_or (each_of 8 (slot_place block)) s d) (get_or-range_with_len cluster 4 k 0 row)
    ∙ slot_here (cluster + k) s d few

place_of_slot : (clusters : List ℕ) (c k s : ℕ) (d : LsnPlace) → c < length clusters → k < 4 → s < 8
    → get_or (flat_map cluster_places clusters) (32 * c + (8 * k + s)) d ≡ slot_place (get_or clusters c 0 + k) s
place_of_slot clusters c k s d here row few =
    item_at cluster_places 32 (λ cluster. refl) clusters c (8 * k + s) 0 d here (omega (arith, row, few)) ∙ place_in_cluster (get_or clusters c 0) k s d row few

-- a number of the first is the one that stands in its slot
pub first_number : (image : Image) (clusters numbers : List ℕ) (c k s : ℕ) → AreFirstNumbers image clusters numbers
    → c < length clusters → k < 4 → s < 8 → 32 * c + (8 * k + s) < length numbers
    → get_or numbers (32 * c + (8 * k + s)) 0 ≡ number_at image (slot_place (get_or clusters c 0 + k) s)
first_number image clusters numbers c k s are here row few inside =
    let places : List LsnPlace = flat_map cluster_places clusters in
    let all : length places ≡ 32 * length clusters = even_length cluster_places 32 (λ cluster. refl) clusters in
    let i : ℕ = 32 * c + (8 * k + s) in
    let d : LsnPlace = slot_place 0 0 in
    ap (λ (ns : List ℕ). get_or ns i 0) are
    ∙ get_or-take (length numbers) (map (number_at image) places) i 0 inside
    ∙ get_or-map (number_at image) places i d 0 (omega (arith, all, here, row, few))
    ∙ ap (number_at image) (place_of_slot clusters c k s d here row few)
