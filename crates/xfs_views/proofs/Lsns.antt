-- The log sequence numbers of a view stand in blocks of the volume.
use Rattle.std.proofs.Common.{◌≡◌, inl, inr, ℕ, zero, suc, ◌+◌, ◌-◌, ◌*◌, ◌/◌, ◌^◌, ◌≤◌, ◌<◌, Bool, true, false, ◌==◌, ◌&&◌, nat_le, nat_lt, if◌then◌else◌, List, [], ◌∷◌, ◌++◌, map, length, Option, Some, None, refl, arith}
use Rattle.std.proofs.Math.Nat.{mul-le-mul_right}
use Rattle.std.proofs.lemmas.Bool.{and_parts, cases_lt, eqb-false, leb-true, ltb-true}
use Rattle.std.proofs.lemmas.List.Elements.{All-append, All-cons, All-head, All-map, All-nil, All-tail}
use Rattle.std.proofs.lemmas.List.Sorted.{All-permutation}
use Rattle.std.specs.List.{All, flat_map, range_with_len}
use Rattle.xfs_word.specs.declared.extents.Extent.{Extent}
use Rattle.xfs_disk.specs.Blocks.{Image}
use Rattle.xfs_geom.proofs.Bounds.{group_start}
use Rattle.xfs_geom.specs.Conversions.{group_length}
use Rattle.xfs_geom.specs.Groups.{ag_block_of_address, group_of_address}
use Rattle.xfs_geom.specs.Volumes.{Volume, volume_of}
use Rattle.xfs_geom.specs.declared.geometry.Geometry.{Geometry}
use Rattle.xfs_geom.specs.declared.records.InoRec.{InoRec}
use Rattle.xfs_tree.specs.Rules.{are_lawful}
use Rattle.xfs_kinds.specs.FileTrees.{bmbt_shape, fits_extent, follows_offset, is_extent}
use Rattle.xfs_kinds.specs.Groups.{lies_in_one_group}
use Rattle.xfs_kinds.specs.InodeTrees.{ascends_inode, ino_shape, is_chunk, is_missing}
use Rattle.xfs_volume.specs.Names.{type_of}
use Rattle.xfs_volume.specs.declared.catalogs.BlockLsn.{BlockLsn}
use Rattle.xfs_volume.specs.declared.files.FileRec.{FileRec}
use Rattle.xfs_volume.specs.declared.groups.GroupRec.{GroupRec}
use Rattle.xfs_volume.specs.declared.groups.TreeBlocks.{TreeBlocks}
use Rattle.xfs_laws.specs.xfs_space.Parts.{AreGroups, AreOfGroup, HasLawfulForks}
use Rattle.xfs_image.proofs.Places.{all_moved}
use Rattle.xfs_image.specs.Clusters.{chunk_clusters, clusters_in}
use Rattle.xfs_image.specs.Files.{clusters_from, clusters_of}
use Rattle.xfs_image.specs.Groups.{head_block}
use Rattle.xfs_image.specs.Lsns.{LsnPlace, at, cluster_places, data_places, dir_byte, extent_place, extent_places, file_places, groups_places, head_places, lsn_places_in_order, lsn_at, lsn_places, lsns_read, slot_place, tree_lsn_places}
use Rattle.xfs_views.proofs.Numbers.{chunk_placed}

-- the place lies in the volume
abbrev IsIn : Volume → LsnPlace → Type 0
IsIn v p = p.block < v.dblocks

-- what each item of a list gives has a fact where each item has one
all_of_each : {A B : Type 0} (Q : A → Type 0) (P : B → Type 0) (f : A → List B) → ((a : A) → Q a → All P (f a)) → (xs : List A) → All Q xs → All P (flat_map f xs)
all_of_each Q P f each [] all = All-nil P
all_of_each Q P f each (x ∷ xs) all =
    All-append P (f x) (flat_map f xs) (each x (All-head Q x xs all)) (all_of_each Q P f each xs (All-tail Q x xs all))

-- so has each number in a row
all_in_row : {B : Type 0} (P : B → Type 0) (item : ℕ → B) (k n : ℕ) → ((i : ℕ) → k ≤ i → i < k + n → P (item i)) → All P (map item (range_with_len k n))
all_in_row P item k zero each = All-nil P
all_in_row P item k (suc n) each =
    All-cons P (item k) (map item (range_with_len (k + 1) n)) (each k (omega arith) (omega arith))
    (all_in_row P item (k + 1) n (λ i from upto. each i (omega (arith, from)) (omega (arith, upto))))

flat_in_row : {B : Type 0} (P : B → Type 0) (f : ℕ → List B) (k n : ℕ) → ((i : ℕ) → k ≤ i → i < k + n → All P (f i)) → All P (flat_map f (range_with_len k n))
flat_in_row P f k zero each = All-nil P
flat_in_row P f k (suc n) each =
    All-append P (f k) (flat_map f (range_with_len (k + 1) n)) (each k (omega arith) (omega arith))
    (flat_in_row P f (k + 1) n (λ i from upto. each i (omega (arith, from)) (omega (arith, upto))))

-- a group of the volume ends inside it
group_ends : (g : Geometry) (ag : ℕ) → ag < g.agcount → ag * g.agblocks + group_length (volume_of g) ag ≤ g.dblocks
group_ends g ag inside = by_case (ag + 1 == g.agcount) refl
  where
    by_case : (b : Bool) → (ag + 1 == g.agcount) ≡ b → ag * g.agblocks + (if b then g.dblocks - ag * g.agblocks else g.agblocks) ≤ g.dblocks
    by_case true e =
        let begins : ag * g.agblocks < g.dblocks = group_start ag g.agcount g.agblocks g.dblocks inside g.shape.groups.last in
        omega (arith, begins)
    by_case false e =
        elim (cases_lt (ag + 1) g.agcount) [
          | inl other ↦
              let next : ag + 1 ≤ g.agcount - 1 = omega (arith, other) in
              let most : (ag + 1) * g.agblocks ≤ (g.agcount - 1) * g.agblocks = mul-le-mul_right g.agblocks next in
              let one : (ag + 1) * g.agblocks ≡ ag * g.agblocks + g.agblocks = omega arith in
              let last = g.shape.groups.last in
              omega (arith, most, one, last)
          | inr same ↦ absurd (eqb-false (ag + 1) g.agcount e (omega (arith, same, inside)))
        ]

-- the places of a group's headers and trees
heads_in : (g : Geometry) (ag : ℕ) → ag < g.agcount → All (IsIn (volume_of g)) (head_places (volume_of g) ag)
heads_in g ag inside =
    let begins : ag * g.agblocks < g.dblocks = group_start ag g.agcount g.agblocks g.dblocks inside g.shape.groups.last in
    let v : Volume = volume_of g in
    let block = head_block v ag in
    All-cons (IsIn v) (at 720 block) (at 1344 block ∷ at 1560 block ∷ []) begins
    (All-cons (IsIn v) (at 1344 block) (at 1560 block ∷ []) begins (All-cons (IsIn v) (at 1560 block) [] begins (All-nil (IsIn v))))

blocks_in : (v : Volume) (byte : ℕ) (blocks : List ℕ) → All (λ block. block < v.dblocks) blocks → All (IsIn v) (map (at byte) blocks)
blocks_in v byte blocks all = All-map (IsIn v) (at byte) blocks all

own_in : (v : Volume) (ag : ℕ) (blocks : List ℕ) → AreOfGroup v ag blocks → All (λ block. block < v.dblocks) blocks
own_in v ag blocks own = λ k d inside. (own k d inside).0

trees_in : (v : Volume) (ag : ℕ) (g : GroupRec) → All (λ (tree : TreeBlocks). AreOfGroup v ag tree.blocks) g.blocks → All (IsIn v) (tree_lsn_places g)
trees_in v ag g own =
    all_of_each (λ (tree : TreeBlocks). AreOfGroup v ag tree.blocks) (IsIn v) (λ (tree : TreeBlocks). map (at 24) tree.blocks)
    (λ tree each. blocks_in v 24 tree.blocks (own_in v ag tree.blocks each)) g.blocks own

groups_in : (g : Geometry) (ag : ℕ) (gs : List GroupRec) → ag + length gs ≤ g.agcount → AreGroups (volume_of g) ag gs → All (IsIn (volume_of g)) (groups_places (volume_of g) ag gs)
groups_in g ag [] few are = All-nil (IsIn (volume_of g))
groups_in g ag (one ∷ gs) few are =
    let v : Volume = volume_of g in
    All-append (IsIn v) (head_places v ag ++ tree_lsn_places one) (groups_places v (ag + 1) gs)
    (All-append (IsIn v) (head_places v ag) (tree_lsn_places one) (heads_in g ag (omega (arith, few))) (trees_in v ag one are.0.blocks))
    (groups_in g (ag + 1) gs (omega (arith, few)) are.1)

-- the clusters of lawful chunks lie in the volume
abbrev IsCluster : Volume → ℕ → Type 0
IsCluster v cluster = cluster + 4 ≤ v.dblocks

halves_in : (v : Volume) (a : ℕ) (first second : Bool) → a + 8 ≤ v.dblocks
    → All (IsCluster v) ((if first then [] else (a ∷ [])) ++ (if second then [] else ((a + 4) ∷ [])))
halves_in v a true true low = All-nil (IsCluster v)
halves_in v a true false low = All-cons (IsCluster v) (a + 4) [] (omega (arith, low)) (All-nil (IsCluster v))
halves_in v a false true low = All-cons (IsCluster v) a [] (omega (arith, low)) (All-nil (IsCluster v))
halves_in v a false false low =
    All-cons (IsCluster v) a ((a + 4) ∷ []) (omega (arith, low)) (All-cons (IsCluster v) (a + 4) [] (omega (arith, low)) (All-nil (IsCluster v)))

chunks_in : (v : Volume) (ag base : ℕ) (before : Option InoRec) (rs : List InoRec) → base + group_length v ag ≤ v.dblocks → are_lawful (ino_shape ag) v before rs ≡ true
    → All (IsCluster v) (flat_map (clusters_in base) rs)
chunks_in v ag base before [] low lawful = All-nil (IsCluster v)
chunks_in v ag base before (r ∷ rs) low lawful =
    let parts = and_parts (is_chunk v ag r && ascends_inode before r) (are_lawful (ino_shape ag) v (Some r) rs) lawful in
    let inside = (chunk_placed v ag before r parts.0).inside in
    All-append (IsCluster v) (clusters_in base r) (flat_map (clusters_in base) rs)
    (halves_in v (base + r.startino / 8) (is_missing r.holemask 0) (is_missing r.holemask 32) (omega (arith, inside, low)))
    (chunks_in v ag base (Some r) rs low parts.1)

clusters_lie : (g : Geometry) (ag : ℕ) (gs : List GroupRec) → ag + length gs ≤ g.agcount → AreGroups (volume_of g) ag gs → All (IsCluster (volume_of g)) (clusters_from (volume_of g) ag gs)
clusters_lie g ag [] few are = All-nil (IsCluster (volume_of g))
clusters_lie g ag (one ∷ gs) few are =
    let v : Volume = volume_of g in
    All-append (IsCluster v) (chunk_clusters v ag one.ino) (clusters_from v (ag + 1) gs)
    (chunks_in v ag (head_block v ag) None one.ino (group_ends g ag (omega (arith, few))) are.0.ino)
    (clusters_lie g (ag + 1) gs (omega (arith, few)) are.1)

cluster_in : (v : Volume) (cluster : ℕ) → IsCluster v cluster → All (IsIn v) (cluster_places cluster)
cluster_in v cluster lies =
    flat_in_row (IsIn v) (λ block. map (slot_place block) (range_with_len 0 8)) cluster 4
    (λ block from upto. all_in_row (IsIn v) (slot_place block) 0 8 (λ slot first last. omega (arith, upto, lies)))

-- the blocks of a lawful extent lie in the volume
record LiesIn (v : Volume) (e : Extent) : Type 0 where
  group : group_of_address v.agblklog e.start < v.agcount
  inside : ag_block_of_address v.agblklog e.start + e.count ≤ group_length v (group_of_address v.agblklog e.start)

lies_in : (v : Volume) (e : Extent) → is_extent v e ≡ true → LiesIn v e
lies_in v e is =
    let group = group_of_address v.agblklog e.start in
    let parts = and_parts (fits_extent e && nat_le 1 e.count && nat_le (e.offset + e.count) (2 ^ 54 - 1)) (lies_in_one_group v e.start e.count) is in
    let both = and_parts (nat_lt group v.agcount) (nat_le (ag_block_of_address v.agblklog e.start + e.count) (group_length v group)) parts.1 in
    record { group = ltb-true group v.agcount both.0; inside = leb-true _ (group_length v group) both.1 }

all_lie : (v : Volume) (ino : ℕ) (before : Option Extent) (es : List Extent) → are_lawful (bmbt_shape ino) v before es ≡ true → All (LiesIn v) es
all_lie v ino before [] lawful = All-nil (LiesIn v)
all_lie v ino before (e ∷ es) lawful =
    let parts = and_parts (is_extent v e && follows_offset before e) (are_lawful (bmbt_shape ino) v (Some e) es) lawful in
    let is = and_parts (is_extent v e) (follows_offset before e) parts.0 in
    All-cons (LiesIn v) e es (lies_in v e is.0) (all_lie v ino (Some e) es parts.1)

extent_in : (g : Geometry) (byte : ℕ → ℕ) (e : Extent) → LiesIn (volume_of g) e → All (IsIn (volume_of g)) (extent_places (volume_of g) byte e)
extent_in g byte e lies =
    let ends = group_ends g (group_of_address g.agblklog e.start) lies.group in
    let inside = lies.inside in
    all_in_row (IsIn (volume_of g)) (extent_place (volume_of g) byte e) 0 e.count (λ i from upto. omega (arith, upto, ends, inside))

extents_in : (g : Geometry) (ino : ℕ) (byte : ℕ → ℕ) (es : List Extent) → are_lawful (bmbt_shape ino) (volume_of g) None es ≡ true
    → All (IsIn (volume_of g)) (flat_map (extent_places (volume_of g) byte) es)
extents_in g ino byte es lawful =
    all_of_each (LiesIn (volume_of g)) (IsIn (volume_of g)) (extent_places (volume_of g) byte) (extent_in g byte) es (all_lie (volume_of g) ino None es lawful)

data_in : (g : Geometry) (f : FileRec) → HasLawfulForks (volume_of g) f → All (IsIn (volume_of g)) (data_places (volume_of g) f)
data_in g f is =
    if_in (type_of f == 4) _ _ (extents_in g f.ino dir_byte f.extents is.extents)
    (if_in (type_of f == 10) _ [] (extents_in g f.ino (λ offset. 48) f.extents is.extents) (All-nil (IsIn (volume_of g))))
  where
    if_in : (t : Bool) (a b : List LsnPlace) → All (IsIn (volume_of g)) a → All (IsIn (volume_of g)) b → All (IsIn (volume_of g)) (if t then a else b)
    if_in true a b one other = one
    if_in false a b one other = other

file_in : (g : Geometry) (f : FileRec) → HasLawfulForks (volume_of g) f → All (IsIn (volume_of g)) (file_places (volume_of g) f)
file_in g f is =
    let v : Volume = volume_of g in
    All-append (IsIn v) (data_places v f ++ map (at 32) f.rest.tree) (flat_map (extent_places v (λ offset. 24)) f.rest.attr_extents)
    (All-append (IsIn v) (data_places v f) (map (at 32) f.rest.tree) (data_in g f is) (blocks_in v 32 f.rest.tree is.tree))
    (extents_in g f.ino (λ offset. 24) f.rest.attr_extents is.attr_extents)

places_in : (g : Geometry) (groups : List GroupRec) (files : List FileRec) → length groups ≡ g.agcount → AreGroups (volume_of g) 0 groups → All (HasLawfulForks (volume_of g)) files
    → All (IsIn (volume_of g)) (lsn_places (volume_of g) groups files)
unfolding clusters_of
places_in g groups files many are all =
    let v : Volume = volume_of g in
    let heads = groups_places v 0 groups in
    let slots = flat_map cluster_places (clusters_of v groups) in
    let last = g.shape.groups.last in
    let first : IsIn v (at 240 0) = omega (arith, last) in
    let front = All-cons (IsIn v) (at 240 0) heads first (groups_in g 0 groups (omega (arith, many)) are) in
    let middle = all_of_each (IsCluster v) (IsIn v) cluster_places (cluster_in v) (clusters_from v 0 groups) (clusters_lie g 0 groups (omega (arith, many)) are) in
    let behind = all_of_each (HasLawfulForks v) (IsIn v) (file_places v) (file_in g) files all in
    All-append (IsIn v) ((at 240 0 ∷ heads) ++ slots) (flat_map (file_places v) files) (All-append (IsIn v) (at 240 0 ∷ heads) slots front middle) behind

-- all log sequence numbers stand in blocks of the volume
pub lsns_in : (g : Geometry) (image : Image) (groups : List GroupRec) (files : List FileRec) → length groups ≡ g.agcount → AreGroups (volume_of g) 0 groups
    → All (HasLawfulForks (volume_of g)) files → All (λ (l : BlockLsn). l.block < g.dblocks) (lsns_read (volume_of g) image groups files)
unfolding lsns_read
lsns_in g image groups files many are all =
    let v : Volume = volume_of g in
    let places = lsn_places v groups files in
    All-map (λ (l : BlockLsn). l.block < g.dblocks) (lsn_at image) (lsn_places_in_order places)
    (All-permutation (IsIn v) places (lsn_places_in_order places) (all_moved places) (places_in g groups files many are all))
