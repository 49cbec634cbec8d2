-- What the trees of a group say, and what is looked at, make up the group, its clusters and its reserved blocks.
use Rattle.std.proofs.Common.{◌≡◌, ℕ, zero, suc, Bool, true, false, not, cond, ◌+◌, ◌-◌, ◌*◌, ◌/◌, ◌≤◌, ◌<◌, ◌&&◌, ◌||◌, ◌==◌, List, [], ◌∷◌, map, Option, Some, None, Result, refl, sym, ap, ap₂, ◌∙◌, arith}
use Rattle.std.specs.List.{filter, flat_map, list_any, range_with_len}
use Rattle.std.specs.Option.{option_and_then}
use Rattle.std.proofs.lemmas.List.Folds.{list_any-append}
use Rattle.xfs_disk.specs.Lists.{is_among}
use Rattle.xfs_disk.specs.Blocks.{Image, bytes_of_block}
use Rattle.xfs_geom.specs.Conversions.{group_length}
use Rattle.xfs_geom.specs.Volumes.{Volume}
use Rattle.xfs_geom.specs.declared.records.InoRec.{InoRec}
use Rattle.xfs_geom.specs.declared.records.RmapRec.{RmapRec}
use Rattle.xfs_tree.specs.Reading.{Contents}
use Rattle.xfs_volume.specs.declared.clusters.ClusterRec.{ClusterRec}
use Rattle.xfs_word.specs.Seal.{is_sealed}
use Rattle.xfs_word.specs.declared.kinds.SealKind.TheVariants as Kind
use Rattle.xfs_image.specs.Candidates.{cluster_rec, is_candidate, is_scanned, is_used_slot, lies_in_chunk, whole_seal}
use Rattle.xfs_image.specs.Clusters.{both_name, is_recorded, is_trusted, named_by_chunks, named_by_owners, names, places_in, root_cluster}
use Rattle.xfs_image.specs.Groups.{agf_at, agfl_at, agi_at, bno_at, cnt_at, fino_at, group_read, head_block, ino_at, rmap_at, with_part}
use Rattle.xfs_image.specs.Reserved.{is_held_by_bytes, is_held_by_trees, is_of_named, is_of_tree, is_reserved, reserved_in}
use Rattle.xfs_image.specs.Slots.{cluster_blocks, cluster_inodes, inodes_of_block}
use Rattle.xfs_image.specs.declared.findings.Finding.{Finding}
use Rattle.xfs_groups.specs.Private.Chosen.{IsToldOfGroup, are_clear, are_used, candidates_in, chosen, chosen_rec, is_chosen, is_withheld, cluster_place, withheld}
use Rattle.xfs_groups.specs.Private.Looking.{has_used, is_naming}
use Rattle.xfs_groups.specs.Named.{chunks_in, owners_in}
use Rattle.xfs_groups.specs.Private.Parts.{group_with}
use Rattle.xfs_groups.specs.Private.ReadGroups.{ArePartsRead, IsToldIn}
use Rattle.xfs_groups.proofs.Lengths.{of_group}
use Rattle.xfs_groups.specs.declared.heads.Heads.{Heads}
use Rattle.xfs_groups.specs.declared.one_group.Told.{Told}
use Rattle.xfs_groups.specs.declared.trees.Trees.{Trees}

-- the same part, and what comes of it where it reads
part_same : {A B : Type 0} (ag part : ℕ) (o due : Option A) (f g : A → Result B Finding) → o ≡ due → ((a : A) → due ≡ Some a → f a ≡ g a)
    → with_part ag part o f ≡ with_part ag part due g
part_same {A = A} {B = B} ag part o due f g same next = ap (λ (x : Option A). with_part ag part x f) same ∙ by_case due next
  where
    by_case : (due : Option A) → ((a : A) → due ≡ Some a → f a ≡ g a) → with_part {A = A} {B = B} ag part due f ≡ with_part ag part due g
    by_case None next = refl
    by_case (Some a) next = next a refl

-- headers and trees that read so make up the group
pub group_is : (v : Volume) (image : Image) (ag : ℕ) (h : Heads) (t : Trees) → ArePartsRead v image ag h t → group_with ag h t ≡ group_read v image ag
unfolding group_read
group_is v image ag h t so =
    part_same ag 1 h.agf (agf_at v image ag) _ _ so.agf (λ agf is.
    let agf_is = so.agf ∙ is in
    part_same ag 2 h.agi (agi_at v image ag) _ _ so.agi (λ agi is_agi.
    let agi_is = so.agi ∙ is_agi in
    part_same ag 3 h.agfl (agfl_at v image ag agf) _ _ (so.agfl ∙ ap (option_and_then (agfl_at v image ag)) agf_is) (λ agfl read.
    part_same ag 4 t.bno (bno_at v image ag agf) _ _ (so.bno ∙ ap (option_and_then (bno_at v image ag)) agf_is) (λ bno read.
    part_same ag 5 t.cnt (cnt_at v image ag agf) _ _ (so.cnt ∙ ap (option_and_then (cnt_at v image ag)) agf_is) (λ cnt read.
    part_same ag 6 t.ino (ino_at v image ag agi) _ _ (so.ino ∙ ap (option_and_then (ino_at v image ag)) agi_is) (λ ino read.
    part_same ag 7 t.fino (fino_at v image ag agi) _ _ (so.fino ∙ ap (option_and_then (fino_at v image ag)) agi_is) (λ fino read.
    part_same ag 8 t.rmap (rmap_at v image ag agf) _ _ (so.rmap ∙ ap (option_and_then (rmap_at v image ag)) agf_is) (λ rmap read. refl))))))))

pub told_so : (v : Volume) (image : Image) (ag : ℕ) (h : Heads) (t : Trees) (told : Told) → ArePartsRead v image ag h t → IsToldOfGroup v ag t told → IsToldIn v image ag told
unfolding is_trusted named_by_chunks named_by_owners
told_so v image ag h t told so is =
    let ino : t.ino ≡ option_and_then (ino_at v image ag) (agi_at v image ag) = so.ino ∙ ap (option_and_then (ino_at v image ag)) so.agi in
    let rmap : t.rmap ≡ option_and_then (rmap_at v image ag) (agf_at v image ag) = so.rmap ∙ ap (option_and_then (rmap_at v image ag)) so.agf in
    record {
      trusted = is.trusted ∙ ap₂ (λ (i : Option (Contents InoRec)) (r : Option (Contents RmapRec)). both_name (chunks_in v ag i) (owners_in v ag r)) ino rmap;
      named = λ q. is.named q ∙ ap₂ (λ (i : Option (Contents InoRec)) (r : Option (Contents RmapRec)). names (chunks_in v ag i) q || names (owners_in v ag r) q) ino rmap;
      held = λ q. is.held q
          ∙ ap₂ (λ (i : Option (Contents InoRec)) (r : Option (Contents RmapRec)).
          is_of_tree i q || is_of_tree r q || is_of_named (chunks_in v ag i) q || is_of_named (owners_in v ag r) q) ino rmap;
    }

-- what is kept of two lists is the same where the tests and the values are
kept_same : {X : Type 0} (h k : ℕ → X) (p q : ℕ → Bool) (f : ℕ → ℕ) (a n : ℕ) → ((i : ℕ) → a ≤ i → i < a + n → p (f i) ≡ q (f i))
    → ((i : ℕ) → a ≤ i → i < a + n → h (f i) ≡ k (f i)) → map h (filter p (map f (range_with_len a n))) ≡ map k (filter q (map f (range_with_len a n)))
kept_same h k p q f a zero tests values = refl
kept_same {X = X} h k p q f a (suc n) tests values =
    let rest = kept_same h k p q f (a + 1) n (λ i low high. tests i (omega (arith, low)) (omega (arith, high))) (λ i low high. values i (omega (arith, low)) (omega (arith, high))) in
    by_case (p (f a)) (q (f a)) (tests a (omega arith) (omega arith)) (values a (omega arith) (omega arith)) rest
  where
    by_case : (b c : Bool) → b ≡ c → h (f a) ≡ k (f a) → map h (filter p (map f (range_with_len (a + 1) n))) ≡ map k (filter q (map f (range_with_len (a + 1) n)))
        → map h (cond b (f a ∷ filter p (map f (range_with_len (a + 1) n))) (filter p (map f (range_with_len (a + 1) n))))
        ≡ map k (cond c (f a ∷ filter q (map f (range_with_len (a + 1) n))) (filter q (map f (range_with_len (a + 1) n))))
    by_case true true same value rest = ap₂ (λ (y : X) (ys : List X). y ∷ ys) value rest
    by_case false false same value rest = rest
    by_case true false same value rest = absurd (cc)
    by_case false true same value rest = absurd (cc)

map_twice : (f h : ℕ → ℕ) (xs : List ℕ) → map h (map f xs) ≡ map (λ x. h (f x)) xs
map_twice f h [] = refl
map_twice f h (x ∷ xs) = ap (λ (ys : List ℕ). h (f x) ∷ ys) (map_twice f h xs)

any_flat : (p : ℕ → Bool) (f : ℕ → List ℕ) (xs : List ℕ) → list_any p (flat_map f xs) ≡ list_any (λ x. list_any p (f x)) xs
any_flat p f [] = refl
any_flat p f (x ∷ xs) = list_any-append p (f x) (flat_map f xs) ∙ ap (λ (t : Bool). list_any p (f x) || t) (any_flat p f xs)

-- a test of a cluster, by what names it
regrouped : (r n a b s l c : Bool) → n ≡ (a || b) → (r || ((n || s) && l && c)) ≡ (r || ((((r || a) || b) || s) && l && c))
regrouped true n a b s l c is = refl
regrouped false n a b s l c is = ap (λ (t : Bool). (t || s) && l && c) is

moved : (r n a b : Bool) → n ≡ (a || b) → (r || n) ≡ ((r || a) || b)
moved true n a b is = refl
moved false n a b is = is

by_bytes : (a b u : Bool) → ((a || (b || false)) || u) ≡ ((a || b) || u)
by_bytes true b u = refl
by_bytes false true u = refl
by_bytes false false u = refl

used_are : (v : Volume) (image : Image) (cluster : ℕ) → are_used v image cluster 4 ≡ list_any (is_used_slot v image) (cluster_inodes v cluster)
unfolding cluster_inodes
used_are v image cluster = sym (any_flat (is_used_slot v image) (inodes_of_block v) (cluster_blocks cluster))

chosen_is : (v : Volume) (image : Image) (ag : ℕ) (told : Told) (cluster : ℕ) → IsToldIn v image ag told → cluster / v.agblocks ≡ ag
    → is_chosen v image told.trusted told.named cluster ≡ is_candidate v image cluster
unfolding is_candidate is_recorded is_scanned
chosen_is v image ag told cluster so of =
    let r = cluster == root_cluster v in
    let a = names (named_by_chunks v image ag) cluster in
    let b = names (named_by_owners v image ag) cluster in
    let l = lies_in_chunk v cluster in
    let c = are_clear v image cluster 4 in
    regrouped r (is_among told.named cluster) a b (not told.trusted && are_used v image cluster 4) l c (so.named cluster)
    ∙ (ap₂ (λ (x y : Bool). r || ((((r || a) || b) || (not x && y)) && l && c)) so.trusted (used_are v image cluster)
    ∙ ap (λ (n : ℕ). r || ((((r || names (named_by_chunks v image n) cluster) || names (named_by_owners v image n) cluster)
    || (not (is_trusted v image n) && list_any (is_used_slot v image) (cluster_inodes v cluster))) && l && c)) (sym of))

rec_is : (v : Volume) (image : Image) (ag : ℕ) (told : Told) (cluster : ℕ) → IsToldIn v image ag told → cluster / v.agblocks ≡ ag
    → chosen_rec v told.named cluster ≡ cluster_rec v image cluster
unfolding is_recorded
rec_is v image ag told cluster so of =
    let r = cluster == root_cluster v in
    let same : (r || is_among told.named cluster) ≡ ((r || names (named_by_chunks v image (cluster / v.agblocks)) cluster) || names (named_by_owners v image (cluster / v.agblocks)) cluster) =
    moved r (is_among told.named cluster) (names (named_by_chunks v image ag) cluster) (names (named_by_owners v image ag) cluster) (so.named cluster)
    ∙ ap (λ (n : ℕ). (r || names (named_by_chunks v image n) cluster) || names (named_by_owners v image n) cluster) (sym of) in
    ap (rec_of cluster) same
  where
    rec_of : ℕ → Bool → ClusterRec
    rec_of cluster recorded = record { block = cluster; recorded = recorded }

-- the clusters of a group whose slots are read
pub candidates_are : (v : Volume) (image : Image) (ag : ℕ) (told : Told) → IsToldIn v image ag told → group_length v ag ≤ v.agblocks
    → chosen v image told.trusted told.named ag (group_length v ag / 4) ≡ candidates_in v image ag
unfolding chosen candidates_in
candidates_are v image ag told so short =
    let n = group_length v ag / 4 in
    let all : map (λ place. head_block v ag + place) (places_in v ag) ≡ map (cluster_place v ag) (range_with_len 0 n) = map_twice (λ i. 4 * i) (λ place. head_block v ag + place) (range_with_len 0 n) in
    let inside : (i : ℕ) → i < 0 + n → cluster_place v ag i / v.agblocks ≡ ag = λ i high. of_group ag v.agblocks (4 * i) (omega (arith, high, short)) in
    kept_same (chosen_rec v told.named) (cluster_rec v image) (is_chosen v image told.trusted told.named) (is_candidate v image) (cluster_place v ag) 0 n
    (λ i low high. chosen_is v image ag told (cluster_place v ag i) so (inside i high))
    (λ i low high. rec_is v image ag told (cluster_place v ag i) so (inside i high))
    ∙ ap (λ (xs : List ℕ). map (cluster_rec v image) (filter (is_candidate v image) xs)) (sym all)

withheld_is : (v : Volume) (image : Image) (ag : ℕ) (told : Told) (block : ℕ) → IsToldIn v image ag told → block / v.agblocks ≡ ag
    → is_withheld v image told.trusted told.held block ≡ is_reserved v image block
unfolding is_reserved is_held_by_trees is_held_by_bytes
withheld_is v image ag told block so of =
    let a = is_sealed (whole_seal v block (Kind.ShortTree 0x4941_4233)) (bytes_of_block image block) in
    let b = is_sealed (whole_seal v block (Kind.ShortTree 0x524d_4233)) (bytes_of_block image block) in
    let u = has_used v image block in
    ap₂ (λ (x y : Bool). x || (not y && (is_naming v image block || u))) (so.held block) so.trusted
    ∙ (ap (λ (t : Bool). (is_of_tree (option_and_then (ino_at v image ag) (agi_at v image ag)) block
    || is_of_tree (option_and_then (rmap_at v image ag) (agf_at v image ag)) block || is_of_named (named_by_chunks v image ag) block
    || is_of_named (named_by_owners v image ag) block) || (not (is_trusted v image ag) && t)) (by_bytes a b u)
    ∙ ap (λ (n : ℕ). (is_of_tree (option_and_then (ino_at v image n) (agi_at v image n)) block
    || is_of_tree (option_and_then (rmap_at v image n) (agf_at v image n)) block || is_of_named (named_by_chunks v image n) block
    || is_of_named (named_by_owners v image n) block) || (not (is_trusted v image n) && ((a || b) || u))) (sym of))

filter_same : (p q : ℕ → Bool) (a n : ℕ) → ((b : ℕ) → a ≤ b → b < a + n → p b ≡ q b) → filter p (range_with_len a n) ≡ filter q (range_with_len a n)
filter_same p q a zero alike = refl
filter_same p q a (suc n) alike =
    let rest = filter_same p q (a + 1) n (λ b low high. alike b (omega (arith, low)) (omega (arith, high))) in
    ap₂ (λ (t : Bool) (xs : List ℕ). cond t (a ∷ xs) xs) (alike a (omega arith) (omega arith)) rest

-- its reserved blocks
pub reserved_are : (v : Volume) (image : Image) (ag : ℕ) (told : Told) → IsToldIn v image ag told → group_length v ag ≤ v.agblocks
    → withheld v image told.trusted told.held (head_block v ag) (group_length v ag) ≡ reserved_in v image ag
unfolding withheld reserved_in
reserved_are v image ag told so short =
    filter_same (is_withheld v image told.trusted told.held) (is_reserved v image) (head_block v ag) (group_length v ag)
    (λ b low high. withheld_is v image ag told b so (in_group b low high))
  where
    in_group : (b : ℕ) → head_block v ag ≤ b → b < head_block v ag + group_length v ag → b / v.agblocks ≡ ag
    in_group b low high =
        let at : b ≡ ag * v.agblocks + (b - ag * v.agblocks) = omega (arith, low) in
        ap (λ (n : ℕ). n / v.agblocks) at ∙ of_group ag v.agblocks (b - ag * v.agblocks) (omega (arith, low, high, short))
