-- One cluster more whose slots are read, or one block more on which nothing new is placed.
use Rattle.std.proofs.Common.{◌≡◌, ℕ, zero, suc, Bool, true, false, ◌+◌, ◌*◌, ◌/◌, ◌%◌, ◌==◌, ◌&&◌, ◌||◌, if◌then◌else◌, List, [], ◌∷◌, ◌++◌, append_assoc, refl, sym, ap, ap₂, ◌∙◌, subst, arith}
use Rattle.std.specs.List.{filter, range_with_len}
use Rattle.std.proofs.lemmas.List.Elements.{filter-append, filter_agree}
use Rattle.xfs_disk.specs.Lists.{is_among}
use Rattle.xfs_disk.specs.Blocks.{Image}
use Rattle.xfs_geom.specs.Volumes.{Volume}
use Rattle.xfs_volume.specs.declared.clusters.ClusterRec.{ClusterRec}
use Rattle.xfs_image.specs.Candidates.{lies_in_chunk}
use Rattle.xfs_image.specs.Clusters.{root_cluster}
use Rattle.xfs_groups.specs.Private.Chosen.{ClustersPlaced, are_clear, chosen, chosen_rec, is_chosen, is_chosen_where, is_withheld, cluster_place, withheld}
use Rattle.xfs_groups.proofs.Placed.{placed_more}
use Rattle.xfs_groups.proofs.Rows.{filter_more, kept_more}

pub none_chosen : (v : Volume) (image : Image) (trusted : Bool) (named : List ℕ) (ag : ℕ) → chosen v image trusted named ag 0 ≡ []
unfolding chosen
none_chosen v image trusted named ag = refl

pub chosen_more : (v : Volume) (image : Image) (trusted : Bool) (named : List ℕ) (ag n cluster : ℕ) (b : Bool) (cs new : List ClusterRec)
    → cluster ≡ cluster_place v ag n → b ≡ is_chosen v image trusted named cluster → cs ≡ chosen v image trusted named ag n
    → new ≡ cs ++ (if b then (chosen_rec v named cluster ∷ []) else []) → new ≡ chosen v image trusted named ag (n + 1)
unfolding chosen
chosen_more v image trusted named ag n cluster b cs new at is held more =
    more
    ∙ (ap (λ (c : ℕ). cs ++ (if b then (chosen_rec v named c ∷ []) else [])) at
    ∙ (ap (λ (xs : List ClusterRec). xs ++ (if b then (chosen_rec v named (cluster_place v ag n) ∷ []) else [])) held
    ∙ kept_more (chosen_rec v named) (is_chosen v image trusted named) (cluster_place v ag) n b (is ∙ ap (is_chosen v image trusted named) at)))

pub placed_step : (v : Volume) (ag n cluster : ℕ) (named : List ℕ) (b : Bool) (cs new : List ClusterRec)
    → cluster ≡ cluster_place v ag n → ClustersPlaced v ag n cs → (cluster ≡ root_cluster v → b ≡ true)
    → new ≡ cs ++ (if b then (chosen_rec v named cluster ∷ []) else []) → ClustersPlaced v ag (n + 1) new
placed_step v ag n cluster named b cs new at placed is more =
    let same : new ≡ cs ++ (if b then (chosen_rec v named (cluster_place v ag n) ∷ []) else []) =
    more ∙ ap (λ (c : ℕ). cs ++ (if b then (chosen_rec v named c ∷ []) else [])) at in
    subst (ClustersPlaced v ag (n + 1)) (sym same) (placed_more v ag n named cs b placed (λ root. is (at ∙ root)))

pub none_withheld : (v : Volume) (image : Image) (trusted : Bool) (held : List ℕ) (first : ℕ) → withheld v image trusted held first 0 ≡ []
unfolding withheld
none_withheld v image trusted held first = refl

pub withheld_more : (v : Volume) (image : Image) (trusted : Bool) (held : List ℕ) (first k : ℕ) (b : Bool) (before old new : List ℕ)
    → b ≡ is_withheld v image trusted held (first + k) → old ≡ before ++ withheld v image trusted held first k
    → new ≡ old ++ (if b then ((first + k) ∷ []) else []) → new ≡ before ++ withheld v image trusted held first (k + 1)
unfolding withheld
withheld_more v image trusted held first k b before old new is was more =
    let p = is_withheld v image trusted held in
    more
    ∙ (ap (λ (xs : List ℕ). xs ++ (if b then ((first + k) ∷ []) else [])) was
    ∙ (append_assoc before (filter p (range_with_len first k)) (if b then ((first + k) ∷ []) else [])
    ∙ ap (λ (xs : List ℕ). before ++ xs)
    (ap (λ (t : Bool). filter p (range_with_len first k) ++ (if t then ((first + k) ∷ []) else [])) is ∙ sym (filter_more p first k))))

range_split : (a m n : ℕ) → range_with_len a (m + n) ≡ range_with_len a m ++ range_with_len (a + m) n
range_split a zero n = ap₂ range_with_len (omega arith) (omega arith)
range_split a (suc m) n =
    let next : suc m + n ≡ suc (m + n) = omega arith in
    ap (range_with_len a) next
    ∙ ap (λ (xs : List ℕ). a ∷ xs) (range_split (a + 1) m n ∙ ap (λ (k : ℕ). range_with_len (a + 1) m ++ range_with_len k n) (omega arith))

pub withheld_then : (v : Volume) (image : Image) (trusted : Bool) (held : List ℕ) (a m b n total : ℕ) (old new : List ℕ) → b ≡ a + m → total ≡ m + n
    → old ≡ withheld v image trusted held a m → new ≡ old ++ withheld v image trusted held b n → new ≡ withheld v image trusted held a total
unfolding withheld
withheld_then v image trusted held a m b n total old new at sum was more =
    let p = is_withheld v image trusted held in
    more
    ∙ (ap (λ (xs : List ℕ). xs ++ filter p (range_with_len b n)) was
    ∙ (ap (λ (k : ℕ). filter p (range_with_len a m) ++ filter p (range_with_len k n)) at
    ∙ (sym (filter-append p (range_with_len a m) (range_with_len (a + m) n))
    ∙ ap (filter p) (sym (range_split a m n) ∙ ap (range_with_len a) (sym sum)))))

-- one cluster more, and the blocks behind the last whole one
pub four_more : (i : ℕ) → 4 * (i + 1) ≡ 4 * i + 4
four_more i = omega arith

pub at_rest : (start i n : ℕ) → i ≡ n → start + n * 4 ≡ start + 4 * i
at_rest start i n last = omega (arith, last)

pub in_fours : (i blocks : ℕ) → i ≡ blocks / 4 → blocks ≡ 4 * i + blocks % 4
in_fours i blocks last = omega (arith, last)

or_nothing : (x : Bool) → x ≡ (x || false)
or_nothing true = refl
or_nothing false = refl

-- bytes withhold nothing in a group that is trusted
pub held_withheld : (v : Volume) (image : Image) (trusted : Bool) (held : List ℕ) (first count : ℕ) → trusted ≡ true
    → filter (is_among held) (range_with_len first count) ≡ withheld v image trusted held first count
unfolding withheld
held_withheld v image trusted held first count is =
    filter_agree (is_among held) (is_withheld v image true held) (λ b. or_nothing (is_among held b)) (range_with_len first count)
    ∙ ap (λ (t : Bool). filter (is_withheld v image t held) (range_with_len first count)) (sym is)

-- nor do they choose a cluster there
pub chosen_where : (v : Volume) (image : Image) (named : List ℕ) (cluster : ℕ) (is_named is : Bool) → is_named ≡ is_among named cluster
    → is ≡ is_chosen_where v image is_named cluster → is ≡ is_chosen v image true named cluster
chosen_where v image named cluster is_named is known chosen =
    chosen
    ∙ ap (λ (b : Bool). cluster == root_cluster v || (b && lies_in_chunk v cluster && are_clear v image cluster 4)) (known ∙ or_nothing (is_among named cluster))
