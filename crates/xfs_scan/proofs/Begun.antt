-- Blocks that begin as slots do, and clusters of such blocks.
use Rattle.std.proofs.Common.{◌≡◌, ℕ, Bool, true, not, ◌&&◌, List, [], ◌∷◌, ◌++◌, refl, sym, ap, ap₂, ◌∙◌}
use Rattle.std.specs.List.{flat_map, list_all}
use Rattle.std.proofs.lemmas.List.Folds.{list_all-append}
use Rattle.xfs_word.specs.Seal.{begins_as_slot}
use Rattle.xfs_disk.specs.Blocks.{Image, bytes_of_block}
use Rattle.xfs_collections.specs.Bank.{blocks_at}
use Rattle.xfs_geom.specs.Volumes.{Volume}
use Rattle.xfs_volume.specs.declared.clusters.ClusterRec.{ClusterRec}
use Rattle.xfs_image.specs.Candidates.{has_whole_seal}
use Rattle.xfs_image.specs.Slots.{cluster_blocks}
use Rattle.xfs_image.proofs.Objects.{begun_is_no_object}
use Rattle.xfs_groups.specs.Answers.{are_bare, hold_no_object}
use Rattle.xfs_groups.proofs.Bare.{and_first, and_second}
use Rattle.xfs_scan.specs.Begun.{all_begin}

and_both : (a b : Bool) → a ≡ true → b ≡ true → (a && b) ≡ true
and_both a b first second = ap₂ (λ (x y : Bool). x && y) first second

of_bank : (image : Image) (round : List ℕ) → list_all begins_as_slot (blocks_at image round) ≡ all_begin image round
of_bank image [] = refl
of_bank image (block ∷ round) = ap (λ (b : Bool). begins_as_slot (bytes_of_block image block) && b) (of_bank image round)

-- the blocks of a round behind others
pub begun_on : (image : Image) (bank : List (List ℕ)) (before round all : List ℕ) → all ≡ before ++ round → all_begin image before ≡ true
    → bank ≡ blocks_at image round → list_all begins_as_slot bank ≡ true → all_begin image all ≡ true
begun_on image bank before round all joined first held here =
    let second : all_begin image round ≡ true = sym (of_bank image round) ∙ (ap (list_all begins_as_slot) (sym held) ∙ here) in
    ap (all_begin image) joined ∙ (list_all-append (λ block. begins_as_slot (bytes_of_block image block)) before round ∙ and_both (all_begin image before) (all_begin image round) first second)

bare_where : (v : Volume) (image : Image) (blocks : List ℕ) → all_begin image blocks ≡ true → list_all (λ block. not (has_whole_seal v image block)) blocks ≡ true
bare_where v image [] begun = refl
bare_where v image (block ∷ blocks) begun =
    let here : begins_as_slot (bytes_of_block image block) ≡ true = and_first _ (all_begin image blocks) begun in
    and_both (not (has_whole_seal v image block)) (list_all (λ b. not (has_whole_seal v image b)) blocks)
    (ap not (begun_is_no_object v image block here)) (bare_where v image blocks (and_second (begins_as_slot (bytes_of_block image block)) (all_begin image blocks) begun))

-- clusters whose blocks begin so hold no object
pub none_held : (v : Volume) (image : Image) (clusters : List ClusterRec)
    → all_begin image (flat_map (λ (c : ClusterRec). cluster_blocks c.block) clusters) ≡ true → hold_no_object v image clusters ≡ true
none_held v image [] begun = refl
none_held v image (cluster ∷ clusters) begun =
    let rest = flat_map (λ (c : ClusterRec). cluster_blocks c.block) clusters in
    let both : (all_begin image (cluster_blocks cluster.block) && all_begin image rest) ≡ true =
    sym (list_all-append (λ block. begins_as_slot (bytes_of_block image block)) (cluster_blocks cluster.block) rest) ∙ begun in
    and_both (are_bare v image cluster.block 4) (hold_no_object v image clusters)
    (bare_where v image (cluster_blocks cluster.block) (and_first _ (all_begin image rest) both))
    (none_held v image clusters (and_second (all_begin image (cluster_blocks cluster.block)) (all_begin image rest) both))
