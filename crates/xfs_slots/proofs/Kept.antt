-- What is kept of slots, taken one by one.
use Rattle.std.proofs.Common.{◌≡◌, ℕ, List, [], ◌++◌, map, sym, ap, ◌∙◌}
use Rattle.std.specs.List.{flat_map}
use Rattle.std.proofs.lemmas.List.{append_assoc, append-nil, map-append}
use Rattle.xfs_disk.specs.Blocks.{Image}
use Rattle.xfs_geom.specs.Volumes.{Volume}
use Rattle.xfs_volume.specs.declared.clusters.ClusterRec.{ClusterRec}
use Rattle.xfs_image.specs.Candidates.{candidates}
use Rattle.xfs_image.specs.Claims.{candidate_inodes}
use Rattle.xfs_image.specs.Slots.{cluster_inodes}
use Rattle.xfs_slots.specs.Facts.{slot_fact, slot_facts}
use Rattle.xfs_rounds.specs.declared.facts.SlotFact.{SlotFact}

module _ (v : Volume) (image : Image) where
  -- some slots more, and none more
  pub facts_more : (part inos rest : List ℕ) (old new all : List SlotFact) → inos ≡ part ++ rest → new ≡ old ++ map (slot_fact v image) part
      → old ++ map (slot_fact v image) inos ≡ all → new ++ map (slot_fact v image) rest ≡ all
  facts_more part inos rest old new all split more held =
      ap (λ (xs : List SlotFact). xs ++ map (slot_fact v image) rest) more
      ∙ append_assoc old (map (slot_fact v image) part) (map (slot_fact v image) rest)
      ∙ ap (λ (xs : List SlotFact). old ++ xs) (sym (map-append (slot_fact v image) part rest))
      ∙ ap (λ (xs : List ℕ). old ++ map (slot_fact v image) xs) (sym split) ∙ held

  pub facts_end : (rest : List ℕ) (new all : List SlotFact) → rest ≡ [] → new ++ map (slot_fact v image) rest ≡ all → new ≡ all
  facts_end rest new all none held =
      sym (append-nil new) ∙ ap (λ (xs : List ℕ). new ++ map (slot_fact v image) xs) (sym none) ∙ held

  -- those of the candidates
  pub facts_of_candidates : (clusters : List ClusterRec) (facts : List SlotFact) → clusters ≡ candidates v image
      → facts ≡ map (slot_fact v image) (flat_map (λ (c : ClusterRec). cluster_inodes v c.block) clusters) → facts ≡ slot_facts v image
  unfolding slot_facts candidate_inodes
  facts_of_candidates clusters facts same all =
      all ∙ ap (λ (cs : List ClusterRec). map (slot_fact v image) (flat_map (λ (c : ClusterRec). cluster_inodes v c.block) cs)) same
