-- The log sequence numbers of the slots of candidate clusters, where the clusters are just these.
use Rattle.std.proofs.Common.{◌≡◌, ℕ, ◌+◌, ◌≤◌, List, map, sym, subst, ap, ◌∙◌}
use Rattle.std.specs.List.{All, flat_map}
use Rattle.std.proofs.lemmas.List.Elements.{All-map}
use Rattle.std.proofs.lemmas.List.Folds.{flat_map-map}
use Rattle.std.proofs.lemmas.Simd.{map-map}
use Rattle.xfs_disk.specs.Blocks.{Image}
use Rattle.xfs_geom.specs.Shape.{HasAddresses, HasGroups}
use Rattle.xfs_geom.specs.Volumes.{Volume}
use Rattle.xfs_volume.specs.declared.clusters.ClusterRec.{ClusterRec}
use Rattle.xfs_image.specs.Candidates.{candidates}
use Rattle.xfs_image.specs.Claims.{candidate_inodes}
use Rattle.xfs_image.specs.Slots.{cluster_inodes}
use Rattle.xfs_groups.specs.Answers.{EndBelow}
use Rattle.xfs_slots.specs.Facts.{slot_fact, slot_facts}
use Rattle.xfs_rounds.specs.declared.facts.SlotFact.{SlotFact}
use Rattle.xfs_journal.specs.Placed.{AreFirstNumbers}
use Rattle.xfs_journal.proofs.Inodes.{numbers_are_first}

abbrev block_of : ClusterRec → ℕ
block_of c = c.block

-- what is kept of the slots of the candidates, where clusters are just these
pub facts_by_candidates : (v : Volume) (image : Image) (clusters : List ℕ) (cs : List ClusterRec) (facts : List SlotFact) → cs ≡ candidates v image
    → clusters ≡ map (λ (c : ClusterRec). c.block) cs → facts ≡ slot_facts v image → facts ≡ map (slot_fact v image) (flat_map (cluster_inodes v) clusters)
unfolding slot_facts candidate_inodes
facts_by_candidates v image clusters cs facts same agree all =
    all ∙ ap (λ (cs : List ClusterRec). map (slot_fact v image) (flat_map (λ (c : ClusterRec). cluster_inodes v c.block) cs)) (sym same)
    ∙ ap (map (slot_fact v image)) (sym (flat_map-map (cluster_inodes v) block_of cs) ∙ ap (flat_map (cluster_inodes v)) (sym agree))

-- clusters end where the candidates do
pub ends_by_candidates : (limit : ℕ) (clusters : List ℕ) (cs : List ClusterRec) → clusters ≡ map (λ (c : ClusterRec). c.block) cs → EndBelow limit cs
    → All (λ cluster. cluster + 4 ≤ limit) clusters
ends_by_candidates limit clusters cs agree ends =
    subst (All (λ cluster. cluster + 4 ≤ limit)) (sym agree) (All-map (λ cluster. cluster + 4 ≤ limit) block_of cs ends)

-- the numbers among what is kept of slots are those of the clusters
pub numbers_kept : (v : Volume) (image : Image) (clusters numbers : List ℕ) (facts : List SlotFact)
    → HasGroups v.dblocks v.agblocks v.agcount → HasAddresses v.agblocks v.agblklog → All (λ cluster. cluster + 4 ≤ v.dblocks) clusters
    → numbers ≡ map (λ (fact : SlotFact). fact.lsn) facts → facts ≡ map (slot_fact v image) (flat_map (cluster_inodes v) clusters) → AreFirstNumbers image clusters numbers
numbers_kept v image clusters numbers facts groups addresses inside are known =
    numbers_are_first v image groups addresses clusters numbers inside
    (are ∙ ap (map (λ (fact : SlotFact). fact.lsn)) known ∙ map-map (λ (fact : SlotFact). fact.lsn) (slot_fact v image) (flat_map (cluster_inodes v) clusters))
