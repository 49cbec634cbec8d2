-- Blocks that got their places.
use Rattle.std.proofs.Common.{◌≡◌, ℕ, ◌+◌, ◌<◌, ◌≤◌, List, [], length, take, get_or, sym, ◌∙◌, subst, arith}
use Rattle.std.proofs.lemmas.List.{length-take-le, get_or-take}
use Rattle.std.proofs.lemmas.Bool.Decides.{nat_tests}
use Rattle.xfs_dirdata.specs.declared.records.EntryRec.{EntryRec}
use Rattle.xfs_dirbuild.specs.Index.{IsPlacedBlock}
use Rattle.xfs_dirbuild.specs.Placed.{IsBuiltDataBlock, seal_of, ArePlacedBlocks}
use Rattle.xfs_dirbuild.proofs.DataPlaced.{data-placed, Both, both-from}

seal-data : (d i k : ℕ) → k < d → seal_of d i k ≡ 4
seal-data d i k less = grind (arith, nat_tests)

seal-index : (d i k : ℕ) → k < i → seal_of d i (d + k) ≡ 12
seal-index d i k less = grind (arith, nat_tests)

seal-free : (d i k : ℕ) → seal_of d i (d + i + k) ≡ 4
seal-free d i k = grind (arith, nat_tests)

pub data-block : (d i k : ℕ) (built placed : List (List ℕ)) → ArePlacedBlocks d i built placed → k < d → k < length built → IsPlacedBlock 4 (get_or built k []) (get_or placed k [])
data-block d i k built placed are less inside =
    subst (λ (s : ℕ). IsPlacedBlock s (get_or built k []) (get_or placed k [])) (seal-data d i k less) (are.each k inside)

pub index-block : (d i k : ℕ) (built placed : List (List ℕ)) → ArePlacedBlocks d i built placed → k < i → d + k < length built
    → IsPlacedBlock 12 (get_or built (d + k) []) (get_or placed (d + k) [])
index-block d i k built placed are less inside =
    subst (λ (s : ℕ). IsPlacedBlock s (get_or built (d + k) []) (get_or placed (d + k) [])) (seal-index d i k less) (are.each (d + k) inside)

pub free-block : (d i k : ℕ) (built placed : List (List ℕ)) → ArePlacedBlocks d i built placed → d + i + k < length built
    → IsPlacedBlock 4 (get_or built (d + i + k) []) (get_or placed (d + i + k) [])
free-block d i k built placed are inside =
    subst (λ (s : ℕ). IsPlacedBlock s (get_or built (d + i + k) []) (get_or placed (d + i + k) [])) (seal-free d i k) (are.each (d + i + k) inside)

-- the data blocks state what they stated
pub data-blocks : (d i : ℕ) (ess : List (List EntryRec)) (built placed : List (List ℕ)) → ArePlacedBlocks d i built placed → d ≡ length ess → d ≤ length built
    → ((k : ℕ) → k < d → IsBuiltDataBlock (get_or ess k []) (get_or built k [])) → Both ess (take d placed)
data-blocks d i ess built placed are count within each =
    let long = length-take-le d placed (omega (arith, are.count)) in
    both-from ess (take d placed) (long ∙ count) (λ k less.
    let inside : k < d = omega (arith, count) in
    subst (λ (b : List ℕ). IsBuiltDataBlock (get_or ess k []) b) (sym (get_or-take d placed k [] inside))
    (data-placed (get_or ess k []) (get_or built k []) (get_or placed k []) (each k inside) (data-block d i k built placed are inside (omega arith))))
