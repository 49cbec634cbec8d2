-- A mapped block found by its file block.
use Rattle.std.proofs.Common.{◌≡◌, ℕ, zero, suc, ◌+◌, ◌<◌, ◌≤◌, List, [], ◌∷◌, length, get_or, slice_get, Some, ◌==◌, refl, ◌∙◌, arith}
use Rattle.std.proofs.lemmas.Bool.{eq-eqb, ne_eqb, cond-true, cond-false}
use Rattle.xfs_dirindex.specs.Mapped.{OffsetsAscend, mapped}
use Rattle.xfs_dirindex.specs.Lookup.{bytes_mapped}

pub bytes-found : (offsets : List ℕ) (blocks : List (List ℕ)) (block k d : ℕ) (bytes : List ℕ) → ((j : ℕ) → j < k → get_or offsets j d < block) → k < length offsets
    → get_or offsets k d ≡ block → slice_get blocks k ≡ Some bytes → bytes_mapped (mapped offsets blocks) block ≡ bytes
bytes-found [] blocks block k d bytes before low here there = absurd (omega arith)
bytes-found (o ∷ os) [] block k d bytes before low here there = cc
bytes-found (o ∷ os) (b ∷ bs) block zero d bytes before low here there =
    let same : b ≡ bytes = cc in
    cond-true (o == block) b (bytes_mapped (mapped os bs) block) (eq-eqb o block here) ∙ same
bytes-found (o ∷ os) (b ∷ bs) block (suc k) d bytes before low here there =
    let first : o < block = before 0 (omega arith) in
    cond-false (o == block) b (bytes_mapped (mapped os bs) block) (ne_eqb o block (λ e. omega arith))
    ∙ bytes-found os bs block k d bytes (λ j h. before (suc j) (omega arith)) (omega arith) here there

pub bytes-none : (offsets : List ℕ) (blocks : List (List ℕ)) (block d : ℕ) → ((j : ℕ) → j < length offsets → get_or offsets j d ≡ block → ⊥) → bytes_mapped (mapped offsets blocks) block ≡ []
bytes-none [] blocks block d none = refl
bytes-none (o ∷ os) [] block d none = refl
bytes-none (o ∷ os) (b ∷ bs) block d none =
    cond-false (o == block) b (bytes_mapped (mapped os bs) block) (ne_eqb o block (none 0 (omega arith)))
    ∙ bytes-none os bs block d (λ j h. none (suc j) (omega arith))

-- file blocks that ascend do not descend
ascend-low : (least : ℕ) (offsets : List ℕ) (j d : ℕ) → OffsetsAscend least offsets → j < length offsets → least ≤ get_or offsets j d
ascend-low least [] j d up low = absurd (omega arith)
ascend-low least (o ∷ os) zero d up low = up.0
ascend-low least (o ∷ os) (suc j) d up low = let rest = ascend-low (o + 1) os j d up.1 (omega arith) in omega (arith, up.0)

pub ascend-rises : (least : ℕ) (offsets : List ℕ) → OffsetsAscend least offsets → (i j d : ℕ) → i ≤ j → j < length offsets → get_or offsets i d ≤ get_or offsets j d
ascend-rises least [] up i j d before low = absurd (omega arith)
ascend-rises least (o ∷ os) up zero zero d before low = omega arith
ascend-rises least (o ∷ os) up zero (suc j) d before low = let rest = ascend-low (o + 1) os j d up.1 (omega arith) in omega arith
ascend-rises least (o ∷ os) up (suc i) zero d before low = absurd (omega arith)
ascend-rises least (o ∷ os) up (suc i) (suc j) d before low = ascend-rises (o + 1) os up.1 i j d (omega arith) (omega arith)
