-- Blocks of a bank that were written, and those that stayed.
use Rattle.std.proofs.Common.{◌≡◌, ℕ, ◌<◌, ◌⊎◌, inl, inr, List, [], length, get_or, set, ◌∙◌, ap, arith}
use Rattle.std.proofs.lemmas.List.{get_or-set_same, get_or-set_other, length-set}

pub put-there : (old new : List (List ℕ)) (j : ℕ) (b : List ℕ) → new ≡ set old j b → j < length old → get_or new j [] ≡ b
put-there old new j b is inside = ap (λ (bs : List (List ℕ)). get_or bs j []) is ∙ get_or-set_same old j b [] inside

pub put-beside : (old new : List (List ℕ)) (j k : ℕ) (b : List ℕ) → new ≡ set old j b → (k < j) ⊎ (j < k) → get_or new k [] ≡ get_or old k []
put-beside old new j k b is apart =
    ap (λ (bs : List (List ℕ)). get_or bs k []) is
    ∙ get_or-set_other old j k b [] (λ e. elim apart [ inl low ↦ absurd (omega (arith, e)) | inr high ↦ absurd (omega (arith, e)) ])

pub put-count : (old new : List (List ℕ)) (j : ℕ) (b : List ℕ) → new ≡ set old j b → length new ≡ length old
put-count old new j b is = ap length is ∙ length-set old j b
