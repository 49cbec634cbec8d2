-- A list of five.
use Rattle.std.proofs.Common.{◌≡◌, [], ◌∷◌}

pub five_same : {A : Type 0} {a b c d e v w x y z : A} → a ≡ v → b ≡ w → c ≡ x → d ≡ y → e ≡ z → (a ∷ b ∷ c ∷ d ∷ e ∷ []) ≡ (v ∷ w ∷ x ∷ y ∷ z ∷ [])
five_same first second third fourth fifth = λ i. first i ∷ second i ∷ third i ∷ fourth i ∷ fifth i ∷ []
