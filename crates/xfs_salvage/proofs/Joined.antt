-- Three lists, one behind the other.
use Rattle.std.proofs.Common.{◌≡◌, List, ◌++◌, ap, ap₂, ◌∙◌}
use Rattle.std.proofs.lemmas.List.{append_assoc}

-- each is put behind what was there before
pub joined : {A : Type 0} (old one two p q r a b c : List A) → one ≡ old ++ p → two ≡ one ++ q → p ≡ a → q ≡ b → r ≡ c → two ++ r ≡ old ++ (a ++ b ++ c)
joined {A = A} old one two p q r a b c first second same_p same_q same_r =
    ap₂ (λ (xs ys : List A). xs ++ ys) (second ∙ ap₂ (λ (xs ys : List A). xs ++ ys) (first ∙ ap (λ (xs : List A). old ++ xs) same_p) same_q) same_r
    ∙ ap (λ (xs : List A). xs ++ c) (append_assoc old a b) ∙ append_assoc old (a ++ b) c
