-- Numbers of a range that are pushed one by one.
use Rattle.std.proofs.Common.{◌≡◌, ℕ, ◌+◌, List, [], ◌∷◌, ◌++◌, sym, ap, ◌∙◌, append_assoc}
use Rattle.std.specs.List.{range_with_len}
use Rattle.xfs_links.proofs.Groups.{range_more}

pub pushed_next : (b i x : ℕ) (front xs ys : List ℕ) → x ≡ b + i → xs ≡ front ++ range_with_len b i → ys ≡ xs ++ x ∷ [] → ys ≡ front ++ range_with_len b (i + 1)
pushed_next b i x front xs ys at is push =
    push ∙ ap (λ (k : ℕ). xs ++ k ∷ []) at ∙ ap (λ (zs : List ℕ). zs ++ (b + i) ∷ []) is ∙ append_assoc front (range_with_len b i) ((b + i) ∷ [])
    ∙ ap (λ (zs : List ℕ). front ++ zs) (sym (range_more b i))
