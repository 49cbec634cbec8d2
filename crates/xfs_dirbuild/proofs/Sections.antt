-- Blocks of a bank one behind the other.
use Rattle.std.proofs.Common.{◌≡◌, ℕ, ◌+◌, ◌<◌, ◌≤◌, List, [], ◌∷◌, ◌++◌, map, length, take, drop, get_or, refl, sym, ◌∙◌, ap, ap₂, arith}
use Rattle.std.specs.List.{range_with_len}
use Rattle.std.proofs.Math.Seq.{take-add}
use Rattle.std.proofs.lemmas.List.{drop-drop, take_all, take_more, length-take-le, length-drop, get_or-drop, get_or-take, get_or_default, same_lists}
use Rattle.std.proofs.lemmas.List.FromFn.{map-range_with_len_more}
use Rattle.xfs_dirbuild.specs.Blocks.{bank_part}

-- blocks behind blocks
pub section-join : (bank : List (List ℕ)) (at m n : ℕ) → bank_part bank at (m + n) ≡ bank_part bank at m ++ bank_part bank (at + m) n
section-join bank at m n = take-add m n (drop at bank) ∙ ap (λ (bs : List (List ℕ)). take m (drop at bank) ++ take n bs) (drop-drop m at bank)

-- all blocks
pub section-all : (bank : List (List ℕ)) (n : ℕ) → length bank ≡ n → bank_part bank 0 n ≡ bank
section-all bank n long = take_all n bank (omega (arith, long))

section-get : (bank : List (List ℕ)) (at n k : ℕ) → k < n → get_or (bank_part bank at n) k [] ≡ get_or bank (at + k) []
section-get bank at n k inside = get_or-take n (drop at bank) k [] inside ∙ get_or-drop at bank k []

-- blocks that stay
pub section-same : (old new : List (List ℕ)) (at n : ℕ) → length new ≡ length old → at + n ≤ length old
    → ((k : ℕ) → k < n → get_or new (at + k) [] ≡ get_or old (at + k) []) → bank_part new at n ≡ bank_part old at n
section-same old new at n long room same =
    let new_long : length (take n (drop at new)) ≡ n = length-take-le n (drop at new) (omega (arith, length-drop at new, long)) in
    let old_long : length (take n (drop at old)) ≡ n = length-take-le n (drop at old) (omega (arith, length-drop at old)) in
    same_lists (take n (drop at new)) (take n (drop at old)) (omega (arith, new_long, old_long))
    (λ k d less.
    let inside : k < n = omega (arith, less, new_long) in
    get_or_default (take n (drop at new)) k d [] less
    ∙ (section-get new at n k inside ∙ (same k inside ∙ (sym (section-get old at n k inside) ∙ get_or_default (take n (drop at old)) k [] d (omega (arith, inside, old_long))))))

-- one block more is written behind others
pub section-push : (old new : List (List ℕ)) (at n : ℕ) (b : List ℕ) → length new ≡ length old → at + n < length old
    → ((k : ℕ) → k < n → get_or new (at + k) [] ≡ get_or old (at + k) []) → get_or new (at + n) [] ≡ b
    → bank_part new at (n + 1) ≡ bank_part old at n ++ b ∷ []
section-push old new at n b long room same put =
    take_more (drop at new) n [] (omega (arith, length-drop at new, long))
    ∙ ap₂ (λ (bs : List (List ℕ)) (x : List ℕ). bs ++ x ∷ []) (section-same old new at n long (omega arith) same) (get_or-drop at new n [] ∙ put)

pub section-more : (old new : List (List ℕ)) (at n : ℕ) (b : List ℕ) (f : ℕ → List ℕ) → length new ≡ length old → at + n < length old
    → ((k : ℕ) → k < n → get_or new (at + k) [] ≡ get_or old (at + k) []) → get_or new (at + n) [] ≡ b → b ≡ f n
    → bank_part old at n ≡ map f (range_with_len 0 n) → bank_part new at (n + 1) ≡ map f (range_with_len 0 (n + 1))
section-more old new at n b f long room same put is were =
    section-push old new at n b long room same put
    ∙ (ap₂ (λ (bs : List (List ℕ)) (x : List ℕ). bs ++ x ∷ []) were is ∙ sym (map-range_with_len_more f 0 n n (omega arith)))

pub section-none : (bank : List (List ℕ)) (at : ℕ) (f : ℕ → List ℕ) → bank_part bank at 0 ≡ map f (range_with_len 0 0)
section-none bank at f = refl
