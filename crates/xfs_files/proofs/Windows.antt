-- Parts of bytes that are held.
use Rattle.std.proofs.Common.{◌≡◌, ℕ, ◌+◌, ◌-◌, ◌≤◌, List, take, drop, arith, ap, sym, ◌∙◌}
use Rattle.std.proofs.lemmas.List.{drop-drop, drop-take, take-take}

-- a part of the front of a list that is the front of another's rest
pub part_of_front : (k n size start : ℕ) (held all : List ℕ) → k + n ≤ size → take size held ≡ take size (drop start all)
    → take n (drop k held) ≡ take n (drop (start + k) all)
part_of_front k n size start held all fits same =
    let whole : k + (size - k) ≡ size = omega (arith, fits) in
    let room : n ≤ size - k = omega (arith, fits) in
    let front : (xs : List ℕ) → take n (drop k (take size xs)) ≡ take n (drop k xs) = λ xs.
    ap (λ m. take n (drop k (take m xs))) (sym whole) ∙ ap (take n) (drop-take k (size - k) xs) ∙ take-take n (size - k) (drop k xs) room in
    sym (front held) ∙ ap (λ xs. take n (drop k xs)) same ∙ front (drop start all) ∙ ap (take n) (drop-drop k start all)
