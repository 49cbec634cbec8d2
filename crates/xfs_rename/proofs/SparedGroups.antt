-- What is spared, of each group.
use Rattle.std.proofs.Common.{◌≡◌, ◌∙◌, sym, ℕ, ◌<◌, ◌+◌, List, length, map, get_or, arith}
use Rattle.std.specs.List.{range_with_len}
use Rattle.std.proofs.lemmas.Grind.{same_number_lists}
use Rattle.std.proofs.lemmas.List.FromFn.{length-map-range_with_len, get_or-map-range_with_len}

-- a list with the value of each number below its length
pub each_is : (f : ℕ → ℕ) (n : ℕ) (xs : List ℕ) → length xs ≡ n → ((k : ℕ) → k < n → get_or xs k 0 ≡ f k) → xs ≡ map f (range_with_len 0 n)
each_is f n xs long each =
    same_number_lists xs (map f (range_with_len 0 n)) (long ∙ sym (length-map-range_with_len f 0 n)) (λ k inside.
    let low : k < n = omega (arith, inside, long) in
    each k low ∙ sym (get_or-map-range_with_len f 0 n k k 0 low (let s : 0 + k ≡ k = omega arith in s)))
