-- Bytes of a token, one more at its end.
use Rattle.std.proofs.Common.{◌≡◌, ℕ, ◌+◌, ◌-◌, ◌<◌, ◌≤◌, List, [], ◌∷◌, ◌++◌, length, drop, take, get_or, slice_range, ap, ◌∙◌, arith}
use Rattle.std.proofs.lemmas.List.{get_or-drop, length-drop, take_more}
use Rattle.xfs_proto.specs.Tokens.Place.{inside}

range_more : (xs : List ℕ) (from at : ℕ) → from ≤ at → at < length xs → slice_range xs from (at + 1) ≡ slice_range xs from at ++ get_or xs at 0 ∷ []
range_more xs from at begins within =
    let long : length (drop from xs) ≡ length xs - from = length-drop from xs in
    let next : at + 1 - from ≡ (at - from) + 1 = omega (arith, begins) in
    let here : from + (at - from) ≡ at = omega (arith, begins) in
    ap (λ (k : ℕ). take k (drop from xs)) next
    ∙ take_more (drop from xs) (at - from) 0 (omega (arith, begins, within, long))
    ∙ ap (λ (x : ℕ). take (at - from) (drop from xs) ++ x ∷ []) (get_or-drop from xs (at - from) 0 ∙ ap (λ (k : ℕ). get_or xs k 0) here)

-- a token that goes on
pub inside_more : (xs : List ℕ) (from at : ℕ) → from ≤ at → at < length xs → inside (slice_range xs from (at + 1)) ≡ inside (slice_range xs from at ++ get_or xs at 0 ∷ [])
inside_more xs from at begins within = ap inside (range_more xs from at begins within)
