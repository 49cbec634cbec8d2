-- The numbers of the blocks of a round, one more of them.
use Rattle.std.proofs.Common.{◌≡◌, ℕ, ◌+◌, ◌<◌, List, [], ◌∷◌, ◌++◌, length, take, get_or, sym, ap, ◌∙◌}
use Rattle.std.proofs.lemmas.List.{map-append, take_more}
use Rattle.xfs_forest.specs.declared.cells.Cell.{Cell}
use Rattle.xfs_forest.specs.Forest.{cell_places}

pub places_more : {R K : Type 0} (cells : List (Cell R K)) (i : ℕ) (d : Cell R K) (old new : List ℕ) → i < length cells → old ≡ cell_places (take i cells)
    → new ≡ old ++ (get_or cells i d).spot.seat.place ∷ [] → new ≡ cell_places (take (i + 1) cells)
places_more {R} {K} cells i d old new inside was more =
    more
    ∙ (ap (λ (ys : List ℕ). ys ++ (get_or cells i d).spot.seat.place ∷ []) was
    ∙ (sym (map-append (λ (cell : Cell R K). cell.spot.seat.place) (take i cells) (get_or cells i d ∷ []))
    ∙ ap (λ (xs : List (Cell R K)). cell_places xs) (sym (take_more cells i d inside))))
