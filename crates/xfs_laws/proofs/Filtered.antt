-- Where a list of records and the records of another that pass a test differ first.
use Rattle.std.proofs.Common.{◌≡◌, ℕ, ◌+◌, Bool, true, false, cond, List, [], ◌∷◌, ◌<◌, ◌≤◌, length, map, filter, drop, get_or, sym, ap, ◌∙◌, add-one, drop-cons}
use Rattle.std.proofs.lemmas.Bool.{cond-true, cond-false}
use Rattle.std.proofs.lemmas.List.{drop_all}
use Rattle.xfs_volume.specs.Laws.{first_difference, nothing}
use Rattle.xfs_laws.proofs.Differences.{differs_here, same_here}

-- what is left of a list from an item on
from_item : {X : Type 0} (xs : List X) (i : ℕ) (d : X) → i < length xs → drop i xs ≡ get_or xs i d ∷ drop (i + 1) xs
from_item xs i d inside = drop-cons xs i d inside ∙ (λ k. get_or xs i d ∷ drop (sym (add-one i) k) xs)

module _ {X : Type 0} (number : X → ℕ) (test : X → Bool) (xs ys : List X) (i j : ℕ) {whole : ℕ × ℕ}
    (left : first_difference (map number (drop i xs)) (map number (filter test (drop j ys))) ≡ whole) (d : X) where
  from_here : j < length ys
      → first_difference (map number (drop i xs)) (map number (cond (test (get_or ys j d)) (get_or ys j d ∷ filter test (drop (j + 1) ys)) (filter test (drop (j + 1) ys))))
      ≡ whole
  from_here inside = ap (λ (zs : List X). first_difference (map number (drop i xs)) (map number (filter test zs))) (sym (from_item ys j d inside)) ∙ left

  -- an item that fails the test
  pub passed_over : j < length ys → test (get_or ys j d) ≡ false
      → first_difference (map number (drop i xs)) (map number (filter test (drop (j + 1) ys))) ≡ whole
  passed_over inside fails =
      let rest = filter test (drop (j + 1) ys) in
      ap (λ (zs : List X). first_difference (map number (drop i xs)) (map number zs)) (sym (cond-false (test (get_or ys j d)) (get_or ys j d ∷ rest) rest fails)) ∙ from_here inside

  -- an item that passes it
  taken : j < length ys → test (get_or ys j d) ≡ true
      → first_difference (map number (drop i xs)) (number (get_or ys j d) ∷ map number (filter test (drop (j + 1) ys))) ≡ whole
  taken inside passes =
      let rest = filter test (drop (j + 1) ys) in
      ap (λ (zs : List X). first_difference (map number (drop i xs)) (map number zs)) (sym (cond-true (test (get_or ys j d)) (get_or ys j d ∷ rest) rest passes)) ∙ from_here inside

  -- where no more is held
  pub none_held : j < length ys → test (get_or ys j d) ≡ true → length xs ≤ i → whole ≡ (nothing, number (get_or ys j d))
  none_held inside passes end =
      sym (taken inside passes)
      ∙ ap (λ (zs : List X). first_difference (map number zs) (number (get_or ys j d) ∷ map number (filter test (drop (j + 1) ys)))) (drop_all i xs end)

  both_from : j < length ys → test (get_or ys j d) ≡ true → i < length xs
      → first_difference (number (get_or xs i d) ∷ map number (drop (i + 1) xs)) (number (get_or ys j d) ∷ map number (filter test (drop (j + 1) ys))) ≡ whole
  both_from inside passes within =
      ap (λ (zs : List X). first_difference (map number zs) (number (get_or ys j d) ∷ map number (filter test (drop (j + 1) ys)))) (sym (from_item xs i d within))
      ∙ taken inside passes

  pub both_more : j < length ys → test (get_or ys j d) ≡ true → i < length xs → number (get_or xs i d) ≡ number (get_or ys j d)
      → first_difference (map number (drop (i + 1) xs)) (map number (filter test (drop (j + 1) ys))) ≡ whole
  both_more inside passes within same =
      same_here (number (get_or xs i d)) (number (get_or ys j d)) (map number (drop (i + 1) xs)) (map number (filter test (drop (j + 1) ys)))
      (both_from inside passes within) same

  pub both_differ : j < length ys → test (get_or ys j d) ≡ true → i < length xs → (number (get_or xs i d) ≡ number (get_or ys j d) → ⊥)
      → whole ≡ (number (get_or xs i d), number (get_or ys j d))
  both_differ inside passes within other =
      differs_here (number (get_or xs i d)) (number (get_or ys j d)) (map number (drop (i + 1) xs)) (map number (filter test (drop (j + 1) ys)))
      (both_from inside passes within) other

  -- where no more is due
  pub none_due : length ys ≤ j → i < length xs → whole ≡ (number (get_or xs i d), nothing)
  none_due end within =
      sym left
      ∙ (ap (λ (zs : List X). first_difference (map number (drop i xs)) (map number (filter test zs))) (drop_all j ys end)
      ∙ ap (λ (zs : List X). first_difference (map number zs) (map number (filter test []))) (from_item xs i d within))
