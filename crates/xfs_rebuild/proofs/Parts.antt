-- Rows of a plan, from the numbers of its blocks.
use Rattle.std.proofs.Common.{ℕ, List, [], ◌∷◌, ◌++◌}
use Rattle.std.specs.List.{All}
use Rattle.std.proofs.lemmas.List.Elements.{All-cons, All-head, All-nil, All-tail}
use Rattle.xfs_writing.specs.declared.rows.Row.{Row}
use Rattle.xfs_render.specs.Drafts.{row_places}

pub front : {A : Type 0} (P : A → Type 0) (xs ys : List A) → All P (xs ++ ys) → All P xs
front P [] ys all = All-nil P
front P (x ∷ xs) ys all = All-cons P x xs (All-head P x (xs ++ ys) all) (front P xs ys (All-tail P x (xs ++ ys) all))

pub back : {A : Type 0} (P : A → Type 0) (xs ys : List A) → All P (xs ++ ys) → All P ys
back P [] ys all = all
back P (x ∷ xs) ys all = back P xs ys (All-tail P x (xs ++ ys) all)

pub of_places : (P : ℕ → Type 0) (rows : List Row) → All P (row_places rows) → All (λ (r : Row). P r.at) rows
of_places P [] all = All-nil (λ (r : Row). P r.at)
of_places P (r ∷ rows) all = All-cons (λ (x : Row). P x.at) r rows (All-head P r.at (row_places rows) all) (of_places P rows (All-tail P r.at (row_places rows) all))
