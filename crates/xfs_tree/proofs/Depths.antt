-- The blocks of a level and the records under them, from the level above.
use Rattle.std.proofs.Common.{◌≡◌, ℕ, zero, suc, ◌+◌, List, [], ◌∷◌, ◌++◌, refl, sym, ◌∙◌, ap, arith}
use Rattle.std.proofs.lemmas.List.{append-nil, map-id}
use Rattle.std.proofs.lemmas.List.Concat.{flat_map-append, flat_map_single}
use Rattle.std.proofs.lemmas.List.Folds.{flat_map-map}
use Rattle.std.specs.List.{flat_map}
use Rattle.xfs_disk.specs.Blocks.{Image, bytes_of_block}
use Rattle.xfs_geom.specs.Volumes.{Volume}
use Rattle.xfs_tree.specs.declared.seats.Seat.{Seat}
use Rattle.xfs_tree.specs.Shape.{Shape}
use Rattle.xfs_tree.specs.Blocks.{records_of, children_of}
use Rattle.xfs_tree.specs.Reading.{places_of, below, blocks_under, records_under, level_row}

pub flat_map-flat_map : {A B C : Type 0} (f : A → List B) (g : B → List C) (xs : List A)
    → flat_map g (flat_map f xs) ≡ flat_map (λ x. flat_map g (f x)) xs
flat_map-flat_map f g [] = refl
flat_map-flat_map f g (x ∷ xs) =
    flat_map-append g (f x) (flat_map f xs) ∙ ap (λ ys. flat_map g (f x) ++ ys) (flat_map-flat_map f g xs)

pub flat_map-same : {A B : Type 0} (f g : A → List B) → ((x : A) → f x ≡ g x) → (xs : List A) → flat_map f xs ≡ flat_map g xs
flat_map-same f g same [] = refl
flat_map-same f g same (x ∷ xs) =
    ap (λ ys. ys ++ flat_map f xs) (same x) ∙ ap (λ ys. g x ++ ys) (flat_map-same f g same xs)

module _ {R K : Type 0} (s : Shape R K) (v : Volume) (image : Image) where
  blocks_next : (depth : ℕ) (seat : Seat K)
      → blocks_under s v image (suc depth) seat ≡ flat_map (below s v image) (blocks_under s v image depth seat)
  unfolding blocks_under
  blocks_next zero seat =
      flat_map_single (λ (c : Seat K). c) (below s v image seat) ∙ map-id (below s v image seat) ∙ sym (append-nil (below s v image seat))
  blocks_next (suc depth) seat =
      flat_map-same (blocks_under s v image (suc depth)) (λ (c : Seat K). flat_map (below s v image) (blocks_under s v image depth c))
      (blocks_next depth) (below s v image seat)
      ∙ sym (flat_map-flat_map (blocks_under s v image depth) (below s v image) (below s v image seat))

  -- the blocks of the next level are the children of those of this one
  pub row_next : (tops : List (Seat K)) (depth : ℕ) → level_row s v image tops (suc depth) ≡ flat_map (below s v image) (level_row s v image tops depth)
  row_next tops depth =
      flat_map-same (blocks_under s v image (suc depth)) (λ (c : Seat K). flat_map (below s v image) (blocks_under s v image depth c))
      (blocks_next depth) tops
      ∙ sym (flat_map-flat_map (blocks_under s v image depth) (below s v image) tops)

  pub row_top : (tops : List (Seat K)) → level_row s v image tops zero ≡ tops
  unfolding blocks_under
  row_top tops = flat_map_single (λ (c : Seat K). c) tops ∙ map-id tops

  -- the children that a row of blocks states, by the places of the row
  pub children_at : (seats : List (Seat K)) → flat_map (below s v image) seats ≡ flat_map (λ place. children_of s v (bytes_of_block image place)) (places_of seats)
  children_at seats = sym (flat_map-map (λ place. children_of s v (bytes_of_block image place)) (λ (seat : Seat K). seat.place) seats)

  -- the records of the leaves of a row, by their places
  pub records_at : (seats : List (Seat K)) → flat_map (records_under s v image zero) seats ≡ flat_map (λ place. records_of s (bytes_of_block image place)) (places_of seats)
  unfolding records_under
  records_at seats = sym (flat_map-map (λ place. records_of s (bytes_of_block image place)) (λ (seat : Seat K). seat.place) seats)

  -- what lies under the blocks of a level is what lies under the top level
  pub records_from : (height depth whole : ℕ) (tops : List (Seat K)) → whole ≡ height + depth
      → flat_map (records_under s v image height) (level_row s v image tops depth) ≡ flat_map (records_under s v image whole) tops
  unfolding records_under
  records_from height zero whole tops sum =
      let same : height ≡ whole = omega (arith, sum) in
      ap (flat_map (records_under s v image height)) (row_top tops) ∙ ap (λ n. flat_map (records_under s v image n) tops) same
  records_from height (suc depth) whole tops sum =
      let more : whole ≡ suc height + depth = omega (arith, sum) in
      ap (flat_map (records_under s v image height)) (row_next tops depth)
      ∙ flat_map-flat_map (below s v image) (records_under s v image height) (level_row s v image tops depth)
      ∙ records_from (suc height) depth whole tops more
