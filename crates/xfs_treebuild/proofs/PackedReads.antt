-- A packed tree reads as its records and its blocks.
use Rattle.std.proofs.Common.{◌≡◌, ℕ, suc, ◌+◌, ◌-◌, ◌==◌, true, List, [], ◌∷◌, ◌++◌, length, Option, Some, None, Ok, refl, sym, ◌∙◌, ap, subst, arith}
use Rattle.std.proofs.lemmas.List.Elements.{recursion_from_All}
use Rattle.std.proofs.lemmas.List.Sorted.{All-permutation}
use Rattle.std.specs.Bool.{IsTrue}
use Rattle.std.specs.List.{flat_map, All, AllByRecursion, IsDistinct}
use Rattle.xfs_geom.specs.Features.{or_else}
use Rattle.xfs_disk.specs.Blocks.{Image, bytes_of_block}
use Rattle.xfs_geom.specs.Volumes.{Volume}
use Rattle.xfs_tree.specs.declared.seats.Seat.{Seat}
use Rattle.xfs_tree.specs.Shape.{Shape}
use Rattle.xfs_tree.specs.Blocks.{records_of, children_of}
use Rattle.xfs_tree.specs.Rules.{can_hold}
use Rattle.xfs_tree.specs.Reading.{Contents, root_seat, places_of, unless, level_row, met_above, fault_above, row_fault, records_under, reading}
use Rattle.xfs_treebuild.specs.Packing.{own_seats, run_fault, AreRows, AreLevels, top_down, root_of, are_different}
use Rattle.xfs_treebuild.proofs.Apart.{joined, all_front, all_back, distinct_front, distinct_from_different, turned, distinct_turned, last_row, root_alone}
use Rattle.xfs_treebuild.proofs.CleanRows.{root_run, row_clean}
use Rattle.xfs_tree.proofs.Depths.{row_next, row_top, children_at, records_at, records_from}

second : {A : Type 0} (first later : Option A) → first ≡ None → later ≡ None → or_else first later ≡ None
second None later a b = b
second (Some fault) later a b = cc

read : {A E : Type 0} (fault : Option E) (found held : A) → fault ≡ None → found ≡ held → unless fault found ≡ Ok held
read None found held none same = ap Ok same
read (Some fault) found held none same = cc

module _ {R K : Type 0} (s : Shape R K) (v : Volume) (image : Image) where
  own_places : (level : ℕ) (places : List ℕ) → places_of (own_seats s v image level places) ≡ places
  own_places level [] = refl
  own_places level (place ∷ places) = ap (λ (rest : List ℕ). place ∷ rest) (own_places level places)

  -- what is read from the root down to a row, the rows above it last
  record IsMet (root height : ℕ) (row : List ℕ) (rows : List (List ℕ)) : Type 0 where
    at : places_of (level_row s v image (root_seat root ∷ []) (length rows)) ≡ row
    met : met_above s v image (root_seat root ∷ []) (suc (length rows)) ≡ top_down (row ∷ rows)
    sound : fault_above s v image (root_seat root ∷ []) height (suc (length rows)) ≡ None

  Lawful : List ℕ → Type 0
  Lawful places = AllByRecursion (λ place. can_hold v s.layout s.owner place ≡ true) places

  root_met : (level height root : ℕ) → height ≡ level
      → run_fault s v image level None None None (own_seats s v image level (root ∷ [])) ≡ None
      → Lawful (root ∷ []) → IsDistinct ◌==◌ (root ∷ []) → IsMet root height (root ∷ []) []
  unfolding met_above fault_above Lawful
  root_met level height root same sound can apart =
      let tops : List (Seat K) = root_seat root ∷ [] in
      let alone = row_top s v image tops in
      let clean : row_fault s v image level [] None None None tops ≡ None =
      row_clean s v image level [] None None None tops (root_run s v image level root sound) can apart in
      let at_height : height - 0 ≡ level = omega (arith, same) in
      record {
        at = ap places_of alone;
        met = ap places_of alone;
        sound = ap (λ (n : ℕ). row_fault s v image n [] None None None (level_row s v image tops 0)) at_height
            ∙ ap (λ (seats : List (Seat K)). row_fault s v image level [] None None None seats) alone ∙ clean;
      }

  next_met : (level height root : ℕ) (row above : List ℕ) (rows : List (List ℕ)) → height ≡ level + suc (length rows)
      → run_fault s v image level None None None (own_seats s v image level row) ≡ None
      → flat_map (λ place. children_of s v (bytes_of_block image place)) above ≡ own_seats s v image level row
      → Lawful row → IsDistinct ◌==◌ (top_down (row ∷ above ∷ rows))
      → IsMet root height above rows → IsMet root height row (above ∷ rows)
  unfolding met_above fault_above Lawful
  next_met level height root row above rows sum sound children can apart before =
      let tops : List (Seat K) = root_seat root ∷ [] in
      let depth = length rows in
      let own = own_seats s v image level row in
      let seats : level_row s v image tops (suc depth) ≡ own =
      row_next s v image tops depth ∙ children_at s v image (level_row s v image tops depth)
      ∙ ap (λ (places : List ℕ). flat_map (λ place. children_of s v (bytes_of_block image place)) places) before.at ∙ children in
      let places : places_of (level_row s v image tops (suc depth)) ≡ row = ap places_of seats ∙ own_places level row in
      let met = top_down (above ∷ rows) in
      let lawful = subst (AllByRecursion (λ place. can_hold v s.layout s.owner place ≡ true)) (sym (own_places level row)) can in
      let differ = subst (λ (xs : List ℕ). IsDistinct ◌==◌ (met ++ xs)) (sym (own_places level row)) apart in
      let clean : row_fault s v image level met None None None own ≡ None = row_clean s v image level met None None None own sound lawful differ in
      let at_level : height - suc depth ≡ level = omega (arith, sum) in
      let test : row_fault s v image (height - suc depth) (met_above s v image tops (suc depth)) None None None (level_row s v image tops (suc depth)) ≡ None =
      ap (λ (n : ℕ). row_fault s v image n (met_above s v image tops (suc depth)) None None None (level_row s v image tops (suc depth))) at_level
      ∙ ap (λ (xs : List ℕ). row_fault s v image level xs None None None (level_row s v image tops (suc depth))) before.met
      ∙ ap (λ (xs : List (Seat K)). row_fault s v image level met None None None xs) seats ∙ clean in
      record {
        at = places;
        met = ap (λ (xs : List ℕ). xs ++ places_of (level_row s v image tops (suc depth))) before.met ∙ ap (λ (xs : List ℕ). met ++ xs) places;
        sound = second (fault_above s v image tops height (suc depth)) _ before.sound test;
      }

  one_root : (row : List ℕ) (level : ℕ) (rows : List (List ℕ)) → AreRows s v image row level rows → length (last_row row rows) ≡ 1
  unfolding AreRows
  one_root row level [] h = h
  one_root row level (above ∷ rows) h = one_root above (suc level) rows h.1

  -- the rows of a packed tree are those that reading meets
  all_met : (row : List ℕ) (level : ℕ) (rows : List (List ℕ)) (height root : ℕ) → height ≡ level + length rows
      → run_fault s v image level None None None (own_seats s v image level row) ≡ None
      → AreRows s v image row level rows → last_row row rows ≡ root ∷ []
      → Lawful (top_down (row ∷ rows)) → IsDistinct ◌==◌ (top_down (row ∷ rows)) → IsMet root height row rows
  unfolding AreRows Lawful
  all_met row level [] height root sum sound levels ends can apart =
      let same : height ≡ level = omega (arith, sum) in
      let only : IsMet root height (root ∷ []) [] =
      root_met level height root same (subst (λ (xs : List ℕ). run_fault s v image level None None None (own_seats s v image level xs) ≡ None) ends sound)
      (subst Lawful ends can) (subst (IsDistinct ◌==◌) ends apart) in
      subst (λ (xs : List ℕ). IsMet root height xs []) (sym ends) only
  all_met row level (above ∷ rows) height root sum sound levels ends can apart =
      let up = top_down (above ∷ rows) in
      let higher : height ≡ suc level + length rows = omega (arith, sum) in
      let nodes = levels.0 in
      next_met level height root row above rows sum sound nodes.children (all_back (λ place. can_hold v s.layout s.owner place ≡ true) up row can) apart
      (all_met above (suc level) rows height root higher nodes.sound levels.1 ends
      (all_front (λ place. can_hold v s.layout s.owner place ≡ true) up row can) (distinct_front up row apart))

  -- rows of a packed tree whose places are lawful and differ read as its records and, by level from the root, its blocks
  pub packed_reads : (records : List R) (rows : List (List ℕ)) (root height : ℕ) → AreLevels s v image records rows
      → root ≡ root_of (joined rows) → length rows ≡ suc height
      → All (λ place. IsTrue (can_hold v s.layout s.owner place)) (joined rows) → IsTrue (are_different (joined rows))
      → reading s v image (root_seat root ∷ []) height ≡ Ok (record { records = records; blocks = top_down rows })
  unfolding AreLevels Lawful
  packed_reads records [] root height levels is count can differ = absurd levels
  packed_reads records (row ∷ rows) root height levels is count can differ =
      let tops : List (Seat K) = root_seat root ∷ [] in
      let leaves = levels.0 in
      let above : length rows ≡ height = omega (arith, count) in
      let whole : height ≡ 0 + length rows = omega (arith, above) in
      let deep : height ≡ 0 + height = omega arith in
      let next : suc (length rows) ≡ height + 1 = omega (arith, above) in
      let ends : last_row row rows ≡ root ∷ [] =
      root_alone row rows (one_root row 0 rows levels.1) ∙ ap (λ (n : ℕ). n ∷ []) (sym is) in
      let each = All-permutation (λ place. can_hold v s.layout s.owner place ≡ true) (joined (row ∷ rows)) (top_down (row ∷ rows)) (turned (row ∷ rows)) can in
      let lawful = recursion_from_All (λ place. can_hold v s.layout s.owner place ≡ true) (top_down (row ∷ rows)) each in
      let apart = distinct_turned (row ∷ rows) (distinct_from_different (joined (row ∷ rows)) differ) in
      let met = all_met row 0 rows height root whole leaves.sound levels.1 ends lawful apart in
      let sound : fault_above s v image tops height (height + 1) ≡ None = subst (λ (n : ℕ). fault_above s v image tops height n ≡ None) next met.sound in
      let blocks : met_above s v image tops (height + 1) ≡ top_down (row ∷ rows) = subst (λ (n : ℕ). met_above s v image tops n ≡ top_down (row ∷ rows)) next met.met in
      let at : places_of (level_row s v image tops height) ≡ row = subst (λ (n : ℕ). places_of (level_row s v image tops n) ≡ row) above met.at in
      let held : flat_map (records_under s v image height) tops ≡ records =
      sym (records_from s v image 0 height height tops deep) ∙ records_at s v image (level_row s v image tops height)
      ∙ ap (λ (places : List ℕ). flat_map (λ place. records_of s (bytes_of_block image place)) places) at ∙ leaves.held in
      let found : Contents R = record { records = flat_map (records_under s v image height) tops; blocks = met_above s v image tops (height + 1) } in
      let due : Contents R = record { records = records; blocks = top_down (row ∷ rows) } in
      let same : found ≡ due =
      ap (λ (items : List R). let c : Contents R = record { records = items; blocks = met_above s v image tops (height + 1) } in c) held
      ∙ ap (λ (places : List ℕ). let c : Contents R = record { records = records; blocks = places } in c) blocks in
      read (fault_above s v image tops height (height + 1)) found due sound same
